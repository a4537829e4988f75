-- Laws of restrictions: a combination includes each of its restrictions, and whatever it includes is the restriction to the
-- parameters that it binds.
-- Assumes nothing.
use Rattle.std.specs.Prelude.{ℕ, zero, suc, ◌+◌, ◌*◌, ◌/◌, ◌%◌, ◌^◌, ◌<◌, ◌≤◌, ◌≡◌, refl, Bool, true, false, not, cond, ◌&&◌, ◌||◌, List, [], ◌∷◌, length, get_or, set, T, eqb}
use Rattle.std.proofs.Common.{sym, ap, ap₂, ◌∙◌, inl, inr, eqb→eq, arith}
use Rattle.std.proofs.Math.Nat.{div-div-eq-div-mul, pow-succ', two-pow-succ}
use Rattle.document.specs.Limits.{width}
use Rattle.document.specs.Positions.{holds}
use Rattle.document.specs.Combinations.{includes, binds_from, binds_exactly}
use Rattle.basics.specs.Tests.{decided}
use Rattle.slices.specs.TestsLaws.{so, not_so, and_of, of_and, or_of, of_or, of_eqb, true_of}
use Rattle.bound.specs.Restrictions.{restricted_from, restricted}
use Rattle.slices.specs.NumbersLaws.{Written, written_none, written-more, written_all}

-- Its numbers ----------------------------------------------------------------------------------------------------------

get_or_restricted : (k s : ℕ) (c : List ℕ) (j : ℕ) → j < length c → get_or (restricted_from k s c) j 0 ≡ cond (holds s (k + j)) (get_or c j 0) 0
unfolding restricted_from
get_or_restricted k s [] j h = absurd (omega arith)
get_or_restricted k s (x ∷ c) zero h = ap (λ n. cond (holds s n) x 0) (omega arith)
get_or_restricted k s (x ∷ c) (suc j) h = get_or_restricted (suc k) s c j (omega arith) ∙ ap (λ n. cond (holds s n) (get_or c j 0) 0) (omega arith)

length-restricted_from : (k s : ℕ) (c : List ℕ) → length (restricted_from k s c) ≡ length c
unfolding restricted_from
length-restricted_from k s [] = refl
length-restricted_from k s (x ∷ c) = ap suc (length-restricted_from (suc k) s c)

pub length-restricted : (s : ℕ) (c : List ℕ) → length (restricted s c) ≡ length c
unfolding restricted
length-restricted s c = length-restricted_from 0 s c

pub get_or_of_restricted : (s : ℕ) (c : List ℕ) (k : ℕ) → k < length c → get_or (restricted s c) k 0 ≡ cond (holds s k) (get_or c k 0) 0
unfolding restricted
get_or_of_restricted s c k h = get_or_restricted 0 s c k h ∙ ap (λ n. cond (holds s n) (get_or c k 0) 0) (omega arith)

pub record Restricts (s : ℕ) (c out : List ℕ) (j : ℕ) : Type 0 where
  pub wide : length c ≡ width
  pub writes : Written (restricted s c) out j

pub restricts_begins : (s : ℕ) (c out : List ℕ) → length c ≡ width → length out ≡ width → Restricts s c out 0
restricts_begins s c out p q = record { wide = p; writes = written_none (restricted s c) out q (length-restricted s c ∙ p) }

pub restricts_turn : (s : ℕ) (c out : List ℕ) (j v : ℕ) → Restricts s c out j → j < width → v ≡ cond (holds s j) (get_or c j 0) 0
    → Restricts s c (set out j v) (j + 1)
restricts_turn s c out j v i h e = record {
  wide = i.wide;
  writes = written-more (restricted s c) out j v i.writes h
      (e ∙ sym (get_or_of_restricted s c j (let l = i.wide in omega arith)));
}

pub restricts_ends : (s : ℕ) (c out : List ℕ) (j : ℕ) → Restricts s c out j → width ≤ j → out ≡ restricted s c
restricts_ends s c out j i h = written_all (restricted s c) out j i.writes h

-- What a combination includes ------------------------------------------------------------------------------------------

-- the parameters that a combination binds, as a set
unfoldable pub bound_of : List ℕ → ℕ
bound_of [] = 0
bound_of (y ∷ b) = cond (eqb y 0) 0 1 + 2 * bound_of b

holds-next : (s k : ℕ) → holds s (suc k) ≡ holds (s / 2) k
holds-next s k = rw (pow-succ' 2 k, ← div-div-eq-div-mul s 2 (2 ^ k))

restricted-next : (k s : ℕ) (c : List ℕ) → restricted_from (suc k) s c ≡ restricted_from k (s / 2) c
unfolding restricted_from
restricted-next k s [] = refl
restricted-next k s (x ∷ c) = ap₂ (λ (f : Bool) (l : List ℕ). cond f x 0 ∷ l) (holds-next s k) (restricted-next (suc k) s c)

binds_next : (k s : ℕ) (c : List ℕ) → binds_from (suc k) s c ≡ binds_from k (s / 2) c
unfolding binds_from
binds_next k s [] = refl
binds_next k s (x ∷ c) =
    ap₂ (λ (f g : Bool). cond f (not (eqb x 0)) (eqb x 0) && g) (holds-next s k) (binds_next (suc k) s c)

first_unbound : (m : ℕ) → holds (0 + 2 * m) 0 ≡ false
first_unbound m = let e : (0 + 2 * m) / 2 ^ 0 % 2 ≡ 0 = omega arith in rw e

first_bound : (m : ℕ) → holds (1 + 2 * m) 0 ≡ true
first_bound m = let e : (1 + 2 * m) / 2 ^ 0 % 2 ≡ 1 = omega arith in rw e

-- what c includes is c's restriction to what that binds
bound_from : (c b : List ℕ) → T (includes c b) → restricted_from 0 (bound_of b) c ≡ b
unfolding restricted_from includes bound_of
bound_from [] [] t = refl
bound_from [] (y ∷ b) t = absurd t
bound_from (x ∷ c) [] t = absurd t
bound_from (x ∷ c) (y ∷ b) t =
    let h = and_of (eqb y 0 || eqb x y) (includes c b) t in
    let rest = bound_from c b h.1 in
    let m = bound_of b in
    elim (decided (eqb y 0)) [
      | inl e ↦
          let d : (0 + 2 * m) / 2 ≡ m = omega arith in
          rw (e, first_unbound m) (ap₂ ◌∷◌ (sym (eqb→eq y 0 (so e))) (restricted-next 0 (0 + 2 * m) c ∙ ap (λ n. restricted_from 0 n c) d ∙ rest))
      | inr e ↦
          let d : (1 + 2 * m) / 2 ≡ m = omega arith in
          let q : x ≡ y = elim (or_of (eqb y 0) (eqb x y) h.0) [ inl z ↦ absurd (not_so e z) | inr z ↦ eqb→eq x y z ] in
          rw (e, first_bound m) (ap₂ ◌∷◌ q (restricted-next 0 (1 + 2 * m) c ∙ ap (λ n. restricted_from 0 n c) d ∙ rest))
    ]

pub restricted_bound : (c b : List ℕ) → T (includes c b) → restricted (bound_of b) c ≡ b
unfolding restricted
restricted_bound c b t = bound_from c b t

binds_from_lem : (b : List ℕ) → T (binds_from 0 (bound_of b) b)
unfolding binds_from bound_of
binds_from_lem [] = tt
binds_from_lem (y ∷ b) =
    let m = bound_of b in
    let rest = binds_from_lem b in
    elim (decided (eqb y 0)) [
      | inl e ↦
          let d : (0 + 2 * m) / 2 ≡ m = omega arith in
          let r : binds_from 1 (0 + 2 * m) b ≡ true = binds_next 0 (0 + 2 * m) b ∙ ap (λ n. binds_from 0 n b) d ∙ true_of (binds_from 0 m b) rest in
          rw (e, first_unbound m, r) tt
      | inr e ↦
          let d : (1 + 2 * m) / 2 ≡ m = omega arith in
          let r : binds_from 1 (1 + 2 * m) b ≡ true = binds_next 0 (1 + 2 * m) b ∙ ap (λ n. binds_from 0 n b) d ∙ true_of (binds_from 0 m b) rest in
          rw (e, first_bound m, r) tt
    ]

pub binds_bound : (b : List ℕ) → binds_exactly (bound_of b) b ≡ true
unfolding binds_exactly
binds_bound b = true_of (binds_from 0 (bound_of b) b) (binds_from_lem b)

pub bound_less : (b : List ℕ) → bound_of b < 2 ^ length b
unfolding bound_of
bound_less [] = omega arith
bound_less (y ∷ b) = elim (decided (eqb y 0)) [
  | inl e ↦ rw e (omega (arith, bound_less b, two-pow-succ (length b)))
  | inr e ↦ rw e (omega (arith, bound_less b, two-pow-succ (length b)))
]

included_from : (k s : ℕ) (c : List ℕ) → T (includes c (restricted_from k s c))
unfolding restricted_from includes
included_from k s [] = tt
included_from k s (x ∷ c) = elim (decided (holds s k)) [
  | inl e ↦ rw e (of_and (eqb x 0 || eqb x x) (includes c (restricted_from (suc k) s c)) (of_or (eqb x 0) (eqb x x) (inr (of_eqb x x refl))) (included_from (suc k) s c))
  | inr e ↦ rw e (included_from (suc k) s c)
]

pub includes-restricted : (s : ℕ) (c : List ℕ) → T (includes c (restricted s c))
unfolding restricted
includes-restricted s c = included_from 0 s c
