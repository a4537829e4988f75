-- Document 01, "The table": a list of distinct numbers, the place of each, and how such a list grows at its end. A list of
-- distinct numbers is no longer than a list that has them all.
-- Assumes nothing.
use Rattle.std.specs.Prelude.{ℕ, zero, suc, ◌+◌, ◌<◌, ◌≤◌, ◌≡◌, refl, ◌⊎◌, Bool, true, false, List, [], ◌∷◌, ◌++◌, length, get_or, eqb, ltb}
use Rattle.std.proofs.Common.{arith, sym, ap, ◌∙◌, inl, inr, ⊎_elim, append-nil, append_assoc, length-append, eq-eqb, ne_eqb, eqb-true, ltb-true, ltb-false}
use Rattle.std.proofs.Math.ListN.{get_or-append}
use Rattle.std.proofs.lemmas.Bool.{eqb-false}
use Rattle.document.specs.Lists.{In}
use Rattle.document.specs.States.{state_of, find}
use Rattle.basics.specs.Lists.{Distinct, in_append}

-- ---- the place of a number
pub state_le : (s : ℕ) (found : List ℕ) → state_of s found ≤ length found
unfolding state_of
state_le s [] = omega arith
state_le s (x ∷ found) = go (eqb s x) refl (state_le s found)
  where
    go : (t : Bool) → eqb s x ≡ t → state_of s found ≤ length found → state_of s (x ∷ found) ≤ suc (length found)
    go true e h = rw (e, state_of) (omega arith)
    go false e h = rw (e, state_of) (omega arith)

pub state_at : (s : ℕ) (found : List ℕ) → state_of s found < length found → get_or found (state_of s found) 0 ≡ s
unfolding state_of
state_at s [] h = absurd (omega arith)
state_at s (x ∷ found) h = go (eqb s x) refl h (state_at s found)
  where
    go : (t : Bool) → eqb s x ≡ t → state_of s (x ∷ found) < suc (length found) → (state_of s found < length found → get_or found (state_of s found) 0 ≡ s)
        → get_or (x ∷ found) (state_of s (x ∷ found)) 0 ≡ s
    go true e h ih = rw (e, state_of) (sym (eqb-true s x e))
    go false e h ih = let l : suc (state_of s found) < suc (length found) = rw (e, state_of) at h in rw (e, state_of) (ih (omega arith))

pub in_state : (s : ℕ) (found : List ℕ) → In s found → state_of s found < length found
unfolding state_of
in_state s [] h = absurd h
in_state s (x ∷ found) h = go (eqb s x) refl h (in_state s found)
  where
    go : (t : Bool) → eqb s x ≡ t → (s ≡ x) ⊎ In s found → (In s found → state_of s found < length found) → state_of s (x ∷ found) < suc (length found)
    go true e h ih = rw (e, state_of) (omega arith)
    go false e h ih = rw (e, state_of) (⊎_elim (λ i. absurd (eqb-false s x e i)) (λ i. let l = ih i in omega arith) h)

pub at_in : (l : List ℕ) (k : ℕ) → k < length l → In (get_or l k 0) l
at_in [] k h = absurd (omega arith)
at_in (x ∷ l) zero h = inl refl
at_in (x ∷ l) (suc k) h = inr (at_in l k (omega arith))

pub distinct_state : (found : List ℕ) (k : ℕ) → Distinct found → k < length found → state_of (get_or found k 0) found ≡ k
unfolding state_of
distinct_state [] k d h = absurd (omega arith)
distinct_state (x ∷ found) zero d h = rw (eq-eqb x x refl, state_of) refl
distinct_state (x ∷ found) (suc k) d h =
    let l : k < length found = omega arith in
    let other : (get_or found k 0 ≡ x → ⊥) = λ i. d.0 (rw i at (at_in found k l)) in
    rw (ne_eqb (get_or found k 0) x other, state_of) (ap suc (distinct_state found k d.1 l))

-- two places of one number are one place
pub distinct_places : (l : List ℕ) (i k : ℕ) → Distinct l → i < length l → k < length l → get_or l i 0 ≡ get_or l k 0 → i ≡ k
distinct_places l i k d p q h = sym (distinct_state l i d p) ∙ ap (λ (x : ℕ). state_of x l) h ∙ distinct_state l k d q

pub distinct_append_one : (l : List ℕ) (s : ℕ) → Distinct l → (In s l → ⊥) → Distinct (l ++ (s ∷ []))
distinct_append_one [] s d h = (λ i. i, tt)
distinct_append_one (x ∷ l) s d h = (
  λ i. ⊎_elim d.0 (⊎_elim (λ (j : x ≡ s). h (inl (sym j))) (λ j. j)) ((in_append x l (s ∷ [])).0 i),
  distinct_append_one l s d.1 (λ i. h (inr i)),
)

-- ---- a list that has grown at its end
pub record Extends (old new : List ℕ) : Type 0 where
  pub added : List ℕ
  pub is : new ≡ old ++ added

pub extends_itself : (l : List ℕ) → Extends l l
extends_itself l = record { added = []; is = sym (append-nil l) }

pub extends_twice : (a b c : List ℕ) → Extends a b → Extends b c → Extends a c
extends_twice a b c x y = record {
  added = x.added ++ y.added;
  is = y.is ∙ ap (λ (l : List ℕ). l ++ y.added) x.is ∙ append_assoc a x.added y.added;
}

pub extends_length : (a b : List ℕ) → Extends a b → length a ≤ length b
extends_length a b x = let l : length b ≡ length a + length x.added = ap length x.is ∙ length-append a x.added in omega arith

pub extends_at : (a b : List ℕ) → Extends a b → (k : ℕ) → k < length a → get_or b k 0 ≡ get_or a k 0
extends_at a b x k h = ap (λ (l : List ℕ). get_or l k 0) x.is ∙ get_or-append a x.added 0 k h

pub extends_in : (a b : List ℕ) → Extends a b → (x : ℕ) → In x a → In x b
extends_in a b e x h = rw e.is ((in_append x a e.added).1 (inl h))

-- "The states are the distinct sets": a set joins those found unless it is one of them
pub record Finds (s : ℕ) (found new : List ℕ) : Type 0 where
  pub extends : Extends found new
  pub distinct : Distinct new
  pub has : In s new
  pub only : (x : ℕ) → In x new → In x found ⊎ (x ≡ s)

pub find_finds : (s : ℕ) (found : List ℕ) → Distinct found → Finds s found (find s found)
unfolding find
find_finds s found d = go (ltb (state_of s found) (length found)) refl
  where
    known : state_of s found < length found → Finds s found found
    known h =
        let has : In s found = rw (state_at s found h) at (at_in found (state_of s found) h) in
        record { extends = extends_itself found; distinct = d; has = has; only = λ x i. inl i }

    new : (In s found → ⊥) → Finds s found (found ++ (s ∷ []))
    new h = record {
      extends = record { added = s ∷ []; is = refl };
      distinct = distinct_append_one found s d h;
      has = (in_append s found (s ∷ [])).1 (inr (inl refl));
      only = λ x i. ⊎_elim inl (⊎_elim inr (λ j. absurd j)) ((in_append x found (s ∷ [])).0 i);
    }

    go : (t : Bool) → ltb (state_of s found) (length found) ≡ t → Finds s found (elim t [ true ↦ found | false ↦ found ++ (s ∷ []) ])
    go true e = known (ltb-true _ _ e)
    go false e = let l = ltb-false (state_of s found) (length found) e in new (λ i. let k = in_state s found i in omega arith)

-- ---- as many distinct numbers as a list has places, at most
-- the list without one of its members
pub record Without (x : ℕ) (l : List ℕ) : Type 0 where
  pub rest : List ℕ
  pub shorter : length l ≡ suc (length rest)
  pub others : (y : ℕ) → (y ≡ x → ⊥) → In y l → In y rest

without : (x : ℕ) (l : List ℕ) → In x l → Without x l
without x [] h = absurd h
without x (z ∷ l) h = ⊎_elim
    (λ i. record { rest = l; shorter = refl; others = λ y n j. ⊎_elim (λ k. absurd (n (k ∙ sym i))) (λ k. k) j })
    (λ i. later (without x l i)) h
  where
    later : Without x l → Without x (z ∷ l)
    later g = record { rest = z ∷ g.rest; shorter = ap suc g.shorter; others = λ y n j. ⊎_elim inl (λ k. inr (g.others y n k)) j }

pub distinct_length : (l k : List ℕ) → Distinct l → ((x : ℕ) → In x l → In x k) → length l ≤ length k
distinct_length [] k d h = omega arith
distinct_length (x ∷ l) k d h =
    let g = without x k (h x (inl refl)) in
    let s = g.shorter in
    let ih = distinct_length l g.rest d.1 (λ y i. g.others y (λ e. d.0 (rw e at i)) (h y (inr i))) in
    omega arith
