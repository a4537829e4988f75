-- The library's words for comparing two combinations are the document's: `==`, and a test of each pair of numbers.
-- Assumes nothing.
use Rattle.std.specs.Prelude.{ℕ, zero, suc, ◌+◌, ◌≤◌, ◌<◌, ◌≡◌, refl, Bool, cond, ◌&&◌, ◌||◌, List, [], ◌∷◌, length, get_or, eqb, ltb}
use Rattle.std.specs.Array.{IsFromFnResultFrom, IsFromFnResult}
use Rattle.std.specs.Fn.{Called}
use denote.Param.Members.{Mut}
use Rattle.std.proofs.Math.Decide.{ℕ_discrete}
use Rattle.std.specs.Cmp.Lexicographic.{pointwise}
use Rattle.std.specs.List.{zip, list_all}
use Rattle.std.proofs.Common.{sym, subst, ap, ◌∙◌, ext_get_or, arith, inl, inr, lt-ltb, le-ltb}
use Rattle.std.proofs.lemmas.Bool.{cases_lt}
use Rattle.document.specs.Lists.{equal}
use Rattle.document.specs.Limits.{width}
use Rattle.document.specs.Combinations.{includes, compatible, join, precedes}
use Rattle.slices.specs.CombinationsLaws.{length-join}
use Rattle.slices.specs.NumbersLaws.{Ordered, ordered_less, ordered_more, get_or_join}

-- `==`
pub pointwise-equal : (c b : List ℕ) → pointwise eqb c b ≡ equal c b
unfolding equal
pointwise-equal [] [] = refl
pointwise-equal [] (y ∷ b) = refl
pointwise-equal (x ∷ c) [] = refl
pointwise-equal (x ∷ c) (y ∷ b) = ap (λ r. eqb x y && r) (pointwise-equal c b)

pub same_is_equal : (c b : List ℕ) (r : Bool) → r ≡ pointwise eqb c b → r ≡ equal c b
same_is_equal c b r e = e ∙ pointwise-equal c b

-- the first numbers that differ
pub ordered_apart : (c b : List ℕ) (j : ℕ) → Ordered c b j → j < width → (get_or c j 0 ≡ get_or b j 0 → ⊥) → ltb (get_or c j 0) (get_or b j 0) ≡ precedes c b
ordered_apart c b j i h d = elim (cases_lt (get_or c j 0) (get_or b j 0)) [
  | inl l ↦ lt-ltb (get_or c j 0) (get_or b j 0) l ∙ ordered_less c b j i h l
  | inr l ↦ le-ltb (get_or c j 0) (get_or b j 0) l ∙ ordered_more c b j i h (omega (arith, d))
]

-- a test of each pair
abbrev pub agrees : ℕ × ℕ → Bool
agrees p = eqb p.1 0 || eqb p.0 p.1

abbrev pub suits : ℕ × ℕ → Bool
suits p = eqb p.0 0 || eqb p.1 0 || eqb p.0 p.1

pub all_includes : (c b : List ℕ) → length c ≡ length b → list_all agrees (zip c b) ≡ includes c b
unfolding includes
all_includes [] [] e = refl
all_includes [] (y ∷ b) e = absurd (omega arith)
all_includes (x ∷ c) [] e = absurd (omega arith)
all_includes (x ∷ c) (y ∷ b) e = ap (λ r. (eqb y 0 || eqb x y) && r) (all_includes c b (omega arith))

pub all_compatible : (c b : List ℕ) → length c ≡ length b → list_all suits (zip c b) ≡ compatible c b
unfolding compatible
all_compatible [] [] e = refl
all_compatible [] (y ∷ b) e = absurd (omega arith)
all_compatible (x ∷ c) [] e = absurd (omega arith)
all_compatible (x ∷ c) (y ∷ b) e = ap (λ r. (eqb x 0 || eqb y 0 || eqb x y) && r) (all_compatible c b (omega arith))

-- what a closure that stays as it is gives for each number below m
made_from : {F : Type 0} (g : Mut F (ℕ × Unit {0}) ℕ) (f q : F) (h : ℕ → ℕ) (m : ℕ) (ys : List ℕ) (i n : ℕ)
    → ((k r : ℕ) (p : F) → k < m → Called g f (k, tt) r p → (p ≡ f) × (r ≡ h k)) → i + n ≤ m → q ≡ f → IsFromFnResultFrom g q ys i n
    → (k : ℕ) → i ≤ k → k < i + n → get_or ys k 0 ≡ h k
made_from g f q h m ys i zero s b z e k l u = absurd (omega arith)
made_from g f q h m ys i (suc n) s b z e k l u =
    let t = s i e.1 e.0 (omega arith) (subst (λ (x : _). Called g x (i, tt) e.1 e.0) z e.3) in
    elim (ℕ_discrete k i) [
      | yes w ↦ rw w (e.2.1 0 ∙ t.1)
      | no w ↦ made_from g f e.0 h m ys (i + 1) n s (omega arith) t.0 e.4 k (omega arith) (omega arith)
    ]

pub made_of : {F : Type 0} {g : Mut F (ℕ × Unit {0}) ℕ} {f : F} (h : ℕ → ℕ) (new ys : List ℕ) → length new ≡ width
    → ((k : ℕ) → k < width → get_or new k 0 ≡ h k) → IsFromFnResult g f ys width
    → ((k r : ℕ) (p : F) → k < width → Called g f (k, tt) r p → (p ≡ f) × (r ≡ h k)) → ys ≡ new
made_of {g = g} {f = f} h new ys w n e s =
    ext_get_or 0 ys new (e.long ∙ sym w) (λ k l.
    let m : k < width = let o = e.long in omega arith in
    made_from g f f h width ys 0 width s (omega arith) refl e.each k (omega arith) (omega arith) ∙ sym (n k m))

-- the join
abbrev pub joined_at : List ℕ → List ℕ → ℕ → ℕ
joined_at c b k = cond (eqb (get_or c k 0) 0) (get_or b k 0) (get_or c k 0)

pub made_join : {F : Type 0} {g : Mut F (ℕ × Unit {0}) ℕ} {f : F} (c b ys : List ℕ) → length c ≡ width → length b ≡ width
    → IsFromFnResult g f ys width → ((k r : ℕ) (p : F) → k < width → Called g f (k, tt) r p → (p ≡ f) × (r ≡ joined_at c b k)) → ys ≡ join c b
made_join c b ys p q e s = made_of (joined_at c b) (join c b) ys (length-join width c b p q) (λ k l. get_or_join c b k (p ∙ sym q)) e s
