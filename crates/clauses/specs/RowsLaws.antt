-- The turns of the loops over rows: each row passes a test, each row precedes the next, each number is 0.
-- Assumes nothing.
use Rattle.std.specs.Prelude.{ℕ, zero, suc, ◌+◌, ◌-◌, ◌*◌, ◌<◌, ◌≤◌, ◌≡◌, refl, Bool, true, false, List, [], ◌∷◌, eqb, length, get_or, take, drop}
use Rattle.std.proofs.Math.Path.{sym}
use Rattle.std.proofs.Common.{ap, ◌∙◌, arith, mul-le-mul_right, length-take, length-drop, get_or-take, get_or-drop}
use Rattle.std.proofs.Math.Bool.{not, and-false}
use Rattle.std.proofs.Math.Decide.{ℕ_discrete}
use borrow.Author.Tests.{eq-eqb, ne_eqb, not-true, not-false}
use Rattle.document.specs.Lists.{every, equal, tabulate}
use Rattle.document.specs.Limits.{width, seen_stride}
use Rattle.document.specs.Combinations.{empty_of, precedes, zero_past}
use Rattle.document.specs.Tables.{numbers_at}
use Rattle.document.specs.Session.{ascending, zero_between}
use Rattle.clauses.specs.Rows.{rows_of, Rows}

-- a row's numbers lie in the table
pub row_inside : (stride n i : ℕ) (t : List ℕ) → Rows stride n t → i < n → i * stride + width ≤ length t
row_inside stride n i t s h =
    let a = s.inside in
    let w = s.wide in
    let g : (i + 1) * stride ≤ n * stride = mul-le-mul_right stride (omega arith) in
    let e : (i + 1) * stride ≡ i * stride + stride = omega arith in
    omega arith

-- Every ----------------------------------------------------------------------------------------------------------------

every_passes : {A : Type 0} (p : A → Bool) (n : ℕ) (f : ℕ → A) → ((k : ℕ) → k < n → p (f k) ≡ true) → every p (tabulate n f) ≡ true
unfolding every tabulate
every_passes p zero f h = refl
every_passes p (suc n) f h = rw (h 0 (omega arith)) (every_passes p n (λ k. f (suc k)) (λ k g. h (suc k) (omega arith)))

every_fails : {A : Type 0} (p : A → Bool) (n : ℕ) (f : ℕ → A) (i : ℕ) → i < n → p (f i) ≡ false → every p (tabulate n f) ≡ false
unfolding every tabulate
every_fails p zero f i h e = absurd (omega arith)
every_fails p (suc n) f zero h e = rw e
every_fails p (suc n) f (suc i) h e = rw (every_fails p n (λ k. f (suc k)) i (omega arith) e) (and-false (p (f 0)))

-- the members of a tabulated list before a place pass the test
pub record Passed {A : Type 0} (p : A → Bool) (n : ℕ) (f : ℕ → A) (i : ℕ) : Type 0 where
  pub below : (k : ℕ) → k < i → p (f k) ≡ true

pub passed_begins : {A : Type 0} (p : A → Bool) (n : ℕ) (f : ℕ → A) → Passed p n f 0
passed_begins p n f = record { below = λ k h. absurd (omega arith) }

pub passed_turn : {A : Type 0} (p : A → Bool) (n : ℕ) (f : ℕ → A) (i : ℕ) → Passed p n f i → p (f i) ≡ true → Passed p n f (i + 1)
passed_turn p n f i u e = record { below = λ k h. elim (ℕ_discrete k i) [ yes q ↦ rw q e | no m ↦ u.below k (omega arith) ] }

pub passed_ends : {A : Type 0} (p : A → Bool) (n : ℕ) (f : ℕ → A) (i : ℕ) → Passed p n f i → n ≤ i → true ≡ every p (tabulate n f)
passed_ends p n f i u h = sym (every_passes p n f (λ k g. u.below k (omega arith)))

pub passed_stops : {A : Type 0} (p : A → Bool) (n : ℕ) (f : ℕ → A) (i : ℕ) → i < n → p (f i) ≡ false → false ≡ every p (tabulate n f)
passed_stops p n f i h e = sym (every_fails p n f i h e)

-- No row is empty; the numbers of no row past the parameters are bound --------------------------------------------------

abbrev pub not_empty : List ℕ → Bool
not_empty b = not (equal b (empty_of width))

abbrev pub row_of : ℕ → List ℕ → ℕ → List ℕ
row_of stride t i = numbers_at width t (i * stride)

module _ (n i : ℕ) (t row : List ℕ) (f : Bool) where
  pub bound_stops : i < n → row ≡ numbers_at width t (i * seen_stride) → f ≡ equal row (empty_of width) → f ≡ true → false ≡ every not_empty (rows_of seen_stride n t)
  unfolding rows_of
  bound_stops h e q z = passed_stops not_empty n (row_of seen_stride t) i h (ap not (ap (λ r. equal r (empty_of width)) (sym e) ∙ sym q ∙ z))

  pub bound_turn : Passed not_empty n (row_of seen_stride t) i → row ≡ numbers_at width t (i * seen_stride) → f ≡ equal row (empty_of width) → f ≡ false
      → Passed not_empty n (row_of seen_stride t) (i + 1)
  bound_turn u e q z = passed_turn not_empty n (row_of seen_stride t) i u (ap not (ap (λ r. equal r (empty_of width)) (sym e) ∙ sym q ∙ z))

  pub past_stops : (stride parameters : ℕ) → i < n → row ≡ numbers_at width t (i * stride) → f ≡ zero_past parameters row → not f ≡ true
      → false ≡ every (zero_past parameters) (rows_of stride n t)
  unfolding rows_of
  past_stops stride parameters h e q z =
      passed_stops (zero_past parameters) n (row_of stride t) i h (ap (zero_past parameters) (sym e) ∙ sym q ∙ not-true f z)

  pub past-turn : (stride parameters : ℕ) → Passed (zero_past parameters) n (row_of stride t) i → row ≡ numbers_at width t (i * stride)
      → f ≡ zero_past parameters row → not f ≡ false → Passed (zero_past parameters) n (row_of stride t) (i + 1)
  past-turn stride parameters u e q z =
      passed_turn (zero_past parameters) n (row_of stride t) i u (ap (zero_past parameters) (sym e) ∙ sym q ∙ not-false f z)

pub bound_ends : (n i : ℕ) (t : List ℕ) → Passed not_empty n (row_of seen_stride t) i → n ≤ i → true ≡ every not_empty (rows_of seen_stride n t)
unfolding rows_of
bound_ends n i t u h = passed_ends not_empty n (row_of seen_stride t) i u h

pub past_ends : (n i : ℕ) (t : List ℕ) (stride parameters : ℕ) → Passed (zero_past parameters) n (row_of stride t) i → n ≤ i
    → true ≡ every (zero_past parameters) (rows_of stride n t)
unfolding rows_of
past_ends n i t stride parameters u h = passed_ends (zero_past parameters) n (row_of stride t) i u h

-- Ascending ------------------------------------------------------------------------------------------------------------

ascend_all : (n : ℕ) (f : ℕ → List ℕ) → ((k : ℕ) → k + 1 < n → precedes (f k) (f (k + 1)) ≡ true) → ascending (tabulate n f) ≡ true
unfolding ascending tabulate
ascend_all zero f h = refl
ascend_all (suc zero) f h = refl
ascend_all (suc (suc n)) f h =
    let e : precedes (f 0) (f 1) ≡ true = h 0 (omega arith) in
    rw e (ascend_all (suc n) (λ k. f (suc k)) (λ k g. let q : suc (k + 1) ≡ suc k + 1 = omega arith in rw q (h (suc k) (omega arith))))

ascend_not : (n : ℕ) (f : ℕ → List ℕ) (i : ℕ) → i + 1 < n → precedes (f i) (f (i + 1)) ≡ false → ascending (tabulate n f) ≡ false
unfolding ascending tabulate
ascend_not zero f i h e = absurd (omega arith)
ascend_not (suc zero) f i h e = absurd (omega arith)
ascend_not (suc (suc n)) f zero h e = let z : precedes (f 0) (f 1) ≡ false = e in rw z
ascend_not (suc (suc n)) f (suc i) h e =
    let q : suc i + 1 ≡ suc (i + 1) = omega arith in
    rw (ascend_not (suc n) (λ k. f (suc k)) i (omega arith) (rw q at e)) (and-false (precedes (f 0) (f 1)))

-- the rows before a place precede each its next
pub record Rising (stride n : ℕ) (t : List ℕ) (i : ℕ) : Type 0 where
  pub begun : 1 ≤ i
  pub below : (k : ℕ) → k + 1 < i → precedes (numbers_at width t (k * stride)) (numbers_at width t ((k + 1) * stride)) ≡ true

pub rising_begins : (stride n : ℕ) (t : List ℕ) → Rising stride n t 1
rising_begins stride n t = record { begun = omega arith; below = λ k h. absurd (omega arith) }

module _ (stride n i : ℕ) (t low high : List ℕ) (f : Bool) where
  test : Rising stride n t i → low ≡ numbers_at width t ((i - 1) * stride) → high ≡ numbers_at width t (i * stride) → f ≡ precedes low high
      → precedes (numbers_at width t ((i - 1) * stride)) (numbers_at width t ((i - 1 + 1) * stride)) ≡ f
  test u a b q =
      let e : i - 1 + 1 ≡ i = let g = u.begun in omega arith in
      rw (e, ← a, ← b) (sym q)

  pub rising_stops : Rising stride n t i → i < n → low ≡ numbers_at width t ((i - 1) * stride) → high ≡ numbers_at width t (i * stride)
      → f ≡ precedes low high → not f ≡ true → false ≡ ascending (rows_of stride n t)
  unfolding rows_of
  rising_stops u h a b q z =
      sym (ascend_not n (λ k. numbers_at width t (k * stride)) (i - 1) (let g = u.begun in omega arith) (test u a b q ∙ not-true f z))

  pub rising_turn : Rising stride n t i → low ≡ numbers_at width t ((i - 1) * stride) → high ≡ numbers_at width t (i * stride)
      → f ≡ precedes low high → not f ≡ false → Rising stride n t (i + 1)
  rising_turn u a b q z = record {
    begun = omega arith;
    below = λ k h. elim (ℕ_discrete k (i - 1)) [
      | yes e ↦ rw e (test u a b q ∙ not-false f z)
      | no m ↦ u.below k (let g = u.begun in omega arith)
    ];
  }

pub rising_ends : (stride n i : ℕ) (t : List ℕ) → Rising stride n t i → n ≤ i → true ≡ ascending (rows_of stride n t)
unfolding rows_of
rising_ends stride n i t u h = sym (ascend_all n (λ k. numbers_at width t (k * stride)) (λ k g. u.below k (omega arith)))

-- Zero -----------------------------------------------------------------------------------------------------------------

zero_all : (l : List ℕ) → ((k : ℕ) → k < length l → get_or l k 0 ≡ 0) → every (λ x. eqb x 0) l ≡ true
unfolding every
zero_all [] h = refl
zero_all (x ∷ l) h = let e : x ≡ 0 = h 0 (omega arith) in rw (eq-eqb x 0 e) (zero_all l (λ k g. h (suc k) (omega arith)))

zero-not : (l : List ℕ) (i : ℕ) → i < length l → (get_or l i 0 ≡ 0 → ⊥) → every (λ x. eqb x 0) l ≡ false
unfolding every
zero-not [] i h n = absurd (omega arith)
zero-not (x ∷ l) zero h n = rw (ne_eqb x 0 n)
zero-not (x ∷ l) (suc i) h n = rw (zero-not l i (omega arith) n) (and-false (eqb x 0))

-- the numbers from a place up to another are 0
pub record Zeros (from to : ℕ) (t : List ℕ) (p : ℕ) : Type 0 where
  pub past : from ≤ p
  pub below : (k : ℕ) → from ≤ k → k < p → get_or t k 0 ≡ 0

pub zeros_begins : (from to : ℕ) (t : List ℕ) → Zeros from to t from
zeros_begins from to t = record { past = omega arith; below = λ k h g. absurd (omega arith) }

pub zeros-turn : (from to : ℕ) (t : List ℕ) (p : ℕ) → Zeros from to t p → get_or t p 0 ≡ 0 → Zeros from to t (p + 1)
zeros-turn from to t p u e = record {
  past = let g = u.past in omega arith;
  below = λ k h g. elim (ℕ_discrete k p) [ yes q ↦ rw q e | no m ↦ u.below k h (omega arith) ];
}

pub zeros_stops : (from to : ℕ) (t : List ℕ) (p : ℕ) → Zeros from to t p → to ≤ length t → p < to → (get_or t p 0 ≡ 0 → ⊥) → false ≡ zero_between from to t
unfolding zero_between
zeros_stops from to t p u l h n =
    let g = u.past in
    let q : from + (p - from) ≡ p = omega arith in
    sym (zero-not (take (to - from) (drop from t)) (p - from) (simp (length-take, length-drop) (omega arith)) (λ e.
    n (ap (λ k. get_or t k 0) (sym q) ∙ sym (get_or-drop from t (p - from) 0) ∙ sym (get_or-take (to - from) (drop from t) (p - from) 0 (omega arith)) ∙ e)))

pub zeros_ends : (from to : ℕ) (t : List ℕ) (p : ℕ) → Zeros from to t p → to ≤ p → true ≡ zero_between from to t
unfolding zero_between
zeros_ends from to t p u h =
    sym (zero_all (take (to - from) (drop from t)) (λ k g.
    let l : k < to - from = let m = rw length-take at g in omega arith in
    get_or-take (to - from) (drop from t) k 0 l ∙ get_or-drop from t k 0 ∙ u.below (from + k) (omega arith) (omega arith)))
