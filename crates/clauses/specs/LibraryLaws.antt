-- The library's `all` over the numbers of rows, and over a part of a slice, is the document's "each".
-- Assumes nothing.
use Rattle.std.specs.Prelude.{ℕ, zero, suc, ◌+◌, ◌-◌, ◌≡◌, refl, Bool, ◌&&◌, List, [], ◌∷◌, take, drop, eqb}
use Rattle.std.specs.List.{list_all, range_with_len}
use Rattle.std.proofs.Common.{sym, ap, ap₂, ◌∙◌, arith, length-take, drop_of_length-le}
use Rattle.std.proofs.Math.Decide.{dec_lt}
use Rattle.std.proofs.lemmas.List.{drop-take}
use Rattle.document.specs.Lists.{every, tabulate}
use Rattle.document.specs.Combinations.{precedes}
use Rattle.document.specs.Session.{ascending, zero_between}
use Rattle.clauses.specs.Rows.{rows_of}
use Rattle.clauses.specs.RowsLaws.{row_of}

-- Each row -------------------------------------------------------------------------------------------------------------

all_from : {A : Type 0} (p : A → Bool) (f g : ℕ → A) (k n : ℕ) → ((i : ℕ) → g i ≡ f (k + i))
    → list_all (λ i. p (f i)) (range_with_len k n) ≡ every p (tabulate n g)
unfolding every tabulate
all_from p f g k zero e = refl
all_from p f g k (suc n) e =
    ap₂ ◌&&◌ (ap p (sym (e 0 ∙ ap f (omega arith))))
    (all_from p f (λ i. g (suc i)) (k + 1) n (λ i. e (suc i) ∙ ap f (omega arith)))

pub all_tabulate : {A : Type 0} (p : A → Bool) (n : ℕ) (f : ℕ → A) → list_all (λ i. p (f i)) (range_with_len 0 n) ≡ every p (tabulate n f)
all_tabulate p n f = all_from p f f 0 n (λ i. ap f (omega arith))

pub all_rows : (p : List ℕ → Bool) (stride n : ℕ) (t : List ℕ)
    → list_all (λ i. p (row_of stride t i)) (range_with_len 0 n) ≡ every p (rows_of stride n t)
unfolding rows_of
all_rows p stride n t = all_tabulate p n (row_of stride t)

-- Each row and its next ------------------------------------------------------------------------------------------------

abbrev pub follows : (ℕ → List ℕ) → ℕ → Bool
follows f i = precedes (f (i - 1)) (f i)

ascends_from : (f g : ℕ → List ℕ) (k n : ℕ) → ((i : ℕ) → g i ≡ f (k + i)) → list_all (follows f) (range_with_len (k + 1) n) ≡ ascending (tabulate (suc n) g)
unfolding ascending tabulate
ascends_from f g k zero e = refl
ascends_from f g k (suc n) e =
    ap₂ ◌&&◌ (ap₂ precedes (sym (e 0 ∙ ap f (omega arith))) (sym (e 1)))
    (ascends_from f (λ i. g (suc i)) (k + 1) n (λ i. e (suc i) ∙ ap f (omega arith)))

pub all_ascending : (stride n : ℕ) (t : List ℕ) → list_all (follows (row_of stride t)) (range_with_len 1 (n - 1)) ≡ ascending (rows_of stride n t)
unfolding rows_of ascending tabulate
all_ascending stride zero t = refl
all_ascending stride (suc n) t =
    let e : suc n - 1 ≡ n = omega arith in
    rw e (ascends_from (row_of stride t) (row_of stride t) 0 n (λ i. ap (row_of stride t) (omega arith)))

-- Each number of a part ------------------------------------------------------------------------------------------------

all_every : (p : ℕ → Bool) (l : List ℕ) → list_all p l ≡ every p l
unfolding every
all_every p [] = refl
all_every p (x ∷ l) = ap (λ r. p x && r) (all_every p l)

drop-of_take : (from to : ℕ) (t : List ℕ) → drop from (take to t) ≡ take (to - from) (drop from t)
drop-of_take from to t = elim (dec_lt to from) [
  | no h ↦ let e : from + (to - from) ≡ to = omega arith in ap (λ n. drop from (take n t)) (sym e) ∙ drop-take from (to - from) t
  | yes h ↦
      let e : to - from ≡ 0 = omega arith in
      rw e (drop_of_length-le (take to t) {i = from} (omega (arith, length-take {A = ℕ})))
]

pub all_zero_between : (from to : ℕ) (t : List ℕ) → list_all (λ x. eqb x 0) (drop from (take to t)) ≡ zero_between from to t
unfolding zero_between
all_zero_between from to t = all_every (λ x. eqb x 0) (drop from (take to t)) ∙ ap (every (λ x. eqb x 0)) (drop-of_take from to t)
