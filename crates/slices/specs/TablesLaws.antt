-- Rows written into a table are the rows read from it, what lies past the room stays, and the rest of the room is 0.
-- Any width w and any room; the rooms of the two lent tables at the end.
-- Assumes nothing.
use Rattle.std.specs.Prelude.{ℕ, zero, suc, ◌+◌, ◌-◌, ◌*◌, ◌≤◌, ◌≡◌, true, T, get_or, replicate}
use Rattle.std.proofs.Math.Path.{refl, ap}
use Rattle.std.proofs.Common.{sym, ap₂, ◌∙◌, inl, inr, arith, zero-mul, zero-add, length-append, get_or-drop}
use mathlib.Core.List.{List, [], ◌∷◌, ◌++◌, append_assoc}
use mathlib.Core.List as list
use Rattle.std.proofs.Math.Dec.{eqb, eqb_refl}
use Rattle.std.proofs.Math.ListN.{length, drop, length-drop}
use Rattle.std.proofs.lemmas.List.{length-replicate, get_or_at}
use Rattle.std.proofs.Math.Seq.{drop_at, take_at}
use Rattle.document.specs.Lists.{In, every, tabulate, joined_up}
use Rattle.document.specs.OneEvent.{Kept}
use Rattle.document.specs.Tables.{numbers_at, kept_numbers, filled}
use Rattle.document.specs.Session.{zero_between}
use Rattle.basics.specs.Lists.{tabulate_same}
use Rattle.slices.specs.TestsLaws.{of_and, true_of}
use Rattle.slices.specs.JoinSeenLaws.{OfWidth}

-- Rows one after another -----------------------------------------------------------------------------------------------

pub numbers_at-drop : (n : ℕ) (t : List ℕ) (k at : ℕ) → numbers_at n t (k + at) ≡ numbers_at n (drop k t) at
unfolding numbers_at
numbers_at-drop zero t k at = refl
numbers_at-drop (suc n) t k at =
    let q : k + at + 1 ≡ k + (at + 1) = omega arith in
    ap₂ ◌∷◌ (sym (get_or-drop k t at 0)) (rw q (numbers_at-drop n t k (at + 1)))

numbers_at-whole : (r t : List ℕ) → numbers_at (length r) (r ++ t) 0 ≡ r
unfolding numbers_at
numbers_at-whole [] t = refl
numbers_at-whole (x ∷ r) t = ap₂ ◌∷◌ refl (numbers_at-drop (length r) (x ∷ (r ++ t)) 1 0 ∙ numbers_at-whole r t)

numbers_at_append : (w : ℕ) (r t : List ℕ) → length r ≡ w → numbers_at w (r ++ t) 0 ≡ r
numbers_at_append w r t o = rw (← o) (numbers_at-whole r t)

-- the row of a kept combination at a place
abbrev pub kept_at : ℕ → List ℕ → ℕ → Kept
kept_at w t at = record { combination = numbers_at w t at; state = get_or t (at + w) 0 }

kept_at_drop : (w : ℕ) (t : List ℕ) (k at : ℕ) → kept_at w t (k + at) ≡ kept_at w (drop k t) at
kept_at_drop w t k at =
    let q : k + at + w ≡ k + (at + w) = omega arith in
    let state : get_or t (k + at + w) 0 ≡ get_or (drop k t) (at + w) 0 = rw (q, get_or-drop k t (at + w) 0) in
    λ i. record { combination = numbers_at-drop w t k at i; state = state i }

pub rows_back : (w : ℕ) (rows : List (List ℕ)) (t : List ℕ) → OfWidth w rows
    → tabulate (length rows) (λ i. numbers_at w (joined_up rows ++ t) (i * w)) ≡ rows
unfolding tabulate joined_up
rows_back w [] t o = refl
rows_back w (r ∷ rows) t o =
    let rest = joined_up rows ++ t in
    rw (append_assoc r (joined_up rows) t) (ap₂ ◌∷◌
    (rw zero-mul (numbers_at_append w r rest (o r (inl refl))))
    (tabulate_same (length rows) (λ k. numbers_at w (r ++ rest) (suc k * w)) (λ k. numbers_at w rest (k * w)) (λ k _.
    let q : suc k * w ≡ w + k * w = omega arith in
    rw (q, numbers_at-drop w (r ++ rest) w (k * w), drop_at r rest w (o r (inl refl))))
    ∙ rows_back w rows t (λ x i. o x (inr i))))

-- each row has a combination of width w
abbrev pub KeptWidth : ℕ → List Kept → Type 0
KeptWidth w rows = (k : Kept) → In k rows → length k.combination ≡ w

pub length-kept_numbers : (w : ℕ) (k : Kept) → length k.combination ≡ w → length (kept_numbers k) ≡ w + 1
unfolding kept_numbers
length-kept_numbers w k o = simp length-append (omega arith)

kept_at_append : (w : ℕ) (k : Kept) (t : List ℕ) → length k.combination ≡ w → kept_at w (kept_numbers k ++ t) 0 ≡ k
unfolding kept_numbers
kept_at_append w k t o =
    let q : kept_numbers k ++ t ≡ k.combination ++ (k.state ∷ t) = append_assoc k.combination (k.state ∷ []) t in
    let state : get_or (kept_numbers k ++ t) (0 + w) 0 ≡ k.state = rw (q, zero-add) (get_or_at k.combination k.state t 0 w o) in
    let combination : numbers_at w (kept_numbers k ++ t) 0 ≡ k.combination = rw q (numbers_at_append w k.combination (k.state ∷ t) o) in
    λ i. record { combination = combination i; state = state i }

pub kept_back : (w : ℕ) (rows : List Kept) (t : List ℕ) → KeptWidth w rows
    → tabulate (length rows) (λ i. kept_at w (joined_up (list.map kept_numbers rows) ++ t) (i * (w + 1))) ≡ rows
unfolding tabulate joined_up
kept_back w [] t o = refl
kept_back w (r ∷ rows) t o =
    let rest = joined_up (list.map kept_numbers rows) ++ t in
    rw (append_assoc (kept_numbers r) (joined_up (list.map kept_numbers rows)) t) (ap₂ ◌∷◌
    (rw zero-mul (kept_at_append w r rest (o r (inl refl))))
    (tabulate_same (length rows) (λ k. kept_at w (kept_numbers r ++ rest) (suc k * (w + 1))) (λ k. kept_at w rest (k * (w + 1))) (λ k _.
    let q : suc k * (w + 1) ≡ (w + 1) + k * (w + 1) = omega arith in
    let d : drop (w + 1) (kept_numbers r ++ rest) ≡ rest = drop_at (kept_numbers r) rest (w + 1) (length-kept_numbers w r (o r (inl refl))) in
    rw q (kept_at_drop w (kept_numbers r ++ rest) (w + 1) (k * (w + 1)) ∙ ap (λ (l : List ℕ). kept_at w l (k * (w + 1))) d))
    ∙ kept_back w rows t (λ x i. o x (inr i))))

pub length-joined_up : (w : ℕ) (rows : List (List ℕ)) → OfWidth w rows → length (joined_up rows) ≡ length rows * w
unfolding joined_up
length-joined_up w [] o = rw zero-mul
length-joined_up w (r ∷ rows) o =
    let h = o r (inl refl) in
    let k = length-joined_up w rows (λ x i. o x (inr i)) in
    rw (length-append r (joined_up rows)) (omega arith)

-- n zeros
abbrev pub zeros : ℕ → List ℕ
zeros n = replicate n 0

pub length-zeros : (n : ℕ) → length (zeros n) ≡ n
length-zeros n = length-replicate n 0

all_zero : (n : ℕ) → T (every (λ x. eqb x 0) (zeros n))
unfolding every
all_zero zero = tt
all_zero (suc n) = of_and (eqb 0 0) (every (λ x. eqb x 0) (zeros n)) (eqb_refl 0) (all_zero n)

-- A room ---------------------------------------------------------------------------------------------------------------

-- a filled room begins with its numbers
pub filled_front : (size : ℕ) (numbers old : List ℕ) → filled size numbers old ≡ numbers ++ (zeros (size - length numbers) ++ drop size old)
unfolding filled
filled_front size numbers old = append_assoc numbers (zeros (size - length numbers)) (drop size old)

module _ (size : ℕ) (numbers old : List ℕ) (fits : length numbers ≤ size) (room : size ≤ length old) where
  front : length (numbers ++ zeros (size - length numbers)) ≡ size
  front = rw (length-append numbers (zeros (size - length numbers)), length-zeros (size - length numbers)) (omega arith)

  pub length-filled : length (filled size numbers old) ≡ length old
  unfolding filled
  length-filled = rw (length-append (numbers ++ zeros (size - length numbers)) (drop size old), front, length-drop size old) (omega arith)

  pub drop-filled : drop size (filled size numbers old) ≡ drop size old
  unfolding filled
  drop-filled = drop_at (numbers ++ zeros (size - length numbers)) (drop size old) size front

  -- filled again, as if it had been filled once
  pub filled_again : (more : List ℕ) → filled size more (filled size numbers old) ≡ filled size more old
  filled_again more = unfold filled in ap (λ (l : List ℕ). more ++ zeros (size - length more) ++ l) drop-filled

  pub zero_between-filled : zero_between (length numbers) size (filled size numbers old) ≡ true
  unfolding filled zero_between
  zero_between-filled =
      let n = size - length numbers in
      rw (
        append_assoc numbers (zeros n) (drop size old),
        drop_at numbers (zeros n ++ drop size old) (length numbers) refl,
        take_at (zeros n) (drop size old) n (length-zeros n),
      )
      (true_of (every (λ x. eqb x 0) (zeros n)) (all_zero n))
