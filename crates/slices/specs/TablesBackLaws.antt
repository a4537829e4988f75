-- Rows read from a table and written back: they are the numbers at its start, so a table whose room is 0 past them is as it was.
-- Any width w and any room.
-- Assumes nothing.
use Rattle.std.specs.Prelude.{ℕ, zero, suc, ◌+◌, ◌-◌, ◌*◌, ◌≤◌, ◌≡◌, refl, true, List, [], ◌∷◌, ◌++◌, T, eqb, length, get_or, take, drop}
use Rattle.std.proofs.Common.{sym, ap, ap₂, ◌∙◌, arith, zero-mul, add-one, eqb→eq, take-append-drop, length-drop, drop-cons, take-add, drop-drop, length-take-le}
use mathlib.Core.List as list
use Rattle.document.specs.Lists.{every, tabulate, joined_up}
use Rattle.document.specs.Tables.{numbers_at, kept_numbers, filled}
use Rattle.document.specs.Session.{zero_between}
use Rattle.basics.specs.Lists.{tabulate_same}
use Rattle.slices.specs.TestsLaws.{so, and_of}
use Rattle.slices.specs.ListsLaws.{map_tabulate}
use Rattle.slices.specs.TablesLaws.{numbers_at-drop, kept_at, zeros, filled_front}

-- Rows one after another -----------------------------------------------------------------------------------------------

pub length-numbers_at : (n : ℕ) (t : List ℕ) (at : ℕ) → length (numbers_at n t at) ≡ n
unfolding numbers_at
length-numbers_at zero t at = refl
length-numbers_at (suc n) t at = ap suc (length-numbers_at n t (at + 1))

pub numbers_at-take : (n : ℕ) (t : List ℕ) (at : ℕ) → at + n ≤ length t → numbers_at n t at ≡ take n (drop at t)
unfolding numbers_at
numbers_at-take zero t at h = refl
numbers_at-take (suc n) t at h =
    rw (drop-cons t at 0 (omega arith)) (ap₂ ◌∷◌ refl (numbers_at-take n t (at + 1) (omega arith) ∙ rw add-one))

pub joined_up-rows : (w n : ℕ) (t : List ℕ) → n * w ≤ length t → joined_up (tabulate n (λ i. numbers_at w t (i * w))) ≡ take (n * w) t
unfolding tabulate joined_up
joined_up-rows w zero t h = rw zero-mul
joined_up-rows w (suc n) t h =
    let e : suc n * w ≡ w + n * w = omega arith in
    let first : numbers_at w t (0 * w) ≡ take w t = rw zero-mul (numbers_at-take w t 0 (omega arith)) in
    let shifted : tabulate n (λ k. numbers_at w t (suc k * w)) ≡ tabulate n (λ k. numbers_at w (drop w t) (k * w)) =
    tabulate_same n (λ k. numbers_at w t (suc k * w)) (λ k. numbers_at w (drop w t) (k * w)) (λ k _.
    let q : suc k * w ≡ w + k * w = omega arith in
    rw q (numbers_at-drop w t w (k * w))) in
    rw (e, take-add w (n * w) t)
    (ap₂ ◌++◌ first (ap joined_up shifted ∙ joined_up-rows w n (drop w t) (rw (length-drop w t) (omega arith))))

numbers_at-more : (w : ℕ) (t : List ℕ) (at : ℕ) → numbers_at w t at ++ (get_or t (at + w) 0 ∷ []) ≡ numbers_at (w + 1) t at
unfolding numbers_at
numbers_at-more zero t at = let q : at + 0 ≡ at = omega arith in rw q
numbers_at-more (suc w) t at =
    let p : at + suc w ≡ at + 1 + w = omega arith in
    let q : suc w + 1 ≡ suc (w + 1) = omega arith in
    rw (p, q) (ap₂ ◌∷◌ refl (numbers_at-more w t (at + 1)))

pub joined_up_kept : (w n : ℕ) (t : List ℕ) → n * (w + 1) ≤ length t
    → joined_up (list.map kept_numbers (tabulate n (λ i. kept_at w t (i * (w + 1))))) ≡ take (n * (w + 1)) t
unfolding kept_numbers
joined_up_kept w n t h =
    ap joined_up (map_tabulate kept_numbers n (λ i. kept_at w t (i * (w + 1)))
    ∙ tabulate_same n (λ i. kept_numbers (kept_at w t (i * (w + 1)))) (λ i. numbers_at (w + 1) t (i * (w + 1)))
    (λ i _. numbers_at-more w t (i * (w + 1))))
    ∙ joined_up-rows (w + 1) n t h

-- A room ---------------------------------------------------------------------------------------------------------------

zeros_of : (l : List ℕ) → T (every (λ x. eqb x 0) l) → zeros (length l) ≡ l
unfolding every
zeros_of [] t = refl
zeros_of (x ∷ l) t =
    let h = and_of (eqb x 0) (every (λ x. eqb x 0) l) t in
    ap₂ ◌∷◌ (sym (eqb→eq x 0 h.0)) (zeros_of l h.1)

-- a table that is 0 from its first n numbers up to its room is those numbers written into it
pub filled_back : (size n : ℕ) (t : List ℕ) → n ≤ size → size ≤ length t → zero_between n size t ≡ true → filled size (take n t) t ≡ t
unfolding zero_between
filled_back size n t h room z =
    let between = take (size - n) (drop n t) in
    let m : length (take n t) ≡ n = length-take-le n t (omega arith) in
    let o : length between ≡ size - n = length-take-le (size - n) (drop n t) (rw (length-drop n t) (omega arith)) in
    let q : zeros (size - n) ≡ between = rw o at (zeros_of between (so z)) in
    let s : n + (size - n) ≡ size = omega arith in
    let r : drop (size - n) (drop n t) ≡ drop size t = drop-drop (size - n) n t ∙ rw s in
    filled_front size (take n t) t
    ∙ rw (m, q, ← r, take-append-drop (size - n) (drop n t)) (take-append-drop n t)
