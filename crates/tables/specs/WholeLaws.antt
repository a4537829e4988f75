-- A table is determined by its rows and by what lies past them.
-- Assumes nothing.
use Rattle.std.specs.Prelude.{ℕ, zero, suc, ◌+◌, ◌-◌, ◌*◌, ◌<◌, ◌≤◌, ◌≡◌, refl, length, get_or, take, drop, replicate}
use Rattle.std.proofs.Common.{sym, ap, ap₂, ◌∙◌, length-take, length-drop, take-append-drop, ext_get_or, get_or-take, get_or-drop, take-add, drop-drop, drop-cons}
use mathlib.Core.List.{List, [], ◌∷◌, ◌++◌, append_assoc}
use mathlib.Core.List as list
use native.Mathlib.Omega.{arith}
use Rattle.std.proofs.lemmas.List.{length-replicate, get_or-replicate}
use Rattle.document.specs.Lists.{joined_up}
use Rattle.document.specs.Limits.{width, seen_stride, kept_stride}
use Rattle.document.specs.OneEvent.{Kept}
use Rattle.document.specs.Tables.{numbers_at, seen_room, kept_room, kept_numbers, filled, seen_table, kept_table}
use Rattle.slices.specs.TablesBackLaws.{numbers_at-take}
use Rattle.slices.specs.TablesLaws.{kept_at}
use Rattle.tables.specs.Tables.{kept_from, seen_from}

row-part : (t : List ℕ) (at : ℕ) → at + kept_stride ≤ length t → kept_numbers (kept_at width t at) ≡ take kept_stride (drop at t)
unfolding kept_numbers
row-part t at h =
    let a : numbers_at width t at ≡ take width (drop at t) = numbers_at-take width t at (omega arith) in
    let b : take 1 (drop (at + width) t) ≡ get_or t (at + width) 0 ∷ [] = rw (drop-cons t (at + width) 0 (omega arith)) in
    rw (a, take-add width 1 (drop at t), drop-drop width at t, b)

pub kept_numbers_lem : (n : ℕ) (t : List ℕ) (at : ℕ) → at + n * kept_stride ≤ length t → joined_up (list.map kept_numbers (kept_from n t at)) ≡ take (n * kept_stride) (drop at t)
unfolding kept_from joined_up
kept_numbers_lem zero t at h = refl
kept_numbers_lem (suc n) t at h =
    let z : suc n * kept_stride ≡ kept_stride + n * kept_stride = omega arith in
    rw (z, take-add kept_stride (n * kept_stride) (drop at t), drop-drop kept_stride at t)
    (ap₂ ◌++◌ (row-part t at (omega arith)) (kept_numbers_lem n t (at + kept_stride) (omega arith)))

pub seen_numbers : (n : ℕ) (t : List ℕ) (at : ℕ) → at + n * seen_stride ≤ length t → joined_up (seen_from n t at) ≡ take (n * seen_stride) (drop at t)
unfolding seen_from joined_up
seen_numbers zero t at h = refl
seen_numbers (suc n) t at h =
    let z : suc n * seen_stride ≡ seen_stride + n * seen_stride = omega arith in
    rw (z, take-add seen_stride (n * seen_stride) (drop at t), drop-drop seen_stride at t)
    (ap₂ ◌++◌ (numbers_at-take width t at (omega arith)) (seen_numbers n t (at + seen_stride) (omega arith)))

-- tables with the same numbers before a place, from a place on
pub take_same : (at : ℕ) (t t' : List ℕ) → length t' ≡ length t → ((k : ℕ) → k < at → get_or t' k 0 ≡ get_or t k 0) → take at t' ≡ take at t
take_same at t t' l f =
    ext_get_or 0 (take at t') (take at t) (rw (length-take, length-take at t, l)) (λ k h.
    let g : k < at = let m = rw length-take at h in omega arith in
    get_or-take at t' k 0 g ∙ f k g ∙ sym (get_or-take at t k 0 g))

pub drop_same : (at : ℕ) (t t' : List ℕ) → length t' ≡ length t → ((k : ℕ) → at ≤ k → get_or t' k 0 ≡ get_or t k 0) → drop at t' ≡ drop at t
drop_same at t t' l f =
    ext_get_or 0 (drop at t') (drop at t) (rw (length-drop, length-drop at t, l)) (λ k h.
    get_or-drop at t' k 0 ∙ f (at + k) (omega arith) ∙ sym (get_or-drop at t k 0))

zeros-part : (n at : ℕ) (t : List ℕ) → at + n ≤ length t → ((k : ℕ) → at ≤ k → k < at + n → get_or t k 0 ≡ 0) → take n (drop at t) ≡ replicate n 0
zeros-part n at t h f =
    ext_get_or 0 (take n (drop at t)) (replicate n 0) (let r : length (replicate {A = ℕ} n 0) ≡ n = length-replicate n 0 in rw (length-take, length-drop, r) (omega arith)) (λ k g.
    let l : k < n = let m = rw length-take at g in omega arith in
    get_or-take n (drop at t) k 0 l ∙ get_or-drop at t k 0 ∙ f (at + k) (omega arith) (omega arith) ∙ sym (get_or-replicate n k 0 0 l))

-- the numbers of rows, then 0 up to the room, then as before
filled_of : (size m : ℕ) (t t' numbers : List ℕ) → m ≤ size → size ≤ length t → length t' ≡ length t → numbers ≡ take m t'
    → ((k : ℕ) → m ≤ k → k < size → get_or t' k 0 ≡ 0) → ((k : ℕ) → size ≤ k → get_or t' k 0 ≡ get_or t k 0) → t' ≡ filled size numbers t
unfolding filled
filled_of size m t t' numbers h g l e z f =
    let n : length numbers ≡ m = ap length e ∙ rw length-take (omega arith) in
    let a : take (size - m) (drop m t') ≡ replicate (size - m) 0 = zeros-part (size - m) m t' (omega arith) (λ k p q. z k p (omega arith)) in
    let d : m + (size - m) ≡ size = omega arith in
    let b : drop (size - m) (drop m t') ≡ drop size t = drop-drop (size - m) m t' ∙ ap (λ (k : ℕ). drop k t') d ∙ drop_same size t t' l f in
    let c : drop m t' ≡ replicate (size - m) 0 ++ drop size t = sym (take-append-drop (size - m) (drop m t')) ∙ ap₂ ◌++◌ a b in
    sym (take-append-drop m t') ∙ ap₂ ◌++◌ (sym e) c ∙ rw (n, append_assoc numbers (replicate (size - m) 0) (drop size t))

pub kept_table_lem : (m : ℕ) (t t' : List ℕ) (l : List Kept) → m ≤ kept_room t → length t' ≡ length t → kept_from m t' 0 ≡ l
    → ((k : ℕ) → m * kept_stride ≤ k → k < kept_room t * kept_stride → get_or t' k 0 ≡ 0) → ((k : ℕ) → kept_room t * kept_stride ≤ k → get_or t' k 0 ≡ get_or t k 0)
    → t' ≡ kept_table l t
unfolding kept_table
kept_table_lem m t t' l h o e z f =
    let r : kept_room t * kept_stride ≤ length t = unfold kept_room in omega arith in
    filled_of (kept_room t * kept_stride) (m * kept_stride) t t' (joined_up (list.map kept_numbers l)) (omega arith) r o
    (ap (λ (x : List Kept). joined_up (list.map kept_numbers x)) (sym e) ∙ kept_numbers_lem m t' 0 (omega arith)) z f

pub seen_table_lem : (n : ℕ) (t t' : List ℕ) (l : List (List ℕ)) → n ≤ seen_room t → length t' ≡ length t → seen_from n t' 0 ≡ l
    → ((k : ℕ) → n * seen_stride ≤ k → k < seen_room t * seen_stride → get_or t' k 0 ≡ 0) → ((k : ℕ) → seen_room t * seen_stride ≤ k → get_or t' k 0 ≡ get_or t k 0)
    → t' ≡ seen_table l t
unfolding seen_table
seen_table_lem n t t' l h o e z f =
    let r : seen_room t * seen_stride ≤ length t = unfold seen_room in omega arith in
    filled_of (seen_room t * seen_stride) (n * seen_stride) t t' (joined_up l) (omega arith) r o
    (ap joined_up (sym e) ∙ seen_numbers n t' 0 (omega arith)) z f

-- rows among the report numbers
pub report_table : (from n : ℕ) (t t' : List ℕ) (l : List Kept) → from + n * kept_stride ≤ length t → length t' ≡ length t → kept_from n t' from ≡ l
    → ((k : ℕ) → k < from → get_or t' k 0 ≡ get_or t k 0) → ((k : ℕ) → from + n * kept_stride ≤ k → get_or t' k 0 ≡ get_or t k 0)
    → t' ≡ take from t ++ (joined_up (list.map kept_numbers l) ++ drop (from + n * kept_stride) t)
report_table from n t t' l h o e f g =
    let a : joined_up (list.map kept_numbers l) ≡ take (n * kept_stride) (drop from t') = ap (λ (x : List Kept). joined_up (list.map kept_numbers x)) (sym e) ∙ kept_numbers_lem n t' from (omega arith) in
    let b : drop (n * kept_stride) (drop from t') ≡ drop (from + n * kept_stride) t = drop-drop (n * kept_stride) from t' ∙ drop_same (from + n * kept_stride) t t' o g in
    sym (take-append-drop from t') ∙ ap₂ ◌++◌ (take_same from t t' o f) (sym (take-append-drop (n * kept_stride) (drop from t')) ∙ ap₂ ◌++◌ (sym a) b)
