-- Laws of rows in a lent table: rows whose numbers are the same are the same; the rows of a table, counted and in parts.
-- Assumes nothing.
use Rattle.std.specs.Prelude.{ℕ, zero, suc, ◌+◌, ◌-◌, ◌*◌, ◌<◌, ◌≤◌, ◌≡◌, refl, List, [], ◌∷◌, ◌++◌, length, get_or}
use Rattle.std.proofs.Common.{sym, ap, ap₂, ◌∙◌, arith, zero-add, suc-add, ext_get_or}
use Rattle.document.specs.Lists.{In, tabulate}
use Rattle.document.specs.Limits.{width, seen_stride, kept_stride}
use Rattle.document.specs.OneEvent.{Kept}
use Rattle.document.specs.Tables.{numbers_at, seen_rows, kept_rows}
use Rattle.basics.specs.Lists.{tabulate_same}
use Rattle.slices.specs.OrderLaws.{combinations}
use Rattle.slices.specs.TablesBackLaws.{length-numbers_at}
use Rattle.slices.specs.TablesLaws.{kept_at}
use Rattle.slices.specs.NumbersLaws.{get_or_numbers_at}
use Rattle.ordered.specs.RowsLaws.{in_tabulate}
use Rattle.tables.specs.Tables.{kept_from, seen_from}

-- Rows moved -----------------------------------------------------------------------------------------------------------

-- the same numbers at another place
pub numbers_move : (w : ℕ) (t t' : List ℕ) (at at' : ℕ) → ((k : ℕ) → k < w → get_or t' (at' + k) 0 ≡ get_or t (at + k) 0) → numbers_at w t' at' ≡ numbers_at w t at
numbers_move w t t' at at' f =
    ext_get_or 0 (numbers_at w t' at') (numbers_at w t at) (length-numbers_at w t' at' ∙ sym (length-numbers_at w t at)) (λ k h.
    let g : k < w = let l = length-numbers_at w t' at' in omega arith in
    get_or_numbers_at w t' at' k g ∙ f k g ∙ sym (get_or_numbers_at w t at k g))

pub row_move : (t t' : List ℕ) (at at' : ℕ) → ((k : ℕ) → k < kept_stride → get_or t' (at' + k) 0 ≡ get_or t (at + k) 0) → kept_at width t' at' ≡ kept_at width t at
row_move t t' at at' f = λ i. record { combination = numbers_move width t t' at at' (λ k h. f k (omega arith)) i; state = f width (omega arith) i }

pub row_is : (c : List ℕ) (s : ℕ) (t : List ℕ) (at : ℕ) → length c ≡ width → ((k : ℕ) → k < width → get_or t (at + k) 0 ≡ get_or c k 0) → get_or t (at + width) 0 ≡ s
    → kept_at width t at ≡ record { combination = c; state = s }
row_is c s t at o f q =
    let e : numbers_at width t at ≡ c = ext_get_or 0 (numbers_at width t at) c (length-numbers_at width t at ∙ sym o) (λ k h.
    let g : k < width = let l = length-numbers_at width t at in omega arith in
    get_or_numbers_at width t at k g ∙ f k g) in
    λ i. record { combination = e i; state = q i }

pub kept_move : (n : ℕ) (t t' : List ℕ) (at at' : ℕ) → ((k : ℕ) → k < n * kept_stride → get_or t' (at' + k) 0 ≡ get_or t (at + k) 0) → kept_from n t' at' ≡ kept_from n t at
unfolding kept_from
kept_move zero t t' at at' f = refl
kept_move (suc n) t t' at at' f =
    ap₂ ◌∷◌ (row_move t t' at at' (λ k h. f k (omega arith)))
    (kept_move n t t' (at + kept_stride) (at' + kept_stride) (λ k h. further k (f (kept_stride + k) (omega arith))))
  where
    further : (k : ℕ) → get_or t' (at' + (kept_stride + k)) 0 ≡ get_or t (at + (kept_stride + k)) 0 → get_or t' (at' + kept_stride + k) 0 ≡ get_or t (at + kept_stride + k) 0
    further k e = ap (λ (n : ℕ). get_or t' n 0) (omega arith) ∙ e ∙ ap (λ (n : ℕ). get_or t n 0) (omega arith)

pub seen_move : (n : ℕ) (t t' : List ℕ) (at at' : ℕ) → ((k : ℕ) → k < n * seen_stride → get_or t' (at' + k) 0 ≡ get_or t (at + k) 0) → seen_from n t' at' ≡ seen_from n t at
unfolding seen_from
seen_move zero t t' at at' f = refl
seen_move (suc n) t t' at at' f =
    ap₂ ◌∷◌ (numbers_move width t t' at at' (λ k h. f k (omega arith)))
    (seen_move n t t' (at + seen_stride) (at' + seen_stride) (λ k h. further k (f (seen_stride + k) (omega arith))))
  where
    further : (k : ℕ) → get_or t' (at' + (seen_stride + k)) 0 ≡ get_or t (at + (seen_stride + k)) 0 → get_or t' (at' + seen_stride + k) 0 ≡ get_or t (at + seen_stride + k) 0
    further k e = ap (λ (n : ℕ). get_or t' n 0) (omega arith) ∙ e ∙ ap (λ (n : ℕ). get_or t n 0) (omega arith)

-- Rows counted ---------------------------------------------------------------------------------------------------------

pub length-kept_from : (n : ℕ) (t : List ℕ) (at : ℕ) → length (kept_from n t at) ≡ n
unfolding kept_from
length-kept_from zero t at = refl
length-kept_from (suc n) t at = ap suc (length-kept_from n t (at + kept_stride))

pub length-seen_from : (n : ℕ) (t : List ℕ) (at : ℕ) → length (seen_from n t at) ≡ n
unfolding seen_from
length-seen_from zero t at = refl
length-seen_from (suc n) t at = ap suc (length-seen_from n t (at + seen_stride))

-- one row more, at the end
pub kept_more : (n : ℕ) (t : List ℕ) (at : ℕ) → kept_from (n + 1) t at ≡ kept_from n t at ++ (kept_at width t (at + n * kept_stride) ∷ [])
unfolding kept_from
kept_more zero t at = let z : at + 0 * kept_stride ≡ at = omega arith in rw z
kept_more (suc n) t at =
    let z : at + suc n * kept_stride ≡ at + kept_stride + n * kept_stride = omega arith in
    rw (z, suc-add) (ap (λ (l : List Kept). kept_at width t at ∷ l) (kept_more n t (at + kept_stride)))

-- the rows of the table as document 01 lists them
pub kept_tabulated : (n : ℕ) (t : List ℕ) (at : ℕ) → kept_from n t at ≡ tabulate n (λ i. kept_at width t (at + i * kept_stride))
unfolding kept_from tabulate
kept_tabulated zero t at = refl
kept_tabulated (suc n) t at =
    let z : at + 0 * kept_stride ≡ at = omega arith in
    ap₂ ◌∷◌ (ap (kept_at width t) (sym z)) (kept_tabulated n t (at + kept_stride) ∙ tabulate_same n (λ i. kept_at width t (at + kept_stride + i * kept_stride)) (λ i. kept_at width t (at + suc i * kept_stride)) (λ i _.
    ap (kept_at width t) (omega arith)))

pub kept_rows_lem : (n : ℕ) (t : List ℕ) → kept_from n t 0 ≡ kept_rows n t
unfolding kept_rows
kept_rows_lem n t = kept_tabulated n t 0 ∙ tabulate_same n (λ i. kept_at width t (0 + i * kept_stride)) (λ i. kept_at width t (i * kept_stride)) (λ i _. ap (kept_at width t) (zero-add (i * kept_stride)))

seen_tabulated : (n : ℕ) (t : List ℕ) (at : ℕ) → seen_from n t at ≡ tabulate n (λ i. numbers_at width t (at + i * seen_stride))
unfolding seen_from tabulate
seen_tabulated zero t at = refl
seen_tabulated (suc n) t at =
    let z : at + 0 * seen_stride ≡ at = omega arith in
    ap₂ ◌∷◌ (ap (numbers_at width t) (sym z)) (seen_tabulated n t (at + seen_stride) ∙ tabulate_same n (λ i. numbers_at width t (at + seen_stride + i * seen_stride)) (λ i. numbers_at width t (at + suc i * seen_stride)) (λ i _.
    ap (numbers_at width t) (omega arith)))

pub seen_rows_lem : (n : ℕ) (t : List ℕ) → seen_from n t 0 ≡ seen_rows n t
unfolding seen_rows
seen_rows_lem n t = seen_tabulated n t 0 ∙ tabulate_same n (λ i. numbers_at width t (0 + i * seen_stride)) (λ i. numbers_at width t (i * seen_stride)) (λ i _. ap (numbers_at width t) (zero-add (i * seen_stride)))

-- a row is one of them
pub row_in : (n : ℕ) (t : List ℕ) (at i : ℕ) → i < n → In (kept_at width t (at + i * kept_stride)) (kept_from n t at)
row_in n t at i h = rw (kept_tabulated n t at) (in_tabulate n (λ k. kept_at width t (at + k * kept_stride)) i h)

pub combinations_tabulated : (n : ℕ) (f : ℕ → Kept) → combinations (tabulate n f) ≡ tabulate n (λ i. (f i).combination)
unfolding tabulate
combinations_tabulated zero f = refl
combinations_tabulated (suc n) f = rw (combinations_tabulated n (λ k. f (suc k)))

-- rows of a table, in two parts
kept_split : (a c : ℕ) (t : List ℕ) (at : ℕ) → kept_from (a + c) t at ≡ kept_from a t at ++ kept_from c t (at + a * kept_stride)
unfolding kept_from
kept_split zero c t at = let z : at + 0 * kept_stride ≡ at = omega arith in rw (zero-add, z)
kept_split (suc a) c t at =
    let z : at + suc a * kept_stride ≡ at + kept_stride + a * kept_stride = omega arith in
    rw (z, suc-add a c) (ap (λ (l : List Kept). kept_at width t at ∷ l) (kept_split a c t (at + kept_stride)))

pub kept_two : (i m : ℕ) (t : List ℕ) → i ≤ m → kept_from m t 0 ≡ kept_from i t 0 ++ kept_from (m - i) t (i * kept_stride)
kept_two i m t h =
    let q : i + (m - i) ≡ m = omega arith in
    ap (λ (x : ℕ). kept_from x t 0) (sym q) ∙ kept_split i (m - i) t 0 ∙ ap (λ (x : ℕ). kept_from i t 0 ++ kept_from (m - i) t x) (zero-add (i * kept_stride))
