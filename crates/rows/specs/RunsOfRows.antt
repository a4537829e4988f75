-- Laws of the rows between two offsets of a text, where the part between them ends at a row's end or past it: its first row,
-- line end included, is the text's row at the first offset, and the others lie between the place after it and the second.
-- Assumes nothing.
use Rattle.std.specs.Prelude.{ℕ, zero, suc, ◌-◌, ◌≤◌, ◌<◌, ◌≡◌, refl, true, false, List, [], ◌∷◌, ◌++◌, length, take, drop}
use Rattle.std.proofs.Common.{sym, ap, ap₂, ◌∙◌, inl, inr, length-drop, length-take, arith}
use Rattle.std.proofs.Math.Seq.{take-nil}
use Rattle.document.specs.Rows.{ends_row, first_row, after_row, rows_within, rows}
use Rattle.document.specs.Log.{row_at, next_at, rows_between}
use Rattle.basics.specs.Tests.{decided}
use Rattle.rows.specs.RowsLaws.{first_ends, first_more, after_ends, after_more, ends_two}
use Rattle.rows.specs.TextLaws.{after_within, after_shorter, drop-next, next_within, next-later, rows_next}

-- A part that begins with the first row and its line end --------------------------------------------------------------

-- a CR and an LF stay next to one another in a part that holds both, and no part makes two bytes a line end
part_ends : (b : ℕ) (t : List ℕ) (n : ℕ) → 1 ≤ n → ends_row b t ≡ true → ends_row b (take n t) ≡ true
unfolding ends_row
part_ends b [] n h e = let z : ◌≡◌ {A = ℕ} 0 1 = cc in absurd (omega arith)
part_ends b (c ∷ t) zero h e = absurd (omega arith)
part_ends b (c ∷ t) (suc n) h e = e

part_goes_on : (b : ℕ) (t : List ℕ) (n : ℕ) → ends_row b t ≡ false → ends_row b (take n t) ≡ false
unfolding ends_row
part_goes_on b [] zero e = refl
part_goes_on b [] (suc n) e = refl
part_goes_on b (c ∷ t) zero e = refl
part_goes_on b (c ∷ t) (suc n) e = e

-- the bytes of the first row and of its line end
abbrev pub row_size : List ℕ → ℕ
row_size t = length t - length (after_row t)

pub part_first : (t : List ℕ) (n : ℕ) → row_size t ≤ n → first_row (take n t) ≡ first_row t
unfolding first_row
part_first [] zero h = refl
part_first [] (suc n) h = refl
part_first (b ∷ t) zero h = let k = after_shorter b t in absurd (omega arith)
part_first (b ∷ t) (suc n) h = elim (decided (ends_row b t)) [
  | inl e ↦
      let j = ends_two b t e in
      let i : suc (length t) - (length t - 1) ≤ suc n = rw (after_ends b t e, length-drop) at h in
      let k : 1 ≤ n = omega arith in
      first_ends b (take n t) (part_ends b t n k e) ∙ sym (first_ends b t e)
  | inr e ↦
      let w = after_within t in
      let i : suc (length t) - length (after_row t) ≤ suc n = rw (after_more b t e) at h in
      let k : row_size t ≤ n = omega arith in
      first_more b (take n t) (part_goes_on b t n e) ∙ ap (λ l. b ∷ l) (part_first t n k) ∙ sym (first_more b t e)
]

take-drop : (t : List ℕ) (n : ℕ) → drop 1 (take n t) ≡ take (n - 1) (drop 1 t)
take-drop [] zero = refl
take-drop [] (suc n) = sym (take-nil (suc n - 1))
take-drop (b ∷ t) zero = refl
take-drop (b ∷ t) (suc n) = let k : n ≡ suc n - 1 = omega arith in ap (λ x. take x t) k

pub part-after : (t : List ℕ) (n : ℕ) → row_size t ≤ n → after_row (take n t) ≡ take (n - row_size t) (after_row t)
unfolding after_row
part-after [] zero h = refl
part-after [] (suc n) h = sym (take-nil (suc n - 0))
part-after (b ∷ t) zero h = let k = after_shorter b t in absurd (omega arith)
part-after (b ∷ t) (suc n) h = elim (decided (ends_row b t)) [
  | inl e ↦
      let j = ends_two b t e in
      let i : suc (length t) - (length t - 1) ≤ suc n = rw (after_ends b t e, length-drop) at h in
      let k : 1 ≤ n = omega arith in
      let m : n - 1 ≡ suc n - (suc (length t) - (length t - 1)) = omega arith in
      after_ends b (take n t) (part_ends b t n k e) ∙ take-drop t n ∙ ap (λ x. take x (drop 1 t)) m
      ∙ sym (rw (after_ends b t e, length-drop))
  | inr e ↦
      let w = after_within t in
      let i : suc (length t) - length (after_row t) ≤ suc n = rw (after_more b t e) at h in
      let m : n - row_size t ≡ suc n - (suc (length t) - length (after_row t)) = omega arith in
      after_more b (take n t) (part_goes_on b t n e) ∙ part-after t n (omega arith) ∙ ap (λ x. take x (after_row t)) m
      ∙ sym (rw (after_more b t e))
]

-- Rows that follow one another ----------------------------------------------------------------------------------------

-- a text that is not empty has a first row, and then the rows of what follows its line end
pub rows-some : (t : List ℕ) → 0 < length t → rows t ≡ first_row t ∷ rows (after_row t)
rows-some t h = rows_next t 0 h ∙ ap (λ l. first_row t ∷ rows l) (drop-next t 0 (omega arith))

-- the rows of a log between two offsets, as a list: `rows_between` counts them
unfoldable pub rows_in : List ℕ → ℕ → ℕ → List (List ℕ)
rows_in log from to = rows (take (to - from) (drop from log))

pub rows_in_count : (log : List ℕ) (from to : ℕ) → rows_between log from to ≡ length (rows_in log from to)
unfolding rows_between rows_in
rows_in_count log from to = refl

pub rows_in_none : (log : List ℕ) (at : ℕ) → rows_in log at at ≡ []
unfolding rows_in rows rows_within
rows_in_none log at = let k : at - at ≡ 0 = omega arith in rw k

size_at : (log : List ℕ) (at : ℕ) → row_size (drop at log) ≡ next_at log at - at
unfolding next_at
size_at log at = rw length-drop (omega arith)

part-some : (log : List ℕ) (at to : ℕ) → at < length log → at < to → 0 < length (take (to - at) (drop at log))
part-some log at to h k = rw (length-take, length-drop) (omega arith)

-- where a row ends no further than the part, it is the part's first
pub rows_in-next : (log : List ℕ) (at to : ℕ) → at < length log → next_at log at ≤ to
    → rows_in log at to ≡ row_at log at ∷ rows_in log (next_at log at) to
unfolding rows_in row_at
rows_in-next log at to h k =
    let t = drop at log in
    let n = to - at in
    let l = next-later log at h in
    let z : row_size t ≡ next_at log at - at = size_at log at in
    let m : n - row_size t ≡ to - next_at log at = omega arith in
    rows-some (take n t) (part-some log at to h (omega arith))
    ∙ ap₂ (λ x l. x ∷ rows l) (part_first t n (omega arith))
    (part-after t n (omega arith) ∙ ap₂ take m (sym (drop-next log at (omega arith))))

-- from one offset a reader comes to the other, and hands out these rows on its way
pub data Passes (log : List ℕ) : ℕ → ℕ → List (List ℕ) → Type 0 where
  at_once : {at : ℕ} → Passes log at at []
  row_first : {at to : ℕ} {l : List (List ℕ)} → at < length log → Passes log (next_at log at) to l
      → Passes log at to (row_at log at ∷ l)

pub passes_on : {log : List ℕ} {at to : ℕ} {l : List (List ℕ)} → Passes log at to l → at ≤ to
passes_on at_once = omega arith
passes_on {log} (row_first {at} h q) = let k = passes_on q in let j = next-later log at h in omega arith

pub passes_within : {log : List ℕ} {at to : ℕ} {l : List (List ℕ)} → Passes log at to l → at ≤ length log → to ≤ length log
passes_within at_once h = h
passes_within {log} (row_first {at} h q) k = passes_within q (next_within log at)

-- these are the rows between the two offsets
pub passes_rows : {log : List ℕ} {at to : ℕ} {l : List (List ℕ)} → Passes log at to l → rows_in log at to ≡ l
passes_rows {log} (at_once {at}) = rows_in_none log at
passes_rows {log} (row_first {at} {to} h q) = rows_in-next log at to h (passes_on q) ∙ ap (λ l. row_at log at ∷ l) (passes_rows q)

-- and with the rows after the second they are the rows after the first
pub passes_cut : {log : List ℕ} {at to : ℕ} {l : List (List ℕ)} → Passes log at to l → rows (drop at log) ≡ l ++ rows (drop to log)
unfolding row_at
passes_cut at_once = refl
passes_cut {log} (row_first {at} h q) = rows_next log at h ∙ ap (λ l. row_at log at ∷ l) (passes_cut q)
