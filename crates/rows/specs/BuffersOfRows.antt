-- Laws of the rows of a text of which only a part at its start is held: a row whose line end is held is whole and whatever
-- follows does not change it; where no line end is held, the row goes on, and only the last byte held, which may be the CR of
-- a line end, still decides where it ends.
-- Assumes nothing.
use Rattle.std.specs.Prelude.{ℕ, zero, suc, ◌≤◌, ◌<◌, ◌≡◌, refl, ◌⊎◌, false, List, [], ◌∷◌, ◌++◌, length, drop, leb, eqb}
use Rattle.std.proofs.Common.{sym, ap, ◌∙◌, inl, inr, length-append, leb-true, leb-false, arith}
use Rattle.std.proofs.Math.Bool.{and-false}
use Rattle.document.specs.Classes.{cr, lf}
use Rattle.document.specs.Rows.{ends_row, first_row, after_row, rows}
use Rattle.basics.specs.Tests.{decided}
use Rattle.rows.specs.RowsLaws.{first_ends, first_more, after_ends, after_more, ends_two, after-row}
use Rattle.rows.specs.TextLaws.{rows_over}
use Rattle.rows.specs.RunsOfRows.{rows-some}

-- where a byte after a CR is held, it tells whether that is a line end
ends_held : (b : ℕ) (t u : List ℕ) → 0 < length t → ends_row b (t ++ u) ≡ ends_row b t
unfolding ends_row
ends_held b [] u h = absurd (omega arith)
ends_held b (c ∷ t) u h = refl

-- A row whose line end is held -----------------------------------------------------------------------------------------

-- the first row ends in the part that is held
abbrev pub Whole : List ℕ → Type 0
Whole t = length (first_row t) < length t

whole-rest : (b : ℕ) (t : List ℕ) → ends_row b t ≡ false → Whole (b ∷ t) → Whole t
whole-rest b t e h = let k : length (first_row (b ∷ t)) < length (b ∷ t) = h in let j = rw (first_more b t e) at k in omega arith

pub whole_first : (t u : List ℕ) → Whole t → first_row (t ++ u) ≡ first_row t
whole_first [] u h = absurd (omega arith)
whole_first (b ∷ t) u h = elim (decided (ends_row b t)) [
  | inl e ↦ let k = ends_two b t e in first_ends b (t ++ u) (ends_held b t u k ∙ e) ∙ sym (first_ends b t e)
  | inr e ↦
      let w = whole-rest b t e h in
      first_more b (t ++ u) (ends_held b t u (omega arith) ∙ e) ∙ ap (λ l. b ∷ l) (whole_first t u w) ∙ sym (first_more b t e)
]

drop-held : (t u : List ℕ) → 0 < length t → drop 1 (t ++ u) ≡ drop 1 t ++ u
drop-held [] u h = absurd (omega arith)
drop-held (b ∷ t) u h = refl

pub whole-after : (t u : List ℕ) → Whole t → after_row (t ++ u) ≡ after_row t ++ u
whole-after [] u h = absurd (omega arith)
whole-after (b ∷ t) u h = elim (decided (ends_row b t)) [
  | inl e ↦
      let k = ends_two b t e in
      after_ends b (t ++ u) (ends_held b t u k ∙ e) ∙ drop-held t u k ∙ ap (λ l. l ++ u) (sym (after_ends b t e))
  | inr e ↦
      let w = whole-rest b t e h in
      after_more b (t ++ u) (ends_held b t u (omega arith) ∙ e) ∙ whole-after t u w ∙ ap (λ l. l ++ u) (sym (after_more b t e))
]

-- such a row is the text's first, and the others are those of what is held after it and what follows
pub whole-rows : (t u : List ℕ) → Whole t → rows (t ++ u) ≡ first_row t ∷ rows (after_row t ++ u)
whole-rows t u h =
    let k : 0 < length (t ++ u) = rw length-append (omega arith) in
    rows-some (t ++ u) k ∙ rw (whole_first t u h, whole-after t u h)

-- No line end is held --------------------------------------------------------------------------------------------------

-- the part that is held ends inside its first row
abbrev pub Open : List ℕ → Type 0
Open t = length t ≤ length (first_row t)

open_goes_on : (b : ℕ) (t : List ℕ) → Open (b ∷ t) → ends_row b t ≡ false
open_goes_on b t h = elim (decided (ends_row b t)) [
  | inl e ↦ absurd (let k : length (b ∷ t) ≤ length (first_row (b ∷ t)) = h in let j = rw (first_ends b t e) at k in omega arith)
  | inr e ↦ e
]

open_rest : (b : ℕ) (t : List ℕ) → Open (b ∷ t) → Open t
open_rest b t h =
    let k : length (b ∷ t) ≤ length (first_row (b ∷ t)) = h in
    let j = rw (first_more b t (open_goes_on b t h)) at k in
    omega arith

-- the row is at least as long, but for the last byte
pub open_long : (t u : List ℕ) → Open t → length t ≤ suc (length (first_row (t ++ u)))
open_long [] u h = omega arith
open_long (b ∷ []) u h = omega arith
open_long (b ∷ c ∷ t) u h =
    let k = open_long (c ∷ t) u (open_rest b (c ∷ t) h) in
    rw (first_more b ((c ∷ t) ++ u) (ends_held b (c ∷ t) u (omega arith) ∙ open_goes_on b (c ∷ t) h)) (omega arith)

-- and all but the last byte may be let go: the text after the row is found without them
pub open_after : (k : ℕ) (t u : List ℕ) → Open t → k < length t → after_row (t ++ u) ≡ after_row (drop k t ++ u)
open_after zero t u h l = refl
open_after (suc k) [] u h l = absurd (omega arith)
open_after (suc k) (b ∷ t) u h l =
    let m : k < length t = omega arith in
    after_more b (t ++ u) (ends_held b t u (omega arith) ∙ open_goes_on b t h) ∙ open_after k t u (open_rest b t h) m

-- a part that is held is one or the other
pub whole_or_open : (t : List ℕ) → Whole t ⊎ Open t
whole_or_open t = elim (decided (leb (length t) (length (first_row t)))) [
  | inl e ↦ inr (leb-true (length t) (length (first_row t)) e)
  | inr e ↦ inl (leb-false (length t) (length (first_row t)) e)
]

-- A part that ends with a line end -------------------------------------------------------------------------------------

not_a_line_end : (b : ℕ) (u : List ℕ) → ends_row b (cr ∷ u) ≡ false
unfolding ends_row
not_a_line_end b u = and-false (eqb b cr)

-- a CR and an LF after an open part end its row
pub open_ends : (t u : List ℕ) → Open t → first_row (t ++ (cr ∷ lf ∷ u)) ≡ t
unfolding ends_row
open_ends [] u h = first_ends cr (lf ∷ u) refl
open_ends (b ∷ []) u h = first_more b (cr ∷ lf ∷ u) (not_a_line_end b (lf ∷ u)) ∙ ap (λ l. b ∷ l) (first_ends cr (lf ∷ u) refl)
open_ends (b ∷ c ∷ t) u h =
    first_more b (c ∷ (t ++ (cr ∷ lf ∷ u))) (open_goes_on b (c ∷ t) h)
    ∙ ap (λ l. b ∷ l) (open_ends (c ∷ t) u (open_rest b (c ∷ t) h))

pub open_rest_of : (t u : List ℕ) → Open t → after_row (t ++ (cr ∷ lf ∷ u)) ≡ u
unfolding ends_row
open_rest_of [] u h = after_ends cr (lf ∷ u) refl
open_rest_of (b ∷ []) u h = after_more b (cr ∷ lf ∷ u) (not_a_line_end b (lf ∷ u)) ∙ after_ends cr (lf ∷ u) refl
open_rest_of (b ∷ c ∷ t) u h =
    after_more b (c ∷ (t ++ (cr ∷ lf ∷ u))) (open_goes_on b (c ∷ t) h) ∙ open_rest_of (c ∷ t) u (open_rest b (c ∷ t) h)

closed_within : (n : ℕ) (t u : List ℕ) → length t < n → rows (t ++ (cr ∷ lf ∷ u)) ≡ rows (t ++ (cr ∷ lf ∷ [])) ++ rows u
closed_within zero t u h = absurd (omega arith)
closed_within (suc n) t u h = elim (whole_or_open t) [
  | inl w ↦
      let k = after-row t w in
      whole-rows t (cr ∷ lf ∷ u) w
      ∙ ap (λ l. first_row t ∷ l) (closed_within n (after_row t) u (omega arith))
      ∙ ap (λ l. l ++ rows u) (sym (whole-rows t (cr ∷ lf ∷ []) w))
  | inr o ↦
      let row : (v : List ℕ) → rows (t ++ (cr ∷ lf ∷ v)) ≡ t ∷ rows v = λ v.
      rows-some (t ++ (cr ∷ lf ∷ v)) (rw length-append (omega arith)) ∙ rw (open_ends t v o, open_rest_of t v o) in
      row u ∙ ap (λ l. l ++ rows u) (sym (row [] ∙ ap (λ l. t ∷ l) (rows_over [] 0 (omega arith))))
]

-- so a text cut after a CR and an LF has the rows of the one part and then those of the other
pub closed-rows : (t u : List ℕ) → rows (t ++ (cr ∷ lf ∷ u)) ≡ rows (t ++ (cr ∷ lf ∷ [])) ++ rows u
closed-rows t u = closed_within (suc (length t)) t u (omega arith)
