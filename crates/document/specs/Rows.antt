-- Document 01, "The declarations" and "Log rows and the run": rows of a text and fields of a row (RFC 4180, no quotes).
-- CR directly followed by LF ends a row; a text that ends so has no further row. Any other CR or LF lies inside its row.
-- Assumes nothing.
use Rattle.std.specs.Prelude.{ℕ, zero, suc, ◌+◌, ◌-◌, ◌*◌, Bool, true, false, not, cond, ◌&&◌, ◌||◌, List, [], ◌∷◌, length, get_or, take, drop, eqb, leb}
use mathlib.Core.List as list
use Rattle.document.specs.Lists.{every, some}
use Rattle.document.specs.Limits.{largest_value}
use Rattle.document.specs.Classes.{cr, lf, comma, zero_byte, is_digit}

-- b is a CR, and the bytes after it begin with LF
unfoldable pub ends_row : ℕ → List ℕ → Bool
ends_row b [] = false
ends_row b (c ∷ t) = eqb b cr && eqb c lf

-- the bytes of the first row, its line end left out; the empty text has an empty first row
unfoldable pub first_row : List ℕ → List ℕ
first_row [] = []
first_row (b ∷ t) = elim (ends_row b t) [ true ↦ [] | false ↦ b ∷ first_row t ]

-- the text past the first row and its line end
unfoldable pub after_row : List ℕ → List ℕ
after_row [] = []
after_row (b ∷ t) = elim (ends_row b t) [ true ↦ drop 1 t | false ↦ after_row t ]

-- all rows of a text: none of the empty text. The count is large enough where it is the text's length.
unfoldable pub rows_within : ℕ → List ℕ → List (List ℕ)
rows_within zero t = []
rows_within (suc n) [] = []
rows_within (suc n) (b ∷ t) = first_row (b ∷ t) ∷ rows_within n (after_row (b ∷ t))

unfoldable pub rows : List ℕ → List (List ℕ)
rows t = rows_within (length t) t

-- "a stray CR or LF"
unfoldable pub stray : List ℕ → Bool
stray row = some (λ b. eqb b cr || eqb b lf) row

-- where a field stands in its row
pub record Part : Type 0 where
  pub start : ℕ
  pub size : ℕ

-- "A field is the bytes between commas": at is the place of the next byte, start that of the field's first
unfoldable pub parts_from : ℕ → ℕ → List ℕ → List Part
parts_from start at [] = record { start = start; size = at - start } ∷ []
parts_from start at (b ∷ r) =
    elim (eqb b comma) [
      | true ↦ record { start = start; size = at - start } ∷ parts_from (at + 1) (at + 1) r
      | false ↦ parts_from start (at + 1) r
    ]

unfoldable pub parts : List ℕ → List Part
parts row = parts_from 0 0 row

unfoldable pub part_of : List ℕ → Part → List ℕ
part_of row p = take p.size (drop p.start row)

-- the fields of a row, and one of them: field 0 is the first; where there is none, nothing
unfoldable pub fields : List ℕ → List (List ℕ)
fields row = list.map (part_of row) (parts row)

unfoldable pub field : List ℕ → ℕ → List ℕ
field row k = get_or (fields row) k []

-- digits read as a decimal number, after what was read before
unfoldable pub decimal_from : ℕ → List ℕ → ℕ
decimal_from n [] = n
decimal_from n (b ∷ t) = decimal_from (n * 10 + (b - zero_byte)) t

-- "decimal without leading zero", 1 to the largest value: the value of a field, or 0 where it is none
unfoldable pub value_of : List ℕ → ℕ
value_of [] = 0
value_of (b ∷ t) =
    cond (every is_digit (b ∷ t) && not (eqb b zero_byte) && leb (decimal_from 0 (b ∷ t)) largest_value)
    (decimal_from 0 (b ∷ t))
    0
