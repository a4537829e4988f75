-- What `split` answers: the fields of a row as the code holds them.
-- Assumes nothing.
use Rattle.std.specs.Prelude.{ℕ, suc, ◌+◌, ◌≤◌, ◌≡◌, true, false, cond, List, [], ◌∷◌, length, set, replicate, leb, eqb}
use Rattle.document.specs.Limits.{width}
use Rattle.document.specs.Classes.{comma}
use Rattle.document.specs.Rows.{Part, parts}
use Rattle.fields.specs.declared.Fields.{Fields}
use Rattle.fields.specs.declared.Part.{Part as Told}
use Rattle.fields.specs.Places.{place_at}

-- how many bytes stand before the first comma
unfoldable pub up_to_comma : List ℕ → ℕ
up_to_comma [] = 0
up_to_comma (b ∷ r) = elim (eqb b comma) [ true ↦ 0 | false ↦ suc (up_to_comma r) ]

-- how many fields a row of declarations or of a log can have: an event and a parameter each
abbrev pub most_fields : ℕ
most_fields = suc width

-- a part as the code holds it
abbrev pub as_told : Part → Told
as_told p = record { start = p.start; size = p.size }

-- the fields with one more: its place noted if it is one of the first five, and else only that there are too many
unfoldable pub added : Fields → Part → Fields
added f p =
    cond (leb most_fields f.count)
    (record { count = most_fields + 1; places = f.places })
    (record { count = f.count + 1; places = set f.places f.count (as_told p) })

unfoldable pub collected : Fields → List Part → Fields
collected f [] = f
collected f (p ∷ l) = collected (added f p) l

abbrev pub no_fields : Fields
no_fields = record { count = 0; places = replicate most_fields (record { start = 0; size = 0 }) }

-- f says where the fields of the row are; all of its places lie inside the row
pub record Split (row : List ℕ) (f : Fields) : Type 0 where
  pub is : f ≡ collected no_fields (parts row)
  pub inside : (k : ℕ) → (place_at f.places k).start + (place_at f.places k).size ≤ length row
