-- What the fields of a log row say, as the code holds it. Document 01, "Log rows and the run".
-- Assumes nothing.
use Rattle.std.specs.Prelude.{ℕ, Bool, cond, ◌||◌, Option, Some, None, List, eqb}
use Rattle.document.specs.Lists.{some}
use Rattle.document.specs.Classes.{cr, lf, quote}
use Rattle.document.specs.Log.{is_bad_value, values_of}

-- "a CR, LF or quote"
abbrev pub is_barred : ℕ → Bool
is_barred b = eqb b cr || eqb b lf || eqb b quote

-- the values of a row's fields after the first; none where one of them is neither empty nor a value
unfoldable pub values_said : List (List ℕ) → Option (List ℕ)
values_said fs = cond (some is_bad_value fs) None (Some (values_of fs))
