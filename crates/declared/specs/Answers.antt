-- What the calls over declarations answer, by the definitions of document 01, "The declarations".
-- Assumes nothing.
use Rattle.std.specs.Prelude.{ℕ, cond, List, [], length, ltb}
use Rattle.document.specs.Refusals.{Answer, taken, refused, number}
use Rattle.document.specs.Declarations.{Declared, declarations}
use Rattle.readings.specs.Readings.{padded, row_start}
use Rattle.declared.specs.declared.Declared.{Declared as Judged}

-- what `declarations` answers: the counts and the sets of declarations that are taken; of others, the refusal's number
unfoldable pub declared_of : Answer Declared → Judged
declared_of (taken d) = record { refusal = 0; parameters = length d.parameters; events = length d.events; sets = padded d.sets }
declared_of (refused q at) = record { refusal = number q; parameters = 0; events = 0; sets = padded [] }

-- where an event's name stands in its declarations: where its row begins; where there is no such name, the start
unfoldable pub name_start : Answer Declared → List ℕ → ℕ → ℕ
name_start (taken d) text e = cond (ltb e (length d.events)) (row_start text e) 0
name_start (refused q at) text e = 0

unfoldable pub event_start : List ℕ → ℕ → ℕ
event_start text e = name_start (declarations text) text e
