-- Document 01, "Log rows and the run": one row into a session (refusals 18 to 21), the reader's rows, and the run over a
-- log held in memory.
-- Assumes nothing.
use Rattle.std.specs.Prelude.{ℕ, zero, suc, ◌+◌, ◌-◌, ◌*◌, Bool, true, false, not, cond, ◌&&◌, ◌||◌, List, [], ◌++◌, length, get_or, take, drop, replicate, leb, ltb, eqb}
use mathlib.Core.List as list
use Rattle.document.specs.Lists.{some, every_below, equal, place_of}
use Rattle.document.specs.Limits.{width, row_bytes, report_stride}
use Rattle.document.specs.Refusals.{badProperty, badSession, badRow, unknownEvent, badValue, wrongFields, offsetPastLog, tableDiffers, Answer, taken, refused, refuse_if, and_then}
use Rattle.document.specs.Classes.{cr, lf, quote}
use Rattle.document.specs.Rows.{first_row, after_row, rows, fields, value_of}
use Rattle.document.specs.Declarations.{Declared, declarations}
use Rattle.document.specs.Property.{Property, in_range, set_of}
use Rattle.document.specs.Combinations.{binds_exactly}
use Rattle.document.specs.Session.{Session, Happened, sound, step_from}

-- an event and the combination that its fields say
pub record RowEvent : Type 0 where
  pub event : ℕ
  pub values : List ℕ

-- "neither empty nor a value"
unfoldable pub is_bad_value : List ℕ → Bool
is_bad_value f = not (equal f []) && eqb (value_of f) 0

-- the values of a row's fields, 0 where a field is empty and past the parameters
unfoldable pub values_of : List (List ℕ) → List ℕ
values_of fs = take width (list.map value_of fs ++ replicate width 0)

-- 18, 19, 20, 21
unfoldable pub row_event : Declared → List ℕ → Answer RowEvent
row_event d row =
    let name = get_or (fields row) 0 [] in
    let values = drop 1 (fields row) in
    let e = place_of name d.events in
    refuse_if (ltb row_bytes (length row) || some (λ b. eqb b cr || eqb b lf || eqb b quote) row
    || not (eqb (length values) (length d.parameters))) badRow
    (refuse_if (leb (length d.events) e) unknownEvent
    (refuse_if (some is_bad_value values) badValue
    (refuse_if (not (binds_exactly (get_or d.sets e 0) (values_of values))) wrongFields
    (taken (record { event = e; values = values_of values })))))

-- one row into a session that was judged before: 18 to 21, then 15 to 17
unfoldable pub step_row : ℕ → Declared → Property → Session → List ℕ → List ℕ → Answer Happened
step_row from d p s reports row = and_then (row_event d row) (λ v. step_from from p s reports v.event v.values)

-- "declarations and property table differ in counts or sets"
unfoldable pub agrees : Declared → Property → Bool
agrees d p =
    eqb p.parameters (length d.parameters) && eqb p.events (length d.events)
    && every_below p.events (λ e. eqb (set_of p e) (get_or d.sets e 0))

-- what row and run judge first: 1 to 5, 11, 25, 12
unfoldable pub judged : List ℕ → Property → Session → Answer Declared
judged text p s =
    and_then (declarations text) (λ d.
    refuse_if (not (in_range p)) badProperty
    (refuse_if (not (agrees d p)) tableDiffers
    (refuse_if (not (sound p s)) badSession
    (taken d))))

-- the call for one row
unfoldable pub row : List ℕ → Property → Session → List ℕ → List ℕ → Answer Happened
row text p s reports bytes = and_then (judged text p s) (λ d. step_row 0 d p s reports bytes)

-- the reader over a log: the row at a position, and the position after it
unfoldable pub row_at : List ℕ → ℕ → List ℕ
row_at log at = first_row (drop at log)

unfoldable pub next_at : List ℕ → ℕ → ℕ
next_at log at = length log - length (after_row (drop at log))

-- "hands out its rows one after another": at the log's end, and past it, there is none
pub data Handed : Type 0 where
  handed : List ℕ → ℕ → Handed
  no_row : Handed

unfoldable pub hands_out : List ℕ → ℕ → Handed
hands_out log at = cond (leb (length log) at) no_row (handed (row_at log at) (next_at log at))

-- the rows of a log between two offsets
unfoldable pub rows_between : List ℕ → ℕ → ℕ → ℕ
rows_between log from to = length (rows (take (to - from) (drop from log)))

-- what the run answers: rows taken, next offset, what it leaves and its reports, and the refusal that stopped it
-- (`taken tt` where none did)
pub record Ran : Type 0 where
  pub taken : ℕ
  pub next : ℕ
  pub happened : Happened
  pub stop : Answer (Unit {0})

unfoldable pub ran_to : ℕ → ℕ → Session → List ℕ → ℕ → Answer (Unit {0}) → Ran
ran_to rows at s reports count stop =
    record { taken = rows; next = at; happened = record { session = s; reports = reports; reported = count }; stop = stop }

-- At most `budget` rows more, after `rows` rows and `count` reports. "It stops short of that many only at the log's end or
-- before the first row that is refused, and gives that refusal beside these counts; what earlier rows did stands."
unfoldable pub run_from : ℕ → Declared → Property → List ℕ → ℕ → ℕ → Session → List ℕ → ℕ → Ran
run_from zero d p log rows at s reports count = ran_to rows at s reports count (taken tt)
run_from (suc budget) d p log rows at s reports count =
    elim (leb (length log) at) [
      | true ↦ ran_to rows at s reports count (taken tt)
      | false ↦ elim (step_row (count * report_stride) d p s reports (row_at log at)) [
        | refused r o ↦ ran_to rows at s reports count (refused r o)
        | taken h ↦ run_from budget d p log (rows + 1) (next_at log at) h.session h.reports (count + h.reported)
      ]
    ]

-- the call: 1 to 5, 11, 25, 12, 24, then rows from the offset on. Refused, it takes no row.
unfoldable pub run : List ℕ → Property → Session → List ℕ → List ℕ → ℕ → ℕ → Ran
run text p s reports log at budget =
    elim (and_then (judged text p s) (λ d. refuse_if (ltb (length log) at) offsetPastLog (taken d))) [
      | refused r o ↦ ran_to 0 at s reports 0 (refused r o)
      | taken d ↦ run_from budget d p log 0 at s reports 0
    ]
