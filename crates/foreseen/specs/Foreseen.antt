-- What an event comes to, before anything is written, as counts: what each kept row adds, the rows of both tables after the
-- event, its reports, and the refusal for want of room.
-- Assumes nothing.
use Rattle.std.specs.Prelude.{ℕ, ◌+◌, Bool, not, ◌&&◌, cond, List, length, drop, ltb, Result, Ok, Err}
use Rattle.document.specs.Limits.{width}
use Rattle.document.specs.Combinations.{includes}
use Rattle.document.specs.OneEvent.{Kept, moves, moved_from, kept_after, reports_after}
use Rattle.document.specs.Tables.{seen_rows, kept_rows, seen_room, kept_room, report_room}
use Rattle.document.specs.Session.{Outcome}
use Rattle.refusals.specs.declared.Refusal.{Refusal}
use Rattle.refusals.specs.declared.Refusal.TheVariants.{NoRoomForSeen, NoRoomForKept, NoRoomForReports}
use Rattle.moves.specs.Steps.{one, is_new, step_of, state_in, outcome_by}
use Rattle.foreseen.specs.declared.Weight.{Weight}
use Rattle.foreseen.specs.declared.Foreseen.{Foreseen}
use Rattle.foreseen.specs.declared.Crowded.{Crowded}

-- what a row adds to the kept rows after the event, and to its reports
unfoldable pub weight_of : List ℕ → ℕ → ℕ → ℕ → List ℕ → List (List ℕ) → Kept → Weight
weight_of next hopes asks e b seen k = record {
  kept = one (moves width (step_of next) e b seen k && state_in hopes (moved_from width (step_of next) e b seen k)) + one (not (includes k.combination b));
  reported = one (moves width (step_of next) e b seen k && state_in asks (moved_from width (step_of next) e b seen k));
}

-- the kept rows after an event and its reports, counted
unfoldable pub tally_of : List ℕ → ℕ → ℕ → ℕ → List ℕ → List (List ℕ) → List Kept → Weight
tally_of next hopes asks e b seen l = record {
  kept = length (kept_after width (step_of next) e b seen (state_in hopes) l);
  reported = length (reports_after width (step_of next) e b seen (state_in asks) l);
}

-- rows that exceed their room, in the order of 15, 16, 17; or nothing
unfoldable pub room_refusal : ℕ → ℕ → ℕ → ℕ → ℕ → ℕ → Result (Unit {0}) Refusal
room_refusal seen_rows seen_room kept_rows kept_room reports report_room =
    cond (ltb seen_room seen_rows) (Err NoRoomForSeen)
    (cond (ltb kept_room kept_rows) (Err NoRoomForKept)
    (cond (ltb report_room reports) (Err NoRoomForReports) (Ok tt)))

abbrev pub unless_refused : Result (Unit {0}) Refusal → Foreseen → Result Foreseen Crowded
unless_refused (Ok u) f = Ok f
unless_refused (Err r) f = Err (record { refusal = r; outcome = f })

-- an outcome, counted, whatever room there is
unfoldable pub comes_to : List ℕ → ℕ → ℕ → ℕ → ℕ → List ℕ → List ℕ → ℕ → List ℕ → Foreseen
comes_to next hopes asks n m seen kept e b =
    let o = outcome_by next hopes asks (seen_rows n seen) (kept_rows m kept) e b in
    record { seen = length o.seen; kept = length o.kept; reported = length o.rows; fresh = is_new b (seen_rows n seen) }

-- an outcome, counted; with the refusal beside it where there is no room for it
unfoldable pub counted : ℕ → List ℕ → List ℕ → List ℕ → Bool → Outcome → Result Foreseen Crowded
counted from seen kept reports fresh o =
    unless_refused (room_refusal (length o.seen) (seen_room seen) (length o.kept) (kept_room kept) (length o.rows) (report_room (drop from reports)))
    (record { seen = length o.seen; kept = length o.kept; reported = length o.rows; fresh = fresh })

unfoldable pub foreseen_of : List ℕ → ℕ → ℕ → ℕ → ℕ → ℕ → List ℕ → List ℕ → List ℕ → ℕ → List ℕ → Result Foreseen Crowded
foreseen_of next hopes asks from n m seen kept reports e b =
    counted from seen kept reports (is_new b (seen_rows n seen)) (outcome_by next hopes asks (seen_rows n seen) (kept_rows m kept) e b)
