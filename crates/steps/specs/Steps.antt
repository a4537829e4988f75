-- What a step over a session answers and leaves, as the code's values: one definition maps document 01's answers to them.
-- The step is stated over what a run works out once (transitions, verdicts, and the sets of states that are hopeful and whose
-- verdict is asked for); with those of a property it is the document's `step_from`.
-- Assumes nothing.
use Rattle.std.specs.Prelude.{ℕ, ◌≡◌, List, ltb, length, drop}
use Rattle.document.specs.Refusals.{noRoomForSeen, noRoomForKept, noRoomForReports, Answer, taken, refuse_if, refusal_of}
use Rattle.document.specs.Tables.{seen_room, kept_room, report_room}
use Rattle.document.specs.Session.{Session, Happened, Outcome, seen_of, kept_of, leaves}
use Rattle.moves.specs.Steps.{outcome_by}
use Rattle.writing.specs.Writing.{written_by}
use Rattle.steps.specs.declared.Answered.{Answered}

unfoldable pub within_rooms_by : List ℕ → ℕ → Session → List ℕ → Outcome → Answer Happened
within_rooms_by verdicts from s reports o =
    refuse_if (ltb (seen_room s.seen) (length o.seen)) noRoomForSeen
    (refuse_if (ltb (kept_room s.kept) (length o.kept)) noRoomForKept
    (refuse_if (ltb (report_room (drop from reports)) (length o.rows)) noRoomForReports
    (taken (written_by verdicts from s reports o))))

unfoldable pub step_by : List ℕ → List ℕ → ℕ → ℕ → ℕ → Session → List ℕ → ℕ → List ℕ → Answer Happened
step_by next verdicts hopes asks from s reports e b =
    within_rooms_by verdicts from s reports (outcome_by next hopes asks (seen_of s) (kept_of s) e b)

-- The code's values ----------------------------------------------------------------------------------------------------

-- "A refusal gives its number, .. the session counts as given"
unfoldable pub answered : Session → List ℕ → Answer Happened → Answered
answered s reports a = record {
  refusal = refusal_of a;
  seen = (leaves s reports a).session.seen_count;
  kept = (leaves s reports a).session.kept_count;
  reported = (leaves s reports a).reported;
}

-- a call over a session that answers a: what it says, and every lent number afterwards
pub record Leaves (a : Answer Happened) (s : Session) (reports : List ℕ) (r : Answered) (seen' kept' reports' : List ℕ) : Type 0 where
  pub says : r ≡ answered s reports a
  pub seen_left : seen' ≡ (leaves s reports a).session.seen
  pub kept_left : kept' ≡ (leaves s reports a).session.kept
  pub reports_left : reports' ≡ (leaves s reports a).reports
