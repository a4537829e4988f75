-- One row of a run over a log held in memory, as the code takes it: from what the call goes by; and what the run
-- answers, as the code's values.
-- Assumes nothing.
use Rattle.std.specs.Prelude.{ℕ, ◌+◌, ◌*◌, ◌^◌, ◌<◌, ◌≤◌, ◌≡◌, List, length}
use Rattle.document.specs.Limits.{report_stride}
use Rattle.document.specs.Refusals.{Answer, taken, refused, refusal_of}
use Rattle.document.specs.Session.{Session, Happened}
use Rattle.document.specs.Log.{row_at, next_at, Ran, ran_to}
use Rattle.judging.specs.declared.Judged.{Judged}
use Rattle.turns.specs.Stepping.{row_step_by}
use Rattle.turns.specs.declared.Ran.{Ran as Answered}

-- What the run answers: its counts, and every lent number afterwards -----------------------------------------------------

unfoldable pub ran_of : Ran → Answered
ran_of x = record {
  refusal = refusal_of x.stop;
  taken = x.taken;
  next = x.next;
  seen = x.happened.session.seen_count;
  kept = x.happened.session.kept_count;
  reported = x.happened.reported;
}

pub record RunLeaves (x : Ran) (r : Answered) (seen kept reports : List ℕ) : Type 0 where
  pub says : r ≡ ran_of x
  pub seen_left : seen ≡ x.happened.session.seen
  pub kept_left : kept ≡ x.happened.session.kept
  pub reports_left : reports ≡ x.happened.reports

-- One row more ---------------------------------------------------------------------------------------------------------

-- taken, or the refusal that stops the run before it
unfoldable pub took : List ℕ → ℕ → ℕ → Session → List ℕ → ℕ → Answer Happened → Ran
took log rows at s reports count (refused q o) = ran_to rows at s reports count (refused q o)
took log rows at s reports count (taken h) = ran_to (rows + 1) (next_at log at) h.session h.reports (count + h.reported) (taken tt)

unfoldable pub turn_by : Judged → List ℕ → ℕ → ℕ → Session → List ℕ → ℕ → Ran
turn_by c log rows at s reports count = took log rows at s reports count (row_step_by c (count * report_stride) s reports (row_at log at))

-- a row can be taken: the reports so far lie in the numbers lent, there is a row, and one more can be counted
pub record Onward (r : Answered) (log reports : List ℕ) : Type 0 where
  pub lent : length reports < 2 ^ 64
  pub fits : r.reported * report_stride ≤ length reports
  pub row : r.next < length log
  pub few : r.taken + 1 < 2 ^ 64
