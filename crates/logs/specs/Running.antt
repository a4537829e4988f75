-- The run over a log held in memory, on the way.
-- Assumes nothing.
use Rattle.std.specs.Prelude.{ℕ, ◌-◌, ◌*◌, ◌≤◌, ◌≡◌, true, List, length}
use Rattle.document.specs.Limits.{report_stride}
use Rattle.document.specs.Declarations.{Declared}
use Rattle.document.specs.Property.{Property}
use Rattle.document.specs.Session.{Session, sound}
use Rattle.document.specs.Log.{step_row, row_at, Ran, run_from}
use Rattle.judge.specs.Sound.{session_of}
use Rattle.turns.specs.declared.Ran.{Ran as Answered}
use Rattle.turns.specs.Turns.{took}

-- one row more of the document
unfoldable pub turn : Declared → Property → List ℕ → ℕ → ℕ → Session → List ℕ → ℕ → Ran
turn d p log rows at s reports count = took log rows at s reports count (step_row (count * report_stride) d p s reports (row_at log at))

-- a run on the way: what is left to do from here answers what the whole run answers
pub record Going (d : Declared) (p : Property) (log : List ℕ) (budget : ℕ) (whole : Ran) (r : Answered) (seen kept reports : List ℕ) : Type 0 where
  pub none : r.refusal ≡ 0
  pub few : r.taken ≤ budget
  pub fits : r.reported * report_stride ≤ length reports
  pub sound : sound p (session_of r.seen r.kept seen kept) ≡ true
  pub left : run_from (budget - r.taken) d p log r.taken r.next (session_of r.seen r.kept seen kept) reports r.reported ≡ whole
