-- What one row printed leaves, as the code's values.
-- Assumes nothing.
use Rattle.std.specs.Prelude.{ℕ, ◌+◌, ◌*◌, ◌^◌, ◌<◌, ◌≤◌, ◌≡◌, List, length}
use Rattle.document.specs.Refusals.{Answer, taken, refused}
use Rattle.document.specs.Session.{Happened, leaves}
use Rattle.document.specs.Log.{next_at}
use Rattle.document.specs.Printing.{report_lines, refused_line}
use Rattle.judge.specs.Sound.{session_of}
use Rattle.decimals.specs.Written.{Written}
use Rattle.lineparts.specs.Lines.{most_line}
use Rattle.rowlines.specs.RowLines.{most_lines}
use Rattle.printrow.specs.declared.Printed.{Printed}

-- the lines of row n by what its step answered
abbrev pub row_text_by : ℕ → ℕ → Answer Happened → List ℕ
row_text_by parameters n (taken h) = report_lines parameters n h.reported h.reports
row_text_by parameters n (refused q o) = refused_line parameters n q

-- one row more can be printed: there is one, its lines fit, and a number can follow its own
pub record RowFits (r : Printed) (log text : List ℕ) : Type 0 where
  pub row : r.next < length log
  pub fits : r.filled + most_lines r.kept * most_line ≤ length text
  pub few : r.number + 1 < 2 ^ 64

-- what one row leaves, by what its step answered
pub record RowPrinted (a : Answer Happened) (parameters : ℕ) (log seen kept reports text : List ℕ) (r r' : Printed) (seen' kept' reports' text' : List ℕ) : Type 0 where
  pub none : r'.refusal ≡ 0
  pub next : r'.next ≡ next_at log r.next
  pub number : r'.number ≡ r.number + 1
  pub session : session_of r'.seen r'.kept seen' kept' ≡ (leaves (session_of r.seen r.kept seen kept) reports a).session
  pub reports_left : reports' ≡ (leaves (session_of r.seen r.kept seen kept) reports a).reports
  pub written : Written r.filled (length (row_text_by parameters r.number a)) (row_text_by parameters r.number a) text text' r'.filled
