-- What printing answers and leaves, as the code's values: the whole call, and rows on the way.
-- Assumes nothing.
use Rattle.std.specs.Prelude.{ℕ, ◌-◌, ◌≤◌, ◌≡◌, true, List, ◌++◌, length, drop}
use Rattle.document.specs.Declarations.{Declared}
use Rattle.document.specs.Property.{Property}
use Rattle.document.specs.Session.{sound}
use Rattle.judge.specs.Sound.{session_of}
use Rattle.decimals.specs.Written.{Written}
use Rattle.runs.specs.PrintPart.{PrintedTo, lines_first}
use Rattle.printrow.specs.declared.Printed.{Printed}
use Rattle.printing.specs.Printing.{print_rows}

unfoldable pub printed_of : ℕ → PrintedTo → Printed
printed_of refusal x = record {
  refusal = refusal;
  next = x.next;
  number = x.number;
  seen = x.session.seen_count;
  kept = x.session.kept_count;
  filled = length x.lines;
}

-- what it says, and every lent number and byte afterwards: the lines stand from the text's start on, all else is as it was
pub record PrintLeaves (refusal : ℕ) (x : PrintedTo) (text : List ℕ) (r : Printed) (seen' kept' reports' text' : List ℕ) : Type 0 where
  pub says : r ≡ printed_of refusal x
  pub seen_left : seen' ≡ x.session.seen
  pub kept_left : kept' ≡ x.session.kept
  pub reports_left : reports' ≡ x.reports
  pub text_left : text' ≡ x.lines ++ drop (length x.lines) text
  pub fits : length x.lines ≤ length text

-- the lines so far stand, and what is left to do from here comes to what the whole comes to
pub record OnTheWay (d : Declared) (p : Property) (log : List ℕ) (whole : PrintedTo) (text₀ : List ℕ) (r : Printed) (seen kept reports text : List ℕ) : Type 0 where
  pub none : r.refusal ≡ 0
  pub sound : sound p (session_of r.seen r.kept seen kept) ≡ true
  pub lines : List ℕ
  pub written : Written 0 (length lines) lines text₀ text r.filled
  pub turns : ℕ
  pub enough : length log - r.next ≤ turns
  pub left : lines_first lines (print_rows turns d p log r.next r.number (session_of r.seen r.kept seen kept) reports (length text₀) r.filled) ≡ whole
