-- Document 01, "The program and its example": printing a part of a log held in memory, from an offset, at most so many rows.
-- What the program prints of a log is the lines of its rows (`row_lines`); a part is printed by the same rules, row by row,
-- each row with the whole report room, and says from where the next part goes on.
-- Assumes nothing.
use Rattle.std.specs.Prelude.{ℕ, zero, suc, ◌+◌, ◌*◌, true, false, List, [], ◌∷◌, ◌++◌, length, replicate, leb}
use Rattle.document.specs.Limits.{report_stride, program_reports}
use Rattle.document.specs.Refusals.{Answer, taken, refused}
use Rattle.document.specs.Declarations.{Declared}
use Rattle.document.specs.Property.{Property}
use Rattle.document.specs.Session.{Session, Happened, leaves}
use Rattle.document.specs.Log.{step_row, row_at, next_at}
use Rattle.document.specs.Printing.{report_lines, refused_line}

-- what row n prints: a line for each report, or the refusal's
abbrev pub row_text : Property → ℕ → Answer Happened → List ℕ
row_text p n (taken h) = report_lines p.parameters n h.reported h.reports
row_text p n (refused r o) = refused_line p.parameters n r

-- the rows of a list one after another, refused ones skipped: the session and the report numbers that they leave, and how many
-- reports they made in all
unfoldable pub after_rows : Declared → Property → Session → List ℕ → List (List ℕ) → Happened
after_rows d p s reports [] = record { session = s; reports = reports; reported = 0 }
after_rows d p s reports (bytes ∷ more) =
    let h = leaves s reports (step_row 0 d p s reports bytes) in
    let rest = after_rows d p h.session h.reports more in
    record { session = rest.session; reports = rest.reports; reported = h.reported + rest.reported }

-- the report numbers of the program, cleared
unfoldable pub program_numbers : List ℕ
program_numbers = replicate (program_reports * report_stride) 0

-- what printing a part answers: the lines, the offset and the number of the row that comes next, and what is left for it
pub record PrintedTo : Type 0 where
  pub lines : List ℕ
  pub next : ℕ
  pub number : ℕ
  pub session : Session
  pub reports : List ℕ

abbrev pub nothing_printed : ℕ → ℕ → Session → List ℕ → PrintedTo
nothing_printed at n s reports = record { lines = []; next = at; number = n; session = s; reports = reports }

-- the same, with lines in front
abbrev pub lines_first : List ℕ → PrintedTo → PrintedTo
lines_first text r = record {
  lines = text ++ r.lines;
  next = r.next;
  number = r.number;
  session = r.session;
  reports = r.reports;
}

-- at most `budget` rows from the offset `at` on, the first of them numbered n; it stops short of that many only at the log's
-- end
unfoldable pub print_from : ℕ → Declared → Property → List ℕ → ℕ → ℕ → Session → List ℕ → PrintedTo
print_from zero d p log at n s reports = nothing_printed at n s reports
print_from (suc budget) d p log at n s reports =
    elim (leb (length log) at) [
      | true ↦ nothing_printed at n s reports
      | false ↦
          let a = step_row 0 d p s reports (row_at log at) in
          let h = leaves s reports a in
          lines_first (row_text p n a) (print_from budget d p log (next_at log at) (n + 1) h.session h.reports)
    ]
