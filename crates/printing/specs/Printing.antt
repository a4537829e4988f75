-- Document 01, "The program and its example": the call that prints a part of a log held in memory into a lent text. It goes on
-- only while the next row's lines are sure to fit, and says from where the next call goes on.
-- Assumes nothing.
use Rattle.std.specs.Prelude.{ℕ, zero, suc, ◌+◌, true, false, not, ◌&&◌, List, length, leb, ltb}
use Rattle.document.specs.Refusals.{offsetPastLog, Answer, taken, refused, refuse_if, and_then}
use Rattle.document.specs.Declarations.{Declared}
use Rattle.document.specs.Property.{Property}
use Rattle.document.specs.Session.{Session, leaves}
use Rattle.document.specs.Log.{step_row, row_at, next_at, judged}
use Rattle.runs.specs.PrintPart.{row_text, PrintedTo, nothing_printed, lines_first}
use Rattle.rowlines.specs.RowLines.{fits_row}

-- rows from the offset `at` on, the first of them numbered n, with so many bytes of the room filled: up to the log's end, or
-- before a row whose lines might not fit. There are no more rows than the log has bytes, so that is turns enough.
unfoldable pub print_rows : ℕ → Declared → Property → List ℕ → ℕ → ℕ → Session → List ℕ → ℕ → ℕ → PrintedTo
print_rows zero d p log at n s reports room filled = nothing_printed at n s reports
print_rows (suc turns) d p log at n s reports room filled =
    elim (not (leb (length log) at) && fits_row room filled s.kept_count n) [
      | false ↦ nothing_printed at n s reports
      | true ↦
          let a = step_row 0 d p s reports (row_at log at) in
          let h = leaves s reports a in
          lines_first (row_text p n a)
          (print_rows turns d p log (next_at log at) (n + 1) h.session h.reports room (filled + length (row_text p n a)))
    ]

-- the call: 1 to 5, 11, 25, 12, 24, then rows from the offset on
unfoldable pub print_call : List ℕ → Property → Session → List ℕ → List ℕ → ℕ → ℕ → ℕ → Answer PrintedTo
print_call text p s reports log at n room =
    and_then (judged text p s) (λ d.
    refuse_if (ltb (length log) at) offsetPastLog
    (taken (print_rows (length log) d p log at n s reports room 0)))

-- where it comes to: refused, it prints nothing and stays where it was
unfoldable pub prints_to : ℕ → ℕ → Session → List ℕ → Answer PrintedTo → PrintedTo
prints_to at n s reports (taken x) = x
prints_to at n s reports (refused q o) = nothing_printed at n s reports
