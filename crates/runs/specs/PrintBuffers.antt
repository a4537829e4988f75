-- The program reads a log through one buffer: what it prints does not depend on how the log falls into buffers. A row whose
-- line end is held is printed as it stands; a row that is longer than a row may be is refused 18 before its end is held, and
-- its bytes are let go but for the last; at the end of the file nothing follows.
-- Assumes nothing.
use Rattle.std.specs.Prelude.{ℕ, ◌+◌, ◌<◌, ◌≡◌, List, [], ◌∷◌, ◌++◌, drop}
use Rattle.std.proofs.Math.Path.{ap}
use Rattle.std.proofs.Common.{◌∙◌, append-nil, lt-ltb}
use native.Mathlib.Omega.{arith}
use Rattle.std.proofs.Math.ListN.{length, length-append}
use Rattle.document.specs.Limits.{row_bytes}
use Rattle.document.specs.Refusals.{badRow, refused}
use Rattle.document.specs.Declarations.{Declared}
use Rattle.document.specs.Property.{Property}
use Rattle.document.specs.Classes.{cr, lf}
use Rattle.document.specs.Rows.{first_row, after_row, rows}
use Rattle.document.specs.Session.{Session, leaves}
use Rattle.document.specs.Log.{row_event, step_row}
use Rattle.document.specs.Printing.{line_end, refused_line, row_lines}
use Rattle.rows.specs.RunsOfRows.{rows-some}
use Rattle.rows.specs.BuffersOfRows.{Whole, whole-rows, Open, open_long, open_after, closed-rows}
use Rattle.runs.specs.RowEvents.{bytes_first}
use Rattle.runs.specs.PrintPart.{row_text, after_rows}
use Rattle.runs.specs.PrintLaws.{lines_row, lines_append}

-- a row of more bytes than a row may have is refused, whatever they are
pub long_row : (d : Declared) (bytes : List ℕ) → row_bytes < length bytes → row_event d bytes ≡ refused badRow 0
unfolding row_event
long_row d bytes h = rw (lt-ltb row_bytes (length bytes) h)

module _ (d : Declared) (p : Property) (n : ℕ) (s : Session) (reports held later : List ℕ) where
  -- the row is held with its line end
  pub print_whole : Whole held
      → let a = step_row 0 d p s reports (first_row held) in let h = leaves s reports a in
      row_lines d p n s reports (rows (held ++ later))
      ≡ row_text p n a ++ row_lines d p (n + 1) h.session h.reports (rows (after_row held ++ later))
  print_whole w =
      ap (row_lines d p n s reports) (whole-rows held later w)
      ∙ lines_row d p n s reports (first_row held) (rows (after_row held ++ later))

  -- no line end is held, and more bytes than a row may have, the last not counted, which may be the CR of its line end
  pub print_long : Open held → row_bytes + 1 < length held → (k : ℕ) → k < length held
      → row_lines d p n s reports (rows (held ++ later))
      ≡ refused_line p.parameters n badRow ++ row_lines d p (n + 1) s reports (rows (after_row (drop k held ++ later)))
  unfolding leaves
  print_long o l k m =
      let t = held ++ later in
      let some : 0 < length t = rw length-append (omega arith) in
      let long : row_bytes < length (first_row t) = let i = open_long held later o in omega arith in
      let e : step_row 0 d p s reports (first_row t) ≡ refused badRow 0 =
      bytes_first 0 d p s reports (first_row t) badRow 0 (long_row d (first_row t) long) in
      ap (row_lines d p n s reports) (rows-some t some)
      ∙ lines_row d p n s reports (first_row t) (rows (after_row t))
      ∙ rw (e, open_after k held later o m)

-- a part that ends with a line end: its rows are printed, and those of what follows go on from what they left
pub print_closed : (d : Declared) (p : Property) (n : ℕ) (s : Session) (reports held later : List ℕ)
    → let l = rows (held ++ line_end) in let x = after_rows d p s reports l in
    row_lines d p n s reports (rows (held ++ (cr ∷ lf ∷ later)))
    ≡ row_lines d p n s reports l ++ row_lines d p (n + length l) x.session x.reports (rows later)
print_closed d p n s reports held later =
    ap (row_lines d p n s reports) (closed-rows held later) ∙ lines_append d p n s reports (rows (held ++ line_end)) (rows later)

-- the end of the file: what is held is all there is
pub print_end : (d : Declared) (p : Property) (n : ℕ) (s : Session) (reports held : List ℕ)
    → row_lines d p n s reports (rows (held ++ [])) ≡ row_lines d p n s reports (rows held)
print_end d p n s reports held = rw (append-nil held)
