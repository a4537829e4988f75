-- The lines of one row: the room that they ask, and what is written by what the row's step answered.
-- Assumes nothing.
use Rattle.std.specs.Prelude.{ℕ, ◌+◌, ◌*◌, ◌^◌, ◌≤◌, Bool, cond, ◌&&◌, List, length, eqb, leb, ltb}
use Rattle.lineparts.specs.Lines.{most_line, refused_number_line}
use Rattle.document.specs.Limits.{width, report_stride}
use Rattle.document.specs.Printing.{report_lines}
use Rattle.steps.specs.declared.Answered.{Answered}

-- lines that a row can have at most: an event reports at most as many rows as are kept, and a refused row has one line
unfoldable pub most_lines : ℕ → ℕ
most_lines kept = cond (eqb kept 0) 1 kept

-- the next row's lines are sure to fit in what is left of the room, and the number after its own is one of 64 bits
unfoldable pub fits_row : ℕ → ℕ → ℕ → ℕ → Bool
fits_row room filled kept number = ltb (number + 1) (2 ^ 64) && leb (filled + most_lines kept * most_line) room

-- the lines of row n by what its step answered
unfoldable pub answer_text : ℕ → ℕ → List ℕ → Answered → List ℕ
answer_text parameters n reports a =
    cond (eqb a.refusal 0) (report_lines parameters n a.reported reports) (refused_number_line parameters n a.refusal)

-- a row's lines fit in the text, and its reports lie in the numbers lent
pub record TextFits (at parameters : ℕ) (text reports : List ℕ) (a : Answered) : Type 0 where
  pub few : parameters ≤ width
  pub line : at + most_line ≤ length text
  pub lines : at + a.reported * most_line ≤ length text
  pub inside : a.reported * report_stride ≤ length reports
