-- Document 01, "The program and its example": the lines as the code writes them, over the numbers that it holds, and how long
-- they can be.
-- Assumes nothing.
use Rattle.std.specs.Prelude.{ℕ, ◌+◌, ◌*◌, List, [], ◌∷◌, ◌++◌, length, replicate}
use mathlib.Core.List as list
use Rattle.document.specs.Limits.{width, name_bytes}
use Rattle.document.specs.Classes.{match_word}
use Rattle.document.specs.Refusals.{Answer, taken, refused}
use Rattle.document.specs.Declarations.{Declared}
use Rattle.document.specs.Printing.{decimal, line_end, row_word, verdict_word, refused_word, value_text, with_commas, line}
use Rattle.decimals.specs.Decimals.{most_digits, value_digits, refusal_digits}

-- values, each with its comma
unfoldable pub values_text : List ℕ → List ℕ
values_text values = with_commas (list.map value_text values)

-- a refusal by its number: `refused_text` and `refused_line` of each refusal are these of its number
unfoldable pub refused_number_text : ℕ → List ℕ
refused_number_text q = refused_word ++ decimal q

unfoldable pub refused_number_line : ℕ → ℕ → ℕ → List ℕ
refused_number_line m n q = line (decimal n) (refused_number_text q ∷ replicate m [])

-- the parameter names of declarations that are taken, each with its comma; the heading: "`row,verdict` and the parameter names"
unfoldable pub names_of : Answer Declared → List ℕ
names_of (taken d) = with_commas d.parameters
names_of (refused q at) = []

unfoldable pub heading_of : Answer Declared → List ℕ
heading_of (taken d) = line row_word (verdict_word ∷ d.parameters)
heading_of (refused q at) = []

-- How long: a value with its comma, all values, a verdict with its comma, `refused` with its number, a line end, all names
-- with their commas.
abbrev pub most_value : ℕ
most_value = 1 + value_digits

abbrev pub most_values : ℕ
most_values = width * most_value

abbrev pub most_verdict : ℕ
most_verdict = 1 + length match_word

abbrev pub most_refused : ℕ
most_refused = length refused_word + refusal_digits

abbrev pub line_end_bytes : ℕ
line_end_bytes = length line_end

abbrev pub most_names : ℕ
most_names = width * (1 + name_bytes)

-- a line under the heading, of a report or a refused row; the line of a refused call; the heading
abbrev pub most_line : ℕ
most_line = most_digits + most_verdict + most_values + line_end_bytes

abbrev pub most_refusal : ℕ
most_refusal = most_refused + line_end_bytes

abbrev pub most_heading : ℕ
most_heading = length row_word + (1 + length verdict_word) + most_names + line_end_bytes
