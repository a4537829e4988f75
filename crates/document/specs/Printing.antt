-- Document 01, "The program and its example": the bytes that the watch program prints for its three files.
-- Assumes nothing.
use Rattle.std.specs.Prelude.{ℕ, zero, suc, ◌+◌, ◌*◌, ◌/◌, ◌%◌, true, false, cond, List, [], ◌∷◌, ◌++◌, get_or, take, drop, replicate, ltb, eqb}
use mathlib.Core.List as list
use Rattle.document.specs.Bytes.{bytes}
use Rattle.document.specs.Lists.{joined_up}
use Rattle.document.specs.Limits.{most_seen, most_kept, seen_stride, kept_stride, report_stride, program_reports, width}
use Rattle.document.specs.Refusals.{Refusal, number, Answer, taken, refused, and_then}
use Rattle.document.specs.Classes.{cr, lf, comma, zero_byte, match_word, fail_word}
use Rattle.document.specs.Rows.{first_row, after_row, rows}
use Rattle.document.specs.Declarations.{Declared, declarations, header}
use Rattle.document.specs.Patterns.{match}
use Rattle.document.specs.Property.{Property}
use Rattle.document.specs.Translate.{translate}
use Rattle.document.specs.Session.{Session, start}
use Rattle.document.specs.Log.{step_row}

-- a number in decimal, of at most n digits more
unfoldable pub digits : ℕ → ℕ → List ℕ
digits zero k = []
digits (suc n) k = elim (ltb k 10) [ true ↦ (zero_byte + k) ∷ [] | false ↦ digits n (k / 10) ++ ((zero_byte + k % 10) ∷ []) ]

-- no number has more digits than it counts
unfoldable pub decimal : ℕ → List ℕ
decimal k = digits (suc k) k

abbrev pub line_end : List ℕ
line_end = cr ∷ lf ∷ []

abbrev pub row_word : List ℕ
row_word = bytes "row"

abbrev pub verdict_word : List ℕ
verdict_word = bytes "verdict"

abbrev pub refused_word : List ℕ
refused_word = bytes "refused "

-- "`match` or `fail`"
unfoldable pub word_of : ℕ → List ℕ
word_of v = cond (eqb v match) match_word fail_word

-- "`refused`, a space and the number"
unfoldable pub refused_text : Refusal → List ℕ
refused_text r = refused_word ++ decimal (number r)

-- the fields after the first, each with its comma
unfoldable pub with_commas : List (List ℕ) → List ℕ
with_commas fs = joined_up (list.map (λ f. comma ∷ f) fs)

-- "the values (empty where unbound)"
unfoldable pub value_text : ℕ → List ℕ
value_text x = cond (eqb x 0) [] (decimal x)

unfoldable pub line : List ℕ → List (List ℕ) → List ℕ
line first fs = first ++ with_commas fs ++ line_end

-- the line of a report of row n: verdict and values of a property with m parameters
unfoldable pub report_line : ℕ → ℕ → List ℕ → List ℕ
report_line m n numbers = line (decimal n) (word_of (get_or numbers width 0) ∷ list.map value_text (take m numbers))

-- k reports from the lent report numbers
unfoldable pub report_lines : ℕ → ℕ → ℕ → List ℕ → List ℕ
report_lines m n zero numbers = []
report_lines m n (suc k) numbers = report_line m n (take report_stride numbers) ++ report_lines m n k (drop report_stride numbers)

-- "A refused row prints, as `refused 19`, its number in the verdict's place with empty values, and is skipped"
unfoldable pub refused_line : ℕ → ℕ → Refusal → List ℕ
refused_line m n r = line (decimal n) (refused_text r ∷ replicate m [])

-- the lines of the rows from number n on; each row has the whole report room. The session was started and only stepped, so
-- it needs no judging again.
unfoldable pub row_lines : Declared → Property → ℕ → Session → List ℕ → List (List ℕ) → List ℕ
row_lines d p n s reports [] = []
row_lines d p n s reports (bytes ∷ more) =
    elim (step_row 0 d p s reports bytes) [
      | refused r o ↦ refused_line p.parameters n r ++ row_lines d p (n + 1) s reports more
      | taken h ↦ report_lines p.parameters n h.reported h.reports ++ row_lines d p (n + 1) h.session h.reports more
    ]

-- "If the declarations, the pattern or the header is refused, the only line is `refused`, a space and the number."
unfoldable pub printed : Answer (List ℕ) → List ℕ
printed (taken text) = text
printed (refused r o) = refused_text r ++ line_end

-- the program's rooms, cleared
unfoldable pub program_session : Property → Answer Session
program_session p = start p (replicate (most_seen * seen_stride) 0) (replicate (most_kept * kept_stride) 0)

-- "It prints CSV under `row,verdict` and the parameter names"
unfoldable pub output : List ℕ → List ℕ → List ℕ → List ℕ
output events pattern log =
    printed (and_then (translate events pattern) (λ p.
    and_then (declarations events) (λ d.
    and_then (header events (first_row log)) (λ u.
    and_then (program_session p) (λ s.
    taken (line row_word (verdict_word ∷ d.parameters)
    ++ row_lines d p 1 s (replicate (program_reports * report_stride) 0) (rows (after_row log))))))))
