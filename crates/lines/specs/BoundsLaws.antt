-- How long lines can be: the bounds that one who lends the text counts with.
-- Assumes nothing.
use Rattle.std.specs.Prelude.{ℕ, zero, suc, ◌+◌, ◌-◌, ◌*◌, ◌/◌, ◌^◌, ◌≤◌, ◌<◌, ◌≡◌, false, List, [], ◌∷◌, length, get_or, take, drop, replicate, eqb, leb}
use Rattle.std.proofs.Common.{sym, ◌∙◌, inl, inr, arith, length-append, length-take, get_or-drop, le-leb, leb-true, leb-false}
use mathlib.Core.List as list
use Rattle.std.proofs.lemmas.List.{length-replicate}
use Rattle.std.proofs.lemmas.Bool.{lt-leb}
use Rattle.document.specs.Lists.{joined_up}
use Rattle.document.specs.Limits.{width, report_stride}
use Rattle.document.specs.Classes.{comma}
use Rattle.document.specs.Patterns.{match}
use Rattle.document.specs.Refusals.{Refusal, textTooLong, badShape, badName, nameTwice, overLimits, notOfGrammar, undeclaredEvent, tooManyNames, tooDeep, tooManyStates, badProperty, badSession, noSuchEvent, wrongValues, noRoomForSeen, noRoomForKept, noRoomForReports, badRow, unknownEvent, badValue, wrongFields, headerDiffers, badLookup, offsetPastLog, tableDiffers, number}
use Rattle.document.specs.Printing.{decimal, word_of, with_commas, value_text, line, report_line, report_lines, refused_line}
use Rattle.basics.specs.Tests.{decided}
use Rattle.decimals.specs.Decimals.{value_digits}
use Rattle.decimals.specs.DecimalsLaws.{decimal-usize, decimal_value, decimal_byte}
use Rattle.lineparts.specs.Lines.{refused_number_text, refused_number_line, most_value, most_line}
use Rattle.lineparts.specs.LinesLaws.{commas_are, refused_line_number}

-- Pieces ------------------------------------------------------------------------------------------------------------------

value_length : (x : ℕ) → x < 2 ^ 32 → length (value_text x) ≤ value_digits
unfolding value_text
value_length x h = elim (decided (eqb x 0)) [ inl e ↦ rw e (omega arith) | inr e ↦ rw e (decimal_value x h) ]

word_length : (v : ℕ) → length (word_of v) ≤ 5
unfolding word_of
word_length v = elim (decided (eqb v match)) [ inl e ↦ rw e (omega arith) | inr e ↦ rw e (omega arith) ]

values_length : (l : List ℕ) → ((k : ℕ) → get_or l k 0 < 2 ^ 32) → length (with_commas (list.map value_text l)) ≤ length l * most_value
unfolding with_commas joined_up
values_length [] h = omega arith
values_length (x ∷ l) h =
    let one = value_length x (h 0) in
    let more = values_length l (λ k. h (suc k)) in
    rw (length-append (comma ∷ value_text x) (with_commas (list.map value_text l))) (omega arith)

line-length : (first f : List ℕ) (fs : List (List ℕ)) → length (line first (f ∷ fs)) ≡ length first + (1 + length f + length (with_commas fs)) + 2
unfolding line with_commas joined_up
line-length first f fs = simp length-append (omega arith)

taken_small : (n : ℕ) (l : List ℕ) → ((k : ℕ) → get_or l k 0 < 2 ^ 32) → (k : ℕ) → get_or (take n l) k 0 < 2 ^ 32
taken_small zero l h k = omega arith
taken_small (suc n) [] h k = omega arith
taken_small (suc n) (x ∷ l) h zero = h 0
taken_small (suc n) (x ∷ l) h (suc k) = taken_small n l (λ j. h (suc j)) k

-- Lines -------------------------------------------------------------------------------------------------------------------

-- of a report, of k reports, of a refused row, for numbers of rows of 64 bits and values of 32
pub report_line_length : (m n : ℕ) (numbers : List ℕ) → m ≤ width → n < 2 ^ 64 → ((k : ℕ) → get_or numbers k 0 < 2 ^ 32)
    → length (report_line m n numbers) ≤ most_line
unfolding report_line
report_line_length m n numbers h b s =
    let values = list.map value_text (take m numbers) in
    let a = decimal-usize n b in
    let w = word_length (get_or numbers width 0) in
    let v = values_length (take m numbers) (taken_small m numbers s) in
    let t = length-take m numbers in
    rw (line-length (decimal n) (word_of (get_or numbers width 0)) values) (omega arith)

pub report_lines_length : (m n k : ℕ) (numbers : List ℕ) → m ≤ width → n < 2 ^ 64 → ((j : ℕ) → get_or numbers j 0 < 2 ^ 32)
    → length (report_lines m n k numbers) ≤ k * most_line
unfolding report_lines
report_lines_length m n zero numbers h b s = omega arith
report_lines_length m n (suc k) numbers h b s =
    let one = report_line_length m n (take report_stride numbers) h b (taken_small report_stride numbers s) in
    let more = report_lines_length m n k (drop report_stride numbers) h b (λ j. rw (get_or-drop report_stride numbers j 0) (s (report_stride + j))) in
    rw (length-append (report_line m n (take report_stride numbers)) (report_lines m n k (drop report_stride numbers))) (omega arith)

-- no refusal's number has more than a byte
number_byte : (r : Refusal) → number r < 256
number_byte textTooLong = omega arith
number_byte badShape = omega arith
number_byte badName = omega arith
number_byte nameTwice = omega arith
number_byte overLimits = omega arith
number_byte notOfGrammar = omega arith
number_byte undeclaredEvent = omega arith
number_byte tooManyNames = omega arith
number_byte tooDeep = omega arith
number_byte tooManyStates = omega arith
number_byte badProperty = omega arith
number_byte badSession = omega arith
number_byte noSuchEvent = omega arith
number_byte wrongValues = omega arith
number_byte noRoomForSeen = omega arith
number_byte noRoomForKept = omega arith
number_byte noRoomForReports = omega arith
number_byte badRow = omega arith
number_byte unknownEvent = omega arith
number_byte badValue = omega arith
number_byte wrongFields = omega arith
number_byte headerDiffers = omega arith
number_byte badLookup = omega arith
number_byte offsetPastLog = omega arith
number_byte tableDiffers = omega arith

pub refused_number_length : (m n q : ℕ) → m ≤ width → n < 2 ^ 64 → q < 256 → length (refused_number_line m n q) ≤ most_line
unfolding refused_number_line refused_number_text
refused_number_length m n q h b s =
    let a = decimal-usize n b in
    let d = decimal_byte q s in
    rw (line-length (decimal n) (refused_number_text q) (replicate m []), commas_are m, length-replicate) (omega arith)

pub refused_line_length : (m n : ℕ) (r : Refusal) → m ≤ width → n < 2 ^ 64 → length (refused_line m n r) ≤ most_line
refused_line_length m n r h b = rw (refused_line_number m n r) (refused_number_length m n (number r) h b (number_byte r))

-- Whether so many lines fit in a text from a place on ------------------------------------------------------------------------

pub none_fit : (size at count : ℕ) → size < at → false ≡ leb (at + count * most_line) size
none_fit size at count h = sym (lt-leb (at + count * most_line) size (omega arith))

pub fit_by_room : (size at count : ℕ) → at ≤ size → leb count ((size - at) / most_line) ≡ leb (at + count * most_line) size
fit_by_room size at count h = elim (decided (leb count ((size - at) / most_line))) [
  | inl e ↦ let l = leb-true count ((size - at) / most_line) e in e ∙ sym (le-leb (at + count * most_line) size (omega arith))
  | inr e ↦ let l = leb-false count ((size - at) / most_line) e in e ∙ sym (lt-leb (at + count * most_line) size (omega arith))
]
