-- Document 01, "The declarations": the class of a byte, by ranges, and the bytes that the document names.
-- A class is a number, so that a table of 256 numbers can hold them; the marks' numbers stand together.
-- Assumes nothing.
use Rattle.std.specs.Prelude.{ℕ, Bool, cond, ◌&&◌, ◌||◌, List, eqb, leb}
use Rattle.document.specs.Bytes.{bytes}

abbrev pub letter : ℕ
letter = 0

abbrev pub digit : ℕ
digit = 1

abbrev pub underscore : ℕ
underscore = 2

abbrev pub blank : ℕ
blank = 3

abbrev pub opening : ℕ
opening = 4

abbrev pub closing : ℕ
closing = 5

abbrev pub colon : ℕ
colon = 6

abbrev pub bar : ℕ
bar = 7

abbrev pub star : ℕ
star = 8

abbrev pub plus : ℕ
plus = 9

abbrev pub at_sign : ℕ
at_sign = 10

abbrev pub other : ℕ
other = 11

-- from a up to z
abbrev pub between : ℕ → ℕ → ℕ → Bool
between a z b = leb a b && leb b z

-- A to Z, a to z; 0 to 9; `_`; space, tab, CR, LF; then `(` `)` `:` `|` `*` `+` `@`
unfoldable pub class_of : ℕ → ℕ
class_of b =
    cond (between 65 90 b || between 97 122 b) letter
    (cond (between 48 57 b) digit
    (cond (eqb b 95) underscore
    (cond (eqb b 32 || eqb b 9 || eqb b 13 || eqb b 10) blank
    (cond (eqb b 40) opening
    (cond (eqb b 41) closing
    (cond (eqb b 58) colon
    (cond (eqb b 124) bar
    (cond (eqb b 42) star
    (cond (eqb b 43) plus
    (cond (eqb b 64) at_sign other))))))))))

abbrev pub is_letter : ℕ → Bool
is_letter b = eqb (class_of b) letter

abbrev pub is_digit : ℕ → Bool
is_digit b = eqb (class_of b) digit

abbrev pub is_blank : ℕ → Bool
is_blank b = eqb (class_of b) blank

-- "ASCII letters, digits and underscore"
abbrev pub is_name_byte : ℕ → Bool
is_name_byte b = eqb (class_of b) letter || eqb (class_of b) digit || eqb (class_of b) underscore

abbrev pub cr : ℕ
cr = 13

abbrev pub lf : ℕ
lf = 10

abbrev pub quote : ℕ
quote = 34

abbrev pub comma : ℕ
comma = 44

abbrev pub zero_byte : ℕ
zero_byte = 48

abbrev pub one_byte : ℕ
one_byte = 49

-- the words that the document fixes
abbrev pub event_word : List ℕ
event_word = bytes "event"

abbrev pub epsilon_word : List ℕ
epsilon_word = bytes "epsilon"

abbrev pub ere_word : List ℕ
ere_word = bytes "ere"

abbrev pub match_word : List ℕ
match_word = bytes "match"

abbrev pub fail_word : List ℕ
fail_word = bytes "fail"
