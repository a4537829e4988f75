-- Document 01, "The pattern text": a text read from the left, as a procedure. Each reader answers what it read and the
-- tokens that are left, or refuses at the first of those that are left; so the lowest offset comes first by itself.
-- Assumes nothing.
use Rattle.std.specs.Prelude.{ℕ, zero, suc, ◌+◌, ◌*◌, Bool, true, false, List, [], ◌∷◌, length, eqb, ltb}
use Rattle.document.specs.Lists.{equal, place_of}
use Rattle.document.specs.Limits.{most_names, most_open}
use Rattle.document.specs.Refusals.{Refusal, notOfGrammar, undeclaredEvent, tooManyNames, tooDeep, Answer, taken, refused}
use Rattle.document.specs.Classes.{opening, closing, colon, ere_word, epsilon_word}
use Rattle.document.specs.Classes as byte
use Rattle.document.specs.Patterns.{Pattern, epsilon, name, alternative, sequence, star, plus}
use Rattle.document.specs.Tokens.{Token, word, mark, ask, no_token, Lexeme, lexemes, offset_of, is_mark_of, is_word_of, begins_atom}

-- a pattern, the tokens left, and how many event names were read so far
pub data Reading : Type 0 where
  read : Pattern → List Lexeme → ℕ → Reading
  stopped : Refusal → List Lexeme → Reading

-- the test of the first token that is left
abbrev pub next_is : (Token → Bool) → List Lexeme → Bool
next_is p [] = false
next_is p (x ∷ more) = p x.token

abbrev pub past : List Lexeme → List Lexeme
past [] = []
past (x ∷ more) = more

abbrev pub join_reading : (Pattern → Pattern → Pattern) → Pattern → Reading → Reading
join_reading f a (read b left n) = read (f a b) left n
join_reading f a (stopped r left) = stopped r left

-- "an atom followed by any number of `*` or `+`": what the marks make of an atom
unfoldable pub marked : Pattern → List Lexeme → ℕ → Reading
marked r [] n = read r [] n
marked r (x ∷ more) n =
    elim (is_mark_of byte.star x.token) [
      | true ↦ marked (star r) more n
      | false ↦ elim (is_mark_of byte.plus x.token) [ true ↦ marked (plus r) more n | false ↦ read r (x ∷ more) n ]
    ]

unfoldable pub marked_reading : Reading → Reading
marked_reading (read r left n) = marked r left n
marked_reading (stopped q left) = stopped q left

-- the closing parenthesis after an alternative
unfoldable pub closed : Reading → Reading
closed (read r left n) = elim (next_is (is_mark_of closing) left) [ true ↦ read r (past left) n | false ↦ stopped notOfGrammar left ]
closed (stopped q left) = stopped q left

-- "7 before 8": a name where an atom may stand
unfoldable pub read_name : List (List ℕ) → List ℕ → List Lexeme → List Lexeme → ℕ → Reading
read_name declared w here more n =
    elim (equal w epsilon_word) [
      | true ↦ read epsilon more n
      | false ↦ elim (ltb (place_of w declared) (length declared)) [
        | true ↦ elim (ltb n most_names) [ true ↦ read (name (suc n) (place_of w declared)) more (suc n) | false ↦ stopped tooManyNames here ]
        | false ↦ stopped undeclaredEvent here
      ]
    ]

-- One step of each reader, given the reader that it calls for what follows.
-- "one or more sequences separated by `|`"
unfoldable pub more_alternatives : (ℕ → List Lexeme → Reading) → Reading → Reading
more_alternatives again (read r left n) =
    elim (next_is (is_mark_of byte.bar) left) [ true ↦ join_reading alternative r (again n (past left)) | false ↦ read r left n ]
more_alternatives again (stopped q left) = stopped q left

-- "one or more repetitions side by side"
unfoldable pub more_repetitions : (ℕ → List Lexeme → Reading) → Reading → Reading
more_repetitions again (read r left n) =
    elim (next_is begins_atom left) [ true ↦ join_reading sequence r (again n left) | false ↦ read r left n ]
more_repetitions again (stopped q left) = stopped q left

-- "an event name, `epsilon` (the empty word), or an alternative in parentheses"
unfoldable pub atom_of : List (List ℕ) → (ℕ → List Lexeme → Reading) → ℕ → ℕ → List Lexeme → List Lexeme → Token → Reading
atom_of declared inside d n here more (word w) = read_name declared w here more n
atom_of declared inside d n here more (mark c) =
    elim (eqb c opening) [
      | true ↦ elim (ltb d most_open) [ true ↦ closed (inside n more) | false ↦ stopped tooDeep here ]
      | false ↦ stopped notOfGrammar here
    ]
atom_of declared inside d n here more (ask v) = stopped notOfGrammar here
atom_of declared inside d n here more no_token = stopped notOfGrammar here

unfoldable pub read_atom_in : List (List ℕ) → (ℕ → List Lexeme → Reading) → ℕ → ℕ → List Lexeme → Reading
read_atom_in declared inside d n [] = stopped notOfGrammar []
read_atom_in declared inside d n (x ∷ more) = atom_of declared inside d n (x ∷ more) more x.token

-- The readers call each other. The first number bounds how deep the calls go, the second is how many parentheses are
-- open, the third how many event names were read.
module _ (declared : List (List ℕ)) where
  unfoldable mutual
    pub read_alternative : ℕ → ℕ → ℕ → List Lexeme → Reading
    read_alternative zero d n ls = stopped notOfGrammar ls
    read_alternative (suc f) d n ls = more_alternatives (λ k us. read_alternative f d k us) (read_sequence f d n ls)

    pub read_sequence : ℕ → ℕ → ℕ → List Lexeme → Reading
    read_sequence zero d n ls = stopped notOfGrammar ls
    read_sequence (suc f) d n ls = more_repetitions (λ k us. read_sequence f d k us) (read_repetition f d n ls)

    pub read_repetition : ℕ → ℕ → ℕ → List Lexeme → Reading
    read_repetition zero d n ls = stopped notOfGrammar ls
    read_repetition (suc f) d n ls = marked_reading (read_atom f d n ls)

    pub read_atom : ℕ → ℕ → ℕ → List Lexeme → Reading
    read_atom zero d n ls = stopped notOfGrammar ls
    read_atom (suc f) d n ls = read_atom_in declared (λ k us. read_alternative f (suc d) k us) d n ls

  -- deep enough for every list of tokens: four readers to a token
  unfoldable pub read_whole : List Lexeme → Reading
  read_whole ls = read_alternative (4 * length ls + 4) 0 0 ls

-- the verdicts asked for: 1 match, 2 fail, 3 both
abbrev pub ask_of : Token → ℕ
ask_of (word w) = 0
ask_of (mark c) = 0
ask_of (ask v) = v
ask_of no_token = 0

-- what a pattern text says: the pattern and the set of verdicts asked for
pub record Parsed : Type 0 where
  pub pattern : Pattern
  pub asked : ℕ

-- `@match`, `@fail` or both, each once, in either order
unfoldable pub second_ask : Pattern → ℕ → List Lexeme → Answer Parsed
second_ask r v [] = taken (record { pattern = r; asked = v })
second_ask r v (x ∷ []) =
    elim (eqb (v + ask_of x.token) 3) [ true ↦ taken (record { pattern = r; asked = 3 }) | false ↦ refused notOfGrammar x.at ]
second_ask r v (x ∷ y ∷ more) =
    elim (eqb (v + ask_of x.token) 3) [ true ↦ refused notOfGrammar y.at | false ↦ refused notOfGrammar x.at ]

unfoldable pub read_asks : List ℕ → Reading → Answer Parsed
read_asks text (stopped q left) = refused q (offset_of text left)
read_asks text (read r [] n) = refused notOfGrammar (length text)
read_asks text (read r (x ∷ more) n) =
    elim (ltb 0 (ask_of x.token)) [ true ↦ second_ask r (ask_of x.token) more | false ↦ refused notOfGrammar x.at ]

-- "`ere`, `:`, the pattern, then `@match`, `@fail` or both"
unfoldable pub parse : List (List ℕ) → List ℕ → Answer Parsed
parse declared text =
    let ls = lexemes text in
    elim (next_is (is_word_of ere_word) ls) [
      | false ↦ refused notOfGrammar (offset_of text ls)
      | true ↦ elim (next_is (is_mark_of colon) (past ls)) [
        | false ↦ refused notOfGrammar (offset_of text (past ls))
        | true ↦ read_asks text (read_whole declared (past (past ls)))
      ]
    ]
