-- Document 01, "The pattern text": the tokens of a text, each with its offset. Blanks may stand around any token.
-- Assumes nothing.
use Rattle.std.specs.Prelude.{ℕ, zero, suc, ◌+◌, ◌-◌, Bool, true, false, cond, ◌&&◌, List, [], ◌∷◌, length, eqb, leb}
use Rattle.document.specs.Lists.{starts_with, equal}
use Rattle.document.specs.Classes.{class_of, letter, opening, plus, at_sign, is_blank, match_word, fail_word}
use Rattle.document.specs.Patterns.{match, fail}
use Rattle.document.specs.Declarations.{name_run}

-- a name; a mark, by its class; `@match` or `@fail`, by the verdict; what begins no token
pub data Token : Type 0 where
  word : List ℕ → Token
  mark : ℕ → Token
  ask : ℕ → Token
  no_token : Token

pub record Lexeme : Type 0 where
  pub token : Token
  pub at : ℕ

-- a token and the bytes that it takes
pub record Sized : Type 0 where
  pub token : Token
  pub size : ℕ

-- after an `@`: "one token each whatever byte follows"
unfoldable pub ask_token : List ℕ → Sized
ask_token t =
    cond (starts_with match_word t) (record { token = ask match; size = suc (length match_word) })
    (cond (starts_with fail_word t) (record { token = ask fail; size = suc (length fail_word) })
    (record { token = no_token; size = 1 }))

-- the token that begins with the byte b: "A name is a longest run of name bytes that begins with a letter"; the marks' classes
-- are those from `(` to `+`
unfoldable pub token_at : ℕ → List ℕ → Sized
token_at b t =
    cond (eqb (class_of b) letter) (record { token = word (name_run (b ∷ t)); size = length (name_run (b ∷ t)) })
    (cond (eqb (class_of b) at_sign) (ask_token t)
    (cond (leb opening (class_of b) && leb (class_of b) plus) (record { token = mark (class_of b); size = 1 })
    (record { token = no_token; size = 1 })))

-- the tokens from an offset on; the first number is how many bytes of the last token are still to be passed
unfoldable pub lexemes_from : ℕ → ℕ → List ℕ → List Lexeme
lexemes_from left at [] = []
lexemes_from zero at (b ∷ t) =
    elim (is_blank b) [
      | true ↦ lexemes_from zero (at + 1) t
      | false ↦ record { token = (token_at b t).token; at = at } ∷ lexemes_from ((token_at b t).size - 1) (at + 1) t
    ]
lexemes_from (suc left) at (b ∷ t) = lexemes_from left (at + 1) t

unfoldable pub lexemes : List ℕ → List Lexeme
lexemes text = lexemes_from 0 0 text

-- the offset of the first token that is left, or the text's length
unfoldable pub offset_of : List ℕ → List Lexeme → ℕ
offset_of text [] = length text
offset_of text (x ∷ more) = x.at

-- tests on tokens
abbrev pub is_mark_of : ℕ → Token → Bool
is_mark_of k (word w) = false
is_mark_of k (mark c) = eqb c k
is_mark_of k (ask v) = false
is_mark_of k no_token = false

abbrev pub is_word_of : List ℕ → Token → Bool
is_word_of w (word u) = equal u w
is_word_of w (mark c) = false
is_word_of w (ask v) = false
is_word_of w no_token = false

-- a repetition can begin with it: a name, `epsilon` or `(`
abbrev pub begins_atom : Token → Bool
begins_atom (word w) = true
begins_atom (mark c) = eqb c opening
begins_atom (ask v) = false
begins_atom no_token = false
