-- What the code answers of tokens: a kind and a place. Document 01, "The pattern text".
-- Assumes nothing.
use Rattle.std.specs.Prelude.{ℕ, ◌+◌, ◌-◌, Bool, cond, ◌||◌, List, length, get_or, drop, eqb, ltb}
use Rattle.document.specs.Classes.{opening, closing, colon, bar, star, plus}
use Rattle.document.specs.Patterns.{match}
use Rattle.document.specs.Tokens as doc
use Rattle.document.specs.Tokens.{Sized, word, mark, ask, no_token, ask_token, token_at, Lexeme, lexemes_from}
use Rattle.tokens.specs.declared.Token.{Token}
use Rattle.tokens.specs.declared.Kind.{Kind}
use Rattle.tokens.specs.declared.Kind.TheVariants.{Word, Opening, Closing, Colon, Bar, Star, Plus, AskMatch, AskFail, Nothing, End}

-- the numbers of the kinds: a mark's is its class
abbrev pub kind_number : Kind → ℕ
kind_number Word = 0
kind_number Opening = opening
kind_number Closing = closing
kind_number Colon = colon
kind_number Bar = bar
kind_number Star = star
kind_number Plus = plus
kind_number AskMatch = 12
kind_number AskFail = 13
kind_number Nothing = 14
kind_number End = 15

-- the kind of a mark, by its class
abbrev pub mark_kind : ℕ → Kind
mark_kind c =
    cond (eqb c opening) Opening
    (cond (eqb c closing) Closing
    (cond (eqb c colon) Colon
    (cond (eqb c bar) Bar
    (cond (eqb c star) Star
    (cond (eqb c plus) Plus Nothing)))))

abbrev pub kind_of : doc.Token → Kind
kind_of (word w) = Word
kind_of (mark c) = mark_kind c
kind_of (ask v) = cond (eqb v match) AskMatch AskFail
kind_of no_token = Nothing

-- the kinds with which a repetition can begin: a name, `epsilon` or `(`
abbrev pub begins_kind : Kind → Bool
begins_kind k = eqb (kind_number k) (kind_number Word) || eqb (kind_number k) opening

-- a token of so many bytes that begins at a place
unfoldable pub shown : ℕ → Sized → Token
shown at z = record { kind = kind_of z.token; end = at + z.size }

-- what stands after an `@`: `at` is the place after it
unfoldable pub ask_here : List ℕ → ℕ → Token
ask_here s at = shown (at - 1) (ask_token (drop at s))

unfoldable pub token_here : List ℕ → ℕ → Token
token_here s at = cond (ltb at (length s)) (shown at (token_at (get_or s at 0) (drop (at + 1) s))) (record { kind = End; end = at })

-- the tokens of a text from a place on
unfoldable pub lexemes_at : List ℕ → ℕ → List Lexeme
lexemes_at s at = lexemes_from 0 at (drop at s)
