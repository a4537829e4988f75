-- What a reader of tokens asks of a text: the token at a place, and the place of the next. Document 01, "The pattern text".
-- Assumes nothing.
use Rattle.std.specs.Prelude.{ℕ, ◌+◌, ◌-◌, ◌≤◌, ◌<◌, ◌≡◌, ◌⊎◌, false, List, [], ◌∷◌, length, get_or, take, drop}
use Rattle.document.specs.Lists.{take_while}
use Rattle.document.specs.Classes.{is_blank, opening, plus}
use Rattle.document.specs.Patterns.{match, fail}
use Rattle.document.specs.Tokens as doc
use Rattle.document.specs.Tokens.{word, mark, ask, no_token}
use Rattle.tokens.specs.declared.Step.{Step}
use Rattle.tokens.specs.declared.Kind.TheVariants.{End}
use Rattle.tokens.specs.Lexing.{kind_of, lexemes_at}

-- the first place from `at` on that holds no blank
abbrev pub skip_to : List ℕ → ℕ → ℕ
skip_to s at = at + length (take_while is_blank (drop at s))

-- a place where a token begins, or the text's end
pub record Begins (s : List ℕ) (at : ℕ) : Type 0 where
  pub inside : at ≤ length s
  pub plain : at < length s → is_blank (get_or s at 0) ≡ false

-- what a token is, by the bytes that it takes
abbrev pub Sort : List ℕ → doc.Token → Type 0
Sort u (word w) = w ≡ u
Sort u (mark c) = (opening ≤ c) × (c ≤ plus)
Sort u (ask v) = (v ≡ match) ⊎ (v ≡ fail)
Sort u no_token = Unit {0}

-- a token stands at a place, and the next token after it at r's next place
pub record Stands (s : List ℕ) (at : ℕ) (r : Step) : Type 0 where
  pub token : doc.Token
  pub kind : r.kind ≡ kind_of token
  pub sort : Sort (take (r.end - at) (drop at s)) token
  pub tokens : lexemes_at s at ≡ record { token = token; at = at } ∷ lexemes_at s r.next
  pub past : at < r.next

-- no token is left
pub record Ended (s : List ℕ) (at : ℕ) (r : Step) : Type 0 where
  pub kind : r.kind ≡ End
  pub tokens : lexemes_at s at ≡ []
  pub end : at ≡ length s

-- what is seen at a place
pub record Looks (s : List ℕ) (at : ℕ) (r : Step) : Type 0 where
  pub begins : Begins s r.next
  pub after : at ≤ r.end
  pub within : r.end ≤ length s
  pub what : Ended s at r ⊎ Stands s at r
