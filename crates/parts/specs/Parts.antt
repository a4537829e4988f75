-- What the readers of a pattern text answer, tied to the definitions of document 01, "The pattern text". A reader holds no
-- tokens and no pattern: it holds the place of the next token and the shape of what it read.
-- Assumes nothing.
use Rattle.std.specs.Prelude.{ℕ, ◌+◌, ◌*◌, ◌≤◌, ◌<◌, ◌≡◌, List, length, Result, Ok, Err}
use Rattle.document.specs.Limits.{most_names}
use Rattle.document.specs.Refusals.{Answer, taken, refused, number}
use Rattle.document.specs.Patterns.{Pattern}
use Rattle.document.specs.Tokens.{Lexeme, offset_of}
use Rattle.document.specs.Reading.{Reading, read, stopped, marked}
use Rattle.places.specs.NamesAt.{names_at}
use Rattle.refusals.specs.declared.Refusal.{Refusal}
use Rattle.refusals.specs.Named.{named}
use Rattle.sets.specs.declared.Shape.{Shape}
use Rattle.sets.specs.Shapes.{shape_of}
use Rattle.tokens.specs.Lexing.{lexemes_at}
use Rattle.tokens.specs.Steps.{Begins}
use Rattle.parts.specs.declared.Source.{Source}
use Rattle.parts.specs.declared.Part.{Part}
use Rattle.parts.specs.declared.Stopped.{Stopped}

-- the names of the declared events
abbrev pub events_of : Source → List (List ℕ)
events_of x = names_at x.events.text.now x.events.count x.events.places.now

-- where a reader begins: at the place of a token, with few names before it
pub record Ready (s : List ℕ) (at n : ℕ) : Type 0 where
  pub begins : Begins s at
  pub few : n ≤ most_names

-- r says what was read: the pattern's shape and the tokens that are left; or the refusal, at the first of those that are left
abbrev pub Says : List ℕ → Reading → Result Part Stopped → Type 0
Says s (read x left n) (Ok a) = (left ≡ lexemes_at s a.at) × ((n ≡ a.names) × (a.shape ≡ shape_of x))
Says s (read x left n) (Err e) = ⊥
Says s (stopped q left) (Ok a) = ⊥
Says s (stopped q left) (Err e) = (named e.refusal ≡ q) × (e.at ≡ offset_of s left)

-- r is the answer that the document has: what f makes of the value, or the refusal by its number and its offset
abbrev pub AnsweredAs : {A B : Type 0} → (A → B) → Answer A → Result B Stopped → Type 0
AnsweredAs f (taken x) (Ok y) = y ≡ f x
AnsweredAs f (taken x) (Err e) = ⊥
AnsweredAs f (refused q at) (Ok y) = ⊥
AnsweredAs f (refused q at) (Err e) = (number (named e.refusal) ≡ number q) × (e.at ≡ at)

-- where a reader that does not refuse stops: at a token after the one at which it began, with few names read
pub record Goes (s : List ℕ) (at : ℕ) (a : Part) : Type 0 where
  pub begins : Begins s a.at
  pub past : at < a.at
  pub fewer : length (lexemes_at s a.at) < length (lexemes_at s at)
  pub few : a.names ≤ most_names

abbrev pub GoesIfTaken : List ℕ → ℕ → Result Part Stopped → Type 0
GoesIfTaken s at (Ok a) = Goes s at a
GoesIfTaken s at (Err e) = Unit {0}

-- r is the answer of a reader of a kind (3 an alternative, 2 a sequence, 1 a repetition, 0 an atom) from a place on, with n names
-- before it and d parentheses open: it is what the definition says of the tokens from there on, for every bound on the depth of
-- its calls that is enough
pub record Answers (reader : ℕ → ℕ → ℕ → List Lexeme → Reading) (kind : ℕ) (s : List ℕ) (at n d : ℕ) (r : Result Part Stopped) : Type 0 where
  pub goes : GoesIfTaken s at r
  pub says : (f : ℕ) → 4 * length (lexemes_at s at) + kind + 1 ≤ f → Says s (reader f d n (lexemes_at s at)) r

-- r is what the marks that follow a make of it
pub record Marked (s : List ℕ) (a r : Part) : Type 0 where
  pub begins : Begins s r.at
  pub past : a.at ≤ r.at
  pub fewer : length (lexemes_at s r.at) ≤ length (lexemes_at s a.at)
  pub names : r.names ≡ a.names
  pub says : (x : Pattern) → a.shape ≡ shape_of x → Says s (marked x (lexemes_at s a.at) a.names) (Ok r)

-- a part that was read up to a place, and a refusal at a place
abbrev pub taken_at : ℕ → ℕ → Shape → Part
taken_at at n shape = record { at = at; names = n; shape = shape }

abbrev pub refused_at : Refusal → ℕ → Stopped
refused_at q at = record { refusal = q; at = at }
