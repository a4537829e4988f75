-- What it is that a reader agrees with the judge: where it stops, the judge stops with the same refusal at the same token; where
-- it has read a phrase of the grammar, the judge goes on from there, and nothing that follows belongs to the phrase.
-- Assumes nothing.
use Rattle.std.specs.Prelude.{ℕ, ◌<◌, ◌≡◌, false, List, ◌++◌, length}
use Rattle.std.proofs.lemmas.List.{map-append}
use mathlib.Core.List as list
use Rattle.document.specs.Classes as byte
use Rattle.document.specs.Patterns.{Pattern}
use Rattle.document.specs.Tokens.{Token, Lexeme, is_mark_of, begins_atom}
use Rattle.document.specs.Grammar.{Kind, alternatives, sequences, repetitions, atoms, Reads}
use Rattle.document.specs.Reading.{Reading, read, stopped, next_is}
use Rattle.grammar.specs.Automaton.{expecting, after}
use Rattle.grammar.specs.Judge.{stops, judge}

abbrev pub tokens : List Lexeme → List Token
tokens ls = list.map (λ x. x.token) ls

pub tokens_append : (a b : List Lexeme) → tokens (a ++ b) ≡ tokens a ++ tokens b
tokens_append a b = map-append (λ x. x.token) a b

-- what cannot follow a phrase of the kind
pub record EndsRepetition (left : List Lexeme) : Type 0 where
  pub no_star : next_is (is_mark_of byte.star) left ≡ false
  pub no_plus : next_is (is_mark_of byte.plus) left ≡ false

pub record EndsSequence (left : List Lexeme) : Type 0 where
  pub ends : EndsRepetition left
  pub no_atom : next_is begins_atom left ≡ false

pub record EndsAlternative (left : List Lexeme) : Type 0 where
  pub ends : EndsSequence left
  pub no_bar : next_is (is_mark_of byte.bar) left ≡ false

abbrev pub Ends : Kind → List Lexeme → Type 0
Ends alternatives left = EndsAlternative left
Ends sequences left = EndsSequence left
Ends repetitions left = EndsRepetition left
Ends atoms left = Unit {0}

module _ (declared : List (List ℕ)) where
  -- from where an atom must stand, with n event names and d parentheses open: a phrase is read, the tokens left are left, and
  -- m event names are read
  pub record Upto (k : Kind) (d n : ℕ) (ls : List Lexeme) (r : Pattern) (left : List Lexeme) (m : ℕ) : Type 0 where
    pub front : List Lexeme
    pub is : ls ≡ front ++ left
    pub reads : Reads declared k n m (tokens front) r
    pub goes : judge declared (expecting d) n ls ≡ judge declared (after d) m left
    pub shorter : length left < length ls

  pub record Got (k : Kind) (d n : ℕ) (ls : List Lexeme) (r : Pattern) (left : List Lexeme) (m : ℕ) : Type 0 where
    pub upto : Upto k d n ls r left m
    pub ends : Ends k left

  abbrev pub Agrees : Kind → ℕ → ℕ → List Lexeme → Reading → Type 0
  Agrees k d n ls (read r left m) = Got k d n ls r left m
  Agrees k d n ls (stopped q left) = judge declared (expecting d) n ls ≡ stops q left
