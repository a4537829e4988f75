-- Document 01, "The pattern text" (meaning) and source document 000, Definition 3: the words of a pattern, and total
-- matching. A sequence of events is a list of their numbers.
-- Assumes nothing.
use Rattle.std.specs.Prelude.{ℕ, ◌<◌, ◌≤◌, ◌≡◌, ◌⊎◌, ◌↔◌, List, [], ◌∷◌, ◌++◌}
use Rattle.document.specs.Lists.{In}

-- an event name carries its number from the left (1 for the first) and its event
pub data Pattern : Type 0 where
  epsilon : Pattern
  name : ℕ → ℕ → Pattern
  alternative : Pattern → Pattern → Pattern
  sequence : Pattern → Pattern → Pattern
  star : Pattern → Pattern
  plus : Pattern → Pattern

-- a word of P and then a word of Q
pub record Then (P Q : List ℕ → Type 0) (w : List ℕ) : Type 0 where
  pub front : List ℕ
  pub back : List ℕ
  pub is : w ≡ front ++ back
  pub left : P front
  pub right : Q back

-- any number of words of P, one after another
pub data Many (P : List ℕ → Type 0) : List ℕ → Type 0 where
  none : Many P []
  more : {u v : List ℕ} → P u → Many P v → Many P (u ++ v)

-- "the usual one of regular expressions. `x+` is one or more of x"
abbrev pub Word : Pattern → List ℕ → Type 0
Word epsilon w = w ≡ []
Word (name p e) w = w ≡ e ∷ []
Word (alternative a b) w = Word a w ⊎ Word b w
Word (sequence a b) w = Then (Word a) (Word b) w
Word (star a) w = Many (Word a) w
Word (plus a) w = Then (Word a) (Many (Word a)) w

-- some word begins with w
pub record Begins (r : Pattern) (w : List ℕ) : Type 0 where
  pub rest : List ℕ
  pub whole : Word r (w ++ rest)

-- the verdicts' numbers: "1 match, 2 fail, 0 undecided"
abbrev pub undecided : ℕ
undecided = 0

abbrev pub match : ℕ
match = 1

abbrev pub fail : ℕ
fail = 2

-- v is the total-matching verdict of w: "match if the sequence is a word of the pattern, fail if no word begins with it,
-- undecided otherwise"
pub record TotalMatching (r : Pattern) (w : List ℕ) (v : ℕ) : Type 0 where
  pub verdict : v ≤ 2
  pub matches : (v ≡ match) ↔ Word r w
  pub fails : (v ≡ fail) ↔ (Begins r w → ⊥)

-- the events of a sequence are among the first m
abbrev pub Among : ℕ → List ℕ → Type 0
Among m w = (e : ℕ) → In e w → e < m
