-- What the reader of a whole pattern text answers, tied to the definitions of document 01, "The pattern text".
-- Assumes nothing.
use Rattle.std.specs.Prelude.{ℕ, ◌≡◌, List, Option, None, Some, Result}
use Rattle.document.specs.Patterns.{Pattern}
use Rattle.document.specs.Reading as doc
use Rattle.sets.specs.Shapes.{shape_of}
use Rattle.tokens.specs.declared.Kind.{Kind}
use Rattle.tokens.specs.declared.Kind.TheVariants.{Word, Opening, Closing, Colon, Bar, Star, Plus, AskMatch, AskFail, Nothing, End}
use Rattle.tokens.specs.Lexing.{lexemes_at}
use Rattle.parts.specs.declared.Part.{Part}
use Rattle.parts.specs.declared.Stopped.{Stopped}
use Rattle.parts.specs.Parts.{AnsweredAs}
use Rattle.verdicts.specs.declared.Verdict.{Verdict}
use Rattle.verdicts.specs.declared.Verdict.TheVariants.{Match, Fail}
use Rattle.verdicts.specs.Verdicts.{number}
use Rattle.asking.specs.declared.Parsed.{Parsed}

-- what a text that is taken says: the verdicts asked for and the pattern's shape
abbrev pub parsed_of : doc.Parsed → Parsed
parsed_of t = record { asked = t.asked; shape = shape_of t.pattern }

-- the verdict that a token of a kind asks for
abbrev pub asked_by : Kind → Option Verdict
asked_by AskMatch = Some Match
asked_by AskFail = Some Fail
asked_by Word = None
asked_by Opening = None
asked_by Closing = None
asked_by Colon = None
asked_by Bar = None
asked_by Star = None
asked_by Plus = None
asked_by Nothing = None
asked_by End = None

-- its number, or 0: `ask_of`, of a token
abbrev pub asked_number : Option Verdict → ℕ
asked_number None = 0
asked_number (Some v) = number v

-- r is what stands after the pattern a, whatever pattern has its shape
pub record Asks (s : List ℕ) (a : Part) (r : Result Parsed Stopped) : Type 0 where
  pub says : (x : Pattern) → a.shape ≡ shape_of x → AnsweredAs parsed_of (doc.read_asks s (doc.read x (lexemes_at s a.at) a.names)) r
