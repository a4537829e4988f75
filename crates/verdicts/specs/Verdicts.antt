-- The verdicts of the code are those of document 01, "The pattern text", by the same names.
-- Assumes nothing.
use Rattle.std.specs.Prelude.{ℕ, ◌<◌, ◌≡◌, Result, MatchResult}
use Rattle.document.specs.Patterns.{undecided, match, fail}
use Rattle.verdicts.specs.declared.Verdict.{Verdict}
use Rattle.verdicts.specs.declared.Verdict.TheVariants as code
use Rattle.verdicts.specs.declared.NoVerdict.{NoVerdict}

-- the number of a verdict
abbrev pub number : Verdict → ℕ
number code.Undecided = undecided
number code.Match = match
number code.Fail = fail

-- the set of a verdict alone: bit 0 for match, bit 1 for fail
abbrev pub asked_of : Verdict → ℕ
asked_of code.Undecided = 0
asked_of code.Match = 1
asked_of code.Fail = 2

-- r is the verdict that has this number, or no verdict has it
abbrev pub Reads : ℕ → Result Verdict NoVerdict → Type 0
Reads n r = MatchResult r (λ v. number v ≡ n) (λ e. (e.0 ≡ n) × (fail < n))
