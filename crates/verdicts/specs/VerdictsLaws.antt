-- The set of a verdict alone, in document 01's words: it asks for that verdict and no other, and never for undecided.
-- Assumes nothing.
use Rattle.std.specs.Prelude.{◌≡◌, refl, ◌&&◌, eqb, ltb}
use Rattle.document.specs.Patterns.{undecided}
use Rattle.document.specs.Property.{asks_for}
use Rattle.verdicts.specs.declared.Verdict.{Verdict}
use Rattle.verdicts.specs.declared.Verdict.TheVariants.{Undecided, Match, Fail}
use Rattle.verdicts.specs.Verdicts.{number, asked_of}

pub asked_alone : (v w : Verdict) → asks_for (asked_of v) (number w) ≡ (ltb undecided (number w) && eqb (number v) (number w))
unfolding asks_for
asked_alone Undecided Undecided = refl
asked_alone Undecided Match = refl
asked_alone Undecided Fail = refl
asked_alone Match Undecided = refl
asked_alone Match Match = refl
asked_alone Match Fail = refl
asked_alone Fail Undecided = refl
asked_alone Fail Match = refl
asked_alone Fail Fail = refl
