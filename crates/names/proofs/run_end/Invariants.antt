-- What the loop of `names::run_end` keeps.
use Rattle.std.specs.Prelude.{ℕ, ◌+◌, ◌≡◌, Bool, length, drop}
use Rattle.document.specs.Lists.{take_while}
use Rattle.names.specs.Runs.{Tests}
use Rattle.names.proofs.run_end.Given as goal

abbrev pub invariant-loop-i : goal.invariant-loop-i
invariant-loop-i g l = (p : ℕ → Bool) → Tests (goal.F-post g l.test) p
    → l.i + length (take_while p (drop l.i l.s)) ≡ l.at + length (take_while p (drop l.at l.s))
