-- What the loop of `rows::row_end` keeps.
use lib.ListN.{length, drop}
use Rattle.document.specs.Rows.{first_row}
use Prim.Native.Nat.{◌+◌}
use mathlib.Core.Path.{◌≡◌}
use Rattle.rows.proofs.row_end.Given as goal

abbrev pub invariant-loop-i : goal.invariant-loop-i
invariant-loop-i l = l.i + length (first_row (drop l.i l.s)) ≡ l.at + length (first_row (drop l.at l.s))
