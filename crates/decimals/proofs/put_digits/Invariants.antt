-- What the loop of `decimals::put_digits` keeps.
use Prim.Native.Nat.{◌≤◌, ◌+◌}
use mathlib.Core.Path.{◌≡◌}
use lib.ListN.{length}
use Rattle.decimals.specs.DigitTurnsLaws.{Writing}
use Rattle.decimals.proofs.put_digits.Given as goal

abbrev pub invariant-loop-p : goal.invariant-loop-p
invariant-loop-p l = (l.at + l.count ≤ length l.text) × (length l.text ≡ length l.initial.text) × (l.end ≡ l.at + l.count) × Writing l.at l.count l.x l.initial.text l.text l.left l.p
