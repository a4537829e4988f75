-- What the loop of `files::fill` keeps, and why it ends: each turn brings a byte at least, and what is held lies within the slice.
use Rattle.std.proofs.Common.{◌-◌, ◌≤◌, ◌≡◌, length}
use Rattle.files.proofs.fill.Given as goal

abbrev pub invariant-loop-held : goal.invariant-loop-held
invariant-loop-held g l = (length l.into ≡ length l.initial.into) × (l.held ≤ length l.into)

abbrev pub decreases-loop-held : goal.decreases-loop-held
decreases-loop-held g l = length l.initial.into - l.held
