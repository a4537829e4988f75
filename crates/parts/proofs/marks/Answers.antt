-- `parts::marks` meets its contract: the marks that are left make of the part so far what all of them make of the atom.
-- Assumes nothing.
use Rattle.std.proofs.Common.{inl, inr, rules}
use Rattle.parts.specs.ReadersLaws.{marks_turn, marks_over}
use Rattle.parts.proofs.marks.Goals as goal

pub returns-in_default : goal.returns-in_default
returns-in_default c = marks_over _ _ _ c.loop-r.invariant _ c.look-t.ensures c.in_default.not-Star c.in_default.not-Plus

pub loop-r-preserved-in-Star : goal.loop-r-preserved-in-Star
loop-r-preserved-in-Star c = marks_turn _ _ _ c.loop-r.invariant _ c.look-t.ensures _ (inl (c.in-Star.is, search rules))

pub loop-r-preserved : goal.loop-r-preserved
loop-r-preserved c = marks_turn _ _ _ c.loop-r.invariant _ c.look-t.ensures _ (inr (c.in-Plus.is, search rules))
