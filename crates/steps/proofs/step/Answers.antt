-- `steps::step` meets its contract: in one pass where the event creates nothing and cannot be refused; else worked out, then
-- refused with nothing altered, or written down.
-- Assumes nothing.
use Rattle.std.specs.Prelude.{not}
use Rattle.std.proofs.Common.{sym, ap, ◌∙◌}
use Rattle.advance.specs.AdvanceLaws.{advance_able}
use Rattle.steps.specs.StepLaws.{step_refused, step_tellable, step_taken, step_advanced}
use mathlib.Core.List.{[]}
use borrow.Author.Rules.{rules}
use Rattle.steps.proofs.step.Goals as goal

pub advance-a-requires : goal.advance-a-requires
advance-a-requires c = advance_able _ _ _ _ _ _ _ _ _ _ _ c.requires (let g = c.well_formed in search rules) c.applies.ensures (ap not c.if-applies.true)

pub returns-then-applies : goal.returns-then-applies
returns-then-applies c = step_advanced _ _ _ _ _ _ _ _ _ _ _ _ _ _ c.requires (let g = c.well_formed in search rules) c.applies.ensures c.if-applies.true _ _ _ (search rules) (search rules) c.advance-a.ensures

pub write_down-requires : goal.write_down-requires
write_down-requires c = step_tellable _ [] _ _ _ _ _ _ _ _ _ _ _ (sym c.in-Ok.is ∙ c.foresee.ensures) _ c.requires (let g = c.well_formed in search rules)

pub returns-in-Ok : goal.returns-in-Ok
returns-in-Ok c = let q = sym c.in-Ok.is ∙ c.foresee.ensures in search (rules, step_taken)

pub returns-in-Err : goal.returns-in-Err
returns-in-Err c = rw (c.counts_alone.ensures, c.number.ensures) (step_refused _ _ _ _ _ _ _ _ _ _ _ _ _ (sym c.in-Err.is ∙ c.foresee.ensures))
