-- `next` of a reader, as an iterator, meets its contract: it hands out the first of the rows that are left.
-- Assumes nothing.
use Rattle.std.specs.Prelude.{Some, None}
use Rattle.reader.specs.HandingLaws.{hands_there, hands_nothing}
use Rattle.reader.specs.WholeLog.{hands_first, hands_goes}
use Rattle.reader.proofs.ReaderIterator.next.Goals as goal

pub returns-then-row-clause-steps : goal.returns-then-row-clause-steps
returns-then-row-clause-steps c =
    hands_first c.args.self.now c.hand_out-row.new.r (Some c.hand_out-row.result.bytes) c.hand_out-row.ensures.0
    (hands_there _ _ _ _ _ c.hand_out-row.ensures.1 c.hand_out-row.ensures.2 c.if-row.true)

pub returns-then-row-clause-goes : goal.returns-then-row-clause-goes
returns-then-row-clause-goes c =
    hands_goes _ (λ q. tt) _ _ _
    (hands_first c.args.self.now c.hand_out-row.new.r (Some c.hand_out-row.result.bytes) c.hand_out-row.ensures.0
    (hands_there _ _ _ _ _ c.hand_out-row.ensures.1 c.hand_out-row.ensures.2 c.if-row.true))

pub returns-else-row-clause-steps : goal.returns-else-row-clause-steps
returns-else-row-clause-steps c =
    hands_first c.args.self.now c.hand_out-row.new.r None c.hand_out-row.ensures.0
    (hands_nothing c.args.self.now.log c.hand_out-row.result.bytes _ _ _ c.hand_out-row.ensures.1 c.if-row.false)
