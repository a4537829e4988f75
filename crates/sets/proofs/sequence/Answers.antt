-- `sets::sequence` meets its contract: what can end the first part can be followed by what begins the second.
-- Assumes nothing.
use mathlib.Core.Path.{◌≡◌}
use mathlib.Core.Bool.{◌&&◌, cond}
use lib.Bits.{bit_or}
use borrow.Author.Rules.{rules}
use Rattle.sets.specs.Shapes.{then_shape}
use Rattle.sets.proofs.sequence.Goals as goal

pub returns : goal.returns
unfolding then_shape
returns c =
    let null : c.if-a.result ≡ (c.args.a.null && c.args.b.null) = search rules in
    let first : c.if-a-2.result ≡ cond c.args.a.null (bit_or c.args.a.first c.args.b.first) c.args.a.first = search rules in
    let last : c.if-b.result ≡ cond c.args.b.null (bit_or c.args.a.last c.args.b.last) c.args.b.last = search rules in
    rw (null, first, last, c.merge.ensures, c.link.ensures, c.merge-merged.ensures)
