-- `lines::put_refused` meets its contract.
-- Assumes nothing.
use Rattle.lineparts.specs.LinesLaws.{refused_line_written}
use borrow.Author.Rules.{rules}
use Rattle.lines.proofs.put_refused.Goals as goal

pub returns : goal.returns
returns c = search (rules, refused_line_written)
