-- `lineparts::put_refused_text` meets its contract.
-- Assumes nothing.
use native.Mathlib.Omega.{arith}
use Rattle.decimals.specs.DecimalsLaws.{decimal_byte}
use Rattle.lineparts.specs.LinesLaws.{refused_text_written}
use borrow.Author.Rules.{rules}
use Rattle.lineparts.proofs.put_refused_text.Goals as goal

pub put_decimal-requires : goal.put_decimal-requires
put_decimal-requires c = omega (arith, decimal_byte c.args.refusal (search rules))

pub returns : goal.returns
returns c = search (rules, refused_text_written)
