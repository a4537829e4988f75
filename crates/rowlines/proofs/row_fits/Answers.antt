-- `rowlines::row_fits` meets its contract.
-- Assumes nothing.
use Rattle.std.proofs.Common.{rules}
use Rattle.rowlines.specs.RowLinesLaws.{most_max, fits_last, fits_room}
use Rattle.rowlines.proofs.row_fits.Goals as goal

pub returns-then-number-lt18446744073709551615 : goal.returns-then-number-lt18446744073709551615
returns-then-number-lt18446744073709551615 c = search (rules, most_max, fits_room)

pub returns-else-number-lt18446744073709551615 : goal.returns-else-number-lt18446744073709551615
returns-else-number-lt18446744073709551615 c = search (rules, fits_last)
