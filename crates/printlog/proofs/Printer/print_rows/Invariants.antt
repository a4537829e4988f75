-- Why the loop of `printlog::Printer::print_rows` ends: each turn goes on in the part, or the program stops.
-- Assumes nothing.
use Rattle.std.proofs.Common.{◌-◌, length}
use Rattle.printlog.proofs.Printer.print_rows.Given as goal

abbrev pub decreases-loop-at : goal.decreases-loop-at
decreases-loop-at g l = length l.part - l.at
