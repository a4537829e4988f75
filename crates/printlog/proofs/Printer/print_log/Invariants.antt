-- What the loop of `printlog::Printer::print_log` keeps: the window stays within the buffer.
-- Assumes nothing.
use Rattle.std.proofs.Common.{◌≤◌, ◌≡◌, length}
use Rattle.printlog.proofs.Printer.print_log.Given as goal

abbrev pub invariant-loop : goal.invariant-loop
invariant-loop g l = (length l.log ≡ length l.initial.log) × (l.w.held ≤ length l.log)
