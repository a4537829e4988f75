-- `names::run_end` meets its contract: the run from each place on ends where the whole run does, whatever the test says.
-- Assumes nothing.
use Rattle.std.proofs.Common.{rules}
use Rattle.names.specs.RunsLaws.{run_stops, run_goes_on, run_over}
use Rattle.names.proofs.run_end.Goals as goal

pub returns-then-not-test : goal.returns-then-not-test
returns-then-not-test g c = λ p t. search (rules, run_stops p, t.each)

pub loop-i-preserved : goal.loop-i-preserved
loop-i-preserved g c = λ p t. search (rules, run_goes_on p, t.each)

pub returns : goal.returns
returns g c = λ p t. search (rules, run_over p)
