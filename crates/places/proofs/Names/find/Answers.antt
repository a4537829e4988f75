-- `places::Names::find` meets its contract: at each place the name stands there, or among the names after it.
-- Assumes nothing.
use Rattle.std.proofs.Common.{rules}
use Rattle.places.specs.PlacesLaws.{looks_found, looks_turn, looks_over}
use Rattle.places.proofs.Names.find.Goals as goal

pub returns-then-eq : goal.returns-then-eq
returns-then-eq c = search (rules, looks_found)

pub loop-k-preserved : goal.loop-k-preserved
loop-k-preserved c = search (rules, looks_turn)

pub returns : goal.returns
returns c = search (rules, looks_over)
