-- What the loop of `places::Names::find` keeps: the name's place among those from each place on gives its place among all.
use Rattle.std.specs.Prelude.{◌+◌, ◌≡◌, drop}
use Rattle.document.specs.Lists.{place_of}
use Rattle.places.specs.NamesAt.{names_at}
use Rattle.places.proofs.Names.find.Given as goal

abbrev pub invariant-loop-k : goal.invariant-loop-k
invariant-loop-k l =
    let names = names_at l.self.text.now l.self.count l.self.places.now in
    l.k + place_of l.name (drop l.k names) ≡ place_of l.name names
