-- What is known of a property once it has been worked out.
-- Assumes nothing.
use Rattle.std.specs.Prelude.{◌≡◌}
use Rattle.document.specs.Property.{Property}
use Rattle.hopes.specs.Hoping.{Asks, Hopes}
use Rattle.moves.specs.declared.Known.{Known}

-- what is worked out once of a property
pub record KnownOf (p : Property) (k : Known) : Type 0 where
  pub parameters : k.parameters ≡ p.parameters
  pub states : k.states ≡ p.states
  pub next : k.next ≡ p.next
  pub verdicts : k.verdicts ≡ p.verdicts
  pub hopes : Hopes p k.hopeful
  pub asks : Asks p k.asked
