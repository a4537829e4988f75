-- What one event is judged to be before it is stepped: refused 11 to 14, or one that may be stepped.
-- Assumes nothing.
use Rattle.std.specs.Prelude.{ℕ, ◌<◌, ◌≡◌, true, List}
use Rattle.document.specs.Refusals.{refused}
use Rattle.document.specs.Combinations.{binds_exactly}
use Rattle.document.specs.Property.{Property, in_range, set_of}
use Rattle.document.specs.Session.{Session, sound, event}
use Rattle.moves.specs.declared.Known.{Known}
use Rattle.known.specs.Knowing.{KnownOf}
use Rattle.refusals.specs.Named.{named}
use Rattle.refusals.specs.declared.Refusal.{Refusal}

-- all that a call knows once it has judged an event good
pub record Judged (p : Property) (s : Session) (e : ℕ) (values : List ℕ) (k : Known) : Type 0 where
  pub range : in_range p ≡ true
  pub right : sound p s ≡ true
  pub there : e < p.events
  pub binds : binds_exactly (set_of p e) values ≡ true
  pub known : KnownOf p k

-- the document's event is refused so, whatever the lent reports
pub record EventRefused (p : Property) (s : Session) (e : ℕ) (values : List ℕ) (r : Refusal) : Type 0 where
  pub says : (reports : List ℕ) → event p s reports e values ≡ refused (named r) 0
