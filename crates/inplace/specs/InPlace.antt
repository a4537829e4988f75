-- Document 01, "One event", where the binding is empty or seen: no combination is created, so the rows that include the binding
-- move in place. What the functions that move them need and leave, up to the first row that is dropped or reported. None of it
-- speaks of the seen rows.
-- Assumes nothing.
use Rattle.std.specs.Prelude.{ℕ, ◌*◌, ◌<◌, ◌≤◌, ◌≡◌, Bool, false, ◌&&◌, List, [], ◌∷◌, get_or}
use Rattle.document.specs.Lists.{cons_if}
use Rattle.document.specs.Limits.{width, kept_stride}
use Rattle.document.specs.Combinations.{includes}
use Rattle.document.specs.OneEvent.{Kept}
use Rattle.document.specs.Tables.{numbers_at}
use Rattle.tables.specs.Tables.{kept_from}
use Rattle.moves.specs.Steps.{step_of, state_in}
use Rattle.keeping.specs.SiftLaws.{Sifting}
use Rattle.inplace.specs.declared.InPlace.{InPlace}

-- The reports of rows that move in place -------------------------------------------------------------------------------

module _ (step : ℕ → ℕ → ℕ) (e : ℕ) (b : List ℕ) where
  unfoldable pub moved_on : Kept → Kept
  moved_on k = record { combination = k.combination; state = step k.state e }

  module _ (reported : Kept → Bool) where
    unfoldable pub told : List Kept → List Kept
    told [] = []
    told (k ∷ l) = cons_if (includes k.combination b && reported (moved_on k)) (moved_on k) (told l)

-- The moves ------------------------------------------------------------------------------------------------------------

-- the rows below row i are moved or stay, and none of them is dropped or reported
pub record Walking (next : List ℕ) (states hopes asks e m i : ℕ) (b kept kept' : List ℕ) : Type 0 where
  pub sifts : Sifting next states hopes e m i i b kept kept'
  pub silent : told (step_of next) e b (state_in asks) (kept_from i kept 0) ≡ []

pub record WalksTo (next : List ℕ) (states hopes asks e m : ℕ) (b : List ℕ) (low end : ℕ) (kept kept' : List ℕ) (r : ℕ) : Type 0 where
  pub up : low ≤ r
  pub within : r ≤ end
  pub walks : Walking next states hopes asks e m r b kept kept'

-- and from `end` on, no row includes b
pub record MovedInPlace (next : List ℕ) (states hopes asks e m : ℕ) (b kept kept' : List ℕ) (r : InPlace) : Type 0 where
  pub walks : Walking next states hopes asks e m r.row b kept kept'
  pub above : (k : ℕ) → r.row ≤ k → k < m → get_or b 0 0 ≤ get_or kept (k * kept_stride) 0
  pub past : (k : ℕ) → r.end ≤ k → k < m → includes (numbers_at width kept (k * kept_stride)) b ≡ false
