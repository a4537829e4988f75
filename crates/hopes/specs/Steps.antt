-- Document 01, "The table" (hopeful): what each step on words of bits says, from a state's ways to a whole round.
-- Assumes nothing.
use Rattle.std.specs.Prelude.{ℕ, ◌+◌, ◌*◌, ◌<◌, ◌≤◌, ◌≡◌, Bool, false, ◌&&◌, List, get_or, ltb}
use Rattle.document.specs.Lists.{some_below}
use Rattle.document.specs.Limits.{most_events}
use Rattle.document.specs.Positions.{holds}
use Rattle.document.specs.Property.{Property}
use Rattle.bits.specs.Bits.{meets}
use Rattle.hopes.specs.Hoping.{Leading}

-- r holds those numbers below n of which a test may say that they pass, and it may say of the others that they do not
pub record Those (says : ℕ → Bool → Type 0) (n r : ℕ) : Type 0 where
  pub each : (s : ℕ) → s < n → says s (holds r s)
  pub past : (s : ℕ) → n ≤ s → holds r s ≡ false

-- r holds the states that an allowed event, of the first n, leads to from s: it meets a set exactly if one of them is there
pub record Ways (next : List ℕ) (allowed n s r : ℕ) : Type 0 where
  pub says : (goal : ℕ) → meets r goal ≡ some_below n (λ e. holds allowed e && holds goal (get_or next (s * most_events + e) 0))

-- r has the ways of each of the first n states
pub record AllWays (next : List ℕ) (allowed events n : ℕ) (r : List ℕ) : Type 0 where
  pub way : (s : ℕ) → s < n → Ways next allowed events s (get_or r s 0)

-- r holds those of the first n states from which an event leads to the goal
pub record Round (ways : List ℕ) (goal n r : ℕ) : Type 0 where
  pub says : (s : ℕ) → holds r s ≡ (ltb s n && meets (get_or ways s 0) goal)

-- r holds the states from which one or more events lead to a marked state, whatever table has these ways
pub record Reached (ways : List ℕ) (states marked r : ℕ) : Type 0 where
  pub says : (p : Property) (allowed : ℕ) → states ≡ p.states → AllWays p.next allowed p.events states ways → Leading p marked allowed r
