-- The returns of one event.
-- Assumes nothing.
use Rattle.std.specs.Prelude.{ℕ, ◌<◌, ◌≤◌, ◌≡◌, Bool, true, false, List, get_or}
use Rattle.std.proofs.Math.Path.{refl, sym, ap}
use Rattle.std.proofs.Common.{subst, ◌∙◌}
use borrow.Author.Tests.{le-leb, lt-leb}
use Rattle.document.specs.Refusals.{Answer, number}
use Rattle.document.specs.Combinations.{binds_exactly}
use Rattle.document.specs.Property.{Property, in_range, set_of}
use Rattle.document.specs.Session.{Session, Happened, kept_of, sound, event, leaves, step_from}
use Rattle.judge.specs.Sound.{session_of}
use Rattle.moves.specs.Ready.{Steady}
use Rattle.moves.specs.declared.Known.{Known}
use Rattle.known.specs.Knowing.{KnownOf}
use Rattle.refusals.specs.Named.{named}
use Rattle.refusals.specs.declared.Refusal.{Refusal}
use Rattle.refusals.specs.declared.Refusal.TheVariants.{BadProperty, BadSession, NoSuchEvent, WrongValues}
use Rattle.steps.specs.Steps.{step_by, answered, Leaves}
use Rattle.steps.specs.SteadyLaws.{kept_range, sound_steady, step_same}
use Rattle.steps.specs.declared.Answered.{Answered}
use Rattle.session.specs.Events.{Judged, EventRefused}

-- Judged ---------------------------------------------------------------------------------------------------------------

module _ (p : Property) (s : Session) (e : ℕ) (values : List ℕ) where
  pub event_property : in_range p ≡ false → (r : Refusal) → r ≡ BadProperty → EventRefused p s e values r
  unfolding event
  event_property z r q = record { says = λ reports. rw (z, q) }

  module _ (range : in_range p ≡ true) where
    pub event_session : sound p s ≡ false → (r : Refusal) → r ≡ BadSession → EventRefused p s e values r
    unfolding event
    event_session z r q = record { says = λ reports. rw (range, z, q) }

    module _ (right : sound p s ≡ true) where
      pub event-number : p.events ≤ e → EventRefused p s e values NoSuchEvent
      unfolding event
      event-number l = record { says = λ reports. rw (range, right, le-leb p.events e l) }

      module _ (there : e < p.events) (set : ℕ) (h : Bool) (qs : set ≡ get_or p.sets e 0) (qh : h ≡ binds_exactly set values) where
        binds : binds_exactly (set_of p e) values ≡ h
        unfolding set_of
        binds = ap (λ (x : ℕ). binds_exactly x values) (sym qs) ∙ sym qh

        pub event_values : h ≡ false → EventRefused p s e values WrongValues
        unfolding event
        event_values z = record { says = λ reports. rw (range, right, lt-leb p.events e there, binds ∙ z) }

        pub event_judged : h ≡ true → (k : Known) → KnownOf p k → Judged p s e values k
        event_judged z k u = record { range = range; right = right; there = there; binds = binds ∙ z; known = u }

-- One event ------------------------------------------------------------------------------------------------------------

module _ (p : Property) (n m : ℕ) (seen kept : List ℕ) (e : ℕ) (values : List ℕ) where
  pub event_refused : (x : Refusal) → EventRefused p (session_of n m seen kept) e values x → (reports : List ℕ) → (y : ℕ) → y ≡ number (named x)
      → (r : Answered) → r ≡ record { refusal = y; seen = n; kept = m; reported = 0 }
      → Leaves (event p (session_of n m seen kept) reports e values) (session_of n m seen kept) reports r seen kept reports
  unfolding answered leaves
  event_refused x w reports y d r q =
      rw (w.says reports) (record { says = rw d at q; seen_left = refl; kept_left = refl; reports_left = refl })

  module _ (k : Known) (w : Judged p (session_of n m seen kept) e values k) where
    -- what the step needs
    pub event_steady : Steady k.next k.states e n m seen kept
    event_steady = rw (w.known.next, w.known.states) (sound_steady p w.range n m seen kept w.right e w.there)

    pub event_steps : (reports : List ℕ) (r : Answered) (seen' kept' reports' : List ℕ)
        → Leaves (step_by k.next k.verdicts k.hopeful k.asked 0 (session_of n m seen kept) reports e values) (session_of n m seen kept) reports r seen' kept' reports'
        → Leaves (event p (session_of n m seen kept) reports e values) (session_of n m seen kept) reports r seen' kept' reports'
    unfolding event kept_of
    event_steps reports r seen' kept' reports' v =
        let u = w.known in
        let a : step_by k.next k.verdicts k.hopeful k.asked 0 (session_of n m seen kept) reports e values ≡ step_from 0 p (session_of n m seen kept) reports e values =
        rw (u.next, u.verdicts) (step_same p w.range k.hopeful k.asked u.hopes u.asks (session_of n m seen kept)
        (kept_range p w.range n m seen kept w.right) e w.there values 0 reports) in
        rw (w.range, w.right, lt-leb p.events e w.there, w.binds)
        (subst (λ (x : Answer Happened). Leaves x (session_of n m seen kept) reports r seen' kept' reports') a v)
