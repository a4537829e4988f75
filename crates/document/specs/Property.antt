-- Document 01, "The table": the property table as a value, its check (refusal 11), the state after a sequence, the
-- verdicts asked for, and the hopeful states.
-- Assumes nothing.
use Rattle.std.specs.Prelude.{ℕ, zero, suc, ◌+◌, ◌*◌, ◌^◌, Bool, true, false, ◌&&◌, ◌||◌, List, [], ◌∷◌, get_or, replicate, T, leb, ltb}
use Rattle.document.specs.Lists.{In, every_below, some_below, tabulate}
use Rattle.document.specs.Limits.{width, most_events, most_states}
use Rattle.document.specs.Patterns.{Among}
use Rattle.document.specs.Positions.{holds}

-- counts, the set of each event, transitions (of state s by event e at s * 16 + e), verdicts, the set of verdicts asked for
-- (1 match, 2 fail, 3 both). Entries past the counts mean nothing; the translator writes 0 there.
pub record Property : Type 0 where
  pub parameters : ℕ
  pub events : ℕ
  pub states : ℕ
  pub asked : ℕ
  pub sets : List ℕ
  pub next : List ℕ
  pub verdicts : List ℕ

unfoldable pub set_of : Property → ℕ → ℕ
set_of p e = get_or p.sets e 0

unfoldable pub next_state : Property → ℕ → ℕ → ℕ
next_state p s e = get_or p.next (s * most_events + e) 0

unfoldable pub verdict : Property → ℕ → ℕ
verdict p s = get_or p.verdicts s 0

-- refusal 11 is given where this does not hold: "a count, set, state or verdict outside its range, no verdict asked for"
unfoldable pub in_range : Property → Bool
in_range p =
    leb p.parameters width
    && (leb 1 p.events && leb p.events most_events)
    && (leb 1 p.states && leb p.states most_states)
    && (leb 1 p.asked && leb p.asked 3)
    && every_below p.events (λ e. ltb (set_of p e) (2 ^ p.parameters))
    && every_below p.states (λ s. leb (verdict p s) 2 && every_below p.events (λ e. ltb (next_state p s e) p.states))

-- the state after a sequence
unfoldable pub state_from : Property → ℕ → List ℕ → ℕ
state_from p s [] = s
state_from p s (e ∷ w) = state_from p (next_state p s e) w

unfoldable pub state_after : Property → List ℕ → ℕ
state_after p w = state_from p 0 w

-- the verdict v is among those of a set of verdicts
unfoldable pub asks_for : ℕ → ℕ → Bool
asks_for a zero = false
asks_for a (suc v) = holds a v

unfoldable pub is_asked : Property → ℕ → Bool
is_asked p s = asks_for p.asked (verdict p s)

-- "A state is hopeful if some sequence of one or more events leads from it to a verdict asked for". What is meant, over the
-- states that are marked and the events that are allowed (in the base every event is), with the sequence as its witness:
pub record Leads (p : Property) (marked allowed : ℕ → Bool) (s : ℕ) : Type 0 where
  pub first : ℕ
  pub rest : List ℕ
  pub declared : Among p.events (first ∷ rest)
  pub permitted : (e : ℕ) → In e (first ∷ rest) → T (allowed e)
  pub arrives : T (marked (state_from p s (first ∷ rest)))

-- and worked out: in as many rounds as there are states, each state from which an event leads to a marked state, or to one
-- found in an earlier round
unfoldable pub leads_in : Property → (ℕ → Bool) → (ℕ → Bool) → List Bool → ℕ → Bool
leads_in p marked allowed found s =
    some_below p.events (λ e. allowed e && (marked (next_state p s e) || get_or found (next_state p s e) false))

unfoldable pub leads_after : Property → (ℕ → Bool) → (ℕ → Bool) → ℕ → List Bool
leads_after p marked allowed zero = replicate p.states false
leads_after p marked allowed (suc n) = let found = leads_after p marked allowed n in tabulate p.states (leads_in p marked allowed found)

unfoldable pub leads : Property → (ℕ → Bool) → (ℕ → Bool) → ℕ → Bool
leads p marked allowed s = get_or (leads_after p marked allowed p.states) s false

-- in the base every declared event is allowed
abbrev pub every_event : ℕ → Bool
every_event e = true

unfoldable pub hopeful : Property → ℕ → Bool
hopeful p s = leads p (is_asked p) every_event s
