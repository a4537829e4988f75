-- What a property table in its ranges (refusal 11) says, and the state after a sequence of events.
-- Assumes nothing.
use Rattle.std.specs.Prelude.{ℕ, ◌^◌, ◌<◌, ◌≤◌, ◌≡◌, refl, Bool, true, ◌&&◌, List, [], ◌∷◌, ◌++◌, leb, ltb}
use Rattle.std.proofs.Common.{inl, inr, leb→le, ltb→lt}
use Rattle.document.specs.Lists.{In, every_below}
use Rattle.document.specs.Limits.{width, most_events, most_states}
use Rattle.document.specs.Property.{Property, set_of, next_state, verdict, in_range, state_from, state_after}
use Rattle.slices.specs.TestsLaws.{so, and_of, every_below_of}

pub record Ranges (p : Property) : Type 0 where
  pub parameters : p.parameters ≤ width
  pub states : 0 < p.states
  pub sets : (e : ℕ) → e < p.events → set_of p e < 2 ^ p.parameters
  pub next : (s e : ℕ) → s < p.states → e < p.events → next_state p s e < p.states

pub ranges : (p : Property) → in_range p ≡ true → Ranges p
unfolding in_range
ranges p r =
    let params = leb p.parameters width in
    let events = leb 1 p.events && leb p.events most_events in
    let states = leb 1 p.states && leb p.states most_states in
    let asks = leb 1 p.asked && leb p.asked 3 in
    let sets = every_below p.events (λ e. ltb (set_of p e) (2 ^ p.parameters)) in
    let row : ℕ → Bool = λ s. leb (verdict p s) 2 && every_below p.events (λ e. ltb (next_state p s e) p.states) in
    let h₁ = and_of (params && events && states && asks && sets) (every_below p.states row) (so r) in
    let h₂ = and_of (params && events && states && asks) sets h₁.0 in
    let h₃ = and_of (params && events && states) asks h₂.0 in
    let h₄ = and_of (params && events) states h₃.0 in
    let h₅ = and_of params events h₄.0 in
    record {
      parameters = leb→le p.parameters width h₅.0;
      states = leb→le 1 p.states (and_of (leb 1 p.states) (leb p.states most_states) h₄.1).0;
      sets = λ e k.
          let t = every_below_of p.events (λ e. ltb (set_of p e) (2 ^ p.parameters)) h₂.1 e k in
          ltb→lt (set_of p e) (2 ^ p.parameters) t;
      next = λ s e i k.
          let t = every_below_of p.states row h₁.1 s i in
          let u = and_of (leb (verdict p s) 2) (every_below p.events (λ e. ltb (next_state p s e) p.states)) t in
          ltb→lt (next_state p s e) p.states (every_below_of p.events (λ e. ltb (next_state p s e) p.states) u.1 e k);
    }

-- the state after a sequence -------------------------------------------------------------------------------------------

pub state_from_append : (p : Property) (s : ℕ) (l m : List ℕ) → state_from p s (l ++ m) ≡ state_from p (state_from p s l) m
unfolding state_from
state_from_append p s [] m = refl
state_from_append p s (e ∷ l) m = state_from_append p (next_state p s e) l m

pub state_after-more : (p : Property) (l : List ℕ) (e : ℕ) → state_after p (l ++ (e ∷ [])) ≡ next_state p (state_after p l) e
unfolding state_after state_from
state_after-more p l e = state_from_append p 0 l (e ∷ [])

state_from_range : (p : Property) → Ranges p → (s : ℕ) (l : List ℕ) → s < p.states → ((e : ℕ) → In e l → e < p.events)
    → state_from p s l < p.states
unfolding state_from
state_from_range p r s [] h f = h
state_from_range p r s (e ∷ l) h f = state_from_range p r (next_state p s e) l (r.next s e h (f e (inl refl))) (λ x i. f x (inr i))

pub state_after_range : (p : Property) → Ranges p → (l : List ℕ) → ((e : ℕ) → In e l → e < p.events) → state_after p l < p.states
unfolding state_after
state_after_range p r l f = state_from_range p r 0 l r.states f
