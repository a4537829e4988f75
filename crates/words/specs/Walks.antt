-- Document 01, "The table": where the table is closed, the state reached along it is the number of the sequence's set, and
-- each state is reached by some sequence.
-- Assumes nothing.
use Rattle.std.specs.Prelude.{ℕ, ◌<◌, ◌≤◌, ◌≡◌, Bool, length, get_or}
use Rattle.std.proofs.Common.{arith, sym, ◌∙◌, inl, inr}
use Rattle.std.proofs.Math.Path.{refl, ap}
use mathlib.Core.List.{List, [], ◌∷◌}
use Rattle.document.specs.Lists.{In}
use Rattle.document.specs.Limits.{most_states}
use Rattle.document.specs.Patterns.{Pattern, Among}
use Rattle.document.specs.Positions.{move, start_set, set_from, set_after}
use Rattle.document.specs.States.{Found, state_of, states_of}
use Rattle.words.specs.Places.{in_state, distinct_state, distinct_places, at_in, extends_length, extends_at}
use Rattle.words.specs.Closed.{entry_of, Through, states_closed}

-- the state along a table from the state s
unfoldable pub walk : (ℕ → ℕ → ℕ) → ℕ → List ℕ → ℕ
walk step s [] = s
walk step s (e ∷ w) = walk step (step s e) w

-- along two tables that agree on the states and events that there are
pub walk_same : (n m : ℕ) (f g : ℕ → ℕ → ℕ) → ((s e : ℕ) → s < n → e < m → (f s e ≡ g s e) × (g s e < n))
    → (s : ℕ) (w : List ℕ) → s < n → Among m w → walk f s w ≡ walk g s w
unfolding walk
walk_same n m f g h s [] l a = refl
walk_same n m f g h s (e ∷ w) l a =
    let x = h s e l (a e (inl refl)) in
    rw x.0 (walk_same n m f g h (g s e) w x.1 (λ k i. a k (inr i)))

module _ (anew : Bool) (r : Pattern) (m : ℕ) (g : Found) (t : Through anew r m (length g.sets) g) where
  pub states_some : 0 < length g.sets
  states_some = let l = extends_length (start_set ∷ []) g.sets t.starts in omega arith

  -- "State 0 is {0}"
  pub state_zero : get_or g.sets 0 0 ≡ start_set
  state_zero = extends_at (start_set ∷ []) g.sets t.starts 0 (omega arith)

  -- an entry is the number of the set that its event leads to
  pub entry_state : (k e : ℕ) → k < length g.sets → e < m → entry_of g k e ≡ state_of (move anew r (get_or g.sets k 0) e) g.sets
  entry_state k e l b =
      let x = t.entry k l e b in
      sym (distinct_state g.sets (entry_of g k e) t.distinct x.below) ∙ ap (λ (s : ℕ). state_of s g.sets) x.is

  -- the state along the table is the number of the set along the moves
  pub record Walked (k : ℕ) (w : List ℕ) : Type 0 where
    pub below : walk (entry_of g) k w < length g.sets
    pub is : get_or g.sets (walk (entry_of g) k w) 0 ≡ set_from anew r (get_or g.sets k 0) w

  pub walk_from : (w : List ℕ) (k : ℕ) → k < length g.sets → Among m w → Walked k w
  unfolding walk set_from
  walk_from [] k l a = record { below = l; is = refl }
  walk_from (e ∷ w) k l a =
      let x = t.entry k l e (a e (inl refl)) in
      let y = walk_from w (entry_of g k e) x.below (λ f i. a f (inr i)) in
      record { below = y.below; is = y.is ∙ ap (λ (s : ℕ). set_from anew r s w) x.is }

  pub walk-set : (w : List ℕ) → Among m w → get_or g.sets (walk (entry_of g) 0 w) 0 ≡ set_after anew r w
  unfolding set_after
  walk-set w a = (walk_from w 0 states_some a).is ∙ ap (λ (s : ℕ). set_from anew r s w) state_zero

  pub walk_state : (w : List ℕ) → Among m w → walk (entry_of g) 0 w ≡ state_of (set_after anew r w) g.sets
  walk_state w a =
      sym (distinct_state g.sets (walk (entry_of g) 0 w) t.distinct (walk_from w 0 states_some a).below)
      ∙ ap (λ (s : ℕ). state_of s g.sets) (walk-set w a)

  pub set_after_in : (w : List ℕ) → Among m w → In (set_after anew r w) g.sets
  set_after_in w a = rw (walk-set w a) at (at_in g.sets (walk (entry_of g) 0 w) (walk_from w 0 states_some a).below)

  -- some sequence leads to the state k
  pub record LedTo (k : ℕ) : Type 0 where
    pub sequence : List ℕ
    pub declared : Among m sequence
    pub arrives : walk (entry_of g) 0 sequence ≡ k

  pub state_reached : (k : ℕ) → k < length g.sets → LedTo k
  state_reached k l =
      let x = t.reached (get_or g.sets k 0) (at_in g.sets k l) in
      let y = walk_from x.sequence 0 states_some x.declared in
      record {
        sequence = x.sequence;
        declared = x.declared;
        arrives = distinct_places g.sets _ k t.distinct y.below l (walk-set x.sequence x.declared ∙ x.is);
      }

-- ---- all of it as one statement
pub record StatesRight (anew : Bool) (r : Pattern) (m : ℕ) (g : Found) : Type 0 where
  -- "State 0 is {0}"
  pub some : 0 < length g.sets
  pub first : get_or g.sets 0 0 ≡ start_set
  -- "the distinct sets"
  pub distinct : (i k : ℕ) → i < length g.sets → k < length g.sets → get_or g.sets i 0 ≡ get_or g.sets k 0 → i ≡ k
  -- the entry of a state and an event is the number of the set that the event leads to
  pub entries : (k e : ℕ) → k < length g.sets → e < m → entry_of g k e ≡ state_of (move anew r (get_or g.sets k 0) e) g.sets
  -- "over all sequences": the state along the table is the number of the sequence's set, and each state is some sequence's
  pub found : (w : List ℕ) → Among m w → state_of (set_after anew r w) g.sets < length g.sets
  pub walked : (w : List ℕ) → Among m w → walk (entry_of g) 0 w ≡ state_of (set_after anew r w) g.sets
  pub led : (k : ℕ) → k < length g.sets → (w : List ℕ) × Among m w × (walk (entry_of g) 0 w ≡ k)

pub states_right : (anew : Bool) (r : Pattern) (m : ℕ) → length (states_of anew r m).sets ≤ most_states → StatesRight anew r m (states_of anew r m)
states_right anew r m few =
    let g : Found = states_of anew r m in
    let t : Through anew r m (length g.sets) g = states_closed anew r m few in
    record {
      some = states_some anew r m g t;
      first = state_zero anew r m g t;
      distinct = λ i k. distinct_places g.sets i k t.distinct;
      entries = entry_state anew r m g t;
      found = λ w a. in_state (set_after anew r w) g.sets (set_after_in anew r m g t w a);
      walked = walk_state anew r m g t;
      led = λ k l. let x = state_reached anew r m g t k l in (x.sequence, x.declared, x.arrives);
    }
