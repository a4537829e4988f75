-- Document 01, "The table": the property table of a closed table of states. It is in range, its states are the numbers of the
-- sets, and its verdicts are those of the sets; so after every sequence of declared events it gives the verdict of the
-- sequence's set. It is so for total matching and where sets start anew.
-- Assumes nothing.
use Prim.Native.Nat.{ℕ, zero, suc, ◌+◌, ◌*◌, ◌^◌, ◌/◌, ◌%◌, ◌<◌, ◌≤◌}
use native.Mathlib.Omega.{arith}
use Rattle.std.specs.Prelude.{◌≡◌, Bool, true, false, cond, not, ◌&&◌, ◌||◌, take, eqb}
use Rattle.std.proofs.Math.Path.{refl, sym}
use Rattle.std.proofs.Common.{ap, ◌∙◌}
use mathlib.Core.List.{List, [], ◌∷◌}
use mathlib.Core.List as list
use Rattle.std.proofs.Math.ListN.{length, get_or}
use Rattle.std.proofs.Math.Seq.{ext_get_or, get_or-take, length-take-le}
use Rattle.std.specs.Int.Bits.{bit_and}
use Rattle.document.specs.Lists.{tabulate}
use Rattle.document.specs.Limits.{width, most_events, most_states}
use Rattle.document.specs.Declarations.{Declared}
use Rattle.document.specs.Reading.{Parsed}
use Rattle.document.specs.Patterns.{Pattern, Among, match, fail, undecided}
use Rattle.document.specs.Positions.{holds, nullable, lasts, set_after, verdict_of}
use Rattle.document.specs.States.{Found}
use Rattle.document.specs.Property.{Property, set_of, next_state, verdict, in_range, state_from, state_after}
use Rattle.document.specs.Translate.{property_of}
use Rattle.basics.specs.Lists.{tabulate_at, length-tabulate}
use Rattle.words.specs.Range.{range_in_range}
use Rattle.words.specs.Closed.{entry_of, Through}
use Rattle.words.specs.Walks.{walk, walk_same, states_some, walk_from, walk-set}

pub map_at : (f : ℕ → ℕ) (l : List ℕ) (k : ℕ) → k < length l → get_or (list.map f l) k 0 ≡ f (get_or l k 0)
map_at f [] k h = absurd (omega arith)
map_at f (x ∷ l) zero h = refl
map_at f (x ∷ l) (suc k) h = map_at f l k (omega arith)

-- ---- the verdict of a set is a verdict
pub verdict_le : (r : Pattern) (s : ℕ) → verdict_of r s ≤ 2
unfolding verdict_of
verdict_le r s = go ((holds s 0 && nullable r) || not (eqb (bit_and s (lasts r)) 0)) (eqb s 0)
  where
    go : (t u : Bool) → cond t match (cond u fail undecided) ≤ 2
    go true u = omega arith
    go false true = omega arith
    go false false = omega arith

-- ---- what declarations that are taken have
pub record Fits (d : Declared) : Type 0 where
  pub some_event : 1 ≤ length d.events
  pub few_events : length d.events ≤ most_events
  pub few_parameters : length d.parameters ≤ width
  pub sets_long : length d.sets ≡ length d.events
  pub sets_fit : (e : ℕ) → e < length d.events → get_or d.sets e 0 < 2 ^ length d.parameters

module _ (anew : Bool) (d : Declared) (t : Parsed) (g : Found) (fits : Fits d)
    (few : length g.sets ≤ most_states) (through : Through anew t.pattern (length d.events) (length g.sets) g) where
  pub next_entry : (s e : ℕ) → s < length g.sets → e < length d.events
      → next_state (property_of d t g) s e ≡ entry_of g s e
  unfolding property_of next_state
  next_entry s e l b =
      let f = fits.few_events in
      let i : s * most_events + e < most_states * most_events = omega arith in
      let row : (s * most_events + e) / most_events ≡ s = omega arith in
      let column : (s * most_events + e) % most_events ≡ e = omega arith in
      tabulate_at (most_states * most_events) (λ k. get_or (get_or g.table (k / most_events) []) (k % most_events) 0) (s * most_events + e) 0 i
      ∙ rw (row, column) refl

  pub next_below : (s e : ℕ) → s < length g.sets → e < length d.events → next_state (property_of d t g) s e < length g.sets
  next_below s e l b = rw (next_entry s e l b) (through.entry s l e b).below

  pub verdict-set : (s : ℕ) → s < length g.sets → verdict (property_of d t g) s ≡ verdict_of t.pattern (get_or g.sets s 0)
  unfolding property_of verdict
  verdict-set s l =
      tabulate_at most_states (λ j. get_or (list.map (verdict_of t.pattern) g.sets) j 0) s 0 (omega arith)
      ∙ map_at (verdict_of t.pattern) g.sets s l

  pub set_declared : (e : ℕ) → e < length d.events → set_of (property_of d t g) e ≡ get_or d.sets e 0
  unfolding property_of set_of
  set_declared e l = let f = fits.few_events in tabulate_at most_events (λ j. get_or d.sets j 0) e 0 (omega arith)

  pub sets_declared : take (property_of d t g).events (property_of d t g).sets ≡ d.sets
  unfolding property_of
  sets_declared =
      let n : ℕ = length d.events in
      let l : List ℕ = tabulate most_events (λ e. get_or d.sets e 0) in
      let f : n ≤ most_events = fits.few_events in
      let z : length (take n l) ≡ n = length-take-le n l (rw length-tabulate f) in
      ext_get_or 0 (take n l) d.sets (z ∙ sym fits.sets_long) (λ i h.
      get_or-take n l i 0 (omega arith) ∙ tabulate_at most_events (λ e. get_or d.sets e 0) i 0 (omega arith))

  -- refusal 11 is never given to it
  pub in_range_lem : 1 ≤ t.asked → t.asked ≤ 3 → in_range (property_of d t g) ≡ true
  unfolding property_of
  in_range_lem low high = range_in_range (property_of d t g) (record {
    few_parameters = fits.few_parameters;
    some_event = fits.some_event;
    few_events = fits.few_events;
    some_state = states_some anew t.pattern (length d.events) g through;
    few_states = few;
    some_asked = low;
    few_asked = high;
    sets = λ e l. rw (set_declared e l) (fits.sets_fit e l);
    verdicts = λ s l. rw (verdict-set s l) (verdict_le t.pattern (get_or g.sets s 0));
    next = next_below;
  })

  -- ---- after a sequence of declared events
  state_from_walk : (p : Property) (s : ℕ) (w : List ℕ) → state_from p s w ≡ walk (next_state p) s w
  unfolding state_from walk
  state_from_walk p s [] = refl
  state_from_walk p s (e ∷ w) = state_from_walk p (next_state p s e) w

  pub state_after_walk : (w : List ℕ) → Among (length d.events) w
      → state_after (property_of d t g) w ≡ walk (entry_of g) 0 w
  unfolding state_after
  state_after_walk w a =
      state_from_walk (property_of d t g) 0 w
      ∙ walk_same (length g.sets) (length d.events) (next_state (property_of d t g)) (entry_of g)
      (λ s e l b. (next_entry s e l b, (through.entry s l e b).below)) 0 w (states_some anew t.pattern (length d.events) g through) a

  pub verdict-after : (w : List ℕ) → Among (length d.events) w
      → verdict (property_of d t g) (state_after (property_of d t g) w) ≡ verdict_of t.pattern (set_after anew t.pattern w)
  verdict-after w a =
      let some = states_some anew t.pattern (length d.events) g through in
      rw (state_after_walk w a)
      (verdict-set _ (walk_from anew t.pattern (length d.events) g through w 0 some a).below
      ∙ ap (verdict_of t.pattern) (walk-set anew t.pattern (length d.events) g through w a))
