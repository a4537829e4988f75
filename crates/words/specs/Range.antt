-- Document 01, "Numbers of refusal", 11: the test that a property table is in range, as the facts that it tests. With it,
-- tests of all numbers below another.
-- Assumes nothing.
use Rattle.std.specs.Prelude.{ℕ, zero, suc, ◌^◌, ◌<◌, ◌≤◌, ◌≡◌, refl, Bool, true, false, ◌&&◌, leb, ltb, eqb}
use Rattle.std.proofs.Common.{arith}
use borrow.Author.Tests.{le-leb, lt-ltb, leb-true, ltb-true, eqb-true, eqb-false}
use Rattle.document.specs.Lists.{every_below}
use Rattle.document.specs.Limits.{width, most_events, most_states}
use Rattle.document.specs.Property.{Property, set_of, next_state, verdict, in_range}
use Rattle.basics.specs.Tests.{and_left, and_right}
use Rattle.words.specs.Sets.{and_both}

-- ---- tests of all numbers below another
pub every_below_lem : (n : ℕ) (p : ℕ → Bool) → ((k : ℕ) → k < n → p k ≡ true) → every_below n p ≡ true
unfolding every_below
every_below_lem zero p h = refl
every_below_lem (suc n) p h = and_both (p n) (every_below n p) (h n (omega arith)) (every_below_lem n p (λ k l. h k (omega arith)))

pub below_every : (n : ℕ) (p : ℕ → Bool) → every_below n p ≡ true → (k : ℕ) → k < n → p k ≡ true
unfolding every_below
below_every zero p h k l = absurd (omega arith)
below_every (suc n) p h k l = go (eqb k n) refl (below_every n p (and_right (p n) (every_below n p) h) k)
  where
    go : (t : Bool) → eqb k n ≡ t → (k < n → p k ≡ true) → p k ≡ true
    go true e ih = rw (eqb-true k n e) (and_left (p n) (every_below n p) h)
    go false e ih = let other : (k ≡ n → ⊥) = eqb-false k n e in ih (omega arith)

-- ---- the facts
pub record InRange (p : Property) : Type 0 where
  pub few_parameters : p.parameters ≤ width
  pub some_event : 1 ≤ p.events
  pub few_events : p.events ≤ most_events
  pub some_state : 1 ≤ p.states
  pub few_states : p.states ≤ most_states
  pub some_asked : 1 ≤ p.asked
  pub few_asked : p.asked ≤ 3
  pub sets : (e : ℕ) → e < p.events → set_of p e < 2 ^ p.parameters
  pub verdicts : (s : ℕ) → s < p.states → verdict p s ≤ 2
  pub next : (s e : ℕ) → s < p.states → e < p.events → next_state p s e < p.states

-- six tests, and a number between two others
all_hold : (a b c d e f : Bool) → a ≡ true → b ≡ true → c ≡ true → d ≡ true → e ≡ true → f ≡ true → a && b && c && d && e && f ≡ true
all_hold a b c d e f i j k l m n = rw (i, j, k, l, m, n) refl

record AllHold (a b c d e f : Bool) : Type 0 where
  first : a ≡ true
  second : b ≡ true
  third : c ≡ true
  fourth : d ≡ true
  fifth : e ≡ true
  sixth : f ≡ true

each_holds : (a b c d e f : Bool) → a && b && c && d && e && f ≡ true → AllHold a b c d e f
each_holds a b c d e f h =
    let five = and_left (a && b && c && d && e) f h in
    let four = and_left (a && b && c && d) e five in
    let three = and_left (a && b && c) d four in
    let two = and_left (a && b) c three in
    record {
      first = and_left a b two;
      second = and_right a b two;
      third = and_right (a && b) c three;
      fourth = and_right (a && b && c) d four;
      fifth = and_right (a && b && c && d) e five;
      sixth = and_right (a && b && c && d && e) f h;
    }

between : (a x b : ℕ) → a ≤ x → x ≤ b → leb a x && leb x b ≡ true
between a x b l h = and_both (leb a x) (leb x b) (le-leb a x l) (le-leb x b h)

module _ (p : Property) where
  -- the parts of the test
  abbrev parameters_fit : Bool
  parameters_fit = leb p.parameters width

  abbrev events_fit : Bool
  events_fit = leb 1 p.events && leb p.events most_events

  abbrev states_fit : Bool
  states_fit = leb 1 p.states && leb p.states most_states

  abbrev asked_fits : Bool
  asked_fits = leb 1 p.asked && leb p.asked 3

  abbrev set_fits : ℕ → Bool
  set_fits e = ltb (set_of p e) (2 ^ p.parameters)

  abbrev entry_fits : ℕ → ℕ → Bool
  entry_fits s e = ltb (next_state p s e) p.states

  abbrev state_fits : ℕ → Bool
  state_fits s = leb (verdict p s) 2 && every_below p.events (entry_fits s)

  pub range_in_range : InRange p → in_range p ≡ true
  unfolding in_range
  range_in_range h = all_hold parameters_fit events_fit states_fit asked_fits (every_below p.events set_fits) (every_below p.states state_fits)
      (le-leb p.parameters width h.few_parameters)
      (between 1 p.events most_events h.some_event h.few_events)
      (between 1 p.states most_states h.some_state h.few_states)
      (between 1 p.asked 3 h.some_asked h.few_asked)
      (every_below_lem p.events set_fits (λ e l. lt-ltb (set_of p e) (2 ^ p.parameters) (h.sets e l)))
      (every_below_lem p.states state_fits (λ s l.
      and_both (leb (verdict p s) 2) (every_below p.events (entry_fits s)) (le-leb (verdict p s) 2 (h.verdicts s l))
      (every_below_lem p.events (entry_fits s) (λ e b. lt-ltb (next_state p s e) p.states (h.next s e l b)))))

  pub in_range_range : in_range p ≡ true → InRange p
  unfolding in_range
  in_range_range h =
      let x = each_holds parameters_fit events_fit states_fit asked_fits (every_below p.events set_fits) (every_below p.states state_fits) h in
      let state : ((s : ℕ) → s < p.states → state_fits s ≡ true) = below_every p.states state_fits x.sixth in
      record {
        few_parameters = leb-true p.parameters width x.first;
        some_event = leb-true 1 p.events (and_left (leb 1 p.events) (leb p.events most_events) x.second);
        few_events = leb-true p.events most_events (and_right (leb 1 p.events) (leb p.events most_events) x.second);
        some_state = leb-true 1 p.states (and_left (leb 1 p.states) (leb p.states most_states) x.third);
        few_states = leb-true p.states most_states (and_right (leb 1 p.states) (leb p.states most_states) x.third);
        some_asked = leb-true 1 p.asked (and_left (leb 1 p.asked) (leb p.asked 3) x.fourth);
        few_asked = leb-true p.asked 3 (and_right (leb 1 p.asked) (leb p.asked 3) x.fourth);
        sets = λ e l. ltb-true (set_of p e) (2 ^ p.parameters) (below_every p.events set_fits x.fifth e l);
        verdicts = λ s l. leb-true (verdict p s) 2 (and_left (leb (verdict p s) 2) (every_below p.events (entry_fits s)) (state s l));
        next = λ s e l b. ltb-true (next_state p s e) p.states
            (below_every p.events (entry_fits s) (and_right (leb (verdict p s) 2) (every_below p.events (entry_fits s)) (state s l)) e b);
      }
