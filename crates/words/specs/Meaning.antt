-- The customer's demand 2, "For every sequence of declared events its table then gives the total-matching verdict": for the
-- table that the translator makes of declarations and a pattern that the grammar and the limits allow. The verdicts asked for
-- do not bear on states, transitions and verdicts.
-- Assumes nothing.
use Rattle.std.specs.Prelude.{ℕ, ◌≤◌, ◌≡◌, refl, Bool, true, false, List, length, take, ltb}
use Rattle.std.proofs.Common.{arith, ap, ltb-true, ltb-false}
use Rattle.document.specs.Limits.{most_names, most_states}
use Rattle.document.specs.Declarations.{Declared}
use Rattle.document.specs.Patterns.{Pattern, TotalMatching, Among}
use Rattle.document.specs.Reading.{Parsed}
use Rattle.document.specs.States.{Found, states_of, MoreStates}
use Rattle.document.specs.Property.{Property, in_range, state_after, verdict}
use Rattle.document.specs.Translate.{anew, property_of}
use Rattle.document.specs.Demands.{Allowed, Means, tokens_of}
use Rattle.basics.specs.Asked.{asks_some, asks_few}
use Rattle.words.specs.Numbers.{Numbered, reads_numbered}
use Rattle.words.specs.Matching.{verdict_after_total}
use Rattle.words.specs.Closed.{Through, states_closed}
use Rattle.words.specs.Count.{more_states}
use Rattle.words.specs.Table.{Fits, in_range_lem, sets_declared, verdict-after}
use Rattle.words.specs.Taken.{declarations_fit}
use Rattle.words.specs.Names.{names_few}

-- the states that the translator finds, and its table
abbrev pub states_for : Declared → Pattern → Found
states_for d r = states_of anew r (length d.events)

abbrev pub table_for : Declared → Parsed → Property
table_for d t = property_of d t (states_for d t.pattern)

-- refusal 10 is given exactly where there are more than 64 states
pub states_few : (d : Declared) (r : Pattern) → length (states_for d r).sets ≤ most_states → MoreStates anew r (length d.events) most_states → ⊥
states_few d r few m =
    let more = ltb-true most_states (length (states_for d r).sets) ((more_states anew r (length d.events)).1 m) in
    omega arith

pub few_states_lem : (d : Declared) (r : Pattern) → (MoreStates anew r (length d.events) most_states → ⊥)
    → length (states_for d r).sets ≤ most_states
few_states_lem d r h = go (ltb most_states (length (states_for d r).sets)) refl
  where
    go : (t : Bool) → ltb most_states (length (states_for d r).sets) ≡ t → length (states_for d r).sets ≤ most_states
    go true e = absurd (h ((more_states anew r (length d.events)).0 e))
    go false e = ltb-false most_states (length (states_for d r).sets) e

module _ (d : Declared) (t : Parsed) (fits : Fits d) (few : length (states_for d t.pattern).sets ≤ most_states) where
  closed : Through anew t.pattern (length d.events) (length (states_for d t.pattern).sets) (states_for d t.pattern)
  closed = states_closed anew t.pattern (length d.events) few

  pub table_in_range : 1 ≤ t.asked → t.asked ≤ 3 → in_range (table_for d t) ≡ true
  table_in_range low high = in_range_lem anew d t (states_for d t.pattern) fits few closed low high

  pub table_sets : take (length d.events) (table_for d t).sets ≡ d.sets
  unfolding property_of
  table_sets = sets_declared anew d t (states_for d t.pattern) fits few closed

  pub table_total : (hi : ℕ) → Numbered t.pattern 0 hi → hi ≤ most_names → (w : List ℕ) → Among (length d.events) w
      → TotalMatching t.pattern w (verdict (table_for d t) (state_after (table_for d t) w))
  table_total hi n names w a =
      rw (verdict-after anew d t (states_for d t.pattern) fits few closed w a) (verdict_after_total t.pattern hi n names w)

-- an allowed text's table says what it means
pub allowed_means : {events text : List ℕ} (a : Allowed events text)
    → Means a (table_for a.declared (record { pattern = a.pattern; asked = a.asked }))
unfolding property_of
allowed_means {events} {text} a =
    let d : Declared = a.declared in
    let t : Parsed = record { pattern = a.pattern; asked = a.asked } in
    let fits : Fits d = declarations_fit events d a.declares in
    let few : length (states_for d a.pattern).sets ≤ most_states = few_states_lem d a.pattern a.few_states in
    record {
      parameter_count = refl;
      event_count = refl;
      event_sets = table_sets d t fits few;
      asks = refl;
      usable = table_in_range d t fits few (asks_some a.whole.wants) (asks_few a.whole.wants);
      verdicts = λ w among. table_total d t fits few a.whole.names (reads_numbered d.events a.whole.reads)
          (names_few d.events (tokens_of text) a.pattern a.asked a.whole a.faultless) w among;
    }

-- ---- tables that differ in the verdicts asked for only
pub record SameTable (p q : Property) : Type 0 where
  pub states : p.states ≡ q.states
  pub next : p.next ≡ q.next
  pub verdicts : p.verdicts ≡ q.verdicts

pub asked_same_table : (d : Declared) (t u : Parsed) → t.pattern ≡ u.pattern → SameTable (table_for d t) (table_for d u)
unfolding property_of
asked_same_table d t u h = record {
  states = ap (λ (r : Pattern). length (states_for d r).sets) h;
  next = ap (λ (r : Pattern). (property_of d (record { pattern = r; asked = 0 }) (states_for d r)).next) h;
  verdicts = ap (λ (r : Pattern). (property_of d (record { pattern = r; asked = 0 }) (states_for d r)).verdicts) h;
}
