-- The customer's demands 2 and 3 as statements: what the definitions of the document's procedures mean in the customer's
-- words. Demand 1 is in the form of the calls: each is a function of every input that ends, and what it leaves on a refusal
-- is said beside it (`leaves`, `start_leaves` of Session; `run` of Log).
-- Assumes nothing.
use Rattle.std.specs.Prelude.{ℕ, ◌<◌, ◌≤◌, ◌≡◌, ◌↔◌, true, List, [], ◌∷◌, ◌++◌, length, take, drop, T, ltb}
use mathlib.Core.List as list
use Rattle.document.specs.Lists.{In, Decides}
use Rattle.document.specs.Limits.{width, text_bytes, most_names, most_states}
use Rattle.document.specs.Refusals.{Refusal, textTooLong, tooManyStates, noRoomForKept, Answer, taken, refused, refuse_if}
use Rattle.document.specs.Declarations.{Declared, declarations}
use Rattle.document.specs.Patterns.{Pattern, TotalMatching, Among}
use Rattle.document.specs.Tokens.{Token, lexemes, offset_of}
use Rattle.document.specs.Grammar.{alternatives, Reads, Whole, Fault, FirstFault}
use Rattle.document.specs.Positions.{holds, set_after, StopsAt}
use Rattle.document.specs.States.{MoreStates}
use Rattle.document.specs.Property.{Property, in_range, state_after, verdict, is_asked, set_of, every_event, Leads, hopeful}
use Rattle.document.specs.Translate.{anew, translate}
use Rattle.document.specs.Combinations.{empty_of, includes, binds_exactly, zero_past}
use Rattle.document.specs.Histories.{Event, slice, IsBinding, Made}
use Rattle.document.specs.OneEvent.{Kept}
use Rattle.document.specs.Tables.{seen_room, kept_room}
use Rattle.document.specs.Session.{Session, Happened, Outcome, ascending, session_with, lent_tables, start, event, leaves, within_rooms, step_from, Found, held, hopeless, lookup}
use Rattle.document.specs.Log.{run, rows_between}

-- Demand 2 -------------------------------------------------------------------------------------------------------------

unfoldable pub tokens_of : List ℕ → List Token
tokens_of text = list.map (λ x. x.token) (lexemes text)

-- "document 01's grammar and limits allow it": for these declarations the text means the pattern and asks for the verdicts
pub record Allowed (events text : List ℕ) : Type 0 where
  pub declared : Declared
  pub pattern : Pattern
  pub asked : ℕ
  pub declares : declarations events ≡ taken declared
  pub short : length text ≤ text_bytes
  pub whole : Whole declared.events (tokens_of text) pattern asked
  pub faultless : (i : ℕ) (r : Refusal) → Fault declared.events (tokens_of text) i r → ⊥
  pub few_states : MoreStates anew pattern (length declared.events) most_states → ⊥

-- the table says what the allowed text means: "For every sequence of declared events its table then gives the total-matching
-- verdict"
pub record Means {events text : List ℕ} (a : Allowed events text) (p : Property) : Type 0 where
  pub parameter_count : p.parameters ≡ length a.declared.parameters
  pub event_count : p.events ≡ length a.declared.events
  pub event_sets : take p.events p.sets ≡ a.declared.sets
  pub asks : p.asked ≡ a.asked
  pub usable : in_range p ≡ true
  pub verdicts : (w : List ℕ) → Among p.events w → TotalMatching a.pattern w (verdict p (state_after p w))

-- the refusals of the two texts, in the document's order
pub data RefusedFor (events text : List ℕ) : Refusal → ℕ → Type 0 where
  declarations_refused : {r : Refusal} → declarations events ≡ refused r 0 → RefusedFor events text r 0
  pattern_too_long : {d : Declared} → declarations events ≡ taken d → text_bytes < length text → RefusedFor events text textTooLong 0
  faulty : {d : Declared} {i : ℕ} {r : Refusal} → declarations events ≡ taken d → length text ≤ text_bytes
      → FirstFault d.events (tokens_of text) i r → RefusedFor events text r (offset_of text (drop i (lexemes text)))
  states_exceeded : {d : Declared} {r : Pattern} {a : ℕ} → declarations events ≡ taken d → length text ≤ text_bytes
      → Whole d.events (tokens_of text) r a → ((i : ℕ) (q : Refusal) → Fault d.events (tokens_of text) i q → ⊥)
      → MoreStates anew r (length d.events) most_states → RefusedFor events text tooManyStates 0

pub record Demand2 : Type 0 where
  -- "taken exactly when document 01's grammar and limits allow it"
  pub takes : (events text : List ℕ) → Allowed events text → (p : Property) × (translate events text ≡ taken p)
  pub allows : (events text : List ℕ) (p : Property) → translate events text ≡ taken p → Allowed events text
  -- and then the table says what the text means
  pub means : (events text : List ℕ) (p : Property) → translate events text ≡ taken p → (a : Allowed events text) → Means a p
  -- and else it is refused as the document says
  pub refuses : (events text : List ℕ) (r : Refusal) (at : ℕ) → translate events text ≡ refused r at → RefusedFor events text r at
  -- the sets by which states are told apart, and counted, hold "the numbers at which a reading of that sequence can have stopped"
  pub sets : (declared : List (List ℕ)) (n : ℕ) (ts : List Token) (r : Pattern) → Reads declared alternatives 0 n ts r → n ≤ most_names
      → (w : List ℕ) (k : ℕ) → (holds (set_after anew r w) k ≡ true) ↔ StopsAt r k w

-- Demand 3 -------------------------------------------------------------------------------------------------------------

-- the list holds exactly what P says, "each once, in document 01's order"
pub record Lists {A : Type 0} (combinationOf : A → List ℕ) (P : A → Type 0) (l : List A) : Type 0 where
  pub order : ascending (list.map combinationOf l) ≡ true
  pub exactly : (x : A) → In x l ↔ P x

abbrev pub itself : List ℕ → List ℕ
itself b = b

-- "the distinct non-empty bindings"
pub record SeenIn (H : List Event) (b : List ℕ) : Type 0 where
  pub binding : IsBinding H b
  pub bound : b ≡ empty_of width → ⊥

module _ (p : Property) where
  -- "the made combinations whose rows, followed by some one or more declared events, would have such a verdict", with the
  -- state of those rows
  pub record KeptIn (H : List Event) (k : Kept) : Type 0 where
    pub made : Made width H k.combination
    pub state : k.state ≡ state_after p (slice k.combination H)
    pub hopeful : Leads p (is_asked p) every_event k.state

  -- "the combinations made so far that include its own values and whose rows, picked out in order, have a verdict the
  -- property asks for"
  pub record ReportedIn (H : List Event) (b : List ℕ) (k : Kept) : Type 0 where
    pub made : Made width H k.combination
    pub concerned : T (includes k.combination b)
    pub state : k.state ≡ state_after p (slice k.combination H)
    pub asked : T (is_asked p k.state)

  -- an event of the property with values for exactly its set
  pub record Proper (e : ℕ) (b : List ℕ) : Type 0 where
    pub declared : e < p.events
    pub width : length b ≡ width
    pub values : binds_exactly (set_of p e) b ≡ true

  -- the tables stand for the history
  pub record Holds (H : List Event) (s : Session) : Type 0 where
    pub history : (h : Event) → In h H → Proper h.event h.binding
    pub seen : List (List ℕ)
    pub kept : List Kept
    pub seen_lists : Lists itself (SeenIn H) seen
    pub kept_lists : Lists (λ k. k.combination) (KeptIn H) kept
    pub seen_rows : length seen ≤ seen_room s.seen
    pub kept_rows : length kept ≤ kept_room s.kept
    pub tables : s ≡ session_with s seen kept

  -- the history with one event more
  abbrev pub extended : List Event → ℕ → ℕ → List ℕ → List Event
  extended H n e b = H ++ (record { row = n; event = e; binding = b } ∷ [])

  -- what an event comes to, by the definitions over the whole history, this event its last
  pub record ComesTo (H : List Event) (b : List ℕ) (o : Outcome) : Type 0 where
    pub seen : Lists itself (SeenIn H) o.seen
    pub kept : Lists (λ k. k.combination) (KeptIn H) o.kept
    pub rows : Lists (λ k. k.combination) (ReportedIn H b) o.rows

  -- what lookup answers: "the slice's state exactly when it is hopeful"
  pub data LooksUp (H : List Event) (c : List ℕ) : Answer Found → Type 0 where
    is_held : Leads p (is_asked p) every_event (state_after p (slice c H))
        → LooksUp H c (taken (held (state_after p (slice c H)) (verdict p (state_after p (slice c H)))))
    is_hopeless : (Leads p (is_asked p) every_event (state_after p (slice c H)) → ⊥) → LooksUp H c (taken hopeless)

-- "From a fresh start, with one accepted property and the same tables and room throughout, refused events counting for
-- nothing": the session s is reached from the lent tables, and H are the events that it accepted
pub data Reached (p : Property) (seen kept : List ℕ) : List Event → Session → Type 0 where
  fresh : {s : Session} → start p seen kept ≡ taken s → Reached p seen kept [] s
  accepted : {H : List Event} {s : Session} {h : Happened} (reports : List ℕ) (n e : ℕ) (b : List ℕ) → Reached p seen kept H s
      → length b ≡ width → event p s reports e b ≡ taken h → Reached p seen kept (extended p H n e b) h.session
  refused_event : {H : List Event} {s : Session} {r : Refusal} {at : ℕ} (reports : List ℕ) (e : ℕ) (b : List ℕ) → Reached p seen kept H s
      → event p s reports e b ≡ refused r at → Reached p seen kept H (leaves s reports (event p s reports e b)).session

pub record Demand3 : Type 0 where
  -- start is refused 16 exactly when what is kept at the start exceeds its room
  pub starts : (p : Property) (seen kept : List ℕ) → in_range p ≡ true
      → (first : List Kept) × Lists (λ k. k.combination) (KeptIn p []) first
      × (start p seen kept ≡ refuse_if (ltb (kept_room kept) (length first)) noRoomForKept (taken (session_with (lent_tables seen kept) [] first)))
  -- every session that is reached holds its history, in the same room
  pub holds : (p : Property) (seen kept : List ℕ) (H : List Event) (s : Session) → Reached p seen kept H s
      → Holds p H s × (length s.seen ≡ length seen) × (length s.kept ≡ length kept)
  -- `Holds` is all that the answers rest on, so a session that comes to hold a history in another way may enter here.
  -- An event comes to what the definitions say, and "is refused for room exactly when the distinct non-empty bindings, kept
  -- combinations or reports after it would exceed their room" (`within_rooms`), wherever its reports begin
  pub answers : (p : Property) (H : List Event) (s : Session) → in_range p ≡ true → Holds p H s
      → (from : ℕ) (reports : List ℕ) (n e : ℕ) (b : List ℕ) → Proper p e b
      → (o : Outcome) × ComesTo p (extended p H n e b) b o × (step_from from p s reports e b ≡ within_rooms from p s reports o)
  pub events : (p : Property) (H : List Event) (s : Session) → in_range p ≡ true → Holds p H s
      → (reports : List ℕ) (e : ℕ) (b : List ℕ) → Proper p e b → event p s reports e b ≡ step_from 0 p s reports e b
  -- the history that an accepted event leads to is held again
  pub goes_on : (p : Property) (H : List Event) (s : Session) → in_range p ≡ true → Holds p H s
      → (from : ℕ) (reports : List ℕ) (n e : ℕ) (b : List ℕ) (h : Happened) → Proper p e b → step_from from p s reports e b ≡ taken h
      → Holds p (extended p H n e b) h.session
  pub looks_up : (p : Property) (H : List Event) (s : Session) → in_range p ≡ true → Holds p H s
      → (c : List ℕ) → length c ≡ width → zero_past p.parameters c ≡ true → LooksUp p H c (lookup p s c)
  -- hopeful, worked out, is hopeful as it is meant, for every state of every table in range
  pub hopefuls : (p : Property) (s : ℕ) → in_range p ≡ true → s < p.states → Decides (hopeful p s) (Leads p (is_asked p) every_event s)

-- Rows and runs --------------------------------------------------------------------------------------------------------

-- "row limit in, rows taken out; equals the count of rows in the definition between the two offsets", for every answer
pub record Runs : Type 0 where
  pub counts : (text : List ℕ) (p : Property) (s : Session) (reports log : List ℕ) (at budget : ℕ)
      → (run text p s reports log at budget).taken ≡ rows_between log at (run text p s reports log at budget).next
