-- A row into a session: it is taken exactly when its bytes say a proper event of the property and that event is taken, and
-- then the session holds the history with that event. Row refusals 18 to 21 come before the event.
-- Assumes nothing.
use Rattle.std.specs.Prelude.{ℕ, ◌<◌, ◌≤◌, ◌≡◌, ◌⊎◌, ◌↔◌, true, not, ◌||◌, List, [], length, get_or, drop, eqb, leb, ltb}
use Rattle.std.proofs.Common.{inl, inr, arith, length-append, length-take, leb-false}
use Rattle.std.proofs.lemmas.List.{length-replicate}
use Rattle.std.proofs.lemmas.Bool.{not-false}
use Rattle.document.specs.Lists.{some, place_of}
use Rattle.document.specs.Limits.{width, row_bytes}
use Rattle.document.specs.Refusals.{Refusal, number, badRow, unknownEvent, badValue, wrongFields, taken, refused, refuse_if}
use Rattle.document.specs.Classes.{cr, lf, quote}
use Rattle.document.specs.Rows.{fields}
use Rattle.document.specs.Declarations.{Declared}
use Rattle.document.specs.Property.{Property, in_range}
use Rattle.document.specs.Combinations.{binds_exactly}
use Rattle.document.specs.Histories.{Event}
use Rattle.document.specs.Session.{Session, Happened, outcome, step_from, leaves}
use Rattle.document.specs.Log.{RowEvent, is_bad_value, values_of, row_event, step_row, agrees, row}
use Rattle.document.specs.Demands.{Proper, Holds, extended}
use Rattle.basics.specs.Answers.{past_test, past_call, taken_one}
use Rattle.slices.specs.Demand3.{demand_3}
use Rattle.runs.specs.Answers.{by_test, by_call, out_of_room}
use Rattle.runs.specs.Judged.{Agrees, agrees_of}

-- the values of a row are as many as a combination has
pub length_values_of : (fs : List (List ℕ)) → length (values_of fs) ≡ width
unfolding values_of
length_values_of fs = rw (length-take, length-append, length-replicate) (omega arith)

-- What a row says: the event's place among the declared ones, and values for exactly its set -----------------------------

pub record Says (d : Declared) (v : RowEvent) : Type 0 where
  pub declared : v.event < length d.events
  pub width : length v.values ≡ width
  pub values : binds_exactly (get_or d.sets v.event 0) v.values ≡ true

pub row-says : (d : Declared) (bytes : List ℕ) (v : RowEvent) → row_event d bytes ≡ taken v → Says d v
unfolding row_event
row-says d bytes v q =
    let name = get_or (fields bytes) 0 [] in
    let values = drop 1 (fields bytes) in
    let e = place_of name d.events in
    let said : RowEvent = record { event = e; values = values_of values } in
    let many = not (eqb (length values) (length d.parameters)) in
    let bad = ltb row_bytes (length bytes) || some (λ b. eqb b cr || eqb b lf || eqb b quote) bytes || many in
    let binds = binds_exactly (get_or d.sets e 0) (values_of values) in
    let fourth = refuse_if (not binds) wrongFields (taken said) in
    let third = refuse_if (some is_bad_value values) badValue fourth in
    let second = refuse_if (leb (length d.events) e) unknownEvent third in
    let h₁ = past_test bad badRow second v q in
    let h₂ = past_test (leb (length d.events) e) unknownEvent third v h₁.1 in
    let h₃ = past_test (some is_bad_value values) badValue fourth v h₂.1 in
    let h₄ = past_test (not binds) wrongFields (taken said) v h₃.1 in
    rw (← taken_one h₄.1) (record {
      declared = leb-false (length d.events) e h₂.0;
      width = length_values_of values;
      values = not-false binds h₄.0;
    })

-- under a table that agrees with the declarations, that is a proper event of the property
pub says_proper : (d : Declared) (p : Property) (v : RowEvent) → Agrees d p → Says d v → Proper p v.event v.values
says_proper d p v a w =
    let k : v.event < p.events = let i = a.events in let j = w.declared in omega arith in
    record { declared = k; width = w.width; values = rw (a.sets v.event k) w.values }

-- A row that is taken --------------------------------------------------------------------------------------------------

pub record Brings (from : ℕ) (d : Declared) (p : Property) (s : Session) (reports bytes : List ℕ) (h : Happened) : Type 0 where
  pub row : RowEvent
  pub reads : row_event d bytes ≡ taken row
  pub proper : Proper p row.event row.values
  pub steps : step_from from p s reports row.event row.values ≡ taken h

pub row_brings : (from : ℕ) (d : Declared) (p : Property) (s : Session) (reports bytes : List ℕ) (h : Happened)
    → agrees d p ≡ true → (step_row from d p s reports bytes ≡ taken h) ↔ Brings from d p s reports bytes h
unfolding step_row
row_brings from d p s reports bytes h a = (
  (λ q.
      let c = past_call (row_event d bytes) (λ v. step_from from p s reports v.event v.values) h q in
      let proper = says_proper d p c.0 (agrees_of d p a) (row-says d bytes c.0 c.1) in
      record { row = c.0; reads = c.1; proper = proper; steps = c.2 }),
  (λ b. rw b.reads b.steps),
)

-- the session that it leaves holds the history with the row's event, numbered n
pub row-holds : (from : ℕ) (d : Declared) (p : Property) (H : List Event) (s : Session) (reports bytes : List ℕ) (h : Happened)
    (n : ℕ) → in_range p ≡ true → Holds p H s → (b : Brings from d p s reports bytes h)
    → Holds p (extended p H n b.row.event b.row.values) h.session
row-holds from d p H s reports bytes h n r st b =
    demand_3.goes_on p H s r st from reports n b.row.event b.row.values h b.proper b.steps

-- A row that is refused ------------------------------------------------------------------------------------------------

-- the row's bytes are judged first, whatever the session
pub bytes_first : (from : ℕ) (d : Declared) (p : Property) (s : Session) (reports bytes : List ℕ) (r : Refusal) (o : ℕ)
    → row_event d bytes ≡ refused r o → step_row from d p s reports bytes ≡ refused r o
unfolding step_row
bytes_first from d p s reports bytes r o e = rw e

pub row_refused : (from : ℕ) (d : Declared) (p : Property) (s : Session) (reports bytes : List ℕ) (r : Refusal) (o : ℕ)
    → step_row from d p s reports bytes ≡ refused r o
    → (row_event d bytes ≡ refused r o)
    ⊎ ((v : RowEvent) × (row_event d bytes ≡ taken v) × (step_from from p s reports v.event v.values ≡ refused r o))
unfolding step_row
row_refused from d p s reports bytes r o q =
    by_call (row_event d bytes) (λ v. step_from from p s reports v.event v.values) r o q

-- and they are refused by 18 to 21, the event by 15 to 17
pub bytes-number : (d : Declared) (bytes : List ℕ) (r : Refusal) (o : ℕ) → row_event d bytes ≡ refused r o
    → (18 ≤ number r) × (number r ≤ 21)
unfolding row_event
bytes-number d bytes r o q =
    let name = get_or (fields bytes) 0 [] in
    let values = drop 1 (fields bytes) in
    let e = place_of name d.events in
    let said : RowEvent = record { event = e; values = values_of values } in
    let many = not (eqb (length values) (length d.parameters)) in
    let bad = ltb row_bytes (length bytes) || some (λ b. eqb b cr || eqb b lf || eqb b quote) bytes || many in
    let binds = binds_exactly (get_or d.sets e 0) (values_of values) in
    let fourth = refuse_if (not binds) wrongFields (taken said) in
    let third = refuse_if (some is_bad_value values) badValue fourth in
    let second = refuse_if (leb (length d.events) e) unknownEvent third in
    elim (by_test bad badRow second r o q) [
      | inl z ↦ rw z.0 (omega arith)
      | inr q₁ ↦ elim (by_test (leb (length d.events) e) unknownEvent third r o q₁) [
        | inl z ↦ rw z.0 (omega arith)
        | inr q₂ ↦ elim (by_test (some is_bad_value values) badValue fourth r o q₂) [
          | inl z ↦ rw z.0 (omega arith)
          | inr q₃ ↦ elim (by_test (not binds) wrongFields (taken said) r o q₃) [
            | inl z ↦ rw z.0 (omega arith)
            | inr q₄ ↦ let z : ◌≡◌ {A = ℕ} 0 1 = cc in absurd (omega arith)
          ]
        ]
      ]
    ]

pub event-number : (from : ℕ) (p : Property) (s : Session) (reports : List ℕ) (e : ℕ) (b : List ℕ) (r : Refusal) (o : ℕ)
    → step_from from p s reports e b ≡ refused r o → (15 ≤ number r) × (number r ≤ 17)
unfolding step_from
event-number from p s reports e b r o q = elim (out_of_room from p s reports (outcome p s e b) r o q) [
  | inl z ↦ rw z.0 (omega arith)
  | inr m ↦ elim m [ inl z ↦ rw z.0 (omega arith) | inr z ↦ rw z.0 (omega arith) ]
]

-- a refused row leaves everything as it was lent
pub row-leaves : (text : List ℕ) (p : Property) (s : Session) (reports bytes : List ℕ) (r : Refusal) (o : ℕ)
    → row text p s reports bytes ≡ refused r o
    → leaves s reports (row text p s reports bytes) ≡ record { session = s; reports = reports; reported = 0 }
unfolding leaves
row-leaves text p s reports bytes r o e = rw e
