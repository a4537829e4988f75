-- Laws of what the calls answer, from what `read` answers.
-- Assumes nothing.
use Rattle.std.specs.Prelude.{ℕ, ◌+◌, ◌-◌, ◌≤◌, ◌<◌, ◌≡◌, refl, Bool, true, false, List, [], length, get_or, take, drop, replicate, eqb, Ok, Err}
use Rattle.std.proofs.Common.{sym, ap, ◌∙◌, arith, lt-ltb, le-ltb}
use Rattle.std.proofs.Math.ListN.{get_or-eq_default}
use Rattle.document.specs.Lists.{equal}
use Rattle.document.specs.Limits.{most_events}
use Rattle.document.specs.Refusals.{headerDiffers, number, refusal_of}
use Rattle.document.specs.Rows.{first_row}
use Rattle.document.specs.Declarations.{declarations, header, event_name_of, event_name}
use Rattle.rows.specs.TextLaws.{row-part}
use lib.Pointwise.{pointwise}
use Rattle.fields.specs.SameLaws.{equal_is}
use Rattle.refusals.specs.declared.Refusal.{Refusal as Code}
use Rattle.refusals.specs.Named.{named}
use Rattle.fields.specs.Places.{ToldAt, place_at, told}
use Rattle.fields.specs.PlacesLaws.{told_at}
use Rattle.readings.specs.declared.Reading.{Reading}
use Rattle.declared.specs.declared.Declared.{Declared as Judged}
use Rattle.readings.specs.Readings.{padded, Reads}
use Rattle.readings.specs.ReadingsLaws.{reads_taken, reads_refused}
use Rattle.declared.specs.Answers.{declared_of, name_start, event_start}
use Rattle.places.specs.PlacesLaws.{names_at_lem}

-- What `declarations` answers.
pub declared_refused : (text : List ℕ) (q : Code) → Reads text (Err q)
    → ◌≡◌ {A = Judged} (record { refusal = number (named q); parameters = 0; events = 0; sets = replicate most_events 0 }) (declared_of (declarations text))
unfolding declared_of padded
declared_refused text q r =
    let w = reads_refused text q r in
    let e = w.number in
    (λ i. record { refusal = e i; parameters = 0; events = 0; sets = replicate most_events 0 }) ∙ sym (ap declared_of w.is)

pub declared_taken : (text : List ℕ) (t : Reading) → Reads text (Ok t)
    → ◌≡◌ {A = Judged} (record { refusal = 0; parameters = t.parameters; events = t.events; sets = t.sets }) (declared_of (declarations text))
unfolding declared_of
declared_taken text t r =
    let w = reads_taken text t r in
    let p = w.stands.parameters in
    let e = w.stands.events in
    let s = w.stands.sets in
    (λ i. record { refusal = 0; parameters = p i; events = e i; sets = s i }) ∙ sym (ap declared_of w.is)

-- What `header` answers.
pub header_refused : (text row : List ℕ) (q : Code) → Reads text (Err q) → number (named q) ≡ refusal_of (header text row)
unfolding header
header_refused text row q r = let w = reads_refused text q r in rw w.is w.number

module _ (text row : List ℕ) (t : Reading) (r : Reads text (Ok t)) (end : ℕ) (e : end ≡ 0 + length (first_row (drop 0 text))) (b : Bool)
    (q : b ≡ pointwise eqb row (take end text)) where
  is_first : equal row (first_row text) ≡ b
  is_first =
      let k : end - 0 ≡ end = omega arith in
      let p : take end text ≡ first_row text = rw k at (row-part text 0 end e) in
      equal_is row (first_row text) ∙ sym (rw p at q)

  pub header_differs : b ≡ false → number headerDiffers ≡ refusal_of (header text row)
  unfolding header
  header_differs v = rw ((reads_taken text t r).is, is_first ∙ v)

  pub header_same : b ≡ true → 0 ≡ refusal_of (header text row)
  unfolding header
  header_same v = rw ((reads_taken text t r).is, is_first ∙ v)

-- What `event_place` answers: nothing at the start where the declarations are refused, and past the last event.
module _ (text : List ℕ) (event : ℕ) where
  pub event_refused : (q : Code) → Reads text (Err q) → ToldAt text (event_start text event) (event_name text event) (record { start = 0; size = 0 })
  unfolding event_name event_name_of event_start name_start
  event_refused q r = rw (reads_refused text q r).is (told_at text [] 0 0 (omega arith) refl)

  pub event-past : (t : Reading) → Reads text (Ok t) → t.events ≤ event
      → ToldAt text (event_start text event) (event_name text event) (record { start = 0; size = 0 })
  unfolding event_name event_name_of event_start name_start
  event-past t r h =
      let w = reads_taken text t r in
      let k : length w.said.events ≤ event = let e = w.stands.events in omega arith in
      rw (w.is, get_or-eq_default w.said.events [] k, le-ltb event (length w.said.events) k) (told_at text [] 0 0 (omega arith) refl)

  pub event_inside : (t : Reading) → Reads text (Ok t) → event < t.events
      → (event < most_events) × ((place_at t.places event).start + (place_at t.places event).size ≤ length text)
  event_inside t r h =
      let w = reads_taken text t r in
      let f = w.stands.few_events in
      (omega arith, w.stands.inside.within event)

  pub event_there : (t : Reading) → Reads text (Ok t) → event < t.events
      → ToldAt text (event_start text event) (event_name text event) (place_at t.places event)
  unfolding event_name event_name_of event_start name_start
  event_there t r h =
      let w = reads_taken text t r in
      let k : event < length w.said.events = let e = w.stands.events in omega arith in
      let n : told text (place_at t.places event) ≡ get_or w.said.events event [] =
      rw (← w.stands.names) (sym (names_at_lem text t.events t.places event h)) in
      rw (w.is, lt-ltb event (length w.said.events) k, ← r.places.begin event h)
      (told_at text (get_or w.said.events event []) (place_at t.places event).start (place_at t.places event).size (event_inside t r h).1 n)
