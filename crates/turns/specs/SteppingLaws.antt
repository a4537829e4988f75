-- The returns of one row, and that declarations as they were read say of a row what the text's declarations say.
-- Assumes nothing.
use Rattle.std.specs.Prelude.{ℕ, ◌<◌, ◌≡◌, ◌⊎◌, true, false, Result, Ok, Err, List, [], leb, length, get_or, take}
use Rattle.std.proofs.Math.Path.{refl}
use Rattle.std.proofs.Common.{ap, ◌∙◌, inl, inr, arith, get_or-take, leb-false}
use Rattle.std.proofs.lemmas.List.{length-replicate}
use Rattle.document.specs.Lists.{place_of}
use Rattle.document.specs.Refusals.{number, taken, refused}
use Rattle.document.specs.Rows.{fields}
use Rattle.document.specs.Declarations.{Declared}
use Rattle.document.specs.Session.{leaves}
use Rattle.document.specs.Log.{row_event}
use Rattle.basics.specs.Tests.{decided}
use Rattle.readings.specs.declared.Reading.{Reading}
use Rattle.readings.specs.Readings.{padded, Stands}
use Rattle.refusals.specs.Named.{named}
use Rattle.refusals.specs.declared.Refusal.{Refusal as Code}
use Rattle.places.specs.PlacesLaws.{names_length}
use Rattle.readings.specs.ReadingsLaws.{padded_at}
use Rattle.entries.specs.declared.Entry.{Entry}
use Rattle.entries.specs.Entries.{declared_at, row_said}
use Rattle.judge.specs.Sound.{session_of}
use Rattle.moves.specs.Ready.{Steady}
use Rattle.runs.specs.RowEvents.{row-says}
use Rattle.steps.specs.declared.Answered.{Answered}
use Rattle.steps.specs.Steps.{step_by, answered, Leaves}
use Rattle.judging.specs.declared.Judged.{Judged}
use Rattle.turns.specs.Stepping.{row_step_by, read_as, RowGoes}

-- The returns of one row -----------------------------------------------------------------------------------------------

module _ (c : Judged) (from n m : ℕ) (seen kept reports row : List ℕ) (x : Result Entry Code) (q : row_event (read_as c) row ≡ row_said x) where
  pub row_refused : (e : Code) → x ≡ Err e → (k : ℕ) → k ≡ number (named e) → (r : Answered) → r ≡ record { refusal = k; seen = n; kept = m; reported = 0 }
      → Leaves (row_step_by c from (session_of n m seen kept) reports row) (session_of n m seen kept) reports r seen kept reports
  unfolding row_step_by answered leaves
  row_refused e i k w r y =
      let z : row_event (read_as c) row ≡ refused (named e) 0 = q ∙ ap row_said i in
      rw (z, y, w) (record { says = refl; seen_left = refl; kept_left = refl; reports_left = refl })

  module _ (e : Entry) (i : x ≡ Ok e) where
    taken_row : row_event (read_as c) row ≡ taken (record { event = e.event; values = e.values })
    taken_row = q ∙ ap row_said i

    pub row_steps : (r : Answered) (seen' kept' reports' : List ℕ)
        → Leaves (step_by c.known.next c.known.verdicts c.known.hopeful c.known.asked from (session_of n m seen kept) reports e.event e.values) (session_of n m seen kept) reports r seen' kept' reports'
        → Leaves (row_step_by c from (session_of n m seen kept) reports row) (session_of n m seen kept) reports r seen' kept' reports'
    unfolding row_step_by
    row_steps r seen' kept' reports' v = rw taken_row v

    -- the event of a row that says one is declared
    pub row_steady : RowGoes c n m seen kept → Steady c.known.next c.known.states e.event n m seen kept
    unfolding declared_at
    row_steady g =
        let k = (row-says (read_as c) row (record { event = e.event; values = e.values }) taken_row).declared in
        g.steady e.event (rw names_length at k)

-- Declarations as they were read say of a row what the text's declarations say ------------------------------------------

-- the set of a declared event, of the sets that are read
set_at : (l : List ℕ) (n e : ℕ) → e < n → get_or (take n (padded l)) e 0 ≡ get_or l e 0
set_at l n e h = get_or-take n (padded l) e 0 h ∙ padded_at l e

pub row_same : (text : List ℕ) (d : Declared) (t : Reading) (row : List ℕ) → Stands text d t
    → row_event (declared_at text t.places t.sets t.events t.parameters) row ≡ row_event d row
unfolding row_event declared_at
row_same text d t row w = go (decided (leb (length d.events) (place_of (get_or (fields row) 0 []) d.events)))
  where
    go : (leb (length d.events) (place_of (get_or (fields row) 0 []) d.events) ≡ true) ⊎ (leb (length d.events) (place_of (get_or (fields row) 0 []) d.events) ≡ false)
        → row_event (declared_at text t.places t.sets t.events t.parameters) row ≡ row_event d row
    go (inl k) = rw (w.names, w.sets, length-replicate, w.parameters, k)
    go (inr k) =
        let l = leb-false (length d.events) (place_of (get_or (fields row) 0 []) d.events) k in
        let s = set_at d.sets t.events (place_of (get_or (fields row) 0 []) d.events) (let h = w.events in omega arith) in
        rw (w.names, w.sets, s, length-replicate, w.parameters, k)
