-- What was judged once holds for each row: over it a row is the document's; and it holds of what a call judged good.
-- Assumes nothing.
use Rattle.std.specs.Prelude.{ℕ, ◌<◌, ◌≡◌, true, replicate}
use Rattle.std.proofs.Math.Path.{refl, sym, ap}
use Rattle.std.proofs.Common.{◌∙◌, arith, get_or-take}
use mathlib.Core.List.{List, []}
use Rattle.std.proofs.Math.Dec.{eqb, T}
use Rattle.std.proofs.Math.ListN.{length, take, get_or, length-replicate}
use borrow.Author.Tests.{eq-eqb}
use Rattle.document.specs.Refusals.{Answer, taken, refused}
use Rattle.document.specs.Declarations.{Declared}
use Rattle.document.specs.Property.{Property, set_of}
use Rattle.document.specs.Session.{Session, kept_of, sound}
use Rattle.document.specs.Log.{RowEvent, row_event, step_row, agrees}
use Rattle.slices.specs.TestsLaws.{so, true_of, of_every_below}
use Rattle.places.specs.PlacesLaws.{names_length}
use Rattle.readings.specs.ReadingsLaws.{padded_at}
use Rattle.entries.specs.Entries.{declared_at}
use Rattle.judge.specs.Sound.{session_of}
use Rattle.runs.specs.Judged.{agrees_of}
use Rattle.runs.specs.RowEvents.{row-says}
use Rattle.steps.specs.Steps.{step_by}
use Rattle.steps.specs.SteadyLaws.{kept_range, sound_steady, step_same}
use Rattle.judging.specs.declared.Judged.{Judged}
use Rattle.judging.specs.Judging.{Good}
use Rattle.turns.specs.Stepping.{row_step_by, RowGoes, read_as, Sure}
use Rattle.turns.specs.SteppingLaws.{row_same}

-- One row over what a call goes by is the document's row ----------------------------------------------------------------

module _ (p : Property) (c : Judged) (w : Sure p c) where
  event_known : (row : List ℕ) (v : RowEvent) → row_event (read_as c) row ≡ taken v → v.event < p.events
  event_known row v e =
      let i = (row-says (read_as c) row v e).declared in
      let j = (agrees_of (read_as c) p w.agree).events in
      omega arith

  step_is : (from : ℕ) (s : Session) (reports : List ℕ) (e : ℕ) (b : List ℕ)
      → step_by c.known.next c.known.verdicts c.known.hopeful c.known.asked from s reports e b ≡ step_by p.next p.verdicts c.known.hopeful c.known.asked from s reports e b
  step_is from s reports e b = λ i. step_by (w.known.next i) (w.known.verdicts i) c.known.hopeful c.known.asked from s reports e b

  pub row_step_same : (n m : ℕ) (seen kept reports row : List ℕ) (from : ℕ) → sound p (session_of n m seen kept) ≡ true
      → row_step_by c from (session_of n m seen kept) reports row ≡ step_row from (read_as c) p (session_of n m seen kept) reports row
  unfolding row_step_by step_row kept_of
  row_step_same n m seen kept reports row from f = go (row_event (read_as c) row) refl
    where
      go : (a : Answer RowEvent) → row_event (read_as c) row ≡ a
          → row_step_by c from (session_of n m seen kept) reports row ≡ step_row from (read_as c) p (session_of n m seen kept) reports row
      go (refused q o) e = rw e
      go (taken v) e =
          rw e (step_is from (session_of n m seen kept) reports v.event v.values
          ∙ step_same p w.range c.known.hopeful c.known.asked w.known.hopes w.known.asks (session_of n m seen kept)
          (kept_range p w.range n m seen kept f) v.event (event_known row v e) v.values from reports)

  pub row_goes : (n m : ℕ) (seen kept : List ℕ) → sound p (session_of n m seen kept) ≡ true → RowGoes c n m seen kept
  row_goes n m seen kept f = record {
    inside = w.inside;
    few_events = w.few_events;
    few_parameters = w.few_parameters;
    steady = λ e l. rw (w.known.next, w.known.states) (sound_steady p w.range n m seen kept f e (rw w.events at l));
  }

-- Declarations that a call judged good, as they were read --------------------------------------------------------------

module _ (text : List ℕ) (p : Property) (s : Session) (d : Declared) (c : Judged) (g : Good text p s d c) where
  -- declarations as they were read say of a row what the text's declarations say
  pub read_same : (row : List ℕ) → row_event (read_as c) row ≡ row_event d row
  read_same row = rw g.text_is (row_same text d c.reading row g.stands)

  pub step_read : (from : ℕ) (t : Session) (reports row : List ℕ) → step_row from (read_as c) p t reports row ≡ step_row from d p t reports row
  unfolding step_row
  step_read from t reports row = rw (read_same row)

  read_agrees : agrees (read_as c) p ≡ true
  unfolding agrees declared_at
  read_agrees =
      let a = agrees_of d p g.agree in
      let few : length (replicate {A = List ℕ} c.reading.parameters []) ≡ c.reading.parameters = rw length-replicate in
      let names = names_length c.declarations.now c.reading.events c.reading.places in
      let events : p.events ≡ c.reading.events = a.events ∙ sym g.stands.events in
      let same : (e : ℕ) → e < p.events → T (eqb (set_of p e) (get_or (take c.reading.events c.reading.sets) e 0)) =
      λ e l. so (eq-eqb (set_of p e) (get_or (take c.reading.events c.reading.sets) e 0)
      (a.sets e l ∙ sym (get_or-take c.reading.events c.reading.sets e 0 (omega arith) ∙ ap (λ (x : List ℕ). get_or x e 0) g.stands.sets ∙ padded_at d.sets e))) in
      rw (few, names, eq-eqb p.parameters c.reading.parameters (a.parameters ∙ sym g.stands.parameters), eq-eqb p.events c.reading.events events)
      (true_of _ (of_every_below p.events (λ e. eqb (set_of p e) (get_or (take c.reading.events c.reading.sets) e 0)) same))

  pub good_sure : Sure p c
  good_sure =
      let a = agrees_of d p g.agree in
      record {
        inside = rw g.text_is g.stands.inside;
        few_events = g.stands.few_events;
        few_parameters = g.stands.few_parameters;
        range = g.range;
        parameters = g.stands.parameters ∙ sym a.parameters;
        events = g.stands.events ∙ sym a.events;
        agree = read_agrees;
        known = g.known;
      }
