-- A sound session stays sound through rows and runs: the check (12) is judged once for all rows of a call.
-- Assumes nothing.
use Rattle.std.specs.Prelude.{ℕ, ◌*◌, ◌≡◌, refl}
use Rattle.std.proofs.Math.Bool.{true}
use mathlib.Core.List.{List, [], ◌∷◌}
use Rattle.document.specs.Limits.{report_stride}
use Rattle.document.specs.Refusals.{Answer, taken, refused}
use Rattle.document.specs.Declarations.{Declared}
use Rattle.document.specs.Property.{Property, in_range}
use Rattle.document.specs.Session.{Session, Happened, sound, leaves}
use Rattle.document.specs.Log.{step_row, agrees, row_at, Ran, ran_to, run_from}
use Rattle.slices.specs.StepSoundLaws.{step-sound}
use Rattle.runs.specs.Turns.{Turns, spent, ended, stopped, passed, turns}
use Rattle.runs.specs.RowEvents.{row_brings}
use Rattle.runs.specs.PrintPart.{after_rows}

module _ (d : Declared) (p : Property) (range : in_range p ≡ true) (agree : agrees d p ≡ true) where
  pub row-sound : (from : ℕ) (s : Session) (reports bytes : List ℕ) (h : Happened) → sound p s ≡ true
      → step_row from d p s reports bytes ≡ taken h → sound p h.session ≡ true
  row-sound from s reports bytes h f e =
      let b = (row_brings from d p s reports bytes h agree).0 e in
      step-sound from p s reports b.row.event b.row.values h range f b.proper b.steps

  turns_sound : {log : List ℕ} {budget rows at : ℕ} {s : Session} {reports : List ℕ} {count : ℕ} {r : Ran}
      → Turns d p log budget rows at s reports count r → sound p s ≡ true → sound p r.happened.session ≡ true
  unfolding ran_to
  turns_sound spent f = f
  turns_sound (ended l) f = f
  turns_sound (stopped l e) f = f
  turns_sound {log} (passed {at = at} {s = s} {reports = reports} {count = count} {h = h} l e t) f =
      turns_sound t (row-sound (count * report_stride) s reports (row_at log at) h f e)

  pub run_sound : (log : List ℕ) (budget rows at : ℕ) (s : Session) (reports : List ℕ) (count : ℕ) → sound p s ≡ true
      → sound p (run_from budget d p log rows at s reports count).happened.session ≡ true
  run_sound log budget rows at s reports count f = turns_sound (turns d p log budget rows at s reports count) f

  -- rows one after another, refused ones skipped
  pub rows_stay_sound : (l : List (List ℕ)) (s : Session) (reports : List ℕ) → sound p s ≡ true
      → sound p (after_rows d p s reports l).session ≡ true
  unfolding after_rows leaves
  rows_stay_sound [] s reports f = f
  rows_stay_sound (bytes ∷ l) s reports f =
      let h = leaves s reports (step_row 0 d p s reports bytes) in
      rows_stay_sound l h.session h.reports (go (step_row 0 d p s reports bytes) refl)
    where
      go : (a : Answer Happened) → step_row 0 d p s reports bytes ≡ a → sound p (leaves s reports a).session ≡ true
      go (refused r o) e = f
      go (taken h) e = row-sound 0 s reports bytes h f e
