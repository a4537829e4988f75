-- From a fresh start: a row that is taken is an event that is accepted, over the report numbers that are left, and so the
-- session after a run is reached as demand 3 says, by the events of the rows taken.
-- Assumes nothing.
use Rattle.std.specs.Prelude.{ℕ, ◌+◌, ◌*◌, ◌≤◌, ◌≡◌, refl, true, List, ◌++◌, length, take, drop}
use Rattle.std.proofs.Common.{sym, ap, ◌∙◌, append-nil, arith, take-append-drop, length-take-le}
use Rattle.document.specs.Limits.{report_stride}
use Rattle.document.specs.Refusals.{Answer, taken, refused}
use Rattle.document.specs.Declarations.{Declared, declarations}
use Rattle.document.specs.Property.{Property, in_range}
use Rattle.document.specs.Histories.{Event}
use Rattle.document.specs.Session.{Session, Happened, step_from, event}
use Rattle.document.specs.Log.{agrees, row_at, Ran, ran_to, run_from, run}
use Rattle.document.specs.Demands.{Holds, extended, Reached, accepted}
use Rattle.basics.specs.Answers.{taken_one}
use Rattle.rows.specs.RunsOfRows.{rows_in, rows_in_none, passes_rows}
use Rattle.slices.specs.Demand3.{demand_3}
use Rattle.runs.specs.Turns.{Turns, spent, ended, stopped, passed, turns}
use Rattle.runs.specs.Counts.{Calls, refused_call, past_log, taken_call, calls}
use Rattle.runs.specs.Reports.{taken_as, in_front, step_front}
use Rattle.runs.specs.ReportRows.{step-reports}
use Rattle.runs.specs.Judged.{judged_of}
use Rattle.runs.specs.RowEvents.{Brings, row_brings}
use Rattle.runs.specs.RunHistory.{history_of, Extends, unchanged, one_more_lem, run_holds}

-- One row --------------------------------------------------------------------------------------------------------------

-- what stood before an answer was changed
before_as : {A B : Type 0} (f : A → B) (a : Answer A) (y : B) → taken_as f a ≡ taken y → (x : A) × (a ≡ taken x) × (f x ≡ y)
before_as f (taken x) y e = (x, refl, taken_one e)
before_as f (refused r o) y e = let z : ◌≡◌ {A = ℕ} 0 1 = cc in absurd (omega arith)

-- an event whose reports begin further on is the event over the numbers that are left
step_left : (from : ℕ) (p : Property) (s : Session) (reports : List ℕ) (e : ℕ) (b : List ℕ) (h : Happened) → from ≤ length reports
    → step_from from p s reports e b ≡ taken h
    → (x : Happened) × (step_from 0 p s (drop from reports) e b ≡ taken x) × (x.session ≡ h.session)
step_left from p s reports e b h l q =
    let front = take from reports in
    let rest = drop from reports in
    let z : length front + 0 ≡ from = let k = length-take-le from reports l in omega arith in
    let same : step_from from p s reports e b ≡ taken_as (in_front front) (step_from 0 p s rest e b) =
    rw z at (rw (take-append-drop from reports) at (step_front front 0 p s rest e b)) in
    let x = before_as (in_front front) (step_from 0 p s rest e b) h (sym same ∙ q) in
    (x.0, x.1, ap (λ (k : Happened). k.session) x.2)

module _ (d : Declared) (p : Property) (seen kept : List ℕ) where
  pub row_reached : (from : ℕ) (H : List Event) (s : Session) (reports bytes : List ℕ) (h : Happened) (n : ℕ)
      → in_range p ≡ true → from ≤ length reports → Reached p seen kept H s → (b : Brings from d p s reports bytes h)
      → Reached p seen kept (extended p H n b.row.event b.row.values) h.session
  row_reached from H s reports bytes h n range l R b =
      let e = b.row.event in
      let values = b.row.values in
      let x = step_left from p s reports e values h l b.steps in
      let calls : event p s (drop from reports) e values ≡ step_from 0 p s (drop from reports) e values =
      demand_3.events p H s range (demand_3.holds p seen kept H s R).0 (drop from reports) e values b.proper in
      rw (← x.2) (accepted (drop from reports) n e values R b.proper.width (calls ∙ x.1))

-- A run ----------------------------------------------------------------------------------------------------------------

module _ (d : Declared) (p : Property) (log seen kept : List ℕ) (range : in_range p ≡ true) (agree : agrees d p ≡ true) where
  abbrev Fresh : List Event → Session → Type 0
  Fresh H s = Reached p seen kept H s

  turns_reach : {budget rows at : ℕ} {s : Session} {reports : List ℕ} {count : ℕ} {r : Ran}
      → Turns d p log budget rows at s reports count r
      → (H : List Event) (n : ℕ) → count * report_stride ≤ length reports → Reached p seen kept H s → Extends d p log Fresh H n at r
  turns_reach (spent {rows} {at} {s} {reports} {count}) H n f h =
      unchanged d p log Fresh H n rows at s reports count (taken tt) h
  turns_reach (ended {budget} {rows} {at} {s} {reports} {count} l) H n f h =
      unchanged d p log Fresh H n rows at s reports count (taken tt) h
  turns_reach (stopped {budget} {rows} {at} {s} {reports} {count} {r} {o} l e) H n f h =
      unchanged d p log Fresh H n rows at s reports count (refused r o) h
  turns_reach {r = r} (passed {budget} {rows} {at} {s} {reports} {count} {h = x} l e t) H n f h =
      let from = count * report_stride in
      let b = (row_brings from d p s reports (row_at log at) x agree).0 e in
      let k = step-reports from p s reports b.row.event b.row.values x b.proper.width f b.steps in
      let g : (count + x.reported) * report_stride ≤ length x.reports = let i = k.same in let j = k.inside in omega arith in
      let reached = row_reached d p seen kept from H s reports (row_at log at) x n range f h b in
      one_more_lem d p log Fresh H n at b.row r l b.reads
      (turns_reach t (extended p H n b.row.event b.row.values) (n + 1) g reached)

  pub run_reached : (budget rows at : ℕ) (s : Session) (reports : List ℕ) (count : ℕ) (H : List Event) (n : ℕ)
      → count * report_stride ≤ length reports → Reached p seen kept H s
      → let r = run_from budget d p log rows at s reports count in
      Reached p seen kept (H ++ history_of d n (rows_in log at r.next)) r.happened.session
  run_reached budget rows at s reports count H n f h =
      let x = turns_reach (turns d p log budget rows at s reports count) H n f h in
      rw (passes_rows x.passes) x.holds

-- The call, refused ones too -------------------------------------------------------------------------------------------

declared_one : (text : List ℕ) (d e : Declared) → declarations text ≡ taken d → declarations text ≡ taken e → d ≡ e
declared_one text d e p q = taken_one (sym p ∙ q)

pub call_holds : (text : List ℕ) (p : Property) (s : Session) (reports log : List ℕ) (at budget : ℕ)
    (d : Declared) (H : List Event) (n : ℕ) → declarations text ≡ taken d → Holds p H s
    → let r = run text p s reports log at budget in
    Holds p (H ++ history_of d n (rows_in log at r.next)) r.happened.session
unfolding history_of ran_to
call_holds text p s reports log at budget d H n e h = go (calls text p s reports log at budget)
  where
    still : Holds p (H ++ history_of d n (rows_in log at at)) s
    still = rw (rows_in_none log at, append-nil H) h

    go : {r : Ran} → Calls text p s reports log at budget r
        → Holds p (H ++ history_of d n (rows_in log at r.next)) r.happened.session
    go (refused_call q) = still
    go (past_log q l) = still
    go (taken_call {d = x} q l) =
        let j = judged_of text p s x q in
        rw (declared_one text d x e j.declares) (run_holds x p log j.range j.agree budget 0 at s reports 0 H n h)
