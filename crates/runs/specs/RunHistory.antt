-- Demand 3 carried to rows: the session after a run holds the history extended by the events of the rows that it took, in
-- order, each with its row's number; and a session reached from a fresh start by rows is one reached by events.
-- Assumes nothing.
use Rattle.std.specs.Prelude.{ℕ, suc, ◌+◌, ◌*◌, ◌<◌, ◌≡◌, refl, true, List, [], ◌∷◌, ◌++◌, length}
use Rattle.std.proofs.Common.{ap, ◌∙◌, append-nil, append_assoc}
use Rattle.document.specs.Limits.{report_stride}
use Rattle.document.specs.Refusals.{Answer, taken, refused}
use Rattle.document.specs.Declarations.{Declared}
use Rattle.document.specs.Property.{Property, in_range}
use Rattle.document.specs.Histories.{Event}
use Rattle.document.specs.Session.{Session}
use Rattle.document.specs.Log.{RowEvent, row_event, agrees, row_at, next_at, Ran, ran_to, run_from}
use Rattle.document.specs.Demands.{Holds, extended}
use Rattle.rows.specs.RunsOfRows.{rows_in, Passes, at_once, row_first, passes_rows}
use Rattle.runs.specs.Turns.{Turns, spent, ended, stopped, passed, turns}
use Rattle.runs.specs.RowEvents.{row_brings, row-holds}

-- the events that rows say, the first row numbered n; a row that says none brings none
unfoldable pub history_of : Declared → ℕ → List (List ℕ) → List Event
history_of d n [] = []
history_of d n (bytes ∷ more) = elim (row_event d bytes) [
  | taken v ↦ record { row = n; event = v.event; binding = v.values } ∷ history_of d (n + 1) more
  | refused r o ↦ history_of d (n + 1) more
]

pub history_row : (d : Declared) (n : ℕ) (bytes : List ℕ) (l : List (List ℕ)) (v : RowEvent) → row_event d bytes ≡ taken v
    → history_of d n (bytes ∷ l) ≡ record { row = n; event = v.event; binding = v.values } ∷ history_of d (n + 1) l
unfolding history_of
history_row d n bytes l v e = rw (e, history_of)

pub history_one : (d : Declared) (n : ℕ) (bytes : List ℕ) (v : RowEvent) → row_event d bytes ≡ taken v
    → history_of d n (bytes ∷ []) ≡ record { row = n; event = v.event; binding = v.values } ∷ []
unfolding history_of
history_one d n bytes v e = history_row d n bytes [] v e

module _ (d : Declared) (p : Property) (log : List ℕ) where
  -- what a run does to a history H: each row that it takes brings one event, and P holds of the history with these
  pub record Extends (P : List Event → Session → Type 0) (H : List Event) (n at : ℕ) (r : Ran) : Type 0 where
    pub covered : List (List ℕ)
    pub passes : Passes log at r.next covered
    pub each : length (history_of d n covered) ≡ length covered
    pub holds : P (H ++ history_of d n covered) r.happened.session

  pub unchanged : (P : List Event → Session → Type 0) (H : List Event) (n rows at : ℕ) (s : Session) (reports : List ℕ) (count : ℕ)
      (stop : Answer (Unit {0})) → P H s → Extends P H n at (ran_to rows at s reports count stop)
  unfolding history_of ran_to
  unchanged P H n rows at s reports count stop h =
      record { covered = []; passes = at_once; each = refl; holds = rw (append-nil H) h }

  pub one_more_lem : (P : List Event → Session → Type 0) (H : List Event) (n at : ℕ) (v : RowEvent) (r : Ran) → at < length log
      → row_event d (row_at log at) ≡ taken v → Extends P (extended p H n v.event v.values) (n + 1) (next_at log at) r
      → Extends P H n at r
  one_more_lem P H n at v r l e x =
      let this : Event = record { row = n; event = v.event; binding = v.values } in
      let rest = history_of d (n + 1) x.covered in
      let q = history_row d n (row_at log at) x.covered v e in
      record {
        covered = row_at log at ∷ x.covered;
        passes = row_first l x.passes;
        each = ap length q ∙ ap suc x.each;
        holds = rw (q, ← append_assoc H (this ∷ []) rest) x.holds;
      }

  -- Histories that are held ---------------------------------------------------------------------------------------------

  module _ (range : in_range p ≡ true) (agree : agrees d p ≡ true) where
    turns_hold : {budget rows at : ℕ} {s : Session} {reports : List ℕ} {count : ℕ} {r : Ran}
        → Turns d p log budget rows at s reports count r → (H : List Event) (n : ℕ) → Holds p H s → Extends (Holds p) H n at r
    turns_hold (spent {rows} {at} {s} {reports} {count}) H n h = unchanged (Holds p) H n rows at s reports count (taken tt) h
    turns_hold (ended {budget} {rows} {at} {s} {reports} {count} l) H n h =
        unchanged (Holds p) H n rows at s reports count (taken tt) h
    turns_hold (stopped {budget} {rows} {at} {s} {reports} {count} {r} {o} l e) H n h =
        unchanged (Holds p) H n rows at s reports count (refused r o) h
    turns_hold {r = r} (passed {budget} {rows} {at} {s} {reports} {count} {h = x} l e t) H n h =
        let b = (row_brings (count * report_stride) d p s reports (row_at log at) x agree).0 e in
        let held = row-holds (count * report_stride) d p H s reports (row_at log at) x n range h b in
        one_more_lem (Holds p) H n at b.row r l b.reads
        (turns_hold t (extended p H n b.row.event b.row.values) (n + 1) held)

    pub run_holds : (budget rows at : ℕ) (s : Session) (reports : List ℕ) (count : ℕ) (H : List Event) (n : ℕ) → Holds p H s
        → let r = run_from budget d p log rows at s reports count in
        Holds p (H ++ history_of d n (rows_in log at r.next)) r.happened.session
    run_holds budget rows at s reports count H n h =
        let x = turns_hold (turns d p log budget rows at s reports count) H n h in
        rw (passes_rows x.passes) x.holds
