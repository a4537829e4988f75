-- Document 01, "Log rows and the run": the rows that a run takes are the rows between the offset that it was given and the
-- one that it answers, and it stops short of its limit only at the log's end or before a row that is refused.
-- Assumes nothing.
use Rattle.std.specs.Prelude.{ℕ, ◌+◌, ◌*◌, ◌≤◌, ◌<◌, ◌≡◌, List, [], ◌∷◌, length, ltb}
use Rattle.std.proofs.Math.Path.{refl}
use Rattle.std.proofs.Common.{sym, ap, ◌∙◌, inl, inr}
use native.Mathlib.Omega.{arith}
use borrow.Author.Tests.{ltb-true, ltb-false, lt-ltb, le-ltb}
use Rattle.document.specs.Limits.{report_stride}
use Rattle.document.specs.Refusals.{Refusal, offsetPastLog, Answer, taken, refused}
use Rattle.document.specs.Declarations.{Declared}
use Rattle.document.specs.Property.{Property}
use Rattle.document.specs.Session.{Session}
use Rattle.document.specs.Log.{step_row, row_at, rows_between, Ran, ran_to, run_from, judged, run}
use Rattle.document.specs.Demands.{Runs}
use Rattle.basics.specs.Tests.{decided}
use Rattle.rows.specs.RunsOfRows.{rows_in_count, Passes, at_once, row_first, passes_rows}
use Rattle.runs.specs.Turns.{Turns, spent, ended, stopped, passed, turns}

-- The rows that are taken ----------------------------------------------------------------------------------------------

-- the run comes from one offset to the other by the rows that it takes
pub record Covers (log : List ℕ) (rows at : ℕ) (r : Ran) : Type 0 where
  pub covered : List (List ℕ)
  pub passes : Passes log at r.next covered
  pub count : r.taken ≡ rows + length covered

module _ (d : Declared) (p : Property) (log : List ℕ) where
  turns_cover : {budget rows at : ℕ} {s : Session} {reports : List ℕ} {count : ℕ} {r : Ran}
      → Turns d p log budget rows at s reports count r → Covers log rows at r
  unfolding ran_to
  turns_cover spent = record { covered = []; passes = at_once; count = omega arith }
  turns_cover (ended h) = record { covered = []; passes = at_once; count = omega arith }
  turns_cover (stopped h e) = record { covered = []; passes = at_once; count = omega arith }
  turns_cover (passed {at = at} l e t) =
      let c = turns_cover t in
      record { covered = row_at log at ∷ c.covered; passes = row_first l c.passes; count = let k = c.count in omega arith }

  pub run_covers : (budget rows at : ℕ) (s : Session) (reports : List ℕ) (count : ℕ)
      → Covers log rows at (run_from budget d p log rows at s reports count)
  run_covers budget rows at s reports count = turns_cover (turns d p log budget rows at s reports count)

-- What the call runs: nothing where it is refused itself, and else from the offset on, which lies in the log ------------

module _ (text : List ℕ) (p : Property) (s : Session) (reports log : List ℕ) (at budget : ℕ) where
  pub call_refused : (r : Refusal) (o : ℕ) → judged text p s ≡ refused r o
      → run text p s reports log at budget ≡ ran_to 0 at s reports 0 (refused r o)
  unfolding run
  call_refused r o e = rw (e, run)

  pub call_past : (d : Declared) → judged text p s ≡ taken d → length log < at
      → run text p s reports log at budget ≡ ran_to 0 at s reports 0 (refused offsetPastLog 0)
  unfolding run
  call_past d e h = rw (e, lt-ltb (length log) at h, run)

  pub call_runs : (d : Declared) → judged text p s ≡ taken d → at ≤ length log
      → run text p s reports log at budget ≡ run_from budget d p log 0 at s reports 0
  unfolding run
  call_runs d e h = rw (e, le-ltb (length log) at h, run)

  pub data Calls : Ran → Type 0 where
    refused_call : {r : Refusal} {o : ℕ} → judged text p s ≡ refused r o → Calls (ran_to 0 at s reports 0 (refused r o))
    past_log : {d : Declared} → judged text p s ≡ taken d → length log < at
        → Calls (ran_to 0 at s reports 0 (refused offsetPastLog 0))
    taken_call : {d : Declared} → judged text p s ≡ taken d → at ≤ length log → Calls (run_from budget d p log 0 at s reports 0)

  pub calls : Calls (run text p s reports log at budget)
  calls = go (judged text p s) refl
    where
      go : (a : Answer Declared) → judged text p s ≡ a → Calls (run text p s reports log at budget)
      go (refused r o) e = rw (call_refused r o e) (refused_call e)
      go (taken d) e = elim (decided (ltb (length log) at)) [
        | inl t ↦ let h = ltb-true (length log) at t in rw (call_past d e h) (past_log e h)
        | inr t ↦ let h = ltb-false (length log) at t in rw (call_runs d e h) (taken_call e h)
      ]

call_covers : (text : List ℕ) (p : Property) (s : Session) (reports log : List ℕ) (at budget : ℕ) {r : Ran}
    → Calls text p s reports log at budget r → Covers log 0 at r
unfolding ran_to
call_covers text p s reports log at budget (refused_call e) = record { covered = []; passes = at_once; count = refl }
call_covers text p s reports log at budget (past_log e h) = record { covered = []; passes = at_once; count = refl }
call_covers text p s reports log at budget (taken_call {d} e h) = run_covers d p log budget 0 at s reports 0

-- "row limit in, rows taken out; equals the count of rows in the definition between the two offsets", for every answer
pub runs : Runs
runs = record {
  counts = λ text p s reports log at budget.
      let c = call_covers text p s reports log at budget (calls text p s reports log at budget) in
      let to = (run text p s reports log at budget).next in
      let k = c.count in
      let z : length c.covered ≡ rows_between log at to = ap length (sym (passes_rows c.passes)) ∙ sym (rows_in_count log at to) in
      omega arith;
}

-- Why a run stops ------------------------------------------------------------------------------------------------------

-- "It stops short of that many only at the log's end or before the first row that is refused, and gives that refusal"
module _ (d : Declared) (p : Property) (log : List ℕ) where
  pub data Stops (budget rows : ℕ) (r : Ran) : Type 0 where
    all : r.taken ≡ rows + budget → r.stop ≡ taken tt → Stops budget rows r
    at_end : r.taken < rows + budget → length log ≤ r.next → r.stop ≡ taken tt → Stops budget rows r
    before : {q : Refusal} {o : ℕ} → r.taken < rows + budget → r.next < length log
        → step_row (r.happened.reported * report_stride) d p r.happened.session r.happened.reports (row_at log r.next)
        ≡ refused q o
        → r.stop ≡ refused q o → Stops budget rows r

  turns_stop : {budget rows at : ℕ} {s : Session} {reports : List ℕ} {count : ℕ} {r : Ran}
      → Turns d p log budget rows at s reports count r → Stops budget rows r
  unfolding ran_to
  turns_stop spent = all (omega arith) refl
  turns_stop (ended h) = at_end (omega arith) h refl
  turns_stop (stopped h e) = before (omega arith) h e refl
  turns_stop (passed l e t) = elim (turns_stop t) [
    | all k q ↦ all (omega arith) q
    | at_end k h q ↦ at_end (omega arith) h q
    | before k h w q ↦ before (omega arith) h w q
  ]

  pub run_stops : (budget rows at : ℕ) (s : Session) (reports : List ℕ) (count : ℕ)
      → Stops budget rows (run_from budget d p log rows at s reports count)
  run_stops budget rows at s reports count = turns_stop (turns d p log budget rows at s reports count)
