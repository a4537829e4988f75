-- The returns of the face calls. A run goes by what declarations say of rows, so those that were read serve for those of the text.
-- Assumes nothing.
use Rattle.std.specs.Prelude.{ℕ, zero, suc, ◌+◌, ◌*◌, ◌<◌, ◌≤◌, ◌≡◌, Ok, Err, List, leb, length}
use Rattle.std.proofs.Math.Path.{refl}
use Rattle.std.proofs.Common.{sym, subst, ◌∙◌, inl, inr, leb-true, leb-false}
use Rattle.document.specs.Limits.{report_stride}
use Rattle.document.specs.Refusals.{number, Answer, taken, refused}
use Rattle.document.specs.Declarations.{Declared}
use Rattle.document.specs.Property.{Property}
use Rattle.document.specs.Session.{Session, Happened, leaves}
use Rattle.document.specs.Log.{step_row, row, row_at, next_at, ran_to, run_from, run}
use Rattle.refusals.specs.Named.{named}
use Rattle.refusals.specs.declared.Refusal.{Refusal as Code}
use Rattle.basics.specs.Tests.{decided}
use Rattle.judge.specs.Sound.{session_of}
use Rattle.runs.specs.Turns.{run_ended, run_refused, run_taken}
use Rattle.runs.specs.Counts.{call_refused, call_past, call_runs}
use Rattle.steps.specs.declared.Answered.{Answered as Stepped}
use Rattle.steps.specs.Steps.{answered, Leaves}
use Rattle.judging.specs.declared.Judged.{Judged}
use Rattle.judging.specs.Judging.{Judges}
use Rattle.judging.specs.JudgingLaws.{judges_good, judges_bad}
use Rattle.turns.specs.declared.Ran.{Ran as Answered}
use Rattle.turns.specs.Stepping.{row_step_by, RowGoes, read_as, Sure}
use Rattle.turns.specs.SureLaws.{row_step_same, row_goes, step_read, good_sure}
use Rattle.turns.specs.Turns.{ran_of, RunLeaves}
use Rattle.logs.specs.Running.{Going}
use Rattle.logs.specs.RunningLaws.{going_start}

-- a run goes by what declarations say of rows, and by nothing else of them
run-by-rows : (d d' : Declared) (p : Property) (log : List ℕ) → ((from : ℕ) (s : Session) (reports row : List ℕ) → step_row from d p s reports row ≡ step_row from d' p s reports row)
    → (budget rows at : ℕ) (s : Session) (reports : List ℕ) (count : ℕ) → run_from budget d p log rows at s reports count ≡ run_from budget d' p log rows at s reports count
unfolding run_from
run-by-rows d d' p log same zero rows at s reports count = refl
run-by-rows d d' p log same (suc budget) rows at s reports count = elim (decided (leb (length log) at)) [
  | inl e ↦ let l = leb-true (length log) at e in run_ended d p log (suc budget) rows at s reports count l ∙ sym (run_ended d' p log (suc budget) rows at s reports count l)
  | inr e ↦ go (leb-false (length log) at e) (step_row (count * report_stride) d p s reports (row_at log at)) refl
      (λ h. run-by-rows d d' p log same budget (rows + 1) (next_at log at) h.session h.reports (count + h.reported))
]
  where
    go : at < length log → (a : Answer Happened) → step_row (count * report_stride) d p s reports (row_at log at) ≡ a
        → ((h : Happened) → run_from budget d p log (rows + 1) (next_at log at) h.session h.reports (count + h.reported) ≡ run_from budget d' p log (rows + 1) (next_at log at) h.session h.reports (count + h.reported))
        → run_from (suc budget) d p log rows at s reports count ≡ run_from (suc budget) d' p log rows at s reports count
    go l (refused q o) e f =
        run_refused d p log budget rows at s reports count q o l e
        ∙ sym (run_refused d' p log budget rows at s reports count q o l (sym (same (count * report_stride) s reports (row_at log at)) ∙ e))
    go l (taken h) e f =
        run_taken d p log budget rows at s reports count h l e ∙ f h
        ∙ sym (run_taken d' p log budget rows at s reports count h l (sym (same (count * report_stride) s reports (row_at log at)) ∙ e))

-- The call for one row -------------------------------------------------------------------------------------------------

module _ (text : List ℕ) (p : Property) (n m : ℕ) (seen kept reports bytes : List ℕ) where
  pub row_call_refused : (e : Code) → Judges text p (session_of n m seen kept) (Err e)
      → (k : ℕ) → k ≡ number (named e) → (x : Stepped) → x ≡ record { refusal = k; seen = n; kept = m; reported = 0 }
      → Leaves (row text p (session_of n m seen kept) reports bytes) (session_of n m seen kept) reports x seen kept reports
  unfolding row answered leaves
  row_call_refused e j k q x y =
      let w = judges_bad text p (session_of n m seen kept) e j in
      let z = q ∙ w.number in
      rw (w.is, y) (record { says = λ i. record { refusal = z i; seen = n; kept = m; reported = 0 }; seen_left = refl; kept_left = refl; reports_left = refl })

  module _ (c : Judged) (j : Judges text p (session_of n m seen kept) (Ok c)) where
    pub row_call_goes : RowGoes c n m seen kept
    row_call_goes =
        let w = judges_good text p (session_of n m seen kept) c j in
        row_goes p c (good_sure text p (session_of n m seen kept) w.said c w.good) n m seen kept w.good.sound

    pub row_call_steps : (x : Stepped) (seen' kept' reports' : List ℕ)
        → Leaves (row_step_by c 0 (session_of n m seen kept) reports bytes) (session_of n m seen kept) reports x seen' kept' reports'
        → Leaves (row text p (session_of n m seen kept) reports bytes) (session_of n m seen kept) reports x seen' kept' reports'
    unfolding row
    row_call_steps x seen' kept' reports' v =
        let w = judges_good text p (session_of n m seen kept) c j in
        let sure = good_sure text p (session_of n m seen kept) w.said c w.good in
        let a = row_step_same p c sure n m seen kept reports bytes 0 w.good.sound
        ∙ step_read text p (session_of n m seen kept) w.said c w.good 0 (session_of n m seen kept) reports bytes in
        rw w.is (subst (λ (y : Answer Happened). Leaves y (session_of n m seen kept) reports x seen' kept' reports') a v)

-- The call for a run ---------------------------------------------------------------------------------------------------

module _ (text : List ℕ) (p : Property) (n m : ℕ) (seen kept reports log : List ℕ) (at budget : ℕ) where
  pub run_call_refused : (e : Code) → Judges text p (session_of n m seen kept) (Err e)
      → (k : ℕ) → k ≡ number (named e) → (x : Answered) → x ≡ record { refusal = k; taken = 0; next = at; seen = n; kept = m; reported = 0 }
      → RunLeaves (run text p (session_of n m seen kept) reports log at budget) x seen kept reports
  unfolding ran_to ran_of
  run_call_refused e j k q x y =
      let w = judges_bad text p (session_of n m seen kept) e j in
      let z = q ∙ w.number in
      rw (call_refused text p (session_of n m seen kept) reports log at budget w.why w.at w.is)
      (record { says = y ∙ (λ i. record { refusal = z i; taken = 0; next = at; seen = n; kept = m; reported = 0 }); seen_left = refl; kept_left = refl; reports_left = refl })

  module _ (c : Judged) (j : Judges text p (session_of n m seen kept) (Ok c)) where
    pub run_call_past : length log < at → (k : ℕ) → k ≡ 24 → (x : Answered) → x ≡ record { refusal = k; taken = 0; next = at; seen = n; kept = m; reported = 0 }
        → RunLeaves (run text p (session_of n m seen kept) reports log at budget) x seen kept reports
    unfolding ran_to ran_of
    run_call_past l k q x y =
        let w = judges_good text p (session_of n m seen kept) c j in
        rw (call_past text p (session_of n m seen kept) reports log at budget w.said w.is l, y, q)
        (record { says = refl; seen_left = refl; kept_left = refl; reports_left = refl })

    pub run_call_sure : Sure p c
    run_call_sure =
        let w = judges_good text p (session_of n m seen kept) c j in
        good_sure text p (session_of n m seen kept) w.said c w.good

    pub run_call_starts : at ≤ length log → (x : Answered) → x ≡ record { refusal = 0; taken = 0; next = at; seen = n; kept = m; reported = 0 }
        → Going (read_as c) p log budget (run text p (session_of n m seen kept) reports log at budget) x seen kept reports
    run_call_starts l x y =
        let w = judges_good text p (session_of n m seen kept) c j in
        let a = run-by-rows (read_as c) w.said p log
        (λ from s reports₁ row. step_read text p (session_of n m seen kept) w.said c w.good from s reports₁ row) budget 0 at (session_of n m seen kept) reports 0 in
        rw (call_runs text p (session_of n m seen kept) reports log at budget w.said w.is l, ← a)
        (going_start (read_as c) p log budget at n m seen kept reports w.good.sound x y)
