-- Two calls of run are one call: how a caller goes on. The second call is given the session, the offset and the report numbers
-- that the first left, those past its reports; what the two answer is joined.
-- Assumes nothing.
use Rattle.std.specs.Prelude.{ℕ, ◌+◌, ◌*◌, ◌≤◌, refl, List, take, drop}
use Rattle.std.proofs.Math.Path.{◌≡◌, ap}
use Rattle.std.proofs.Common.{sym, ◌∙◌}
use native.Mathlib.Omega.{arith}
use Rattle.std.proofs.Math.ListN.{length, take-append-drop}
use Rattle.std.proofs.Math.Seq.{length-take-le}
use Rattle.document.specs.Limits.{report_stride}
use Rattle.document.specs.Refusals.{Refusal, taken, refused}
use Rattle.document.specs.Declarations.{Declared}
use Rattle.document.specs.Property.{Property}
use Rattle.document.specs.Session.{Session, Happened, step_from}
use Rattle.document.specs.Log.{row_event, step_row, row_at, Ran, ran_to, run_from, judged, run}
use Rattle.basics.specs.Answers.{past_call}
use Rattle.rows.specs.RunsOfRows.{passes_within}
use Rattle.runs.specs.Turns.{Turns, spent, ended, stopped, passed, turns}
use Rattle.runs.specs.Counts.{run_covers, call_refused, call_past, call_runs, Calls, refused_call, past_log, taken_call, calls}
use Rattle.runs.specs.TwoRuns.{goes_on, goes_on_taken, goes_on_refused, two_runs}
use Rattle.runs.specs.Reports.{ran_after, run_front}
use Rattle.runs.specs.ReportRows.{Reports, step-reports}
use Rattle.runs.specs.Judged.{judged_of, of_judged}
use Rattle.runs.specs.RowEvents.{row-says}
use Rattle.runs.specs.SoundRuns.{run_sound}

-- The reports of a run lie in the numbers lent -------------------------------------------------------------------------

pub row-reports : (from : ℕ) (d : Declared) (p : Property) (s : Session) (reports bytes : List ℕ) (h : Happened)
    → from ≤ length reports → step_row from d p s reports bytes ≡ taken h → Reports from reports h
unfolding step_row
row-reports from d p s reports bytes h l q =
    let c = past_call (row_event d bytes) (λ v. step_from from p s reports v.event v.values) h q in
    step-reports from p s reports c.0.event c.0.values h (row-says d bytes c.0 c.1).width l c.2

module _ (d : Declared) (p : Property) (log : List ℕ) where
  turns_reports : {budget rows at : ℕ} {s : Session} {reports : List ℕ} {count : ℕ} {r : Ran}
      → Turns d p log budget rows at s reports count r → count * report_stride ≤ length reports
      → (length r.happened.reports ≡ length reports) × (r.happened.reported * report_stride ≤ length reports)
  unfolding ran_to
  turns_reports spent f = (refl, f)
  turns_reports (ended l) f = (refl, f)
  turns_reports (stopped l e) f = (refl, f)
  turns_reports (passed {budget} {rows} {at} {s} {reports} {count} {h} l e t) f =
      let k = row-reports (count * report_stride) d p s reports (row_at log at) h f e in
      let z : (count + h.reported) * report_stride ≤ length h.reports = let i = k.same in let j = k.inside in omega arith in
      let g = turns_reports t z in
      (g.0 ∙ k.same, let i = k.same in let j = g.1 in omega arith)

  pub run-reports : (budget rows at : ℕ) (s : Session) (reports : List ℕ) (count : ℕ) → count * report_stride ≤ length reports
      → let r = run_from budget d p log rows at s reports count in
      (length r.happened.reports ≡ length reports) × (r.happened.reported * report_stride ≤ length reports)
  run-reports budget rows at s reports count f = turns_reports (turns d p log budget rows at s reports count) f

-- The report numbers that a run filled, and those that it left -----------------------------------------------------------

abbrev pub reports_made : Ran → List ℕ
reports_made r = take (r.happened.reported * report_stride) r.happened.reports

abbrev pub reports_left : Ran → List ℕ
reports_left r = drop (r.happened.reported * report_stride) r.happened.reports

-- what two runs answer together
abbrev pub joined : Ran → Ran → Ran
joined r q = ran_after r.taken r.happened.reported (reports_made r) q

-- the second call, on what the first left
abbrev pub call_again : List ℕ → Property → List ℕ → ℕ → Ran → Ran
call_again text p log n r = run text p r.happened.session (reports_left r) log r.next n

module _ (text : List ℕ) (p : Property) (s : Session) (reports log : List ℕ) (at m n : ℕ) where
  whole_call : (d : Declared) → judged text p s ≡ taken d → at ≤ length log
      → run text p s reports log at (m + n) ≡ goes_on d p log n (run_from m d p log 0 at s reports 0)
  whole_call d j l = call_runs text p s reports log at (m + n) d j l ∙ two_runs d p log m n 0 at s reports 0

  -- stopped by a refusal, of the call or of a row, the first call answers all that the whole one would
  pub two_calls_refused : (q : Refusal) (o : ℕ) → (run text p s reports log at m).stop ≡ refused q o
      → run text p s reports log at (m + n) ≡ run text p s reports log at m
  two_calls_refused q o e = go (calls text p s reports log at m) e
    where
      go : {r : Ran} → Calls text p s reports log at m r → r.stop ≡ refused q o → run text p s reports log at (m + n) ≡ r
      go (refused_call {r} {o} j) e = call_refused text p s reports log at (m + n) r o j
      go (past_log {d} j l) e = call_past text p s reports log at (m + n) d j l
      go (taken_call {d} j l) e = whole_call d j l ∙ goes_on_refused d p log n (run_from m d p log 0 at s reports 0) q o e

  -- and else a second call goes on from there: the session that the first left is sound, and its offset lies in the log
  pub two_calls : (run text p s reports log at m).stop ≡ taken tt
      → let r = run text p s reports log at m in run text p s reports log at (m + n) ≡ joined r (call_again text p log n r)
  unfolding ran_to
  two_calls e = go (calls text p s reports log at m) e
    where
      go : {r : Ran} → Calls text p s reports log at m r → r.stop ≡ taken tt
          → run text p s reports log at (m + n) ≡ joined r (call_again text p log n r)
      go (refused_call j) e = let z : ◌≡◌ {A = ℕ} 0 1 = cc in absurd (omega arith)
      go (past_log j l) e = let z : ◌≡◌ {A = ℕ} 0 1 = cc in absurd (omega arith)
      go (taken_call {d} j l) e =
          let r = run_from m d p log 0 at s reports 0 in
          let count = r.happened.reported in
          let t = r.happened.session in
          let k = judged_of text p s d j in
          let f = run_sound d p k.range k.agree log m 0 at s reports 0 k.sound in
          let fits = run-reports d p log m 0 at s reports 0 (omega arith) in
          let front : length (reports_made r) ≡ count * report_stride =
          length-take-le (count * report_stride) r.happened.reports (let i = fits.0 in let x = fits.1 in omega arith) in
          let c = run_covers d p log m 0 at s reports 0 in
          let again : call_again text p log n r ≡ run_from n d p log 0 r.next t (reports_left r) 0 =
          call_runs text p t (reports_left r) log r.next n d
          (of_judged text p t d (record { declares = k.declares; range = k.range; agree = k.agree; sound = f }))
          (passes_within c.passes l) in
          let a : r.taken + 0 ≡ r.taken = omega arith in
          let b : count + 0 ≡ count = omega arith in
          let on : run_from n d p log r.taken r.next t r.happened.reports count
          ≡ ran_after r.taken count (reports_made r) (run_from n d p log 0 r.next t (reports_left r) 0) =
          rw (a, b, take-append-drop (count * report_stride) r.happened.reports) at
          (run_front d p log r.taken count (reports_made r) front n 0 r.next t (reports_left r) 0) in
          whole_call d j l ∙ goes_on_taken d p log n r tt e ∙ on ∙ ap (joined r) (sym again)
