-- Two runs are one run: a run of m + n rows is a run of m rows and, if no refusal stopped it, a run of n rows that goes on
-- from where it stopped.
-- Assumes nothing.
use Prim.Native.Nat.{ℕ, suc, ◌+◌}
use Rattle.std.proofs.Math.Nat.{zero-add}
use Rattle.std.specs.Prelude.{◌≡◌, List}
use Rattle.std.proofs.Math.Path.{sym, ap}
use Rattle.std.proofs.Common.{◌∙◌}
use native.Mathlib.Omega.{arith}
use Rattle.document.specs.Refusals.{Refusal, Answer, taken, refused}
use Rattle.document.specs.Declarations.{Declared}
use Rattle.document.specs.Property.{Property}
use Rattle.document.specs.Session.{Session}
use Rattle.document.specs.Log.{Ran, ran_to, run_from}
use Rattle.runs.specs.Turns.{run_ended, run_refused, run_taken, Turns, spent, ended, stopped, passed, turns}

module _ (d : Declared) (p : Property) (log : List ℕ) where
  -- a run of n rows more from where one stopped: its rows and reports counted on. After a refusal there is none.
  abbrev pub goes_on_after : ℕ → Ran → Answer (Unit {0}) → Ran
  goes_on_after n r (taken u) =
      run_from n d p log r.taken r.next r.happened.session r.happened.reports r.happened.reported
  goes_on_after n r (refused q o) = r

  unfoldable pub goes_on : ℕ → Ran → Ran
  goes_on n r = goes_on_after n r r.stop

  -- by why the first run stopped: its limit was reached or the log ended, or a row was refused
  pub goes_on_taken : (n : ℕ) (r : Ran) (u : Unit {0}) → r.stop ≡ taken u → goes_on n r
      ≡ run_from n d p log r.taken r.next r.happened.session r.happened.reports r.happened.reported
  unfolding goes_on
  goes_on_taken n r u e = ap (goes_on_after n r) e

  pub goes_on_refused : (n : ℕ) (r : Ran) (q : Refusal) (o : ℕ) → r.stop ≡ refused q o → goes_on n r ≡ r
  unfolding goes_on
  goes_on_refused n r q o e = ap (goes_on_after n r) e

  turns_go_on : (n : ℕ) {m rows at : ℕ} {s : Session} {reports : List ℕ} {count : ℕ} {r : Ran}
      → Turns d p log m rows at s reports count r → run_from (m + n) d p log rows at s reports count ≡ goes_on n r
  unfolding goes_on ran_to
  turns_go_on n spent = rw zero-add
  turns_go_on n (ended {budget} {rows} {at} {s} {reports} {count} h) =
      run_ended d p log (suc budget + n) rows at s reports count h ∙ sym (run_ended d p log n rows at s reports count h)
  turns_go_on n (stopped {budget} {rows} {at} {s} {reports} {count} {r} {o} h e) =
      let z : suc budget + n ≡ suc (budget + n) = omega arith in
      rw z (run_refused d p log (budget + n) rows at s reports count r o h e)
  turns_go_on n (passed {budget} {rows} {at} {s} {reports} {count} {h} l e t) =
      let z : suc budget + n ≡ suc (budget + n) = omega arith in
      rw z (run_taken d p log (budget + n) rows at s reports count h l e ∙ turns_go_on n t)

  pub two_runs : (m n rows at : ℕ) (s : Session) (reports : List ℕ) (count : ℕ)
      → run_from (m + n) d p log rows at s reports count ≡ goes_on n (run_from m d p log rows at s reports count)
  two_runs m n rows at s reports count = turns_go_on n (turns d p log m rows at s reports count)
