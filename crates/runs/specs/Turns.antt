-- The run of Log, turn by turn: no rows left to take, the log's end, a row that is refused, a row that is taken. Every other
-- law of runs goes by these four cases.
-- Assumes nothing.
use Prim.Native.Nat.{ℕ, zero, suc, ◌+◌, ◌*◌, ◌≤◌, ◌<◌}
use Rattle.std.specs.Prelude.{◌≡◌, List, length, leb}
use Rattle.std.proofs.Math.Path.{refl}
use Rattle.std.proofs.Common.{inl, inr, le-leb, leb-true, leb-false}
use Rattle.std.proofs.lemmas.Bool.{lt-leb}
use Rattle.document.specs.Limits.{report_stride}
use Rattle.document.specs.Refusals.{Refusal, Answer, taken, refused}
use Rattle.document.specs.Declarations.{Declared}
use Rattle.document.specs.Property.{Property}
use Rattle.document.specs.Session.{Session, Happened}
use Rattle.document.specs.Log.{step_row, row_at, next_at, Ran, ran_to, run_from}
use Rattle.basics.specs.Tests.{decided}

module _ (d : Declared) (p : Property) (log : List ℕ) where
  pub run_spent : (rows at : ℕ) (s : Session) (reports : List ℕ) (count : ℕ)
      → run_from zero d p log rows at s reports count ≡ ran_to rows at s reports count (taken tt)
  unfolding run_from
  run_spent rows at s reports count = refl

  pub run_ended : (budget rows at : ℕ) (s : Session) (reports : List ℕ) (count : ℕ) → length log ≤ at
      → run_from budget d p log rows at s reports count ≡ ran_to rows at s reports count (taken tt)
  unfolding run_from
  run_ended zero rows at s reports count h = refl
  run_ended (suc budget) rows at s reports count h = rw (le-leb (length log) at h, run_from)

  pub run_refused : (budget rows at : ℕ) (s : Session) (reports : List ℕ) (count : ℕ) (r : Refusal) (o : ℕ) → at < length log
      → step_row (count * report_stride) d p s reports (row_at log at) ≡ refused r o
      → run_from (suc budget) d p log rows at s reports count ≡ ran_to rows at s reports count (refused r o)
  unfolding run_from
  run_refused budget rows at s reports count r o h e = rw (lt-leb (length log) at h, e, run_from)

  pub run_taken : (budget rows at : ℕ) (s : Session) (reports : List ℕ) (count : ℕ) (h : Happened) → at < length log
      → step_row (count * report_stride) d p s reports (row_at log at) ≡ taken h
      → run_from (suc budget) d p log rows at s reports count
      ≡ run_from budget d p log (rows + 1) (next_at log at) h.session h.reports (count + h.reported)
  unfolding run_from
  run_taken budget rows at s reports count h l e = rw (lt-leb (length log) at l, e, run_from)

  -- a run of so many rows at most, from what stands at its start to what it answers
  pub data Turns : ℕ → ℕ → ℕ → Session → List ℕ → ℕ → Ran → Type 0 where
    spent : {rows at : ℕ} {s : Session} {reports : List ℕ} {count : ℕ}
        → Turns zero rows at s reports count (ran_to rows at s reports count (taken tt))
    ended : {budget rows at : ℕ} {s : Session} {reports : List ℕ} {count : ℕ} → length log ≤ at
        → Turns (suc budget) rows at s reports count (ran_to rows at s reports count (taken tt))
    stopped : {budget rows at : ℕ} {s : Session} {reports : List ℕ} {count : ℕ} {r : Refusal} {o : ℕ} → at < length log
        → step_row (count * report_stride) d p s reports (row_at log at) ≡ refused r o
        → Turns (suc budget) rows at s reports count (ran_to rows at s reports count (refused r o))
    passed : {budget rows at : ℕ} {s : Session} {reports : List ℕ} {count : ℕ} {h : Happened} {r : Ran} → at < length log
        → step_row (count * report_stride) d p s reports (row_at log at) ≡ taken h
        → Turns budget (rows + 1) (next_at log at) h.session h.reports (count + h.reported) r
        → Turns (suc budget) rows at s reports count r

  pub turns : (budget rows at : ℕ) (s : Session) (reports : List ℕ) (count : ℕ)
      → Turns budget rows at s reports count (run_from budget d p log rows at s reports count)
  turns zero rows at s reports count = rw (run_spent rows at s reports count) spent
  turns (suc budget) rows at s reports count = elim (decided (leb (length log) at)) [
    | inl e ↦ let h = leb-true (length log) at e in rw (run_ended (suc budget) rows at s reports count h) (ended h)
    | inr e ↦ step (leb-false (length log) at e) (step_row (count * report_stride) d p s reports (row_at log at)) refl
        (λ h. turns budget (rows + 1) (next_at log at) h.session h.reports (count + h.reported))
  ]
    where
      step : at < length log → (a : Answer Happened) → step_row (count * report_stride) d p s reports (row_at log at) ≡ a
          → ((h : Happened) → Turns budget (rows + 1) (next_at log at) h.session h.reports (count + h.reported)
          (run_from budget d p log (rows + 1) (next_at log at) h.session h.reports (count + h.reported)))
          → Turns (suc budget) rows at s reports count (run_from (suc budget) d p log rows at s reports count)
      step l (refused r o) e f = rw (run_refused budget rows at s reports count r o l e) (stopped l e)
      step l (taken h) e f = rw (run_taken budget rows at s reports count h l e) (passed l e (f h))
