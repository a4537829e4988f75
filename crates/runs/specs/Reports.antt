-- The lent report numbers: what stands before the place where an event's reports begin is left, and decides nothing. So an
-- event, a row and a run answer the same over the report numbers that are left as over all of them.
-- Assumes nothing.
use Rattle.std.specs.Prelude.{ℕ, suc, ◌+◌, ◌*◌, ◌≡◌, Bool, true, false, List, ◌++◌}
use Rattle.std.proofs.Math.Path.{refl, ap}
use Rattle.std.proofs.Common.{◌∙◌, append_assoc}
use mathlib.Core.List as list
use native.Mathlib.Omega.{arith}
use Rattle.std.proofs.Math.ListN.{length, take, drop}
use Rattle.std.proofs.Math.Seq.{take-append-add, drop-append-add}
use Rattle.std.proofs.Math.Dec.{ltb}
use Rattle.document.specs.Lists.{joined_up}
use Rattle.document.specs.Limits.{report_stride}
use Rattle.document.specs.Refusals.{Refusal, noRoomForSeen, noRoomForKept, noRoomForReports, Answer, taken, refused, refuse_if, and_then}
use Rattle.document.specs.Declarations.{Declared}
use Rattle.document.specs.Property.{Property}
use Rattle.document.specs.Tables.{seen_room, kept_room, report_room}
use Rattle.document.specs.Session.{Session, Happened, Outcome, report_numbers, session_with, outcome, written, within_rooms, step_from}
use Rattle.document.specs.Log.{RowEvent, row_event, step_row, row_at, Ran, ran_to, run_from}
use Rattle.runs.specs.Turns.{run_spent, run_ended, run_refused, run_taken, Turns, spent, ended, stopped, passed, turns}

-- an answer with its value changed
abbrev pub taken_as : {A B : Type 0} → (A → B) → Answer A → Answer B
taken_as f (taken x) = taken (f x)
taken_as f (refused r o) = refused r o

refuse_as : {A B : Type 0} (f : A → B) (t : Bool) (r : Refusal) (a : Answer A)
    → refuse_if t r (taken_as f a) ≡ taken_as f (refuse_if t r a)
refuse_as f true r a = refl
refuse_as f false r a = refl

-- the report numbers with others in front of them
abbrev pub in_front : List ℕ → Happened → Happened
in_front front h = record { session = h.session; reports = front ++ h.reports; reported = h.reported }

module _ (front : List ℕ) (from : ℕ) (p : Property) (s : Session) (reports : List ℕ) where
  written_front : (o : Outcome) → written (length front + from) p s (front ++ reports) o ≡ in_front front (written from p s reports o)
  unfolding written
  written_front o =
      let numbers = joined_up (list.map (report_numbers p) o.rows) in
      let n = length numbers in
      let z : length front + from + n ≡ length front + (from + n) = omega arith in
      let a : take (length front + from) (front ++ reports) ≡ front ++ take from reports = take-append-add front reports from in
      let b : drop (length front + from + n) (front ++ reports) ≡ drop (from + n) reports = rw z (drop-append-add front reports (from + n)) in
      let c : take (length front + from) (front ++ reports) ++ numbers ++ drop (length front + from + n) (front ++ reports)
      ≡ front ++ (take from reports ++ numbers ++ drop (from + n) reports) = rw (a, b) (simp append_assoc) in
      λ i. record { session = session_with s o.seen o.kept; reports = c i; reported = length o.rows }

  rooms_front : (o : Outcome)
      → within_rooms (length front + from) p s (front ++ reports) o ≡ taken_as (in_front front) (within_rooms from p s reports o)
  unfolding within_rooms
  rooms_front o =
      let f = in_front front in
      let w = taken (written from p s reports o) in
      let fullSeen = ltb (seen_room s.seen) (length o.seen) in
      let fullKept = ltb (kept_room s.kept) (length o.kept) in
      let full = ltb (report_room (drop from reports)) (length o.rows) in
      rw (drop-append-add front reports from, written_front o)
      (ap (λ a. refuse_if fullSeen noRoomForSeen (refuse_if fullKept noRoomForKept a)) (refuse_as f full noRoomForReports w)
      ∙ ap (λ a. refuse_if fullSeen noRoomForSeen a) (refuse_as f fullKept noRoomForKept (refuse_if full noRoomForReports w))
      ∙ refuse_as f fullSeen noRoomForSeen (refuse_if fullKept noRoomForKept (refuse_if full noRoomForReports w)))

  pub step_front : (e : ℕ) (b : List ℕ)
      → step_from (length front + from) p s (front ++ reports) e b ≡ taken_as (in_front front) (step_from from p s reports e b)
  unfolding step_from
  step_front e b = rooms_front (outcome p s e b)

  pub row_front : (d : Declared) (bytes : List ℕ)
      → step_row (length front + from) d p s (front ++ reports) bytes ≡ taken_as (in_front front) (step_row from d p s reports bytes)
  unfolding step_row
  row_front d bytes = go (row_event d bytes)
    where
      go : (a : Answer RowEvent) → and_then a (λ v. step_from (length front + from) p s (front ++ reports) v.event v.values)
          ≡ taken_as (in_front front) (and_then a (λ v. step_from from p s reports v.event v.values))
      go (refused r o) = refl
      go (taken v) = step_front v.event v.values

-- a run that comes after so many rows and reports, its report numbers after others
abbrev pub ran_after : ℕ → ℕ → List ℕ → Ran → Ran
ran_after rows count front r = record {
  taken = rows + r.taken;
  next = r.next;
  happened = record {
    session = r.happened.session;
    reports = front ++ r.happened.reports;
    reported = count + r.happened.reported;
  };
  stop = r.stop;
}

module _ (d : Declared) (p : Property) (log : List ℕ) (rows₀ count₀ : ℕ) (front : List ℕ)
    (whole : length front ≡ count₀ * report_stride) where
  place : (count : ℕ) → (count₀ + count) * report_stride ≡ length front + count * report_stride
  place count = omega arith

  turns_front : {budget rows at : ℕ} {s : Session} {reports : List ℕ} {count : ℕ} {r : Ran}
      → Turns d p log budget rows at s reports count r
      → run_from budget d p log (rows₀ + rows) at s (front ++ reports) (count₀ + count) ≡ ran_after rows₀ count₀ front r
  unfolding ran_to
  turns_front (spent {rows} {at} {s} {reports} {count}) = run_spent d p log (rows₀ + rows) at s (front ++ reports) (count₀ + count)
  turns_front (ended {budget} {rows} {at} {s} {reports} {count} h) =
      run_ended d p log (suc budget) (rows₀ + rows) at s (front ++ reports) (count₀ + count) h
  turns_front (stopped {budget} {rows} {at} {s} {reports} {count} {r} {o} h e) =
      run_refused d p log budget (rows₀ + rows) at s (front ++ reports) (count₀ + count) r o h
      (rw (place count, row_front front (count * report_stride) p s reports d (row_at log at), e))
  turns_front (passed {budget} {rows} {at} {s} {reports} {count} {h} l e t) =
      let a : rows₀ + rows + 1 ≡ rows₀ + (rows + 1) = omega arith in
      let b : count₀ + count + h.reported ≡ count₀ + (count + h.reported) = omega arith in
      run_taken d p log budget (rows₀ + rows) at s (front ++ reports) (count₀ + count) (in_front front h) l
      (rw (place count, row_front front (count * report_stride) p s reports d (row_at log at), e))
      ∙ rw (a, b) (turns_front t)

  pub run_front : (budget rows at : ℕ) (s : Session) (reports : List ℕ) (count : ℕ)
      → run_from budget d p log (rows₀ + rows) at s (front ++ reports) (count₀ + count)
      ≡ ran_after rows₀ count₀ front (run_from budget d p log rows at s reports count)
  run_front budget rows at s reports count = turns_front (turns d p log budget rows at s reports count)
