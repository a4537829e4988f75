-- Refusal 17 cannot occur in the program: the reports of one event are never more than the kept rows before it, each row has
-- the whole report room, and that holds as many rows as the kept table may have.
-- Assumes nothing.
use Rattle.std.specs.Prelude.{ℕ, ◌*◌, ◌≤◌, ◌≡◌, refl, not, List, [], ◌∷◌, length, replicate, ltb}
use Rattle.std.proofs.Common.{inl, inr, arith, ltb-false}
use Rattle.std.proofs.lemmas.List.{length-replicate}
use Rattle.document.specs.Limits.{most_seen, most_kept, seen_stride, kept_stride, report_stride, program_reports}
use Rattle.document.specs.Refusals.{badProperty, noRoomForSeen, noRoomForKept, noRoomForReports, Answer, taken, refused, refuse_if}
use Rattle.document.specs.Declarations.{Declared}
use Rattle.document.specs.Property.{Property, in_range}
use Rattle.document.specs.Tables.{kept_room, report_room}
use Rattle.document.specs.Session.{Session, Happened, session_with, lent_tables, first_kept, start, outcome, written, step_from, leaves}
use Rattle.document.specs.Log.{row_event, step_row}
use Rattle.document.specs.Printing.{program_session}
use Rattle.basics.specs.Answers.{past_test, past_call, taken_one}
use Rattle.slices.specs.StepLaws.{length-rows, stepped}
use Rattle.slices.specs.SessionBackLaws.{length-kept_of}
use Rattle.runs.specs.Answers.{out_of_room}
use Rattle.runs.specs.RowEvents.{row_refused, bytes-number}
use Rattle.runs.specs.TwoCalls.{row-reports}
use Rattle.runs.specs.PrintPart.{after_rows, program_numbers}

-- the kept rows are within their limit, and the report room holds as many
pub record Ample (s : Session) (lent : List ℕ) : Type 0 where
  pub kept : s.kept_count ≤ most_kept
  pub reports : most_kept ≤ report_room lent

-- Never 17 -------------------------------------------------------------------------------------------------------------

-- with report room for the kept rows before it, an event is not refused for want of it
pub event_not_17 : (p : Property) (s : Session) (reports : List ℕ) (e : ℕ) (b : List ℕ) (o : ℕ) → s.kept_count ≤ report_room reports
    → step_from 0 p s reports e b ≡ refused noRoomForReports o → ⊥
unfolding step_from
event_not_17 p s reports e b o h q = elim (out_of_room 0 p s reports (outcome p s e b) noRoomForReports o q) [
  | inl z ↦ let x : noRoomForReports ≡ noRoomForSeen = z.0 in let y : ◌≡◌ {A = ℕ} 0 1 = cc in omega arith
  | inr m ↦ elim m [
    | inl z ↦ let x : noRoomForReports ≡ noRoomForKept = z.0 in let y : ◌≡◌ {A = ℕ} 0 1 = cc in omega arith
    | inr z ↦ let few = length-rows p s e b in let k = length-kept_of s in let more = z.1 in omega arith
  ]
]

pub row_not_17 : (d : Declared) (p : Property) (s : Session) (reports bytes : List ℕ) (o : ℕ) → Ample s reports
    → step_row 0 d p s reports bytes ≡ refused noRoomForReports o → ⊥
row_not_17 d p s reports bytes o a q = elim (row_refused 0 d p s reports bytes noRoomForReports o q) [
  | inl e ↦ let k = bytes-number d bytes noRoomForReports o e in omega arith
  | inr x ↦ event_not_17 p s reports x.0.event x.0.values o (let i = a.kept in let j = a.reports in omega arith) x.2
]

-- Ample room stays -----------------------------------------------------------------------------------------------------

kept_room_most : (t : List ℕ) → kept_room t ≤ most_kept
unfolding kept_room
kept_room_most t = omega arith

step_kept : (p : Property) (s : Session) (reports : List ℕ) (e : ℕ) (b : List ℕ) (h : Happened) → step_from 0 p s reports e b ≡ taken h
    → h.session.kept_count ≤ most_kept
unfolding step_from written session_with
step_kept p s reports e b h q =
    let r = stepped 0 p s reports (outcome p s e b) h q in
    rw (← r.is) (let i = r.kept_rows in let j = kept_room_most s.kept in omega arith)

row_kept : (d : Declared) (p : Property) (s : Session) (reports bytes : List ℕ) (h : Happened) → step_row 0 d p s reports bytes ≡ taken h
    → h.session.kept_count ≤ most_kept
unfolding step_row
row_kept d p s reports bytes h q =
    let c = past_call (row_event d bytes) (λ v. step_from 0 p s reports v.event v.values) h q in
    step_kept p s reports c.0.event c.0.values h c.2

room_same : (t u : List ℕ) → length t ≡ length u → report_room t ≡ report_room u
unfolding report_room
room_same t u e = rw e

pub row_ample : (d : Declared) (p : Property) (s : Session) (reports bytes : List ℕ) → Ample s reports
    → let h = leaves s reports (step_row 0 d p s reports bytes) in Ample h.session h.reports
unfolding leaves
row_ample d p s reports bytes a = go (step_row 0 d p s reports bytes) refl
  where
    go : (x : Answer Happened) → step_row 0 d p s reports bytes ≡ x → let h = leaves s reports x in Ample h.session h.reports
    go (refused r o) q = a
    go (taken h) q = record {
      kept = row_kept d p s reports bytes h q;
      reports = rw (room_same h.reports reports (row-reports 0 d p s reports bytes h (omega arith) q).same) a.reports;
    }

-- so at no row of any list is there a 17
pub rows_ample : (d : Declared) (p : Property) (s : Session) (reports : List ℕ) (l : List (List ℕ)) → Ample s reports
    → let x = after_rows d p s reports l in Ample x.session x.reports
unfolding after_rows
rows_ample d p s reports [] a = a
rows_ample d p s reports (bytes ∷ l) a =
    let h = leaves s reports (step_row 0 d p s reports bytes) in
    rows_ample d p h.session h.reports l (row_ample d p s reports bytes a)

pub rows_not_17 : (d : Declared) (p : Property) (s : Session) (reports : List ℕ) (l : List (List ℕ)) (bytes : List ℕ) (o : ℕ)
    → Ample s reports
    → let x = after_rows d p s reports l in step_row 0 d p x.session x.reports bytes ≡ refused noRoomForReports o → ⊥
rows_not_17 d p s reports l bytes o a q =
    let x = after_rows d p s reports l in
    row_not_17 d p x.session x.reports bytes o (rows_ample d p s reports l a) q

-- The program's rooms --------------------------------------------------------------------------------------------------

start_kept : (p : Property) (seen kept : List ℕ) (s : Session) → start p seen kept ≡ taken s → s.kept_count ≤ most_kept
unfolding start session_with
start_kept p seen kept s q =
    let full = ltb (kept_room kept) (length (first_kept p)) in
    let first = session_with (lent_tables seen kept) [] (first_kept p) in
    let h₁ = past_test (not (in_range p)) badProperty (refuse_if full noRoomForKept (taken first)) s q in
    let h₂ = past_test full noRoomForKept (taken first) s h₁.1 in
    let k = ltb-false (kept_room kept) (length (first_kept p)) h₂.0 in
    rw (← taken_one h₂.1) (let j = kept_room_most kept in omega arith)

room_of : (n : ℕ) → most_kept * report_stride ≤ n → most_kept ≤ report_room (replicate n 0)
unfolding report_room
room_of n h = rw length-replicate (omega arith)

pub program_ample : (p : Property) (s : Session) → program_session p ≡ taken s → Ample s program_numbers
unfolding program_session program_numbers
program_ample p s q = record {
  kept = start_kept p (replicate (most_seen * seen_stride) 0) (replicate (most_kept * kept_stride) 0) s q;
  reports = room_of (program_reports * report_stride) (omega arith);
}
