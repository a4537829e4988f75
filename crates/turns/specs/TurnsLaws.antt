-- The returns of one row more, and that its reports lie in the numbers lent.
-- Assumes nothing.
use Rattle.std.specs.Prelude.{ℕ, ◌+◌, ◌-◌, ◌*◌, ◌/◌, ◌≤◌, ◌≡◌, List, ltb, length, take, drop}
use Rattle.std.proofs.Math.Path.{refl, ap}
use Rattle.std.proofs.Common.{◌∙◌, arith, length-drop, ltb-false}
use Rattle.document.specs.Limits.{report_stride}
use Rattle.document.specs.Refusals.{number, noRoomForSeen, noRoomForKept, noRoomForReports, Answer, taken, refused, refuse_if}
use Rattle.document.specs.RefusalsLaws.{number-some}
use Rattle.document.specs.Rows.{first_row}
use Rattle.document.specs.Session.{Session, Happened, seen_of, kept_of, leaves}
use Rattle.document.specs.Tables.{seen_room, kept_room, report_room}
use Rattle.document.specs.Log.{row_event, row_at, next_at, ran_to}
use Rattle.basics.specs.Answers.{past_test, past_call, taken_one}
use Rattle.rows.specs.TextLaws.{row-part}
use Rattle.reader.specs.HandingLaws.{next_at_end}
use Rattle.judge.specs.Sound.{session_of}
use Rattle.moves.specs.Steps.{outcome_by}
use Rattle.steps.specs.declared.Answered.{Answered as Stepped}
use Rattle.steps.specs.Steps.{within_rooms_by, step_by, answered, Leaves}
use Rattle.turns.specs.declared.Ran.{Ran as Answered}
use Rattle.judging.specs.declared.Judged.{Judged}
use Rattle.turns.specs.Stepping.{row_step_by, read_as}
use Rattle.turns.specs.Turns.{ran_of, RunLeaves, took, turn_by, Onward}
use Rattle.writing.specs.Writing.{written_by}

-- The row at a place of the log ----------------------------------------------------------------------------------------

pub row_is : (log : List ℕ) (at end : ℕ) → end ≡ at + length (first_row (drop at log)) → take (end - at) (drop at log) ≡ row_at log at
unfolding row_at
row_is log at end e = row-part log at end e

-- One row more ---------------------------------------------------------------------------------------------------------

-- what a step's answer says of the row
record StepTaken (a : Answer Happened) (x : Stepped) (seen kept reports : List ℕ) : Type 0 where
  happened : Happened
  is : a ≡ taken happened
  seen_rows : x.seen ≡ happened.session.seen_count
  kept_rows : x.kept ≡ happened.session.kept_count
  reported : x.reported ≡ happened.reported
  seen_left : seen ≡ happened.session.seen
  kept_left : kept ≡ happened.session.kept
  reports_left : reports ≡ happened.reports

step_taken : (a : Answer Happened) (s : Session) (reports : List ℕ) (x : Stepped) (seen' kept' reports' : List ℕ)
    → Leaves a s reports x seen' kept' reports' → x.refusal ≡ 0 → StepTaken a x seen' kept' reports'
unfolding answered leaves
step_taken (taken h) s reports x seen' kept' reports' v z = record {
  happened = h;
  is = refl;
  seen_rows = ap (λ (y : Stepped). y.seen) v.says;
  kept_rows = ap (λ (y : Stepped). y.kept) v.says;
  reported = ap (λ (y : Stepped). y.reported) v.says;
  seen_left = v.seen_left;
  kept_left = v.kept_left;
  reports_left = v.reports_left;
}
step_taken (refused q o) s reports x seen' kept' reports' v z =
    absurd (let k = number-some q in let e : x.refusal ≡ number q = ap (λ (y : Stepped). y.refusal) v.says in omega arith)

-- the rows of an accepted step's outcome fit the room, and are its reports
pub step_made : (next verdicts : List ℕ) (hopes asks from : ℕ) (s : Session) (reports : List ℕ) (e : ℕ) (b : List ℕ) (h : Happened)
    → step_by next verdicts hopes asks from s reports e b ≡ taken h
    → (length (outcome_by next hopes asks (seen_of s) (kept_of s) e b).rows ≤ report_room (drop from reports))
    × (length (outcome_by next hopes asks (seen_of s) (kept_of s) e b).rows ≡ h.reported)
unfolding step_by within_rooms_by written_by
step_made next verdicts hopes asks from s reports e b h q =
    let o = outcome_by next hopes asks (seen_of s) (kept_of s) e b in
    let x = ltb (seen_room s.seen) (length o.seen) in
    let y = ltb (kept_room s.kept) (length o.kept) in
    let z = ltb (report_room (drop from reports)) (length o.rows) in
    let third = refuse_if z noRoomForReports (taken (written_by verdicts from s reports o)) in
    let h₁ = past_test x noRoomForSeen (refuse_if y noRoomForKept third) h q in
    let h₂ = past_test y noRoomForKept third h h₁.1 in
    let h₃ = past_test z noRoomForReports (taken (written_by verdicts from s reports o)) h h₂.1 in
    (ltb-false (report_room (drop from reports)) (length o.rows) h₃.0, ap (λ (u : Happened). u.reported) (taken_one h₃.1))

-- so they lie in the numbers lent
step_room : (next verdicts : List ℕ) (hopes asks from : ℕ) (s : Session) (reports : List ℕ) (e : ℕ) (b : List ℕ) (h : Happened) → from ≤ length reports
    → step_by next verdicts hopes asks from s reports e b ≡ taken h → from + h.reported * report_stride ≤ length reports
unfolding report_room
step_room next verdicts hopes asks from s reports e b h l q =
    let o = outcome_by next hopes asks (seen_of s) (kept_of s) e b in
    let m = step_made next verdicts hopes asks from s reports e b h q in
    let f : length o.rows ≤ (length reports - from) / report_stride = rw length-drop at m.0 in
    let c = m.1 in
    omega arith

pub row_room : (c : Judged) (from : ℕ) (s : Session) (reports row : List ℕ) (h : Happened) → from ≤ length reports
    → row_step_by c from s reports row ≡ taken h → from + h.reported * report_stride ≤ length reports
unfolding row_step_by
row_room c from s reports row h l q =
    let k = c.known in
    let w = past_call (row_event (read_as c) row) (λ v. step_by k.next k.verdicts k.hopeful k.asked from s reports v.event v.values) h q in
    step_room k.next k.verdicts k.hopeful k.asked from s reports w.0.event w.0.values h l w.2

module _ (c : Judged) (r : Answered) (log seen kept reports : List ℕ) (o : Onward r log reports)
    (end : ℕ) (qe : end ≡ r.next + length (first_row (drop r.next log))) (x : Stepped) (seen' kept' reports' : List ℕ)
    (v : Leaves (row_step_by c (r.reported * report_stride) (session_of r.seen r.kept seen kept) reports (take (end - r.next) (drop r.next log))) (session_of r.seen r.kept seen kept) reports x seen' kept' reports') where
  abbrev s₀ : Session
  s₀ = session_of r.seen r.kept seen kept

  stepped : Leaves (row_step_by c (r.reported * report_stride) s₀ reports (row_at log r.next)) s₀ reports x seen' kept' reports'
  stepped = rw (row_is log r.next end qe) at v

  -- the reports lie in the numbers lent
  pub turn_adds : x.refusal ≡ 0 → r.reported + x.reported ≤ length reports
  turn_adds z =
      let w = step_taken _ s₀ reports x seen' kept' reports' stepped z in
      let j = row_room c (r.reported * report_stride) s₀ reports (row_at log r.next) w.happened o.fits w.is in
      let e = w.reported in
      omega arith

  pub turn_refused : (x.refusal ≡ 0 → ⊥) → (r' : Answered)
      → r' ≡ record { refusal = x.refusal; taken = r.taken; next = r.next; seen = r.seen; kept = r.kept; reported = r.reported }
      → RunLeaves (turn_by c log r.taken r.next (session_of r.seen r.kept seen kept) reports r.reported) r' seen' kept' reports'
  unfolding turn_by took ran_to ran_of answered leaves
  turn_refused z r' q' = go (row_step_by c (r.reported * report_stride) s₀ reports (row_at log r.next)) refl stepped
    where
      go : (a : Answer Happened) → row_step_by c (r.reported * report_stride) s₀ reports (row_at log r.next) ≡ a → Leaves a s₀ reports x seen' kept' reports'
          → RunLeaves (turn_by c log r.taken r.next s₀ reports r.reported) r' seen' kept' reports'
      go (taken h) e u = absurd (z (ap (λ (y : Stepped). y.refusal) u.says))
      go (refused q i) e u =
          let n : x.refusal ≡ number q = ap (λ (y : Stepped). y.refusal) u.says in
          rw e (record {
            says = q' ∙ (λ j. record { refusal = n j; taken = r.taken; next = r.next; seen = r.seen; kept = r.kept; reported = r.reported });
            seen_left = u.seen_left;
            kept_left = u.kept_left;
            reports_left = u.reports_left;
          })

  pub turn_taken : (nx : ℕ) → nx ≡ next_at log end → x.refusal ≡ 0 → (r' : Answered)
      → r' ≡ record { refusal = 0; taken = r.taken + 1; next = nx; seen = x.seen; kept = x.kept; reported = r.reported + x.reported }
      → RunLeaves (turn_by c log r.taken r.next (session_of r.seen r.kept seen kept) reports r.reported) r' seen' kept' reports'
  unfolding turn_by took ran_to ran_of
  turn_taken nx qn z r' q' =
      let w = step_taken _ s₀ reports x seen' kept' reports' stepped z in
      let h = w.happened in
      let a : nx ≡ next_at log r.next = qn ∙ next_at_end log r.next end qe in
      let d = w.seen_rows in
      let f = w.kept_rows in
      let g = w.reported in
      rw w.is (record {
        says = q' ∙ (λ i. record { refusal = 0; taken = r.taken + 1; next = a i; seen = d i; kept = f i; reported = r.reported + g i });
        seen_left = w.seen_left;
        kept_left = w.kept_left;
        reports_left = w.reports_left;
      })
