-- One row: the room that its lines ask, and what it leaves.
-- Assumes nothing.
use Rattle.std.specs.Prelude.{ℕ, ◌+◌, ◌-◌, ◌*◌, ◌^◌, ◌≤◌, ◌<◌, ◌≡◌, Bool, true, List, length, take, drop, leb, ltb}
use Rattle.std.proofs.Math.Path.{refl, ap}
use Rattle.std.proofs.Common.{sym, ◌∙◌, ne_eqb, leb-true, ltb-true}
use native.Mathlib.Omega.{arith}
use Rattle.document.specs.Limits.{width}
use Rattle.document.specs.Refusals.{number, Answer, taken, refused}
use Rattle.document.specs.RefusalsLaws.{number-some}
use Rattle.document.specs.Rows.{first_row}
use Rattle.document.specs.Tables.{kept_rows}
use Rattle.document.specs.Session.{Session, Happened, seen_of, kept_of, leaves}
use Rattle.document.specs.Log.{row_event, row_at, next_at}
use Rattle.basics.specs.Lists.{length-tabulate}
use Rattle.basics.specs.Answers.{past_call}
use Rattle.reader.specs.HandingLaws.{next_at_end}
use Rattle.slices.specs.TestsLaws.{so, true_of, and_of}
use Rattle.slices.specs.MovesLaws.{length-reports_after}
use Rattle.judge.specs.Sound.{session_of}
use Rattle.decimals.specs.Written.{Written}
use Rattle.lineparts.specs.Lines.{most_line}
use Rattle.lineparts.specs.LinesLaws.{refused_line_number}
use Rattle.moves.specs.Steps.{step_of, state_in, outcome_by}
use Rattle.steps.specs.declared.Answered.{Answered}
use Rattle.steps.specs.Steps.{step_by, answered, Leaves}
use Rattle.judging.specs.declared.Judged.{Judged}
use Rattle.turns.specs.Stepping.{row_step_by, read_as}
use Rattle.turns.specs.TurnsLaws.{row_is, step_made, row_room}
use Rattle.printrow.specs.declared.Printed.{Printed}
use Rattle.rowlines.specs.RowLines.{most_lines, fits_row, answer_text, TextFits}
use Rattle.rowlines.specs.RowLinesLaws.{lines_enough}
use Rattle.printrow.specs.RowPrints.{row_text_by, RowFits, RowPrinted}

pub row_fits_lem : (r : Printed) (log text : List ℕ) (f : Bool) → r.next < length log → f ≡ fits_row (length text) r.filled r.kept r.number
    → f ≡ true → RowFits r log text
unfolding fits_row
row_fits_lem r log text f h q z =
    let t : fits_row (length text) r.filled r.kept r.number ≡ true = sym q ∙ z in
    let a = and_of (ltb (r.number + 1) (2 ^ 64)) (leb (r.filled + most_lines r.kept * most_line) (length text)) (so t) in
    record {
      row = h;
      fits = leb-true (r.filled + most_lines r.kept * most_line) (length text) (true_of _ a.1);
      few = ltb-true (r.number + 1) (2 ^ 64) (true_of _ a.0);
    }

-- Few reports ------------------------------------------------------------------------------------------------------------

step_few : (next verdicts : List ℕ) (hopes asks from : ℕ) (s : Session) (reports : List ℕ) (e : ℕ) (b : List ℕ) (h : Happened)
    → step_by next verdicts hopes asks from s reports e b ≡ taken h → h.reported ≤ s.kept_count
unfolding outcome_by kept_of kept_rows
step_few next verdicts hopes asks from s reports e b h q =
    let c = (step_made next verdicts hopes asks from s reports e b h q).1 in
    let f = length-reports_after width (step_of next) e b (seen_of s) (kept_of s) (state_in asks) in
    let k : length (kept_of s) ≡ s.kept_count = length-tabulate s.kept_count _ in
    omega arith

row_few : (c : Judged) (from : ℕ) (s : Session) (reports row : List ℕ) (h : Happened)
    → row_step_by c from s reports row ≡ taken h → h.reported ≤ s.kept_count
unfolding row_step_by
row_few c from s reports row h q =
    let k = c.known in
    let w = past_call (row_event (read_as c) row) (λ v. step_by k.next k.verdicts k.hopeful k.asked from s reports v.event v.values) h q in
    step_few k.next k.verdicts k.hopeful k.asked from s reports w.0.event w.0.values h w.2

-- The row ----------------------------------------------------------------------------------------------------------------

module _ (c : Judged) (parameters : ℕ) (r : Printed) (log text seen kept reports : List ℕ) (o : RowFits r log text)
    (end : ℕ) (qe : end ≡ r.next + length (first_row (drop r.next log))) (x : Answered) (seen' kept' reports' : List ℕ)
    (v : Leaves (row_step_by c 0 (session_of r.seen r.kept seen kept) reports (take (end - r.next) (drop r.next log))) (session_of r.seen r.kept seen kept) reports x seen' kept' reports') where
  abbrev s₀ : Session
  s₀ = session_of r.seen r.kept seen kept

  abbrev bytes : List ℕ
  bytes = take (end - r.next) (drop r.next log)

  pub text_fits : parameters ≤ width → length reports' ≡ length reports → TextFits r.filled parameters text reports' x
  unfolding answered leaves
  text_fits few same = go (row_step_by c 0 s₀ reports bytes) refl v
    where
      go : (a : Answer Happened) → row_step_by c 0 s₀ reports bytes ≡ a → Leaves a s₀ reports x seen' kept' reports'
          → TextFits r.filled parameters text reports' x
      go (refused q i) e u =
          let z : x.reported ≡ 0 = ap (λ (y : Answered). y.reported) u.says in
          let k = (lines_enough r.kept).0 in
          let f = o.fits in
          let m : most_line ≤ most_lines r.kept * most_line = omega arith in
          record { few = few; line = omega arith; lines = rw z (omega arith); inside = rw z (omega arith) }
      go (taken h) e u =
          let z : x.reported ≡ h.reported = ap (λ (y : Answered). y.reported) u.says in
          let i = row_room c 0 s₀ reports bytes h (omega arith) e in
          let j = row_few c 0 s₀ reports bytes h e in
          let k = lines_enough r.kept in
          let k₀ = k.0 in
          let k₁ = k.1 in
          let f = o.fits in
          record { few = few; line = omega arith; lines = rw z (omega arith); inside = rw z (omega arith) }

  -- its lines, by the step's answer
  text_same : (n : ℕ) → answer_text parameters n reports' x ≡ row_text_by parameters n (row_step_by c 0 s₀ reports bytes)
  unfolding answer_text answered leaves
  text_same n = go (row_step_by c 0 s₀ reports bytes) v
    where
      go : (a : Answer Happened) → Leaves a s₀ reports x seen' kept' reports' → answer_text parameters n reports' x ≡ row_text_by parameters n a
      go (taken h) u =
          let z : x.refusal ≡ 0 = ap (λ (y : Answered). y.refusal) u.says in
          let k : x.reported ≡ h.reported = ap (λ (y : Answered). y.reported) u.says in
          let l : reports' ≡ h.reports = u.reports_left in
          rw (z, k, l)
      go (refused q i) u =
          let z : x.refusal ≡ number q = ap (λ (y : Answered). y.refusal) u.says in
          let some = number-some q in
          rw (ne_eqb x.refusal 0 (λ y. omega arith), z) (sym (refused_line_number parameters n q))

  pub row-printed : (text' : List ℕ) (filled after : ℕ)
      → Written r.filled (length (answer_text parameters r.number reports' x)) (answer_text parameters r.number reports' x) text text' filled
      → after ≡ next_at log end
      → (r' : Printed) → r' ≡ record { refusal = 0; next = after; number = r.number + 1; seen = x.seen; kept = x.kept; filled = filled }
      → RowPrinted (row_step_by c 0 (session_of r.seen r.kept seen kept) reports (row_at log r.next)) parameters log seen kept reports text r r' seen' kept' reports' text'
  unfolding answered
  row-printed text' filled after w qn r' q =
      let e₁ = ap (λ (y : Answered). y.seen) v.says in
      let e₂ = ap (λ (y : Answered). y.kept) v.says in
      let e₃ = v.seen_left in
      let e₄ = v.kept_left in
      rw (q, ← row_is log r.next end qe) (record {
        none = refl;
        next = qn ∙ next_at_end log r.next end qe;
        number = refl;
        session = λ i. record { seen_count = e₁ i; kept_count = e₂ i; seen = e₃ i; kept = e₄ i };
        reports_left = v.reports_left;
        written = rw (text_same r.number) at w;
      })
