-- The turns of the run, over declarations as they were read.
-- Assumes nothing.
use Rattle.std.specs.Prelude.{ℕ, suc, ◌+◌, ◌-◌, ◌*◌, ◌^◌, ◌<◌, ◌≤◌, ◌≡◌, true, List, length}
use Rattle.std.proofs.Math.Path.{refl, sym, ap, subst}
use Rattle.std.proofs.Common.{◌∙◌}
use native.Mathlib.Omega.{arith}
use Rattle.document.specs.Limits.{report_stride}
use Rattle.document.specs.Refusals.{number, Answer, taken, refused}
use Rattle.document.specs.RefusalsLaws.{number-some}
use Rattle.document.specs.Declarations.{Declared}
use Rattle.document.specs.Property.{Property, in_range}
use Rattle.document.specs.Session.{Session, Happened, sound}
use Rattle.document.specs.Log.{step_row, agrees, row_at, next_at, Ran, ran_to, run_from}
use Rattle.judge.specs.Sound.{session_of}
use Rattle.judging.specs.declared.Judged.{Judged}
use Rattle.runs.specs.Turns.{run_spent, run_ended, run_refused, run_taken}
use Rattle.runs.specs.TwoCalls.{row-reports}
use Rattle.runs.specs.SoundRuns.{row-sound}
use Rattle.turns.specs.declared.Ran.{Ran as Answered}
use Rattle.turns.specs.Stepping.{read_as, Sure}
use Rattle.turns.specs.SureLaws.{row_step_same}
use Rattle.turns.specs.Turns.{ran_of, RunLeaves, took, turn_by, Onward}
use Rattle.logs.specs.Running.{turn, Going}

pub turn_same : (p : Property) (c : Judged) → Sure p c
    → (log : List ℕ) (rows at n m : ℕ) (seen kept reports : List ℕ) (count : ℕ) → sound p (session_of n m seen kept) ≡ true
    → turn_by c log rows at (session_of n m seen kept) reports count ≡ turn (read_as c) p log rows at (session_of n m seen kept) reports count
unfolding turn_by turn
turn_same p c w log rows at n m seen kept reports count f = rw (row_step_same p c w n m seen kept reports (row_at log at) (count * report_stride) f)

-- The run on the way ---------------------------------------------------------------------------------------------------

-- a turn that is taken, and one that is refused
record TurnTaken (d : Declared) (p : Property) (log : List ℕ) (rows at : ℕ) (s : Session) (reports : List ℕ) (count : ℕ) (r : Answered) (seen' kept' reports' : List ℕ) : Type 0 where
  happened : Happened
  is : step_row (count * report_stride) d p s reports (row_at log at) ≡ taken happened
  row : r ≡ record { refusal = 0; taken = rows + 1; next = next_at log at; seen = happened.session.seen_count; kept = happened.session.kept_count; reported = count + happened.reported }
  seen_left : seen' ≡ happened.session.seen
  kept_left : kept' ≡ happened.session.kept
  reports_left : reports' ≡ happened.reports

module _ (d : Declared) (p : Property) (log : List ℕ) (rows at : ℕ) (s : Session) (reports : List ℕ) (count : ℕ) (r : Answered) (seen' kept' reports' : List ℕ)
    (v : RunLeaves (turn d p log rows at s reports count) r seen' kept' reports') where
  is_taken : r.refusal ≡ 0 → TurnTaken d p log rows at s reports count r seen' kept' reports'
  unfolding turn took ran_to ran_of
  is_taken z = go (step_row (count * report_stride) d p s reports (row_at log at)) refl
    where
      go : (a : Answer Happened) → step_row (count * report_stride) d p s reports (row_at log at) ≡ a → TurnTaken d p log rows at s reports count r seen' kept' reports'
      go (refused q o) e =
          let u = rw e at v in
          absurd (let k = number-some q in let n : r.refusal ≡ number q = ap (λ (y : Answered). y.refusal) u.says in omega arith)
      go (taken h) e =
          let u = rw e at v in
          record { happened = h; is = e; row = u.says; seen_left = u.seen_left; kept_left = u.kept_left; reports_left = u.reports_left }

  is_refused : (r.refusal ≡ 0 → ⊥) → (budget : ℕ) → at < length log → RunLeaves (run_from (suc budget) d p log rows at s reports count) r seen' kept' reports'
  unfolding turn took ran_to ran_of
  is_refused z budget l = go (step_row (count * report_stride) d p s reports (row_at log at)) refl
    where
      go : (a : Answer Happened) → step_row (count * report_stride) d p s reports (row_at log at) ≡ a → RunLeaves (run_from (suc budget) d p log rows at s reports count) r seen' kept' reports'
      go (taken h) e = let u = rw e at v in absurd (z (ap (λ (y : Answered). y.refusal) u.says))
      go (refused q o) e = rw (run_refused d p log budget rows at s reports count q o l e) (rw e at v)

module _ (d : Declared) (p : Property) (log : List ℕ) (budget : ℕ) (whole : Ran) (r : Answered) (seen kept reports : List ℕ)
    (g : Going d p log budget whole r seen kept reports) where
  -- no rows left to take, and the log's end
  pub going_spent : budget ≤ r.taken → RunLeaves whole r seen kept reports
  unfolding ran_to ran_of
  going_spent h =
      let e : budget - r.taken ≡ 0 = omega arith in
      let z = g.none in
      let q = sym (run_spent d p log r.taken r.next (session_of r.seen r.kept seen kept) reports r.reported) ∙ (rw e at g.left) in
      subst (λ (x : Ran). RunLeaves x r seen kept reports) q (record {
        says = λ i. record { refusal = z i; taken = r.taken; next = r.next; seen = r.seen; kept = r.kept; reported = r.reported };
        seen_left = refl;
        kept_left = refl;
        reports_left = refl;
      })

  pub going_ended : length log ≤ r.next → RunLeaves whole r seen kept reports
  unfolding ran_to ran_of
  going_ended h =
      let z = g.none in
      let q = sym (run_ended d p log (budget - r.taken) r.taken r.next (session_of r.seen r.kept seen kept) reports r.reported h) ∙ g.left in
      subst (λ (x : Ran). RunLeaves x r seen kept reports) q (record {
        says = λ i. record { refusal = z i; taken = r.taken; next = r.next; seen = r.seen; kept = r.kept; reported = r.reported };
        seen_left = refl;
        kept_left = refl;
        reports_left = refl;
      })

  module _ (range : in_range p ≡ true) (agree : agrees d p ≡ true) (more : r.taken < budget) (l : r.next < length log) (r' : Answered) (seen' kept' reports' : List ℕ)
      (v : RunLeaves (turn d p log r.taken r.next (session_of r.seen r.kept seen kept) reports r.reported) r' seen' kept' reports') where
    one_less : budget - r.taken ≡ suc (budget - (r.taken + 1))
    one_less = omega arith

    pub going_refused : (r'.refusal ≡ 0 → ⊥) → RunLeaves whole r' seen' kept' reports'
    going_refused z =
        let q = rw one_less at g.left in
        subst (λ (x : Ran). RunLeaves x r' seen' kept' reports') q
        (is_refused d p log r.taken r.next (session_of r.seen r.kept seen kept) reports r.reported r' seen' kept' reports' v z (budget - (r.taken + 1)) l)

    pub going_turn : r'.refusal ≡ 0 → Going d p log budget whole r' seen' kept' reports'
    going_turn z =
        let c = is_taken d p log r.taken r.next (session_of r.seen r.kept seen kept) reports r.reported r' seen' kept' reports' v z in
        let h = c.happened in
        let et : r'.taken ≡ r.taken + 1 = ap (λ (y : Answered). y.taken) c.row in
        let en : r'.next ≡ next_at log r.next = ap (λ (y : Answered). y.next) c.row in
        let er : r'.reported ≡ r.reported + h.reported = ap (λ (y : Answered). y.reported) c.row in
        let e₁ : r'.seen ≡ h.session.seen_count = ap (λ (y : Answered). y.seen) c.row in
        let e₂ : r'.kept ≡ h.session.kept_count = ap (λ (y : Answered). y.kept) c.row in
        let e₃ = c.seen_left in
        let e₄ = c.kept_left in
        let e₅ = c.reports_left in
        let es : session_of r'.seen r'.kept seen' kept' ≡ h.session = λ i. record { seen_count = e₁ i; kept_count = e₂ i; seen = e₃ i; kept = e₄ i } in
        let rep = row-reports (r.reported * report_stride) d p (session_of r.seen r.kept seen kept) reports (row_at log r.next) h g.fits c.is in
        let same : length reports' ≡ length reports = ap length e₅ ∙ rep.same in
        record {
          none = z;
          few = omega (arith, et, more);
          fits = let a = rep.inside in omega arith;
          sound = subst (λ (x : Session). sound p x ≡ true) (sym es) (row-sound d p range agree (r.reported * report_stride) (session_of r.seen r.kept seen kept) reports (row_at log r.next) h g.sound c.is);
          left =
              (λ i. run_from (budget - et i) d p log (et i) (en i) (es i) (e₅ i) (er i))
              ∙ sym (run_taken d p log (budget - (r.taken + 1)) r.taken r.next (session_of r.seen r.kept seen kept) reports r.reported h l c.is)
              ∙ (rw one_less at g.left);
        }

pub going_start : (d : Declared) (p : Property) (log : List ℕ) (budget at n m : ℕ) (seen kept reports : List ℕ) → sound p (session_of n m seen kept) ≡ true
    → (r : Answered) → r ≡ record { refusal = 0; taken = 0; next = at; seen = n; kept = m; reported = 0 }
    → Going d p log budget (run_from budget d p log 0 at (session_of n m seen kept) reports 0) r seen kept reports
going_start d p log budget at n m seen kept reports f r q =
    let e : budget - 0 ≡ budget = omega arith in
    subst (λ (y : Answered). Going d p log budget (run_from budget d p log 0 at (session_of n m seen kept) reports 0) y seen kept reports) (sym q)
    (record { none = refl; few = omega arith; fits = omega arith; sound = f; left = rw e })

pub going_onward : (d : Declared) (p : Property) (log : List ℕ) (budget : ℕ) (whole : Ran) (r : Answered) (seen kept reports : List ℕ)
    → Going d p log budget whole r seen kept reports → r.taken < budget → budget < 2 ^ 64 → r.next < length log → length reports < 2 ^ 64 → Onward r log reports
going_onward d p log budget whole r seen kept reports g h b l k = record { lent = k; fits = g.fits; row = l; few = omega arith }

-- the loop's turns: over what the call goes by
module _ (p : Property) (c : Judged) (w : Sure p c) (log : List ℕ) (budget : ℕ) (whole : Ran) (r : Answered) (seen kept reports : List ℕ)
    (g : Going (read_as c) p log budget whole r seen kept reports) (more : r.taken < budget) (l : r.next < length log) (r' : Answered) (seen' kept' reports' : List ℕ)
    (v : RunLeaves (turn_by c log r.taken r.next (session_of r.seen r.kept seen kept) reports r.reported) r' seen' kept' reports') where
  turned : RunLeaves (turn (read_as c) p log r.taken r.next (session_of r.seen r.kept seen kept) reports r.reported) r' seen' kept' reports'
  turned = rw (turn_same p c w log r.taken r.next r.seen r.kept seen kept reports r.reported g.sound) at v

  pub loop_refused : (r'.refusal ≡ 0 → ⊥) → RunLeaves whole r' seen' kept' reports'
  loop_refused = going_refused (read_as c) p log budget whole r seen kept reports g w.range w.agree more l r' seen' kept' reports' turned

  pub loop_taken : r'.refusal ≡ 0 → Going (read_as c) p log budget whole r' seen' kept' reports'
  loop_taken = going_turn (read_as c) p log budget whole r seen kept reports g w.range w.agree more l r' seen' kept' reports' turned

  pub loop_counts : r'.refusal ≡ 0 → r'.taken ≡ r.taken + 1
  loop_counts z =
      let q = is_taken (read_as c) p log r.taken r.next (session_of r.seen r.kept seen kept) reports r.reported r' seen' kept' reports' turned z in
      ap (λ (y : Answered). y.taken) q.row
