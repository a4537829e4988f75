-- The answer of a step: refused for want of room with nothing altered, or written down; in one pass where the event creates
-- nothing.
-- Assumes nothing.
use Rattle.std.specs.Prelude.{ℕ, ◌≡◌, refl, Bool, true, false, cond, not, ◌&&◌, List, length, drop, ltb, Result, Ok, Err, is_ok}
use Rattle.std.proofs.Common.{sym, ◌∙◌}
use Rattle.std.proofs.Math.Path.{ap}
use borrow.Author.Tests.{ltb-false}
use Rattle.document.specs.Refusals.{number, noRoomForSeen, noRoomForKept, noRoomForReports, Answer, taken, refuse_if}
use Rattle.document.specs.Session.{Session, Happened, Outcome, seen_of, kept_of, session_with, leaves}
use Rattle.document.specs.Limits.{width}
use Rattle.document.specs.OneEvent.{see, kept_after, reports_after}
use Rattle.document.specs.Tables.{seen_rows, kept_rows, seen_room, kept_room, report_room}
use Rattle.judge.specs.Sound.{session_of}
use Rattle.moves.specs.Steps.{is_new, step_of, state_in, outcome_by}
use Rattle.moves.specs.Ready.{Steady}
use Rattle.refusals.specs.declared.Refusal.{Refusal}
use Rattle.refusals.specs.declared.Refusal.TheVariants.{NoRoomForSeen, NoRoomForKept, NoRoomForReports}
use Rattle.refusals.specs.Named.{named}
use Rattle.slices.specs.TestsLaws.{so}
use Rattle.foreseen.specs.Foreseen.{room_refusal, unless_refused, counted, foreseen_of}
use Rattle.foreseen.specs.declared.Foreseen.{Foreseen}
use Rattle.foreseen.specs.declared.Crowded.{Crowded}
use Rattle.writing.specs.Writing.{written_by, Tellable, WrittenDown}
use Rattle.advance.specs.Advancing.{Advances}
use Rattle.advance.specs.AdvanceLaws.{advanced_down, advanced_foreseen}
use Rattle.advance.specs.declared.Advanced.{Advanced}
use Rattle.steps.specs.Steps.{within_rooms_by, step_by, answered, Leaves}

abbrev rooms : Bool → Bool → Bool → Happened → Answer Happened
rooms x y z h = refuse_if x noRoomForSeen (refuse_if y noRoomForKept (refuse_if z noRoomForReports (taken h)))

abbrev refusal : Bool → Bool → Bool → Result (Unit {0}) Refusal
refusal x y z = cond x (Err NoRoomForSeen) (cond y (Err NoRoomForKept) (cond z (Err NoRoomForReports) (Ok tt)))

abbrev refused_as : Result Foreseen Crowded → ℕ
refused_as (Ok o) = 0
refused_as (Err r) = number (named r.refusal)

rooms_refused : (x y z : Bool) (h : Happened) (s : Session) (reports : List ℕ) (o : Foreseen) (r : Crowded) → Err r ≡ unless_refused (refusal x y z) o
    → Leaves (rooms x y z h) s reports (record { refusal = number (named r.refusal); seen = s.seen_count; kept = s.kept_count; reported = 0 }) s.seen s.kept reports
unfolding answered leaves
rooms_refused true y z h s reports o r q = rw (ap refused_as q) (record { says = refl; seen_left = refl; kept_left = refl; reports_left = refl })
rooms_refused false true z h s reports o r q = rw (ap refused_as q) (record { says = refl; seen_left = refl; kept_left = refl; reports_left = refl })
rooms_refused false false true h s reports o r q = rw (ap refused_as q) (record { says = refl; seen_left = refl; kept_left = refl; reports_left = refl })
rooms_refused false false false h s reports o r q = absurd (so (ap is_ok q))

abbrev given : Foreseen → Result Foreseen Crowded → Foreseen
given d (Ok o) = o
given d (Err r) = d

rooms_taken : (x y z : Bool) (o f : Foreseen) → Ok o ≡ unless_refused (refusal x y z) f → (x ≡ false) × (y ≡ false) × (z ≡ false) × (o ≡ f)
rooms_taken true y z o f q = absurd (so (sym (ap is_ok q)))
rooms_taken false true z o f q = absurd (so (sym (ap is_ok q)))
rooms_taken false false true o f q = absurd (so (sym (ap is_ok q)))
rooms_taken false false false o f q = (refl, refl, refl, ap (given f) q)

module _ (next verdicts : List ℕ) (hopes asks e n m from : ℕ) (b seen kept reports : List ℕ) where
  abbrev s₀ : Session
  s₀ = session_of n m seen kept

  abbrev c₀ : Outcome
  c₀ = outcome_by next hopes asks (seen_rows n seen) (kept_rows m kept) e b

  abbrev f₀ : Foreseen
  f₀ = record { seen = length c₀.seen; kept = length c₀.kept; reported = length c₀.rows; fresh = is_new b (seen_rows n seen) }

  is-foreseen : foreseen_of next hopes asks from n m seen kept reports e b
      ≡ unless_refused (refusal (ltb (seen_room seen) (length c₀.seen)) (ltb (kept_room kept) (length c₀.kept)) (ltb (report_room (drop from reports)) (length c₀.rows))) f₀
  unfolding foreseen_of counted room_refusal
  is-foreseen = refl

  pub step_refused : (r : Crowded) → Err r ≡ foreseen_of next hopes asks from n m seen kept reports e b
      → Leaves (step_by next verdicts hopes asks from (session_of n m seen kept) reports e b) (session_of n m seen kept) reports (record { refusal = number (named r.refusal); seen = n; kept = m; reported = 0 }) seen kept reports
  unfolding step_by within_rooms_by seen_of kept_of
  step_refused r q =
      rooms_refused (ltb (seen_room seen) (length c₀.seen)) (ltb (kept_room kept) (length c₀.kept)) (ltb (report_room (drop from reports)) (length c₀.rows))
      (written_by verdicts from s₀ reports c₀) s₀ reports f₀ r (q ∙ is-foreseen)

  module _ (o : Foreseen) (q : Ok o ≡ foreseen_of next hopes asks from n m seen kept reports e b) where
    fit : (ltb (seen_room seen) (length c₀.seen) ≡ false) × (ltb (kept_room kept) (length c₀.kept) ≡ false) × (ltb (report_room (drop from reports)) (length c₀.rows) ≡ false) × (o ≡ f₀)
    fit = rooms_taken (ltb (seen_room seen) (length c₀.seen)) (ltb (kept_room kept) (length c₀.kept)) (ltb (report_room (drop from reports)) (length c₀.rows)) o f₀ (q ∙ is-foreseen)

    pub step_tellable : (states : ℕ) → Steady next states e n m seen kept → length b ≡ width → Tellable next states hopes asks e n m from b seen kept reports o
    unfolding outcome_by
    step_tellable states s w =
        let f = ap (λ (x : Foreseen). x.fresh) fit.3 in
        let r = ap (λ (x : Foreseen). x.reported) fit.3 in
        let a = ltb-false (seen_room seen) (length (see width b (seen_rows n seen))) fit.0 in
        let k = ltb-false (kept_room kept) (length (kept_after width (step_of next) e b (seen_rows n seen) (state_in hopes) (kept_rows m kept))) fit.1 in
        let t = ltb-false (report_room (drop from reports)) (length (reports_after width (step_of next) e b (seen_rows n seen) (state_in asks) (kept_rows m kept))) fit.2 in
        record { writes = record { keeps = record { steady = s; wide = w; new = f; room = k }; sees = a; tells = t }; tells = r }

    pub step_taken : (seen' kept' reports' : List ℕ) → WrittenDown next verdicts hopes asks e n m from b seen kept reports seen' kept' reports'
        → Leaves (step_by next verdicts hopes asks from (session_of n m seen kept) reports e b) (session_of n m seen kept) reports
        (record { refusal = 0; seen = o.seen; kept = o.kept; reported = o.reported }) seen' kept' reports'
    unfolding step_by within_rooms_by seen_of kept_of answered leaves written_by session_with outcome_by
    step_taken seen' kept' reports' w =
        let x = ap (λ (y : Foreseen). y.seen) fit.3 in
        let y = ap (λ (y : Foreseen). y.kept) fit.3 in
        let z = ap (λ (y : Foreseen). y.reported) fit.3 in
        rw (fit.0, fit.1, fit.2) (record {
          says = λ i. record { refusal = 0; seen = x i; kept = y i; reported = z i };
          seen_left = w.seen_to;
          kept_left = w.kept_to;
          reports_left = w.reports_to;
        })

-- One pass -------------------------------------------------------------------------------------------------------------

module _ (next verdicts : List ℕ) (states hopes asks e n m from : ℕ) (b seen kept reports : List ℕ) (f : Bool)
    (u : Steady next states e n m seen kept) (ob : length b ≡ width)
    (q : f ≡ (not (ltb (report_room (drop from reports)) m) && not (is_new b (seen_rows n seen)))) (z : f ≡ true) where
  pub step_advanced : (kept' reports' : List ℕ) (a : Advanced) → length kept' ≡ length kept → length reports' ≡ length reports
      → Advances next verdicts hopes asks e m from b kept kept' reports reports' a
      → Leaves (step_by next verdicts hopes asks from (session_of n m seen kept) reports e b) (session_of n m seen kept) reports
      (record { refusal = 0; seen = n; kept = a.kept; reported = a.reported }) seen kept' reports'
  step_advanced kept' reports' a lk lr v =
      step_taken next verdicts hopes asks e n m from b seen kept reports (record { seen = n; kept = a.kept; reported = a.reported; fresh = false })
      (advanced_foreseen next states e n m from b seen kept reports f u ob q (ap not z) verdicts hopes asks kept' reports' a lk lr v) seen kept' reports'
      (advanced_down next states e n m from b seen kept reports f u ob q (ap not z) verdicts hopes asks kept' reports' a lk lr v)
