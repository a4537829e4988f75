-- Rooms, the refusal for want of one, and what the counts come to.
-- Assumes nothing.
use Rattle.std.specs.Prelude.{ℕ, ◌+◌, ◌-◌, ◌/◌, ◌<◌, ◌≤◌, ◌≡◌, Bool, List, length, drop, Result, Ok, Err, IsErrAnd}
use Rattle.std.proofs.Common.{sym, ap, ◌∙◌, length-drop}
use borrow.Author.Tests.{lt-ltb, le-ltb}
use mir.Val.{bool_byte}
use Rattle.refusals.specs.declared.Refusal.{Refusal}
use Rattle.refusals.specs.declared.Refusal.TheVariants.{NoRoomForSeen, NoRoomForKept, NoRoomForReports}
use Rattle.document.specs.Limits.{width, report_stride}
use Rattle.document.specs.Session.{Outcome}
use Rattle.document.specs.OneEvent.{Kept, see, kept_after, reports_after}
use Rattle.document.specs.Tables.{seen_rows, kept_rows, seen_room, kept_room, report_room}
use Rattle.tables.specs.Tables.{kept_from}
use Rattle.tables.specs.TablesLaws.{kept_rows_lem}
use Rattle.moves.specs.Steps.{one, is_new, step_of, state_in, outcome_by}
use Rattle.moves.specs.ReadyLaws.{one_from, length-see}
use Rattle.foreseen.specs.Foreseen.{tally_of, room_refusal, unless_refused, comes_to, counted, foreseen_of}
use Rattle.foreseen.specs.declared.Weight.{Weight}
use Rattle.foreseen.specs.declared.Foreseen.{Foreseen}

-- Rooms ----------------------------------------------------------------------------------------------------------------

pub some_report_room : (from : ℕ) (t : List ℕ) (r : ℕ) → r ≡ length t - from → r / report_stride ≡ report_room (drop from t)
unfolding report_room
some_report_room from t r q = rw (q, length-drop)

module _ (s sr k kr r rr : ℕ) where
  pub refuses_seen : sr < s → Err NoRoomForSeen ≡ room_refusal s sr k kr r rr
  unfolding room_refusal
  refuses_seen h = rw (lt-ltb sr s h)

  pub refuses_kept : s ≤ sr → kr < k → Err NoRoomForKept ≡ room_refusal s sr k kr r rr
  unfolding room_refusal
  refuses_kept h g = rw (le-ltb sr s h, lt-ltb kr k g)

  pub refuses_reports : s ≤ sr → k ≤ kr → rr < r → Err NoRoomForReports ≡ room_refusal s sr k kr r rr
  unfolding room_refusal
  refuses_reports h g f = rw (le-ltb sr s h, le-ltb kr k g, lt-ltb rr r f)

  pub refuses_none : s ≤ sr → k ≤ kr → r ≤ rr → Ok tt ≡ room_refusal s sr k kr r rr
  unfolding room_refusal
  refuses_none h g f = rw (le-ltb sr s h, le-ltb kr k g, le-ltb rr r f)

-- what `?` hands on
pub err_up : {T E : Type 0} (r : Result T E) (e : E) → IsErrAnd r (λ y. y ≡ e) → r ≡ Err e
err_up (Ok x) e is = absurd is
err_up (Err y) e is = ap Err is

-- The outcome, counted -------------------------------------------------------------------------------------------------

pub foreseen_taken : (from : ℕ) (seen kept reports : List ℕ) (fresh : Bool) (o : Outcome)
    → length o.seen ≤ seen_room seen → length o.kept ≤ kept_room kept → length o.rows ≤ report_room (drop from reports)
    → Ok (record { seen = length o.seen; kept = length o.kept; reported = length o.rows; fresh = fresh }) ≡ counted from seen kept reports fresh o
unfolding counted
foreseen_taken from seen kept reports fresh o h g f =
    rw (← refuses_none (length o.seen) (seen_room seen) (length o.kept) (kept_room kept) (length o.rows) (report_room (drop from reports)) h g f)

pub counts_are : (next : List ℕ) (hopes asks n m x e : ℕ) (b seen kept : List ℕ) (fresh : Bool) (w : Weight)
    → fresh ≡ is_new b (seen_rows n seen) → x ≡ bool_byte fresh → w ≡ tally_of next hopes asks e b (seen_rows n seen) (kept_from m kept 0)
    → ◌≡◌ {A = Foreseen} (record { seen = n + x; kept = w.kept; reported = w.reported; fresh = fresh }) (comes_to next hopes asks n m seen kept e b)
unfolding comes_to outcome_by tally_of
counts_are next hopes asks n m x e b seen kept fresh w pf px pw =
    let s : n + x ≡ length (see width b (seen_rows n seen)) = ap (λ (k : ℕ). n + k) (px ∙ one_from fresh ∙ ap one pf) ∙ sym (length-see b n seen) in
    let rows : kept_from m kept 0 ≡ kept_rows m kept = kept_rows_lem m kept in
    let k : w.kept ≡ length (kept_after width (step_of next) e b (seen_rows n seen) (state_in hopes) (kept_rows m kept)) =
    ap (λ (y : Weight). y.kept) pw ∙ ap (λ (l : List Kept). length (kept_after width (step_of next) e b (seen_rows n seen) (state_in hopes) l)) rows in
    let t : w.reported ≡ length (reports_after width (step_of next) e b (seen_rows n seen) (state_in asks) (kept_rows m kept)) =
    ap (λ (y : Weight). y.reported) pw ∙ ap (λ (l : List Kept). length (reports_after width (step_of next) e b (seen_rows n seen) (state_in asks) l)) rows in
    rw (s, k, t, pf)

pub foreseen_is : (next : List ℕ) (hopes asks from n m sr kr rr e : ℕ) (b seen kept reports : List ℕ) (o : Foreseen) (r : Result (Unit {0}) Refusal)
    → o ≡ comes_to next hopes asks n m seen kept e b
    → sr ≡ seen_room seen → kr ≡ kept_room kept → rr ≡ report_room (drop from reports) → r ≡ room_refusal o.seen sr o.kept kr o.reported rr
    → unless_refused r o ≡ foreseen_of next hopes asks from n m seen kept reports e b
unfolding foreseen_of counted comes_to
foreseen_is next hopes asks from n m sr kr rr e b seen kept reports o r p ps pk pr q = rw (q, p, ps, pk, pr)
