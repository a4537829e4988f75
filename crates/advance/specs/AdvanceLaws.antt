-- The rows past the last that may include the binding; and what the pass comes to is the outcome that document 01 gives, written
-- down.
-- Assumes nothing.
use Rattle.std.specs.Prelude.{ℕ, ◌+◌, ◌-◌, ◌*◌, ◌/◌, ◌≤◌, ◌≡◌, refl, Bool, false, not, ◌&&◌, List, ◌++◌, ltb, get_or, drop, Result, Ok}
use Rattle.std.proofs.Math.Path.{sym}
use Rattle.std.proofs.Common.{ap, ap₂, ◌∙◌, ext_get_or, ltb-false}
use mathlib.Core.List as list
use native.Mathlib.Omega.{arith}
use Rattle.std.proofs.Math.Decide.{dec_lt, ℕ_discrete}
use Rattle.std.proofs.Math.ListN.{length, length-drop}
use Rattle.std.proofs.lemmas.List.{length-map}
use Rattle.std.proofs.lemmas.Bool.{not-false}
use Rattle.document.specs.Limits.{width, kept_stride, report_stride}
use Rattle.document.specs.OneEvent.{Kept, see, kept_after, reports_after}
use Rattle.document.specs.Tables.{seen_rows, kept_rows, report_room, kept_table}
use Rattle.slices.specs.TestsLaws.{so, not_of, and_of}
use Rattle.ordered.specs.Writes.{ZeroIn}
use Rattle.tables.specs.Tables.{kept_from}
use Rattle.tables.specs.TablesLaws.{kept_move, kept_two, kept_rows_lem, length-kept_from}
use Rattle.tables.specs.WholeLaws.{kept_table_lem}
use Rattle.moves.specs.Steps.{is_new, step_of, state_in, outcome_by}
use Rattle.moves.specs.Ready.{Steady}
use Rattle.moves.specs.ReadyLaws.{length-see}
use Rattle.foreseen.specs.Foreseen.{foreseen_of}
use Rattle.foreseen.specs.ForeseenLaws.{foreseen_taken}
use Rattle.foreseen.specs.declared.Foreseen.{Foreseen}
use Rattle.foreseen.specs.declared.Crowded.{Crowded}
use Rattle.keeping.specs.Keeping.{sifted}
use Rattle.keeping.specs.SiftedLaws.{sifted_right}
use Rattle.keeping.specs.GrownLaws.{grown-old}
use Rattle.keeping.specs.KeptAfterLaws.{kept_after-grown}
use Rattle.keeping.specs.KeepLaws.{seen_written_old}
use Rattle.writing.specs.Writing.{report_of, written_by, Reported, Writable, WrittenDown}
use Rattle.writing.specs.WriteLaws.{reports-written, reports_none}
use Rattle.inplace.specs.InPlace.{told, MovedInPlace}
use Rattle.inplace.specs.ToldLaws.{told_few, told-reports}
use Rattle.inplace.specs.declared.InPlace.{InPlace}
use Rattle.settling.specs.Settling.{Lowered}
use Rattle.advance.specs.Advancing.{Advanceable, Passing, Passable, Passes, PassesOn, AdvancesOn, Advances}
use Rattle.advance.specs.PassLaws.{passing_past}
use Rattle.advance.specs.declared.Passed.{Passed}
use Rattle.advance.specs.declared.Advanced.{Advanced}

-- The whole pass -------------------------------------------------------------------------------------------------------

-- the rows that moved in place before the pass
in_place_passing : (next verdicts : List ℕ) (states hopes asks e m from : ℕ) (b kept t reports : List ℕ) (r : InPlace) → Advanceable next states e m from b kept reports
    → MovedInPlace next states hopes asks e m b kept t r → Passing next verdicts states hopes asks e m from r.row r.row 0 b kept t reports reports
unfolding kept_from
in_place_passing next verdicts states hopes asks e m from b kept t reports r u w = record {
  able = u;
  sifts = w.walks.sifts;
  same = refl;
  tells = record { rows = sym (ap (list.map (report_of verdicts)) w.walks.silent); low = λ k h. refl; high = λ k h. refl };
  few = omega arith;
  above = w.above;
}

pub passable_of : (next verdicts : List ℕ) (states hopes asks e m from : ℕ) (b kept t reports : List ℕ) (r : InPlace) → Advanceable next states e m from b kept reports
    → MovedInPlace next states hopes asks e m b kept t r → Passable next verdicts states hopes asks e m from b t reports r.row
passable_of next verdicts states hopes asks e m from b kept t reports r u w =
    record { before = kept; passing = in_place_passing next verdicts states hopes asks e m from b kept t reports r u w }

module _ (next verdicts : List ℕ) (states hopes asks e m from : ℕ) (b kept t reports reports' : List ℕ) (r : Passed)
    (u : Passes next verdicts states hopes asks e m from b kept t reports reports' r) where
  -- nothing was dropped: the rows past the last stand where they stood
  advanced_whole : r.left ≡ r.row → Advances next verdicts hopes asks e m from b kept t reports reports' (record { kept = m; reported = r.reported })
  advanced_whole q =
      let w = u.sifts.within in
      record {
        sifts = record {
          rows = λ seen.
              kept_two r.row m t w
              ∙ ap₂ ◌++◌ (ap (λ (x : ℕ). kept_from x t 0) (sym q) ∙ u.sifts.rows seen)
              (kept_move (m - r.row) kept t (r.row * kept_stride) (r.row * kept_stride) (λ k h. u.sifts.rest (r.row * kept_stride + k) (omega arith)))
              ∙ sym (u.rest seen);
          rest = λ k h. u.sifts.rest k (omega arith);
          fewer = omega arith;
        };
        zero = λ k h g. absurd (omega arith);
        tells = u.tells;
      }

  -- they have moved down, and 0 is written where rows stood before
  advanced_fewer : (q : ℕ) (t' t'' : List ℕ) → Lowered (r.row * kept_stride) (r.left * kept_stride) (m * kept_stride) t t' q → ZeroIn q (m * kept_stride) t' t''
      → Advances next verdicts hopes asks e m from b kept t'' reports reports' (record { kept = m - (r.row - r.left); reported = r.reported })
  advanced_fewer q t' t'' l z =
      let w = u.sifts.within in
      let f = u.sifts.fewer in
      let s = l.stops in
      let c : m - (r.row - r.left) - r.left ≡ m - r.row = omega arith in
      record {
        sifts = record {
          rows = λ seen.
              kept_two r.left (m - (r.row - r.left)) t'' (omega arith)
              ∙ ap₂ ◌++◌
              (kept_move r.left t t'' 0 0 (λ k h. z.low (0 + k) (omega arith) ∙ l.low (0 + k) (omega arith)) ∙ u.sifts.rows seen)
              (ap (λ (x : ℕ). kept_from x t'' (r.left * kept_stride)) c
              ∙ kept_move (m - r.row) kept t'' (r.row * kept_stride) (r.left * kept_stride) (λ k h.
              z.low (r.left * kept_stride + k) (omega arith)
              ∙ l.mid (r.left * kept_stride + k) (omega arith) (omega arith)
              ∙ ap (λ (x : ℕ). get_or t x 0) (omega arith)
              ∙ u.sifts.rest (r.row * kept_stride + k) (omega arith)))
              ∙ sym (u.rest seen);
          rest = λ k h. z.high k h ∙ l.high k (omega arith) ∙ u.sifts.rest k (omega arith);
          fewer = omega arith;
        };
        zero = λ k h g. z.zero k (omega arith) g;
        tells = u.tells;
      }

module _ (next verdicts : List ℕ) (states hopes asks e m from low : ℕ) (b t₁ t reports reports' : List ℕ) (r : Passed)
    (p : PassesOn next verdicts states hopes asks e m from low b t₁ t reports reports' r) where
  pub pass_whole : r.left ≡ r.row → AdvancesOn next verdicts states hopes asks e m from low b t₁ t reports reports' (record { kept = m; reported = r.reported })
  pass_whole q = record { on = λ x y. advanced_whole next verdicts states hopes asks e m from b x t reports reports' r (p.on x y) q }

  pub pass_fewer : (q : ℕ) (t' t'' : List ℕ) → Lowered (r.row * kept_stride) (r.left * kept_stride) (m * kept_stride) t t' q → ZeroIn q (m * kept_stride) t' t''
      → AdvancesOn next verdicts states hopes asks e m from low b t₁ t'' reports reports' (record { kept = m - (r.row - r.left); reported = r.reported })
  pass_fewer q t' t'' l z = record { on = λ x y. advanced_fewer next verdicts states hopes asks e m from b x t reports reports' r (p.on x y) q t' t'' l z }

module _ (next verdicts : List ℕ) (states hopes asks e m from : ℕ) (b kept t₁ reports : List ℕ) (w : InPlace)
    (u : Advanceable next states e m from b kept reports) (v : MovedInPlace next states hopes asks e m b kept t₁ w) where
  -- all rows moved in place
  pub advance_in_place : w.row ≡ w.end → Advances next verdicts hopes asks e m from b kept t₁ reports reports (record { kept = m; reported = 0 })
  advance_in_place q =
      advanced_whole next verdicts states hopes asks e m from b kept t₁ reports reports (record { row = w.row; left = w.row; reported = 0 })
      (passing_past next verdicts states hopes asks e m from w.row w.row 0 b kept t₁ reports reports
      (in_place_passing next verdicts states hopes asks e m from b kept t₁ reports w u v) (λ k h g. v.past k (omega arith) g)) refl

  -- the pass went on after them
  pub advance_on : (t reports' : List ℕ) (r : Advanced) → AdvancesOn next verdicts states hopes asks e m from w.row b t₁ t reports reports' r
      → Advances next verdicts hopes asks e m from b kept t reports reports' r
  advance_on t reports' r p = p.on kept (in_place_passing next verdicts states hopes asks e m from b kept t₁ reports w u v)

-- The outcome ----------------------------------------------------------------------------------------------------------

-- what `applies` tests
applies_room : (room m : ℕ) (g f : Bool) → f ≡ (not (ltb room m) && not g) → not f ≡ false → (m ≤ room) × (g ≡ false)
applies_room room m g f q z =
    let t = and_of (not (ltb room m)) (not g) (so (sym q ∙ not-false f z)) in
    (ltb-false room m (not_of (ltb room m) t.0), not_of g t.1)

module _ (next : List ℕ) (states e n m from : ℕ) (b seen kept reports : List ℕ) (f : Bool)
    (u : Steady next states e n m seen kept) (ob : length b ≡ width)
    (qf : f ≡ (not (ltb (report_room (drop from reports)) m) && not (is_new b (seen_rows n seen)))) (z : not f ≡ false) where
  room : m ≤ report_room (drop from reports)
  room = (applies_room (report_room (drop from reports)) m (is_new b (seen_rows n seen)) f qf z).0

  old : is_new b (seen_rows n seen) ≡ false
  old = (applies_room (report_room (drop from reports)) m (is_new b (seen_rows n seen)) f qf z).1

  pub advance_able : Advanceable next states e m from b kept reports
  advance_able = record { moves = u.moves; wide = ob; inside = u.rows.inside; order = u.rows.order; within = u.rows.within; room = room }

  module _ (verdicts : List ℕ) (hopes asks : ℕ) (kept' reports' : List ℕ) (r : Advanced) (lk : length kept' ≡ length kept) (lr : length reports' ≡ length reports)
      (v : Advances next verdicts hopes asks e m from b kept kept' reports reports' r) where
    abbrev S : List (List ℕ)
    S = seen_rows n seen

    abbrev after : List Kept
    after = kept_after width (step_of next) e b (seen_rows n seen) (state_in hopes) (kept_rows m kept)

    abbrev tales : List Kept
    tales = reports_after width (step_of next) e b (seen_rows n seen) (state_in asks) (kept_rows m kept)

    after_is : after ≡ kept_from r.kept kept' 0
    after_is =
        ap (kept_after width (step_of next) e b S (state_in hopes)) (sym (kept_rows_lem m kept))
        ∙ kept_after-grown (step_of next) e b S ob (state_in hopes) (kept_from m kept 0) u.rows.right u.rows.order
        ∙ grown-old (step_of next) e b S ob (state_in hopes) (sifted (step_of next) e b S (state_in hopes) (kept_from m kept 0))
        (sifted_right (step_of next) e b S ob (state_in hopes) (kept_from m kept 0) u.rows.right) old
        ∙ sym (v.sifts.rows S)

    after_count : length after ≡ r.kept
    after_count = ap length after_is ∙ length-kept_from r.kept kept' 0

    tales_are : told (step_of next) e b (state_in asks) (kept_from m kept 0) ≡ reports_after width (step_of next) e b S (state_in asks) (kept_from m kept 0)
    tales_are = told-reports (step_of next) e b S ob old (state_in asks) (kept_from m kept 0) u.rows.right u.rows.order

    tales_here : reports_after width (step_of next) e b S (state_in asks) (kept_from m kept 0) ≡ tales
    tales_here = ap (reports_after width (step_of next) e b S (state_in asks)) (kept_rows_lem m kept)

    tales_count : length tales ≡ r.reported
    tales_count =
        ap length (sym (tales_are ∙ tales_here))
        ∙ sym (length-map (told (step_of next) e b (state_in asks) (kept_from m kept 0)) (report_of verdicts))
        ∙ ap length (sym v.tells.rows)
        ∙ length-kept_from r.reported reports' from

    -- no more reports than rows
    tales_few : length tales ≤ m
    tales_few =
        let a = told_few (step_of next) e b (state_in asks) (kept_from m kept 0) in
        let c = length-kept_from m kept 0 in
        let d = ap length (tales_are ∙ tales_here) in
        omega arith

    seen_count_lem : length (see width b S) ≡ n
    seen_count_lem = length-see b n seen ∙ rw old (omega arith)

    writable : Writable next states hopes asks e n m from b seen kept reports false
    writable = record {
      keeps = record {
        steady = u;
        wide = ob;
        new = sym old;
        room = let a = after_count in let g = v.sifts.fewer in let h = u.kept_fits in omega arith;
      };
      sees = let a = seen_count_lem in let g = u.seen_fits in omega arith;
      tells = let a = tales_few in let g = room in omega arith;
    }

    kept_written : kept' ≡ kept_table after kept
    kept_written =
        let g = v.sifts.fewer in
        let h = u.kept_fits in
        kept_table_lem r.kept kept kept' after (omega arith) lk (sym after_is)
        (λ k x y. elim (dec_lt k (m * kept_stride)) [
          | yes l ↦ v.zero k x l
          | no l ↦ v.sifts.rest k (omega arith) ∙ u.kept_zero k (omega arith) y
        ])
        (λ k x. v.sifts.rest k (omega arith))

    reported : Reported next verdicts asks e n m from b seen kept reports reports' r.reported
    reported = record { rows = v.tells.rows ∙ ap (list.map (report_of verdicts)) tales_are; low = v.tells.low; high = v.tells.high }

    -- where there is a report, there is room for it
    tales_fit : (length tales ≡ 0 → ⊥) → from + length tales * kept_stride ≤ length reports
    unfolding report_room
    tales_fit some =
        let a = tales_few in
        let d : length (drop from reports) ≡ length reports - from = length-drop from reports in
        let q : m ≤ (length reports - from) / report_stride = rw d at room in
        omega arith

    reports-told : reports' ≡ (written_by verdicts from (record { seen_count = n; kept_count = m; seen = seen; kept = kept }) reports (outcome_by next hopes asks S (kept_rows m kept) e b)).reports
    reports-told = elim (ℕ_discrete (length tales) 0) [
      | yes none ↦
          let c = tales_count in
          ext_get_or 0 reports' reports lr (λ k h. elim (dec_lt k from) [ yes l ↦ v.tells.low k l | no l ↦ v.tells.high k (omega arith) ])
          ∙ reports_none next verdicts states hopes asks e n m from b seen kept reports false writable none
      | no some ↦ reports-written next verdicts states hopes asks e n m from b seen kept reports false writable reports' r.reported (tales_fit some) lr reported
    ]

    pub advanced_down : WrittenDown next verdicts hopes asks e n m from b seen kept reports seen kept' reports'
    advanced_down = record {
      seen_to = seen_written_old n b seen false (record {
        table = u.table;
        wide = ob;
        new = sym old;
        fits = u.seen_fits;
        zero = u.seen_zero;
        room = writable.sees;
      }) refl;
      kept_to = kept_written;
      reports_to = reports-told;
    }

    pub advanced_foreseen : ◌≡◌ {A = Result Foreseen Crowded} (Ok (record { seen = n; kept = r.kept; reported = r.reported; fresh = false })) (foreseen_of next hopes asks from n m seen kept reports e b)
    unfolding foreseen_of outcome_by
    advanced_foreseen =
        (λ i. Ok (record { seen = sym seen_count_lem i; kept = sym after_count i; reported = sym tales_count i; fresh = sym old i }))
        ∙ foreseen_taken from seen kept reports (is_new b S) (outcome_by next hopes asks S (kept_rows m kept) e b) writable.sees writable.keeps.room writable.tells
