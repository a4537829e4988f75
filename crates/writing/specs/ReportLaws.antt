-- The turns of the loop that puts reports in, in the order of combinations.
-- Assumes nothing.
use Rattle.std.specs.Prelude.{ℕ, ◌+◌, ◌-◌, ◌*◌, ◌<◌, ◌≤◌, refl, Bool, true, false, ◌&&◌, List, [], ◌∷◌, ◌++◌, length}
use Rattle.std.proofs.Math.Path.{◌≡◌, sym, ap, ap₂}
use Rattle.std.proofs.Common.{subst, ◌∙◌, inl, inr, append_assoc, zero-add}
use mathlib.Core.List as list
use native.Mathlib.Omega.{arith}
use Rattle.std.proofs.Math.ListN.{get_or}
use Rattle.std.proofs.lemmas.List.{length-map}
use Rattle.document.specs.Lists.{keep_if}
use Rattle.document.specs.Limits.{width, kept_stride}
use Rattle.document.specs.Positions.{holds}
use Rattle.document.specs.Combinations.{precedes, join}
use Rattle.document.specs.OneEvent.{Kept, insert_kept, in_order, moves, moved_from, moved, reports_after}
use Rattle.document.specs.Tables.{numbers_at, seen_rows}
use Rattle.basics.specs.Tests.{decided}
use Rattle.slices.specs.ListsLaws.{map_append}
use Rattle.slices.specs.OrderLaws.{Ascends, combinations, insert_kept-after, insert_kept_here}
use Rattle.slices.specs.TablesLaws.{kept_at}
use Rattle.slices.specs.MovesLaws.{reports_after_ascends}
use Rattle.tables.specs.Tables.{kept_from, Enterable, Entered}
use Rattle.tables.specs.OrderLaws.{ascends_front}
use Rattle.tables.specs.TablesLaws.{length-kept_from, kept_more, kept_two}
use Rattle.moves.specs.Steps.{step_of, state_in, moves_at}
use Rattle.moves.specs.ReadyLaws.{moves_at_lem, ready_row}
use Rattle.foreseen.specs.CountLaws.{report_count}
use Rattle.writing.specs.Writing.{reported_by, report_of, ReportReady, ReportedRow, Reportable, Reported}
use Rattle.writing.specs.ReportsLaws.{reports-more}

-- reports go where their combinations go
report_insert : (verdicts : List ℕ) (r : Kept) (l : List Kept) → list.map (report_of verdicts) (insert_kept r l) ≡ insert_kept (report_of verdicts r) (list.map (report_of verdicts) l)
unfolding insert_kept report_of
report_insert verdicts r [] = refl
report_insert verdicts r (x ∷ l) = elim (decided (precedes x.combination r.combination)) [
  | inl h ↦ ap (list.map (report_of verdicts)) (insert_kept-after r x l h) ∙ ap (λ (y : List Kept). report_of verdicts x ∷ y) (report_insert verdicts r l)
      ∙ sym (insert_kept-after (report_of verdicts r) (report_of verdicts x) (list.map (report_of verdicts) l) h)
  | inr h ↦ ap (list.map (report_of verdicts)) (insert_kept_here r x l h) ∙ sym (insert_kept_here (report_of verdicts r) (report_of verdicts x) (list.map (report_of verdicts) l) h)
]

report_combinations : (verdicts : List ℕ) (l : List Kept) → combinations (list.map (report_of verdicts) l) ≡ combinations l
unfolding report_of
report_combinations verdicts [] = refl
report_combinations verdicts (x ∷ l) = ap (λ (y : List (List ℕ)). x.combination ∷ y) (report_combinations verdicts l)

-- One row --------------------------------------------------------------------------------------------------------------

module _ (next verdicts : List ℕ) (states asks e n i from count : ℕ) (b seen kept t : List ℕ) (fresh : Bool)
    (u : ReportReady next states asks e n i from count b seen kept t fresh) (k : List ℕ) (f : Bool)
    (qk : k ≡ numbers_at width kept (i * kept_stride)) (qf : f ≡ moves_at b (seen_rows n seen) k) where
  abbrev row : Kept
  row = kept_at width kept (i * kept_stride)

  abbrev S : List (List ℕ)
  S = seen_rows n seen

  made : moves width (step_of next) e b S row ≡ f
  made = moves_at_lem (step_of next) e b S row ∙ ap (moves_at b S) (sym qk) ∙ sym qf

  none : (moves width (step_of next) e b S row && state_in asks (moved_from width (step_of next) e b S row)) ≡ false → ReportedRow next verdicts asks e n i from count b seen kept t t count
  unfolding reported_by
  none h = record { rows = λ l q. rw h q; low = λ x y. refl; high = λ x y. refl; more = omega arith }

  pub report_not : f ≡ false → ReportedRow next verdicts asks e n i from count b seen kept t t count
  report_not z = none (rw (made ∙ z))

  module _ (z : f ≡ true) (to : ℕ) (g : Bool) (qt : to ≡ step_of next (get_or kept (i * kept_stride + width) 0) e) (qg : g ≡ holds asks to) where
    asked : state_in asks (moved_from width (step_of next) e b S row) ≡ g
    unfolding state_in moved_from
    asked = ap (holds asks) (sym qt) ∙ sym qg

    pub report_unasked : g ≡ false → ReportedRow next verdicts asks e n i from count b seen kept t t count
    report_unasked y = none (rw (made ∙ z, asked ∙ y))

    will : g ≡ true → (moves width (step_of next) e b S row && state_in asks (moved_from width (step_of next) e b S row)) ≡ true
    will y = rw (made ∙ z, asked ∙ y)

    pub report_enterable : g ≡ true → Enterable from count t
    report_enterable y = record { inside = u.room (will y); order = u.order }

    pub report_put : g ≡ true → (c t' : List ℕ) (v : ℕ) → c ≡ join b k → v ≡ get_or verdicts to 0 → Entered from count c v t t'
        → ReportedRow next verdicts asks e n i from count b seen kept t t' (count + 1)
    unfolding reported_by report_of moved_from
    report_put y c t' v qc qv p =
        let new : ◌≡◌ {A = Kept} (record { combination = c; state = v }) (report_of verdicts (moved_from width (step_of next) e b S row)) =
        λ j. record { combination = (qc ∙ ap (join b) qk) j; state = (qv ∙ ap (λ (x : ℕ). get_or verdicts x 0) qt) j } in
        record {
          rows = λ l q. p.rows ∙ ap₂ insert_kept new q ∙ sym (rw (will y) (report_insert verdicts (moved_from width (step_of next) e b S row) l));
          low = λ x h. p.low x h;
          high = λ x h. p.high x h;
          more = omega arith;
        }

-- All rows -------------------------------------------------------------------------------------------------------------

pub record Reporting (next verdicts : List ℕ) (states asks e n m i from count : ℕ) (b seen kept t₀ t : List ℕ) (fresh : Bool) : Type 0 where
  pub able : Reportable next states asks e n m from b seen kept t₀ fresh
  pub same : length t ≡ length t₀
  pub within : i ≤ m
  pub rows : kept_from count t from ≡ list.map (report_of verdicts) (reports_after width (step_of next) e b (seen_rows n seen) (state_in asks) (kept_from i kept 0))
  pub low : (k : ℕ) → k < from → get_or t k 0 ≡ get_or t₀ k 0
  pub high : (k : ℕ) → from + count * kept_stride ≤ k → get_or t k 0 ≡ get_or t₀ k 0

pub reporting_begins : (next verdicts : List ℕ) (states asks e n m from : ℕ) (b seen kept t : List ℕ) (fresh : Bool) → Reportable next states asks e n m from b seen kept t fresh
    → Reporting next verdicts states asks e n m 0 from 0 b seen kept t t fresh
unfolding kept_from reports_after in_order keep_if moved
reporting_begins next verdicts states asks e n m from b seen kept t fresh u = record {
  able = u;
  same = refl;
  within = omega arith;
  rows = refl;
  low = λ k h. refl;
  high = λ k h. refl;
}

-- a report does not go away with one row more
reports_longer : (step : ℕ → ℕ → ℕ) (e : ℕ) (b : List ℕ) (seen : List (List ℕ)) (ob : length b ≡ width) (asked : Kept → Bool) (l m : List Kept)
    → length (reports_after width step e b seen asked l) ≤ length (reports_after width step e b seen asked (l ++ m))
reports_longer step e b seen ob asked l [] = rw list.append-nil (omega arith)
reports_longer step e b seen ob asked l (x ∷ m) =
    let a : l ++ (x ∷ m) ≡ (l ++ (x ∷ [])) ++ m = sym (append_assoc l (x ∷ []) m) in
    let r = reports_longer step e b seen ob asked (l ++ (x ∷ [])) m in
    let c = report_count step e b seen ob asked l x in
    rw a (omega arith)

module _ (next verdicts : List ℕ) (states asks e n m i from count : ℕ) (b seen kept t₀ t : List ℕ) (fresh : Bool)
    (u : Reporting next verdicts states asks e n m i from count b seen kept t₀ t fresh) (h : i < m) where
  abbrev R : List (List ℕ)
  R = seen_rows n seen

  abbrev reports : List Kept → List Kept
  reports l = reports_after width (step_of next) e b R (state_in asks) l

  ob : length b ≡ width
  ob = u.able.ready.binds.wide

  -- the rows up to row i are the first of all rows
  front : (j : ℕ) → j ≤ m → Ascends (combinations (kept_from j kept 0))
  front j g =
      ascends_front (combinations (kept_from j kept 0)) (combinations (kept_from (m - j) kept (j * kept_stride)))
      (subst (λ (l : List (List ℕ)). Ascends l) (ap combinations (kept_two j m kept g) ∙ map_append (λ (k : Kept). k.combination) (kept_from j kept 0) (kept_from (m - j) kept (j * kept_stride))) u.able.ready.rows.order)

  more-row : kept_from (i + 1) kept 0 ≡ kept_from i kept 0 ++ (kept_at width kept (i * kept_stride) ∷ [])
  more-row = kept_more i kept 0 ∙ ap (λ (x : ℕ). kept_from i kept 0 ++ (kept_at width kept x ∷ [])) (zero-add (i * kept_stride))

  count_is : count ≡ length (reports (kept_from i kept 0))
  count_is = sym (length-kept_from count t from) ∙ ap length u.rows ∙ length-map (reports (kept_from i kept 0)) (report_of verdicts)

  fits : (j : ℕ) → j ≤ m → length (reports (kept_from j kept 0)) ≤ length (reports (kept_from m kept 0))
  fits j g = rw (kept_two j m kept g) (reports_longer (step_of next) e b R ob (state_in asks) (kept_from j kept 0) (kept_from (m - j) kept (j * kept_stride)))

  pub reporting_ready : ReportReady next states asks e n i from count b seen kept t fresh
  reporting_ready = record {
    row = ready_row next states e n m b seen kept fresh i u.able.ready h;
    inside = let c = count_is in let f = fits i (omega arith) in let r = u.able.room in let s = u.same in omega arith;
    order = subst (λ (l : List (List ℕ)). Ascends l) (sym (ap combinations u.rows ∙ report_combinations verdicts (reports (kept_from i kept 0))))
        (reports_after_ascends width (step_of next) e b R (kept_from i kept 0) (front i (omega arith)) (state_in asks));
    room = λ g.
        let c = count_is in
        let f = fits (i + 1) (omega arith) in
        let r = u.able.room in
        let s = u.same in
        let l : length (reports (kept_from (i + 1) kept 0)) ≡ length (reports (kept_from i kept 0)) + 1 =
        ap (λ (x : List Kept). length (reports x)) more-row ∙ report_count (step_of next) e b R ob (state_in asks) (kept_from i kept 0) (kept_at width kept (i * kept_stride)) ∙ rw g refl in
        omega arith;
  }

  pub reporting_turn : (t' : List ℕ) (r : ℕ) → length t' ≡ length t → ReportedRow next verdicts asks e n i from count b seen kept t t' r
      → Reporting next verdicts states asks e n m (i + 1) from r b seen kept t₀ t' fresh
  reporting_turn t' r l v = record {
    able = u.able;
    same = l ∙ u.same;
    within = omega arith;
    rows = v.rows (reports (kept_from i kept 0)) u.rows
        ∙ ap (list.map (report_of verdicts)) (sym (ap reports more-row ∙ reports-more (step_of next) e b R ob (state_in asks) (kept_from i kept 0) (kept_at width kept (i * kept_stride))
        (subst (λ (x : List Kept). Ascends (combinations x)) more-row (front (i + 1) (omega arith)))));
    low = λ k g. v.low k g ∙ u.low k g;
    high = λ k g. v.high k g ∙ u.high k (let x = v.more in omega arith);
  }

pub reporting_ends : (next verdicts : List ℕ) (states asks e n m i from count : ℕ) (b seen kept t₀ t : List ℕ) (fresh : Bool)
    → Reporting next verdicts states asks e n m i from count b seen kept t₀ t fresh → m ≤ i → Reported next verdicts asks e n m from b seen kept t₀ t count
reporting_ends next verdicts states asks e n m i from count b seen kept t₀ t fresh u h =
    let q : i ≡ m = let w = u.within in omega arith in
    record {
      rows = u.rows ∙ ap (λ (x : ℕ). list.map (report_of verdicts) (reports_after width (step_of next) e b (seen_rows n seen) (state_in asks) (kept_from x kept 0))) q;
      low = u.low;
      high = u.high;
    }
