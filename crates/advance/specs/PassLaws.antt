-- The turns of the pass over the kept rows.
-- Assumes nothing.
use Prim.Native.Nat.{ℕ, ◌+◌, ◌-◌, ◌*◌, ◌/◌, ◌<◌, ◌≤◌}
use Rattle.std.specs.Prelude.{◌≡◌, Bool, true, false, not, ◌&&◌, eqb, get_or, drop}
use Rattle.std.proofs.Math.Path.{refl, sym, ap, ap₂}
use Rattle.std.proofs.Common.{subst, ◌∙◌, inl, inr, zero-add}
use mathlib.Core.List.{List, [], ◌∷◌, ◌++◌}
use mathlib.Core.List as list
use native.Mathlib.Omega.{arith}
use Rattle.std.proofs.Math.Decide.{ℕ_discrete}
use Rattle.std.proofs.Math.ListN.{length, length-drop}
use Rattle.std.proofs.lemmas.Bool.{eqb-false}
use Rattle.document.specs.Lists.{cons_if}
use Rattle.document.specs.Limits.{width, kept_stride, report_stride, most_events, most_states}
use Rattle.document.specs.Positions.{holds}
use Rattle.document.specs.Combinations.{includes}
use Rattle.document.specs.OneEvent.{Kept}
use Rattle.document.specs.Tables.{numbers_at, report_room}
use Rattle.basics.specs.Tests.{decided}
use Rattle.slices.specs.TestsLaws.{so, not_of, and_of}
use Rattle.slices.specs.ListsLaws.{map_append}
use Rattle.slices.specs.TablesLaws.{kept_at}
use Rattle.ordered.specs.Writes.{Put}
use Rattle.tables.specs.Tables.{kept_from}
use Rattle.tables.specs.TablesLaws.{kept_more, kept_two, row_move}
use Rattle.moves.specs.Steps.{step_of, state_in}
use Rattle.keeping.specs.Keeping.{sifted, SettleReady}
use Rattle.keeping.specs.SiftLaws.{settle_stays, settle_moves, sifting_ready, sifting_turn}
use Rattle.writing.specs.Writing.{report_of}
use Rattle.spans.specs.Spans.{Movable}
use Rattle.inplace.specs.InPlace.{moved_on, told}
use Rattle.spans.specs.SpanLaws.{rising_of}
use Rattle.inplace.specs.ToldLaws.{told_append, told_none, sifted_append, sifted_none}
use Rattle.spans.specs.AgreeLaws.{apart, rows_in_lem}
use Rattle.settling.specs.Settling.{ToldRow, MovedRow}
use Rattle.advance.specs.Advancing.{Advanceable, Passing, Passable, Passes, PassesOn}

pub movable_of : (next : List ℕ) (states e m from : ℕ) (b kept reports : List ℕ) → Advanceable next states e m from b kept reports → Movable next states e m b kept
movable_of next states e m from b kept reports u = record { moves = u.moves; wide = u.wide; inside = u.inside; order = u.order; within = u.within }

-- The turns ----------------------------------------------------------------------------------------------------------

module _ (next verdicts : List ℕ) (states hopes asks e m from i o count : ℕ) (b kept₀ kept reports₀ reports : List ℕ)
    (u : Passing next verdicts states hopes asks e m from i o count b kept₀ kept reports₀ reports) (h : i < m) where
  -- there is room for a report of each row
  passing_room : from + (count + 1) * kept_stride ≤ length reports
  unfolding report_room
  passing_room =
      let r = u.able.room in
      let d : length (drop from reports₀) ≡ length reports₀ - from = length-drop from reports₀ in
      let q : m ≤ (length reports₀ - from) / report_stride = rw d at r in
      let f = u.few in
      let s = u.same in
      omega arith

  ready : SettleReady next states e i o b kept
  ready = sifting_ready next states hopes e m i o b kept₀ kept u.sifts h

  passing_state : get_or kept (i * kept_stride + width) 0 < most_states
  passing_state = let w = ready.within in let f = ready.moves.few in omega arith

  passing_event : e < most_events
  passing_event = u.able.moves.event

  passing_onward : (to : ℕ) → to ≡ step_of next (get_or kept (i * kept_stride + width) 0) e → to < most_states
  passing_onward to q =
      let w = ready.moves.onward (get_or kept (i * kept_stride + width) 0) ready.within in
      let l = ready.moves.few in
      rw q (omega arith)

  -- row i is as it was
  row_same : kept_at width kept (i * kept_stride) ≡ kept_at width kept₀ (i * kept_stride)
  row_same = row_move kept₀ kept (i * kept_stride) (i * kept_stride) (λ k g. u.sifts.rest (i * kept_stride + k) (omega arith))

  told_more : told (step_of next) e b (state_in asks) (kept_from (i + 1) kept₀ 0)
      ≡ told (step_of next) e b (state_in asks) (kept_from i kept₀ 0)
      ++ cons_if (includes (numbers_at width kept (i * kept_stride)) b && holds asks (step_of next (get_or kept (i * kept_stride + width) 0) e))
      (record { combination = numbers_at width kept (i * kept_stride); state = step_of next (get_or kept (i * kept_stride + width) 0) e }) []
  unfolding told moved_on state_in
  told_more =
      ap (told (step_of next) e b (state_in asks)) (kept_more i kept₀ 0 ∙ ap (λ (x : ℕ). kept_from i kept₀ 0 ++ (kept_at width kept₀ x ∷ [])) (zero-add (i * kept_stride)))
      ∙ told_append (step_of next) e b (state_in asks) (kept_from i kept₀ 0) (kept_at width kept₀ (i * kept_stride) ∷ [])
      ∙ ap (λ (k : Kept). told (step_of next) e b (state_in asks) (kept_from i kept₀ 0) ++ told (step_of next) e b (state_in asks) (k ∷ [])) (sym row_same)

  module _ (f : Bool) (q : f ≡ includes (numbers_at width kept (i * kept_stride)) b) where
    told_same : f ≡ false → told (step_of next) e b (state_in asks) (kept_from (i + 1) kept₀ 0) ≡ told (step_of next) e b (state_in asks) (kept_from i kept₀ 0)
    told_same z = rw (sym q ∙ z, list.append-nil) at told_more

    told-one : f ≡ true → (to : ℕ) → to ≡ step_of next (get_or kept (i * kept_stride + width) 0) e
        → told (step_of next) e b (state_in asks) (kept_from (i + 1) kept₀ 0)
        ≡ told (step_of next) e b (state_in asks) (kept_from i kept₀ 0) ++ cons_if (holds asks to) (record { combination = numbers_at width kept (i * kept_stride); state = to }) []
    told-one z to p = rw (sym q ∙ z, ← p) at told_more

    passing_stays : f ≡ false → (kept' : List ℕ) → length kept' ≡ length kept
        → Put (o * kept_stride) (numbers_at width kept (i * kept_stride)) (get_or kept (i * kept_stride + width) 0) kept kept'
        → Passing next verdicts states hopes asks e m from (i + 1) (o + 1) count b kept₀ kept' reports₀ reports
    unfolding told
    passing_stays z kept' l p = record {
      able = u.able;
      sifts = sifting_turn next states hopes e m i o b kept₀ kept u.sifts kept' (o + 1) h l
          (settle_stays next states hopes e i o b kept ready f q (rw z) kept' p);
      same = u.same;
      tells = record {
        rows = u.tells.rows ∙ ap (list.map (report_of verdicts)) (sym (told_same z));
        low = u.tells.low;
        high = u.tells.high;
      };
      few = let g = u.few in omega arith;
      above = λ k g. u.above k (omega arith);
    }

    passing_moves : f ≡ true → (to r s : ℕ) (kept' reports' : List ℕ) → to ≡ step_of next (get_or kept (i * kept_stride + width) 0) e
        → length reports' ≡ length reports → ToldRow verdicts asks to from count (numbers_at width kept (i * kept_stride)) reports reports' r
        → length kept' ≡ length kept → MovedRow hopes to i o kept kept' s
        → Passing next verdicts states hopes asks e m from (i + 1) s r b kept₀ kept' reports₀ reports'
    unfolding report_of
    passing_moves z to r s kept' reports' p lr t lk v = record {
      able = u.able;
      sifts = sifting_turn next states hopes e m i o b kept₀ kept u.sifts kept' s h lk (settle_moves next states hopes e i o b kept ready f q (rw z) to kept' s p v);
      same = lr ∙ u.same;
      tells = record {
        rows = t.rows
            ∙ ap₂ ◌++◌ u.tells.rows report_of_lem
            ∙ sym (map_append (report_of verdicts) (told (step_of next) e b (state_in asks) (kept_from i kept₀ 0))
            (cons_if (holds asks to) (record { combination = numbers_at width kept (i * kept_stride); state = to }) []))
            ∙ ap (list.map (report_of verdicts)) (sym (told-one z to p));
        low = λ k g. t.low k g ∙ u.tells.low k g;
        high = λ k g. t.high k g ∙ u.tells.high k (let x = t.more in omega arith);
      };
      few = let g = u.few in let x = t.few in omega arith;
      above = λ k g. u.above k (omega arith);
    }
      where
        row : List ℕ
        row = numbers_at width kept (i * kept_stride)

        report_of_lem : cons_if (holds asks to) (record { combination = row; state = get_or verdicts to 0 }) []
            ≡ list.map (report_of verdicts) (cons_if (holds asks to) (record { combination = row; state = to }) [])
        report_of_lem = elim (decided (holds asks to)) [ inl g ↦ rw g | inr g ↦ rw g ]

-- Where it ends --------------------------------------------------------------------------------------------------------

module _ (next verdicts : List ℕ) (states hopes asks e m from i o count : ℕ) (b kept₀ kept reports₀ reports : List ℕ)
    (u : Passing next verdicts states hopes asks e m from i o count b kept₀ kept reports₀ reports) where
  -- where no row from row i on includes b
  pub passing_past : ((k : ℕ) → i ≤ k → k < m → includes (numbers_at width kept₀ (k * kept_stride)) b ≡ false)
      → Passes next verdicts states hopes asks e m from b kept₀ kept reports₀ reports (record { row = i; left = o; reported = count })
  passing_past f =
      let w = u.sifts.within in
      let none = rows_in_lem i (m - i) kept₀ b (λ k g l. f k g (omega arith)) in
      let two = kept_two i m kept₀ w in
      record {
        sifts = u.sifts;
        rest = λ seen.
            ap (sifted (step_of next) e b seen (state_in hopes)) two
            ∙ sifted_append (step_of next) e b seen (state_in hopes) (kept_from i kept₀ 0) (kept_from (m - i) kept₀ (i * kept_stride))
            ∙ ap (λ (l : List Kept). sifted (step_of next) e b seen (state_in hopes) (kept_from i kept₀ 0) ++ l)
            (sifted_none (step_of next) e b seen (state_in hopes) (kept_from (m - i) kept₀ (i * kept_stride)) none);
        tells = record {
          rows = u.tells.rows ∙ ap (list.map (report_of verdicts)) (sym (
              ap (told (step_of next) e b (state_in asks)) two
              ∙ told_append (step_of next) e b (state_in asks) (kept_from i kept₀ 0) (kept_from (m - i) kept₀ (i * kept_stride))
              ∙ ap (λ (l : List Kept). told (step_of next) e b (state_in asks) (kept_from i kept₀ 0) ++ l)
              (told_none (step_of next) e b (state_in asks) (kept_from (m - i) kept₀ (i * kept_stride)) none)
              ∙ list.append-nil (told (step_of next) e b (state_in asks) (kept_from i kept₀ 0))));
          low = u.tells.low;
          high = u.tells.high;
        };
      }

  passing_ends : m ≤ i → Passes next verdicts states hopes asks e m from b kept₀ kept reports₀ reports (record { row = i; left = o; reported = count })
  passing_ends h = passing_past (λ k g l. absurd (omega arith))

  -- row i begins with another number than the binding, so with a greater one, and so do the rows after it
  passing_stops : i < m → (first : ℕ) (f : Bool) → first ≡ get_or b 0 0 → f ≡ (not (eqb first 0) && not (eqb (get_or kept (i * kept_stride) 0) first)) → f ≡ true
      → Passes next verdicts states hopes asks e m from b kept₀ kept reports₀ reports (record { row = i; left = o; reported = count })
  passing_stops h first f p q z =
      let t = and_of (not (eqb (get_or b 0 0) 0)) (not (eqb (get_or kept (i * kept_stride) 0) (get_or b 0 0))) (so (sym (rw p at q) ∙ z)) in
      let bound : (get_or b 0 0 ≡ 0 → ⊥) = eqb-false (get_or b 0 0) 0 (not_of (eqb (get_or b 0 0) 0) t.0) in
      let other : (get_or kept (i * kept_stride) 0 ≡ get_or b 0 0 → ⊥) =
      eqb-false (get_or kept (i * kept_stride) 0) (get_or b 0 0) (not_of (eqb (get_or kept (i * kept_stride) 0) (get_or b 0 0)) t.1) in
      let here = u.above i (omega arith) h in
      let same = u.sifts.rest (i * kept_stride) (omega arith) in
      let rise = (rising_of next states e m b kept₀ (movable_of next states e m from b kept₀ reports₀ u.able)).rise in
      passing_past (λ k g l.
      apart kept₀ (k * kept_stride) b u.able.wide bound (λ y.
      elim (ℕ_discrete k i) [
        | yes x ↦ other (same ∙ ap (λ (n : ℕ). get_or kept₀ (n * kept_stride) 0) (sym x) ∙ y)
        | no x ↦ let r = rise i k (omega arith) l in other (omega arith)
      ]))

-- Whatever the kept rows were before the event --------------------------------------------------------------------------

pub record Underway (next verdicts : List ℕ) (states hopes asks e m from low i o count : ℕ) (b kept₀ kept reports₀ reports : List ℕ) : Type 0 where
  pub before : List ℕ
  pub passing : Passing next verdicts states hopes asks e m from i o count b before kept reports₀ reports
  pub kept_same : length kept ≡ length kept₀
  pub on : (x : List ℕ) → Passing next verdicts states hopes asks e m from low low 0 b x kept₀ reports₀ reports₀
      → Passing next verdicts states hopes asks e m from i o count b x kept reports₀ reports

pub underway_begins : (next verdicts : List ℕ) (states hopes asks e m from low : ℕ) (b kept reports : List ℕ) → Passable next verdicts states hopes asks e m from b kept reports low
    → Underway next verdicts states hopes asks e m from low low low 0 b kept kept reports reports
underway_begins next verdicts states hopes asks e m from low b kept reports u = record { before = u.before; passing = u.passing; kept_same = refl; on = λ x p. p }

module _ (next verdicts : List ℕ) (states hopes asks e m from low i o count : ℕ) (b kept₀ kept reports₀ reports : List ℕ)
    (u : Underway next verdicts states hopes asks e m from low i o count b kept₀ kept reports₀ reports) where
  comes_to : ((x : List ℕ) → Passing next verdicts states hopes asks e m from i o count b x kept reports₀ reports
      → Passes next verdicts states hopes asks e m from b x kept reports₀ reports (record { row = i; left = o; reported = count }))
      → PassesOn next verdicts states hopes asks e m from low b kept₀ kept reports₀ reports (record { row = i; left = o; reported = count })
  comes_to f =
      let q = u.passing.sifts.same in
      let h = u.passing.able.inside in
      record { fewer = u.passing.sifts.fewer; within = u.passing.sifts.within; inside = omega arith; on = λ x p. f x (u.on x p) }

  pub underway_ends : m ≤ i → PassesOn next verdicts states hopes asks e m from low b kept₀ kept reports₀ reports (record { row = m; left = o; reported = count })
  underway_ends h =
      let w = u.passing.sifts.within in
      let q : i ≡ m = omega arith in
      subst (λ (x : ℕ). PassesOn next verdicts states hopes asks e m from low b kept₀ kept reports₀ reports (record { row = x; left = o; reported = count })) q
      (comes_to (λ x p. passing_ends next verdicts states hopes asks e m from i o count b x kept reports₀ reports p h))

  pub underway_stops : i < m → (first : ℕ) (f : Bool) → first ≡ get_or b 0 0 → f ≡ (not (eqb first 0) && not (eqb (get_or kept (i * kept_stride) 0) first)) → f ≡ true
      → PassesOn next verdicts states hopes asks e m from low b kept₀ kept reports₀ reports (record { row = i; left = o; reported = count })
  underway_stops h first f q p z = comes_to (λ x y. passing_stops next verdicts states hopes asks e m from i o count b x kept reports₀ reports y h first f q p z)

  module _ (h : i < m) where
    pub underway_room : from + (count + 1) * kept_stride ≤ length reports
    underway_room = passing_room next verdicts states hopes asks e m from i o count b u.before kept reports₀ reports u.passing h

    pub underway_state : get_or kept (i * kept_stride + width) 0 < most_states
    underway_state = passing_state next verdicts states hopes asks e m from i o count b u.before kept reports₀ reports u.passing h

    pub underway_event : e < most_events
    underway_event = passing_event next verdicts states hopes asks e m from i o count b u.before kept reports₀ reports u.passing h

    pub underway_onward : (to : ℕ) → to ≡ step_of next (get_or kept (i * kept_stride + width) 0) e → to < most_states
    underway_onward = passing_onward next verdicts states hopes asks e m from i o count b u.before kept reports₀ reports u.passing h

    module _ (f : Bool) (q : f ≡ includes (numbers_at width kept (i * kept_stride)) b) where
      pub underway_stays : f ≡ false → (kept' : List ℕ) → length kept' ≡ length kept
          → Put (o * kept_stride) (numbers_at width kept (i * kept_stride)) (get_or kept (i * kept_stride + width) 0) kept kept'
          → Underway next verdicts states hopes asks e m from low (i + 1) (o + 1) count b kept₀ kept' reports₀ reports
      underway_stays z kept' l p =
          record {
            before = u.before;
            passing = passing_stays next verdicts states hopes asks e m from i o count b u.before kept reports₀ reports u.passing h f q z kept' l p;
            kept_same = l ∙ u.kept_same;
            on = λ x y. passing_stays next verdicts states hopes asks e m from i o count b x kept reports₀ reports (u.on x y) h f q z kept' l p;
          }

      pub underway_moves : f ≡ true → (to r s : ℕ) (kept' reports' : List ℕ) → to ≡ step_of next (get_or kept (i * kept_stride + width) 0) e
          → length reports' ≡ length reports → ToldRow verdicts asks to from count (numbers_at width kept (i * kept_stride)) reports reports' r
          → length kept' ≡ length kept → MovedRow hopes to i o kept kept' s
          → Underway next verdicts states hopes asks e m from low (i + 1) s r b kept₀ kept' reports₀ reports'
      underway_moves z to r s kept' reports' p lr t lk v =
          record {
            before = u.before;
            passing = passing_moves next verdicts states hopes asks e m from i o count b u.before kept reports₀ reports u.passing h f q z to r s kept' reports' p lr t lk v;
            kept_same = lk ∙ u.kept_same;
            on = λ x y. passing_moves next verdicts states hopes asks e m from i o count b x kept reports₀ reports (u.on x y) h f q z to r s kept' reports' p lr t lk v;
          }
