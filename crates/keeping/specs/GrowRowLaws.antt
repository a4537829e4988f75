-- One row, and the combination that it creates put in above it.
-- Assumes nothing.
use Prim.Native.Nat.{ℕ, suc, ◌+◌, ◌-◌, ◌*◌, ◌<◌}
use Rattle.std.proofs.Math.Path.{◌≡◌, sym, ap}
use Rattle.std.specs.Prelude.{refl, Bool, false, get_or}
use Rattle.std.proofs.Common.{ap₂, ◌∙◌}
use Rattle.std.proofs.Math.Bool.{true}
use mathlib.Core.List.{List, ◌∷◌}
use native.Mathlib.Omega.{arith}
use Rattle.document.specs.Limits.{width, kept_stride, most_states}
use Rattle.document.specs.Positions.{holds}
use Rattle.document.specs.Combinations.{includes, join}
use Rattle.document.specs.OneEvent.{Kept, insert_kept, moved_from}
use Rattle.document.specs.Tables.{numbers_at, seen_rows}
use Rattle.slices.specs.TablesLaws.{kept_at}
use Rattle.tables.specs.Tables.{kept_from, Enterable, Entered}
use Rattle.tables.specs.TablesLaws.{row_move}
use Rattle.moves.specs.Steps.{step_of, state_in, moves_at}
use Rattle.moves.specs.Ready.{Joint}
use Rattle.moves.specs.ReadyLaws.{moves_at_lem}
use Rattle.keeping.specs.Keeping.{creates, grows, grown_by, GrowReady, GrownRow}
use Rattle.keeping.specs.GrownLaws.{of_creates, not-creates}

module _ (next : List ℕ) (states hopes e n i m : ℕ) (b seen t : List ℕ) (fresh : Bool) (u : GrowReady next states hopes e n i m b seen t fresh) (k : List ℕ) (f : Bool)
    (qk : k ≡ numbers_at width t (i * kept_stride)) (qf : f ≡ includes k b) where
  abbrev row : Kept
  row = kept_at width t (i * kept_stride)

  abbrev S : List (List ℕ)
  S = seen_rows n seen

  in_place_lem : includes (numbers_at width t (i * kept_stride)) b ≡ f
  in_place_lem = ap (λ (x : List ℕ). includes x b) (sym qk) ∙ sym qf

  pub grow_joint : Joint n seen k
  grow_joint = rw qk (record { wide = u.right.wide; joins = u.right.joins })

  pub grow_onward : (to : ℕ) → to ≡ step_of next (get_or t (i * kept_stride + width) 0) e → to < most_states
  grow_onward to q =
      let w = u.moves.onward (get_or t (i * kept_stride + width) 0) u.within in
      let l = u.moves.few in
      rw q (omega arith)

  -- no row is put in
  none : grows (step_of next) e b (seen_rows n seen) (state_in hopes) row ≡ false → GrownRow next hopes e n i m b seen t t m
  unfolding grown_by kept_from
  none g =
      let h = u.below in
      let q : m - i ≡ suc (m - i - 1) = omega arith in
      let l = kept_from (m - i - 1) t (i * kept_stride + kept_stride) in
      let w : grown_by (step_of next) e b (seen_rows n seen) (state_in hopes) row l ≡ l = rw g in
      record {
        rows = ap (λ (x : ℕ). kept_from x t (i * kept_stride)) q ∙ ap (λ (x : List Kept). row ∷ x) (sym w);
        low = λ x y. refl;
        high = λ x y. refl;
        more = omega arith;
      }

  pub grow_in_place : f ≡ true → GrownRow next hopes e n i m b seen t t m
  unfolding grows
  grow_in_place z = none (rw (not-creates (step_of next) e b S u.binds.wide row (in_place_lem ∙ z)))

  module _ (z : f ≡ false) (g : Bool) (qg : g ≡ moves_at b (seen_rows n seen) k) where
    made : creates (step_of next) e b S row ≡ g
    made = of_creates (step_of next) e b S u.binds.wide row (in_place_lem ∙ z) ∙ moves_at_lem (step_of next) e b S row ∙ ap (moves_at b S) (sym qk) ∙ sym qg

    pub grow_not : g ≡ false → GrownRow next hopes e n i m b seen t t m
    unfolding grows
    grow_not y = none (rw (made ∙ y))

    module _ (y : g ≡ true) (to : ℕ) (h : Bool) (qt : to ≡ step_of next (get_or t (i * kept_stride + width) 0) e) (qh : h ≡ holds hopes to) where
      hope : state_in hopes (moved_from width (step_of next) e b S row) ≡ h
      unfolding state_in moved_from
      hope = ap (holds hopes) (sym qt) ∙ sym qh

      pub grow_hopeless : h ≡ false → GrownRow next hopes e n i m b seen t t m
      unfolding grows
      grow_hopeless x = none (rw (made ∙ y, hope ∙ x))

      will : h ≡ true → grows (step_of next) e b S (state_in hopes) row ≡ true
      unfolding grows
      will x = rw (made ∙ y, hope ∙ x)

      pub grow_enterable : h ≡ true → Enterable (i * kept_stride + kept_stride) (m - i - 1) t
      grow_enterable x = record { inside = let r = u.room (will x) in let l = u.below in omega arith; order = u.order }

      pub grow_created : h ≡ true → (c t' : List ℕ) → c ≡ join b k → Entered (i * kept_stride + kept_stride) (m - i - 1) c to t t' → GrownRow next hopes e n i m b seen t t' (m + 1)
      unfolding grown_by kept_from moved_from
      grow_created x c t' qc v =
          let l = u.below in
          let q : m + 1 - i ≡ suc (m - i - 1 + 1) = omega arith in
          let w : grows (step_of next) e b S (state_in hopes) row ≡ true = will x in
          let new : ◌≡◌ {A = Kept} (record { combination = c; state = to }) (record { combination = join b (numbers_at width t (i * kept_stride)); state = step_of next (get_or t (i * kept_stride + width) 0) e }) =
          λ j. record { combination = (qc ∙ ap (join b) qk) j; state = qt j } in
          record {
            rows = rw (q, w) (ap₂ ◌∷◌
                (row_move t t' (i * kept_stride) (i * kept_stride) (λ a r. v.low (i * kept_stride + a) (omega arith)))
                (v.rows ∙ ap (λ (r : Kept). insert_kept r (kept_from (m - i - 1) t (i * kept_stride + kept_stride))) new));
            low = λ a r. v.low a (omega arith);
            high = λ a r. v.high a (omega arith);
            more = omega arith;
          }
