-- What one kept row adds to the counts.
-- Assumes nothing.
use Rattle.std.specs.Prelude.{ℕ, ◌+◌, ◌*◌, ◌≡◌, Bool, not, List, get_or}
use Rattle.std.proofs.Common.{sym, ap, ◌∙◌}
use Rattle.std.proofs.Math.Bool.{true}
use borrow.Author.Tests.{not-true}
use mir.Val.{bool_byte}
use Rattle.std.proofs.Math.Logic.{◌⊎◌, inl, inr}
use Rattle.document.specs.Limits.{width, kept_stride}
use Rattle.document.specs.Positions.{holds}
use Rattle.document.specs.Combinations.{includes}
use Rattle.document.specs.OneEvent.{Kept, moves, moved_from}
use Rattle.document.specs.Tables.{numbers_at, seen_rows}
use Rattle.slices.specs.TablesLaws.{kept_at}
use Rattle.moves.specs.Steps.{one, step_of, state_in, moves_at}
use Rattle.moves.specs.Ready.{RowReady}
use Rattle.moves.specs.MovesLaws.{in_place_moves}
use Rattle.moves.specs.ReadyLaws.{moves_at_lem, one_from}
use Rattle.foreseen.specs.Foreseen.{weight_of}
use Rattle.foreseen.specs.declared.Weight.{Weight}

-- What a row adds ------------------------------------------------------------------------------------------------------

module _ (next : List ℕ) (states e n i : ℕ) (b seen kept : List ℕ) (fresh : Bool) (u : RowReady next states e n i b seen kept fresh) where
  module _ (hopes asks : ℕ) (k : List ℕ) (f : Bool) (qk : k ≡ numbers_at width kept (i * kept_stride)) (qf : f ≡ includes k b) where
    abbrev row : Kept
    row = kept_at width kept (i * kept_stride)

    row-moves : (g : Bool) → g ≡ moves_at b (seen_rows n seen) k → moves width (step_of next) e b (seen_rows n seen) row ≡ g
    row-moves g q = moves_at_lem (step_of next) e b (seen_rows n seen) row ∙ ap (moves_at b (seen_rows n seen)) (sym qk) ∙ sym q

    row-includes : includes (numbers_at width kept (i * kept_stride)) b ≡ f
    row-includes = ap (λ (x : List ℕ). includes x b) (sym qk) ∙ sym qf

    pub weight_stays : not f ≡ true → (g : Bool) → g ≡ moves_at b (seen_rows n seen) k → not g ≡ true
        → ◌≡◌ {A = Weight} (record { kept = 1; reported = 0 }) (weight_of next hopes asks e b (seen_rows n seen) row)
    unfolding weight_of
    weight_stays z g q y = rw (row-moves g q ∙ not-true g y, row-includes ∙ not-true f z)

    -- the row moves, in place or to a new combination
    module _ (goes : (f ≡ true) ⊎ (moves_at b (seen_rows n seen) k ≡ true)) (to : ℕ) (q : to ≡ step_of next (get_or kept (i * kept_stride + width) 0) e) where
      it_moves : moves width (step_of next) e b (seen_rows n seen) row ≡ true
      it_moves = elim goes [
        | inl z ↦ in_place_moves (step_of next) e b (seen_rows n seen) u.binds.wide row u.right (row-includes ∙ z)
        | inr z ↦ row-moves true (sym z)
      ]

      pub weight_moves : (h a : Bool) → h ≡ holds hopes to → a ≡ holds asks to
          → (x y z : ℕ) → x ≡ bool_byte h → y ≡ bool_byte (not f) → z ≡ bool_byte a
          → ◌≡◌ {A = Weight} (record { kept = x + y; reported = z }) (weight_of next hopes asks e b (seen_rows n seen) row)
      unfolding weight_of state_in moved_from
      weight_moves h a ph pa x y z px py pz =
          rw (it_moves, row-includes, ← q, px ∙ one_from h ∙ ap one ph, py ∙ one_from (not f), pz ∙ one_from a ∙ ap one pa)
