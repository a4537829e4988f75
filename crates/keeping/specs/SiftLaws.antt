-- The turns of the loop that writes rows in place.
-- Assumes nothing.
use Rattle.std.specs.Prelude.{ℕ, ◌+◌, ◌*◌, ◌<◌, ◌≤◌, ◌≡◌, Bool, true, false, not, length, get_or}
use Rattle.std.proofs.Math.Path.{refl, sym}
use Rattle.std.proofs.Common.{ap, ap₂, subst, ◌∙◌, arith, zero-add}
use Rattle.std.proofs.Math.Logic.{inl, inr}
use mathlib.Core.List.{List, [], ◌∷◌, ◌++◌}
use mathlib.Core.List as list
use borrow.Author.Tests.{not-true, not-false}
use Rattle.document.specs.Lists.{In, cons_if}
use Rattle.document.specs.Limits.{width, kept_stride, most_states}
use Rattle.document.specs.Positions.{holds}
use Rattle.document.specs.Combinations.{includes, join}
use Rattle.document.specs.OneEvent.{Kept, moved_from}
use Rattle.document.specs.Tables.{numbers_at}
use Rattle.basics.specs.Tests.{decided}
use Rattle.slices.specs.TablesBackLaws.{length-numbers_at}
use Rattle.slices.specs.TablesLaws.{kept_at}
use Rattle.ordered.specs.Writes.{Put}
use Rattle.tables.specs.Tables.{kept_from}
use Rattle.tables.specs.TablesLaws.{row_move, row_is, kept_move, kept_more, row_in}
use Rattle.moves.specs.Steps.{step_of, state_in}
use Rattle.moves.specs.MovesLaws.{in_place_join}
use Rattle.settling.specs.Settling.{MovedRow}
use Rattle.keeping.specs.Keeping.{settled, settles, sifted, SettleReady, SettledRow, Siftable, Sifted}

-- One row --------------------------------------------------------------------------------------------------------------

-- a row written after o rows
written_after : (o i : ℕ) (c : List ℕ) (s : ℕ) (t t' : List ℕ) → o ≤ i → length c ≡ width → Put (o * kept_stride) c s t t'
    → kept_from (o + 1) t' 0 ≡ kept_from o t 0 ++ (record { combination = c; state = s } ∷ [])
written_after o i c s t t' h w p =
    kept_more o t' 0
    ∙ ap₂ (λ (l : List Kept) (k : Kept). l ++ (k ∷ [])) (kept_move o t t' 0 0 (λ k g. p.low (0 + k) (omega arith)))
    (ap (kept_at width t') (zero-add (o * kept_stride)) ∙ row_is c s t' (o * kept_stride) w p.row p.last)

module _ (next : List ℕ) (states hopes e i o : ℕ) (b t : List ℕ) (u : SettleReady next states e i o b t) where
  abbrev row : Kept
  row = kept_at width t (i * kept_stride)

  pub settle_onward : (to : ℕ) → to ≡ step_of next (get_or t (i * kept_stride + width) 0) e → to < most_states
  settle_onward to q =
      let w = u.moves.onward (get_or t (i * kept_stride + width) 0) u.within in
      let l = u.moves.few in
      rw q (omega arith)

  module _ (f : Bool) (qf : f ≡ includes (numbers_at width t (i * kept_stride)) b) where
    pub settle_stays : not f ≡ true → (t' : List ℕ) → Put (o * kept_stride) (numbers_at width t (i * kept_stride)) (get_or t (i * kept_stride + width) 0) t t'
        → SettledRow next hopes e i o b t t' (o + 1)
    unfolding settles settled
    settle_stays z t' p = record {
      rows = λ seen. written_after o i row.combination row.state t t' u.before (length-numbers_at width t (i * kept_stride)) p ∙ rw (sym qf ∙ not-true f z);
      rest = λ x g. p.high x (let h = u.before in omega arith);
      fewer = let h = u.before in omega arith;
    }

    pub settle_moves : not f ≡ false → (to : ℕ) (t' : List ℕ) (r : ℕ) → to ≡ step_of next (get_or t (i * kept_stride + width) 0) e → MovedRow hopes to i o t t' r
        → SettledRow next hopes e i o b t t' r
    unfolding settles settled state_in moved_from
    settle_moves z to t' r q v =
        let j : join b row.combination ≡ row.combination = in_place_join (step_of next) e b [] u.wide row (sym qf ∙ not-false f z) in
        elim (decided (holds hopes to)) [
          | inl g ↦
              let w = v.goes g in
              let x = w.0 in
              record {
                rows = λ seen. rw (x, sym qf ∙ not-false f z, j, ← q, g) (written_after o i row.combination to t t' u.before (length-numbers_at width t (i * kept_stride)) w.1);
                rest = λ x l. w.1.high x (let h = u.before in omega arith);
                fewer = let h = u.before in omega arith;
              }
          | inr g ↦
              let w = v.drops g in
              let x = w.0 in
              let y = w.1 in
              record {
                rows = λ seen. rw (x, y, sym qf ∙ not-false f z, ← q, g, list.append-nil) refl;
                rest = λ k l. ap (λ (a : List ℕ). get_or a k 0) y;
                fewer = let h = u.before in omega arith;
              }
        ]

-- All rows -------------------------------------------------------------------------------------------------------------

pub record Sifting (next : List ℕ) (states hopes e m i o : ℕ) (b t₀ t : List ℕ) : Type 0 where
  pub able : Siftable next states e m b t₀
  pub same : length t ≡ length t₀
  pub within : i ≤ m
  pub rows : (seen : List (List ℕ)) → kept_from o t 0 ≡ sifted (step_of next) e b seen (state_in hopes) (kept_from i t₀ 0)
  pub rest : (k : ℕ) → i * kept_stride ≤ k → get_or t k 0 ≡ get_or t₀ k 0
  pub fewer : o ≤ i

pub sifting_begins : (next : List ℕ) (states hopes e m : ℕ) (b t : List ℕ) → Siftable next states e m b t → Sifting next states hopes e m 0 0 b t t
unfolding kept_from sifted
sifting_begins next states hopes e m b t u = record {
  able = u;
  same = refl;
  within = omega arith;
  rows = λ seen. refl;
  rest = λ k h. refl;
  fewer = omega arith;
}

module _ (next : List ℕ) (states hopes e m i o : ℕ) (b t₀ t : List ℕ) (u : Sifting next states hopes e m i o b t₀ t) where
  row_same : kept_at width t (i * kept_stride) ≡ kept_at width t₀ (i * kept_stride)
  row_same = row_move t₀ t (i * kept_stride) (i * kept_stride) (λ k h. u.rest (i * kept_stride + k) (omega arith))

  pub sifting_ready : i < m → SettleReady next states e i o b t
  sifting_ready h =
      let z : 0 + i * kept_stride ≡ i * kept_stride = zero-add (i * kept_stride) in
      record {
        moves = u.able.moves;
        wide = u.able.wide;
        before = u.fewer;
        inside = let x = u.able.inside in let y = u.same in omega arith;
        within = rw (u.rest (i * kept_stride + width) (omega arith)) (u.able.within (kept_at width t₀ (i * kept_stride)) (subst (λ (k : ℕ). In (kept_at width t₀ k) (kept_from m t₀ 0)) z (row_in m t₀ 0 i h)));
      }

  sifted-more : (seen : List (List ℕ)) (l : List Kept) (k : Kept) → sifted (step_of next) e b seen (state_in hopes) (l ++ (k ∷ []))
      ≡ sifted (step_of next) e b seen (state_in hopes) l ++ cons_if (settles (step_of next) e b seen (state_in hopes) k) (settled (step_of next) e b seen k) []
  unfolding sifted
  sifted-more seen [] k = refl
  sifted-more seen (x ∷ l) k = elim (decided (settles (step_of next) e b seen (state_in hopes) x)) [
    | inl h ↦ rw (h, sifted-more seen l k)
    | inr h ↦ rw (h, sifted-more seen l k)
  ]

  pub sifting_turn : (t' : List ℕ) (r : ℕ) → i < m → length t' ≡ length t → SettledRow next hopes e i o b t t' r → Sifting next states hopes e m (i + 1) r b t₀ t'
  sifting_turn t' r h l s = record {
    able = u.able;
    same = l ∙ u.same;
    within = omega arith;
    rows = λ seen.
        let put : List Kept → Kept → List Kept = λ x k. x ++ cons_if (settles (step_of next) e b seen (state_in hopes) k) (settled (step_of next) e b seen k) [] in
        let old = sifted (step_of next) e b seen (state_in hopes) (kept_from i t₀ 0) in
        s.rows seen
        ∙ ap₂ put (u.rows seen) row_same
        ∙ sym (ap (sifted (step_of next) e b seen (state_in hopes)) (kept_more i t₀ 0)
        ∙ sifted-more seen (kept_from i t₀ 0) (kept_at width t₀ (0 + i * kept_stride))
        ∙ ap (λ (x : ℕ). put old (kept_at width t₀ x)) (zero-add (i * kept_stride)));
    rest = λ k g. s.rest k g ∙ u.rest k (omega arith);
    fewer = s.fewer;
  }

  pub sifting_ends : m ≤ i → Sifted next hopes e m b t₀ t o
  sifting_ends h =
      let q : i ≡ m = let w = u.within in omega arith in
      record {
        rows = λ seen. u.rows seen ∙ ap (λ (x : ℕ). sifted (step_of next) e b seen (state_in hopes) (kept_from x t₀ 0)) q;
        rest = λ k g. u.rest k (omega arith);
        fewer = let w = u.fewer in omega arith;
      }
