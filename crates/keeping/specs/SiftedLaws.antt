-- Laws of the rows that stay or move in place.
-- Assumes nothing.
use Rattle.std.specs.Prelude.{ℕ, ◌≡◌, refl, ◌↔◌, Bool, true, false, length}
use Rattle.std.proofs.Common.{sym, ◌∙◌}
use Rattle.std.proofs.Math.Path.{ap}
use Rattle.std.proofs.Math.Logic.{inl, inr}
use mathlib.Core.List.{List, [], ◌∷◌}
use Rattle.document.specs.Lists.{In}
use Rattle.document.specs.Limits.{width}
use Rattle.document.specs.OneEvent.{Kept, moved_from}
use Rattle.basics.specs.Tests.{decided}
use Rattle.slices.specs.TestsLaws.{so, not_so}
use Rattle.slices.specs.ListsLaws.{in_map, map_in}
use Rattle.slices.specs.OrderLaws.{Ascends, combinations}
use Rattle.moves.specs.Steps.{in_place}
use Rattle.moves.specs.Ready.{Right}
use Rattle.moves.specs.MovesLaws.{in_place_join}
use Rattle.keeping.specs.Keeping.{settled, settles, sifted}

module _ (step : ℕ → ℕ → ℕ) (e : ℕ) (b : List ℕ) (seen : List (List ℕ)) (ob : length b ≡ width) where
  abbrev to : Kept → Kept
  to k = moved_from width step e b seen k

  module _ (keeps : Kept → Bool) where
    pub settled-combination : (k : Kept) → (settled step e b seen k).combination ≡ k.combination
    unfolding settled moved_from
    settled-combination k = elim (decided (in_place step e b seen k)) [ inl h ↦ rw h (in_place_join step e b seen ob k h) | inr h ↦ rw h ]

    pub record Settles (l : List Kept) (r : Kept) : Type 0 where
      pub row : Kept
      pub member : In row l
      pub remains : settles step e b seen keeps row ≡ true
      pub is : r ≡ settled step e b seen row

    pub in_sifted : (l : List Kept) (r : Kept) → In r (sifted step e b seen keeps l) ↔ Settles l r
    unfolding sifted
    in_sifted [] r = ((λ i. absurd i), (λ s. absurd s.member))
    in_sifted (k ∷ l) r =
        elim (decided (settles step e b seen keeps k)) [
          | inl h ↦ rw h (
            (λ i. elim i [
              | inl q ↦ record { row = k; member = inl refl; remains = h; is = q }
              | inr j ↦ let s = (in_sifted l r).0 j in record { row = s.row; member = inr s.member; remains = s.remains; is = s.is }
            ]),
            (λ s. elim s.member [
              | inl q ↦ inl (s.is ∙ ap (settled step e b seen) q)
              | inr j ↦ inr ((in_sifted l r).1 (record { row = s.row; member = j; remains = s.remains; is = s.is }))
            ]),
          )
          | inr h ↦ rw h (
            (λ i. let s = (in_sifted l r).0 i in record { row = s.row; member = inr s.member; remains = s.remains; is = s.is }),
            (λ s. elim s.member [
              | inl q ↦ absurd (not_so h (so (sym (ap (settles step e b seen keeps) q) ∙ s.remains)))
              | inr j ↦ (in_sifted l r).1 (record { row = s.row; member = j; remains = s.remains; is = s.is })
            ]),
          )
        ]

    pub sifted_ascends : (l : List Kept) → Ascends (combinations l) → Ascends (combinations (sifted step e b seen keeps l))
    unfolding sifted
    sifted_ascends [] a = tt
    sifted_ascends (k ∷ l) a =
        elim (decided (settles step e b seen keeps k)) [
          | inl h ↦ rw h (
            (λ y i.
                let m = (in_map (λ (r : Kept). r.combination) (sifted step e b seen keeps l) y).0 i in
                let s = (in_sifted l m.of).0 m.member in
                let c : y ≡ s.row.combination = m.is ∙ ap (λ (r : Kept). r.combination) s.is ∙ settled-combination s.row in
                rw (settled-combination k, c) (a.0 s.row.combination (map_in (λ (r : Kept). r.combination) l s.row s.member))),
            sifted_ascends l a.1,
          )
          | inr h ↦ rw h (sifted_ascends l a.1)
        ]

    pub sifted_right : (l : List Kept) → ((k : Kept) → In k l → Right seen k) → (r : Kept) → In r (sifted step e b seen keeps l) → Right seen r
    sifted_right l f r i =
        let s = (in_sifted l r).0 i in
        let c : r.combination ≡ s.row.combination = ap (λ (k : Kept). k.combination) s.is ∙ settled-combination s.row in
        let g = f s.row s.member in
        record { wide = rw c g.wide; joins = rw c g.joins }

    pub settled_in : (k : Kept) → in_place step e b seen k ≡ true → settled step e b seen k ≡ to k
    unfolding settled
    settled_in k h = rw h

    pub settled_out : (k : Kept) → in_place step e b seen k ≡ false → settled step e b seen k ≡ k
    unfolding settled
    settled_out k h = rw h

    pub remains_in : (k : Kept) → in_place step e b seen k ≡ true → settles step e b seen keeps k ≡ keeps (moved_from width step e b seen k)
    unfolding settles
    remains_in k h = rw h

    pub remains_out : (k : Kept) → in_place step e b seen k ≡ false → settles step e b seen keeps k ≡ true
    unfolding settles
    remains_out k h = rw h
