-- Rows in place and rows created are what document 01 keeps, where the kept rows ascend and each is the join of the seen rows
-- that it includes.
-- Assumes nothing.
use Rattle.std.specs.Prelude.{ℕ, ◌≡◌, refl, ◌⊎◌, Bool, false, not, T, length}
use Rattle.std.proofs.Common.{sym, ap, ◌∙◌}
use Rattle.std.proofs.Math.Logic.{inl, inr}
use mathlib.Core.List.{List, ◌++◌}
use Rattle.document.specs.Lists.{In, keep_if}
use Rattle.document.specs.Limits.{width}
use Rattle.document.specs.Combinations.{includes}
use Rattle.document.specs.OneEvent.{Kept, moved_from, moved, kept_after}
use Rattle.basics.specs.Tests.{decided}
use Rattle.basics.specs.Lists.{in_append}
use Rattle.slices.specs.TestsLaws.{so, not_so, true_of, not_of, of_not}
use Rattle.slices.specs.ListsLaws.{in_keep_if}
use Rattle.slices.specs.OrderLaws.{Ascends, combinations, in_in_order, ascends_unique}
use Rattle.slices.specs.MovesLaws.{Came, in_moved, kept_after_ascends}
use Rattle.moves.specs.Steps.{in_place}
use Rattle.moves.specs.Ready.{Right}
use Rattle.moves.specs.MovesLaws.{in_place_moves}
use Rattle.keeping.specs.Keeping.{sifted, grown}
use Rattle.keeping.specs.SiftedLaws.{settled-combination, Settles, in_sifted, sifted_ascends, sifted_right, settled_in, settled_out, remains_in, remains_out}
use Rattle.keeping.specs.GrownLaws.{creates_of, Grows, grows_of, in_grown, grown_ascends, grows_when}

module _ (step : ℕ → ℕ → ℕ) (e : ℕ) (b : List ℕ) (seen : List (List ℕ)) (ob : length b ≡ width) where
  abbrev to : Kept → Kept
  to k = moved_from width step e b seen k

  abbrev stays : Kept → Bool
  stays k = not (includes k.combination b)

  module _ (keeps : Kept → Bool) where
    pub kept_after-grown : (l : List Kept) → ((k : Kept) → In k l → Right seen k) → Ascends (combinations l)
        → kept_after width step e b seen keeps l ≡ grown step e b seen keeps (sifted step e b seen keeps l)
    unfolding kept_after
    kept_after-grown l f a =
        ascends_unique (λ (k : Kept). k.combination) (kept_after width step e b seen keeps l) (grown step e b seen keeps small)
        (kept_after_ascends width step e b seen l a keeps)
        (grown_ascends step e b seen ob keeps small (sifted_right step e b seen ob keeps l f) (sifted_ascends step e b seen ob keeps l a))
        (λ x. (
          (λ i. elim ((in_append x new same).0 ((in_in_order (new ++ same) x).0 i)) [
            | inl j ↦
                let h = (in_keep_if keeps (moved width step e b seen l) x).0 j in
                from-moved x ((in_moved width step e b seen l x).0 h.0) h.1
            | inr j ↦ let h = (in_keep_if stays l x).0 j in (in_grown step e b seen ob keeps small x).1 (inl (from_kept x h.0 (not_of (includes x.combination b) h.1)))
          ]),
          (λ i. (in_in_order (new ++ same) x).1 ((in_append x new same).1 (elim ((in_grown step e b seen ob keeps small x).0 i) [
            | inl j ↦ to-rows x ((in_sifted step e b seen ob keeps l x).0 j)
            | inr g ↦ inl (to_created x g ((in_sifted step e b seen ob keeps l g.row).0 g.member))
          ]))),
        ))
      where
        small : List Kept
        small = sifted step e b seen keeps l

        new : List Kept
        new = keep_if keeps (moved width step e b seen l)

        same : List Kept
        same = keep_if stays l

        from_kept : (x : Kept) → In x l → in_place step e b seen x ≡ false → In x small
        from_kept x i h = (in_sifted step e b seen ob keeps l x).1 (record { row = x; member = i; remains = remains_out step e b seen ob keeps x h; is = sym (settled_out step e b seen ob keeps x h) })

        from-moved : (x : Kept) → Came width step e b seen l x → T (keeps x) → In x (grown step e b seen keeps small)
        from-moved x m t = elim (decided (in_place step e b seen m.row)) [
          | inl h ↦ (in_grown step e b seen ob keeps small x).1 (inl ((in_sifted step e b seen ob keeps l x).1 (record {
            row = m.row;
            member = m.member;
            remains = remains_in step e b seen ob keeps m.row h ∙ true_of (keeps (to m.row)) (rw m.is at t);
            is = m.is ∙ sym (settled_in step e b seen ob keeps m.row h);
          })))
          | inr h ↦ (in_grown step e b seen ob keeps small x).1 (inr (record {
            row = m.row;
            member = from_kept m.row m.member h;
            grows = grows_when step e b seen ob keeps m.row h m.moves (rw m.is at t);
            is = m.is;
          }))
        ]

        to-rows : (x : Kept) → Settles step e b seen ob keeps l x → In x new ⊎ In x same
        to-rows x s = elim (decided (in_place step e b seen s.row)) [
          | inl h ↦ inl (rw (s.is ∙ settled_in step e b seen ob keeps s.row h) ((in_keep_if keeps (moved width step e b seen l) (to s.row)).1 (
            (in_moved width step e b seen l (to s.row)).1 (record {
              row = s.row;
              member = s.member;
              moves = so (in_place_moves step e b seen ob s.row (f s.row s.member) h);
              is = refl;
            }),
            so (sym (remains_in step e b seen ob keeps s.row h) ∙ s.remains),
          )))
          | inr h ↦ inr (rw (s.is ∙ settled_out step e b seen ob keeps s.row h) ((in_keep_if stays l s.row).1 (s.member, of_not (includes s.row.combination b) (not_so h))))
        ]

        to_created : (x : Kept) (g : Grows step e b seen ob keeps small x) → Settles step e b seen ob keeps l g.row → In x new
        to_created x g s =
            let q = grows_of step e b seen ob keeps g.row g.grows in
            let c = creates_of step e b seen ob g.row q.0 in
            let o : in_place step e b seen s.row ≡ false =
            ap (λ (z : List ℕ). includes z b) (sym (ap (λ (k : Kept). k.combination) s.is ∙ settled-combination step e b seen ob keeps s.row)) ∙ c.0 in
            let r : g.row ≡ s.row = s.is ∙ settled_out step e b seen ob keeps s.row o in
            rw g.is ((in_keep_if keeps (moved width step e b seen l) (to g.row)).1 (
              (in_moved width step e b seen l (to g.row)).1 (record { row = g.row; member = rw r s.member; moves = c.1; is = refl }),
              q.1,
            ))
