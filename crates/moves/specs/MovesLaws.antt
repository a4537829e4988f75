-- Laws of the rows that move at an event: a row that includes the binding moves in place, a binding that is not new creates
-- nothing, and two rows never move to one combination. Any transitions; seen rows as a list.
-- Assumes nothing.
use Rattle.std.specs.Prelude.{ℕ, ◌≡◌, refl, Bool, true, false, ◌||◌}
use Rattle.std.proofs.Common.{subst}
use Rattle.std.proofs.Math.Logic.{inl, inr}
use mathlib.Core.List.{List, [], ◌∷◌, ◌++◌}
use Rattle.std.proofs.Math.Dec.{T}
use Rattle.std.proofs.Math.ListN.{length}
use Rattle.document.specs.Lists.{cons_if, keep_if, equal, among}
use Rattle.document.specs.Limits.{width}
use Rattle.document.specs.Combinations.{empty_of, includes, compatible, join}
use Rattle.document.specs.OneEvent.{Kept, join_seen, moves, moved_from, moved}
use Rattle.basics.specs.Tests.{decided}
use Rattle.slices.specs.TestsLaws.{so, not_so, true_of, false_of, of_not, or_of, equal_of, of_equal, among_of}
use Rattle.slices.specs.ListsLaws.{map_append, keep_if_append}
use Rattle.slices.specs.CombinationsLaws.{includes_refl, includes_empty, join_includes_left, included_compatible, length-join, join_included}
use Rattle.slices.specs.JoinSeenLaws.{join_seen-includes}
use Rattle.slices.specs.MovesLaws.{moves_of}
use Rattle.moves.specs.Steps.{is_new, in_place}
use Rattle.moves.specs.Ready.{Right}

module _ (step : ℕ → ℕ → ℕ) (e : ℕ) (b : List ℕ) (seen : List (List ℕ)) (ob : length b ≡ width) where
  abbrev may : Kept → Bool
  may k = moves width step e b seen k

  abbrev to : Kept → Kept
  to k = moved_from width step e b seen k

  -- a combination that includes b is its join with b
  pub in_place_join : (k : Kept) → in_place step e b seen k ≡ true → join b k.combination ≡ k.combination
  in_place_join k h = join_included k.combination b (so h)

  -- so its row moves in place
  pub in_place_moves : (k : Kept) → Right seen k → in_place step e b seen k ≡ true → moves width step e b seen k ≡ true
  unfolding moves
  in_place_moves k r h =
      let c = k.combination in
      let cm = true_of (compatible b c) (included_compatible c b c (so h) (includes_refl c)) in
      rw (in_place_join k h, cm, r.joins) (true_of (equal c c) (of_equal c c refl))

  -- a binding that is empty or seen creates nothing
  pub old-moves : (k : Kept) → length k.combination ≡ width → is_new b seen ≡ false → in_place step e b seen k ≡ false → moves width step e b seen k ≡ false
  unfolding is_new
  old-moves k o n h =
      false_of (moves width step e b seen k) (λ t.
      let c = join b k.combination in
      let m = moves_of width step e b seen k t in
      let i = join_includes_left b k.combination m.0 in
      let oc : length c ≡ width = length-join width b k.combination ob o in
      let old : T (equal b (empty_of width) || among b seen) = elim (decided (equal b (empty_of width) || among b seen)) [
        | inl z ↦ so z
        | inr z ↦ absurd (not_so n (of_not (equal b (empty_of width) || among b seen) (not_so z)))
      ] in
      elim (or_of (equal b (empty_of width)) (among b seen) old) [
        | inl z ↦ not_so h (rw (equal_of b (empty_of width) z) (includes_empty width k.combination o))
        | inr z ↦ not_so h (subst (λ (l : List ℕ). T (includes l b)) m.1 (join_seen-includes width c seen oc b ((among_of b seen).0 z) i))
      ])

  -- the row that it moves from is the join of the seen rows that it includes: no other row moves to it
  pub to_joins : (k : Kept) → T (may k) → join_seen width (to k).combination seen ≡ k.combination
  unfolding moved_from
  to_joins k t = (moves_of width step e b seen k t).1

  -- one kept row more
  pub moved_more : (l : List Kept) (k : Kept) → moved width step e b seen (l ++ (k ∷ [])) ≡ moved width step e b seen l ++ cons_if (may k) (to k) []
  unfolding moved keep_if
  moved_more l k =
      rw (keep_if_append may l (k ∷ []), map_append to (keep_if may l) (cons_if (may k) k []))
      (elim (decided (may k)) [ inl h ↦ rw h | inr h ↦ rw h ])
