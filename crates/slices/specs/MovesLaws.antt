-- One event over the kept rows, whatever the seen rows are and wherever they come from: which rows move, what is kept and
-- reported in terms of them, and that both ascend where the kept rows do. Any width, transitions and tests.
-- Assumes nothing.
use Rattle.std.specs.Prelude.{ℕ, ◌≤◌, ◌≡◌, ◌⊎◌, ◌↔◌, Bool, false, not, length}
use Rattle.std.proofs.Math.Path.{refl}
use Rattle.std.proofs.Common.{sym, ap, ◌∙◌}
use Rattle.std.proofs.Math.Logic.{inl, inr}
use mathlib.Core.List.{List, [], ◌∷◌, ◌++◌}
use mathlib.Core.List as list
use native.Mathlib.Omega.{arith}
use Rattle.std.proofs.Math.Dec.{T}
use Rattle.std.proofs.Math.ListN.{length-map}
use Rattle.document.specs.Lists.{In, keep_if, equal}
use Rattle.document.specs.Combinations.{includes, compatible, join}
use Rattle.document.specs.OneEvent.{Kept, join_seen, moves, moved_from, moved, kept_after, reports_after}
use Rattle.basics.specs.Lists.{in_append, Distinct}
use Rattle.slices.specs.TestsLaws.{not_so, not_of, of_not, and_of, of_and, equal_of, of_equal}
use Rattle.slices.specs.ListsLaws.{in_keep_if, length-keep_if, in_map, map_append, append_distinct, keep_if_distinct, map_distinct}
use Rattle.slices.specs.CombinationsLaws.{join_includes_left}
use Rattle.slices.specs.OrderLaws.{Ascends, ascends_distinct, combinations, in_in_order, in_order_ascends}
use Rattle.slices.specs.AscendingLaws.{length-in_order}

abbrev combination : Kept → List ℕ
combination k = k.combination

-- w the width, step the transitions, e the event and b its binding, seen the rows seen before it
module _ (w : ℕ) (step : ℕ → ℕ → ℕ) (e : ℕ) (b : List ℕ) (seen : List (List ℕ)) where
  abbrev may : Kept → Bool
  may k = moves w step e b seen k

  abbrev to : Kept → Kept
  to k = moved_from w step e b seen k

  abbrev stays : Kept → Bool
  stays k = not (includes k.combination b)

  -- Which rows move --------------------------------------------------------------------------------------------------------

  pub moves_of : (k : Kept) → T (moves w step e b seen k)
      → T (compatible b k.combination) × (join_seen w (join b k.combination) seen ≡ k.combination)
  unfolding moves
  moves_of k t =
      let c = join b k.combination in
      let f = and_of (compatible b k.combination) (equal (join_seen w c seen) k.combination) t in
      (f.0, equal_of (join_seen w c seen) k.combination f.1)

  pub of_moves : (k : Kept) → T (compatible b k.combination) → join_seen w (join b k.combination) seen ≡ k.combination
      → T (moves w step e b seen k)
  unfolding moves
  of_moves k t q =
      let c = join b k.combination in
      of_and (compatible b k.combination) (equal (join_seen w c seen) k.combination) t
      (of_equal (join_seen w c seen) k.combination q)

  -- two rows that move to one combination are one combination's
  pub moves_apart : (x y : Kept) → T (moves w step e b seen x) → T (moves w step e b seen y)
      → join b x.combination ≡ join b y.combination → x.combination ≡ y.combination
  moves_apart x y s t q = sym (moves_of x s).1 ∙ ap (λ (c : List ℕ). join_seen w c seen) q ∙ (moves_of y t).1

  -- the kept row from which a row moved
  pub record Came (kept : List Kept) (r : Kept) : Type 0 where
    pub row : Kept
    pub member : In row kept
    pub moves : T (moves w step e b seen row)
    pub is : r ≡ moved_from w step e b seen row

  module _ (kept : List Kept) where
    abbrev moved_rows : List Kept
    moved_rows = moved w step e b seen kept

    pub in_moved : (r : Kept) → In r (moved w step e b seen kept) ↔ Came kept r
    unfolding moved
    in_moved r = (
      (λ i.
          let m = (in_map to (keep_if may kept) r).0 i in
          let f = (in_keep_if may kept m.of).0 m.member in
          record { row = m.of; member = f.0; moves = f.1; is = m.is }),
      (λ c. (in_map to (keep_if may kept) r).1
          (record { of = c.row; member = (in_keep_if may kept c.row).1 (c.member, c.moves); is = c.is })),
    )

    -- a row that moved includes the event's values
    pub moved-includes : (r : Kept) → In r (moved w step e b seen kept) → T (includes r.combination b)
    unfolding moved_from
    moved-includes r i =
        let c = (in_moved r).0 i in
        rw c.is (join_includes_left b c.row.combination (moves_of c.row c.moves).0)

    -- What is reported and kept ----------------------------------------------------------------------------------------------

    pub reports_after_members : (reported : Kept → Bool) (r : Kept)
        → In r (reports_after w step e b seen reported kept) ↔ (In r (moved w step e b seen kept) × T (reported r))
    unfolding reports_after
    reports_after_members reported r = (
      (λ i. (in_keep_if reported moved_rows r).0 ((in_in_order (keep_if reported moved_rows) r).0 i)),
      (λ f. (in_in_order (keep_if reported moved_rows) r).1 ((in_keep_if reported moved_rows r).1 f)),
    )

    pub kept_after_members : (keeps : Kept → Bool) (r : Kept) → In r (kept_after w step e b seen keeps kept)
        ↔ ((In r (moved w step e b seen kept) × T (keeps r)) ⊎ (In r kept × (includes r.combination b ≡ false)))
    unfolding kept_after
    kept_after_members keeps r =
        let new = keep_if keeps moved_rows in
        let same = keep_if stays kept in
        let here = includes r.combination b in (
          (λ i. elim ((in_append r new same).0 ((in_in_order (new ++ same) r).0 i)) [
            | inl j ↦ inl ((in_keep_if keeps moved_rows r).0 j)
            | inr j ↦ let f = (in_keep_if stays kept r).0 j in inr (f.0, not_of here f.1)
          ]),
          (λ s. (in_in_order (new ++ same) r).1 ((in_append r new same).1 (elim s [
            | inl f ↦ inl ((in_keep_if keeps moved_rows r).1 f)
            | inr f ↦ inr ((in_keep_if stays kept r).1 (f.0, of_not here (not_so f.1)))
          ]))),
        )

    -- no more are reported than rows were kept
    pub length-reports_after : (reported : Kept → Bool) → length (reports_after w step e b seen reported kept) ≤ length kept
    unfolding reports_after moved
    length-reports_after reported =
        let all = length-in_order (keep_if reported moved_rows) in
        let some = length-keep_if reported moved_rows in
        let came = length-map (keep_if may kept) to in
        let from = length-keep_if may kept in
        omega arith

    -- Each once, in order ----------------------------------------------------------------------------------------------------

    module _ (order : Ascends (combinations kept)) where
      -- the combinations that rows move to
      moved-combinations : (l : List Kept) → combinations (list.map to l) ≡ list.map (λ (k : Kept). join b k.combination) l
      unfolding moved_from
      moved-combinations [] = refl
      moved-combinations (k ∷ l) = rw (moved-combinations l)

      pub moved_distinct : Distinct (combinations (moved w step e b seen kept))
      unfolding moved
      moved_distinct =
          rw (moved-combinations (keep_if may kept)) (
          map_distinct combination (λ (k : Kept). join b k.combination) (keep_if may kept)
          (λ x y i j q. moves_apart x y ((in_keep_if may kept x).0 i).1 ((in_keep_if may kept y).0 j).1 q)
          (keep_if_distinct combination may kept (ascends_distinct (combinations kept) order)))

      pub reports_after_ascends : (reported : Kept → Bool) → Ascends (combinations (reports_after w step e b seen reported kept))
      unfolding reports_after
      reports_after_ascends reported =
          in_order_ascends (keep_if reported moved_rows) (keep_if_distinct combination reported moved_rows moved_distinct)

      pub kept_after_ascends : (keeps : Kept → Bool) → Ascends (combinations (kept_after w step e b seen keeps kept))
      unfolding kept_after
      kept_after_ascends keeps =
          let new = keep_if keeps moved_rows in
          let same = keep_if stays kept in
          in_order_ascends (new ++ same) (rw (map_append combination new same) (
          append_distinct (combinations new) (combinations same) (keep_if_distinct combination keeps moved_rows moved_distinct)
          (keep_if_distinct combination stays kept (ascends_distinct (combinations kept) order))
          (λ x i j.
          let m = (in_map combination new x).0 i in
          let n = (in_map combination same x).0 j in
          let t : T (includes m.of.combination b) = moved-includes m.of ((in_keep_if keeps moved_rows m.of).0 m.member).0 in
          not_so (not_of (includes n.of.combination b) ((in_keep_if stays kept n.of).0 n.member).1)
          (rw (sym m.is ∙ n.is) at t))))
