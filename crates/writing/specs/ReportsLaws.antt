-- What document 01 reports, with one kept row more.
-- Assumes nothing.
use Rattle.std.specs.Prelude.{ℕ, ◌≡◌, Bool, true, ◌&&◌, length}
use Rattle.std.proofs.Math.Path.{ap}
use Rattle.std.proofs.Common.{subst, ◌∙◌}
use Rattle.std.proofs.Math.Logic.{inl, inr}
use Rattle.std.proofs.Math.Bool.{false}
use mathlib.Core.List.{List, [], ◌∷◌, ◌++◌}
use mathlib.Core.List as list
use Rattle.document.specs.Lists.{cons_if, keep_if}
use Rattle.document.specs.Limits.{width}
use Rattle.document.specs.OneEvent.{Kept, insert_kept, in_order, moves, moved_from, moved, reports_after}
use Rattle.basics.specs.Tests.{decided}
use Rattle.basics.specs.Lists.{Distinct}
use Rattle.slices.specs.TestsLaws.{so, true_of, and_of}
use Rattle.slices.specs.ListsLaws.{keep_if_distinct, keep_if_append}
use Rattle.slices.specs.OrderLaws.{Ascends, combinations}
use Rattle.slices.specs.MovesLaws.{moved_distinct}
use Rattle.tables.specs.OrderLaws.{in_order-more}
use Rattle.moves.specs.MovesLaws.{moved_more}
use Rattle.writing.specs.Writing.{reported_by}

module _ (step : ℕ → ℕ → ℕ) (e : ℕ) (b : List ℕ) (seen : List (List ℕ)) (ob : length b ≡ width) where
  abbrev may : Kept → Bool
  may k = moves width step e b seen k

  abbrev to : Kept → Kept
  to k = moved_from width step e b seen k

  module _ (keeps : Kept → Bool) where
    abbrev reports : List Kept → List Kept
    reports l = reports_after width step e b seen keeps l

    reports_out : (l : List Kept) (k : Kept) → (may k && keeps (to k)) ≡ false → reports (l ++ (k ∷ [])) ≡ reports l
    unfolding reports_after keep_if
    reports_out l k h =
        rw (moved_more step e b seen ob l k, keep_if_append keeps (moved width step e b seen l) (cons_if (may k) (to k) []))
        (elim (decided (may k)) [
          | inl m ↦ let t : keeps (to k) ≡ false = rw m at h in rw (m, t, list.append-nil)
          | inr m ↦ rw (m, list.append-nil)
        ])

    reports_in : (l : List Kept) (k : Kept) → Ascends (combinations (l ++ (k ∷ []))) → (may k && keeps (to k)) ≡ true → reports (l ++ (k ∷ [])) ≡ insert_kept (to k) (reports l)
    unfolding reports_after keep_if
    reports_in l k a h =
        let f = and_of (may k) (keeps (to k)) (so h) in
        let m = true_of (may k) f.0 in
        let t = true_of (keeps (to k)) f.1 in
        let q : keep_if keeps (moved width step e b seen (l ++ (k ∷ []))) ≡ keep_if keeps (moved width step e b seen l) ++ (to k ∷ []) =
        rw (moved_more step e b seen ob l k, keep_if_append keeps (moved width step e b seen l) (cons_if (may k) (to k) []), m, t) in
        ap in_order q ∙ in_order-more (keep_if keeps (moved width step e b seen l)) (to k)
        (subst (λ (z : List Kept). Distinct (combinations z)) q (keep_if_distinct (λ (r : Kept). r.combination) keeps (moved width step e b seen (l ++ (k ∷ []))) (moved_distinct width step e b seen (l ++ (k ∷ [])) a)))

    pub reports-more : (l : List Kept) (k : Kept) → Ascends (combinations (l ++ (k ∷ []))) → reports (l ++ (k ∷ [])) ≡ reported_by step e b seen keeps k (reports l)
    unfolding reported_by
    reports-more l k a = elim (decided (may k && keeps (to k))) [ inl h ↦ rw h (reports_in l k a h) | inr h ↦ rw h (reports_out l k h) ]
