-- More on the order of combinations: what a combination includes precedes it, and putting rows in order leaves as many.
-- Assumes nothing.
use Rattle.std.specs.Prelude.{ℕ, suc, ◌≡◌, refl, false, ◌||◌, List, [], ◌∷◌, T, eqb, length}
use Rattle.std.proofs.Common.{sym, ap, ap₂, subst, ◌∙◌, inl, inr, arith, eqb→eq}
use Rattle.document.specs.Combinations.{includes, precedes, compatible, join}
use Rattle.document.specs.OneEvent.{Kept, insert_kept, in_order}
use Rattle.basics.specs.Tests.{decided}
use Rattle.slices.specs.TestsLaws.{and_of, or_of, not_so}
use Rattle.slices.specs.OrderLaws.{of_precedes, less_same_more, insert_kept-after, insert_kept_here}
use Rattle.slices.specs.CombinationsLaws.{join_includes_left, join_includes_right}

-- what another combination includes precedes it
pub includes-precedes : (c k : List ℕ) → T (includes c k) → (c ≡ k → ⊥) → T (precedes k c)
unfolding includes precedes
includes-precedes [] [] t n = absurd (n refl)
includes-precedes [] (y ∷ k) t n = absurd t
includes-precedes (x ∷ c) [] t n = absurd t
includes-precedes (x ∷ c) (y ∷ k) t n =
    let h = and_of (eqb y 0 || eqb x y) (includes c k) t in
    of_precedes y x k c (
    elim (less_same_more y x) [
      | inl l ↦ inl l
      | inr s ↦ elim s [
        | inl q ↦ inr (q, includes-precedes c k h.1 (λ z. n (ap₂ ◌∷◌ (sym q) z)))
        | inr g ↦ absurd (elim (or_of (eqb y 0) (eqb x y) h.0) [
          | inl z ↦ let e = eqb→eq y 0 z in omega arith
          | inr z ↦ let e = eqb→eq x y z in omega arith
        ])
      ]
    ])

-- a combination that is created comes after the one that it came from
pub created_precedes : (b k : List ℕ) → T (compatible b k) → includes k b ≡ false → T (precedes k (join b k))
created_precedes b k t n =
    includes-precedes (join b k) k (join_includes_right b k t) (λ q.
    not_so n (subst (λ (c : List ℕ). T (includes c b)) q (join_includes_left b k t)))

pub length-insert_kept : (r : Kept) (l : List Kept) → length (insert_kept r l) ≡ suc (length l)
unfolding insert_kept
length-insert_kept r [] = refl
length-insert_kept r (x ∷ l) =
    elim (decided (precedes x.combination r.combination)) [
      | inl e ↦ rw (insert_kept-after r x l e) (ap suc (length-insert_kept r l))
      | inr e ↦ rw (insert_kept_here r x l e)
    ]

pub length-in_order : (l : List Kept) → length (in_order l) ≡ length l
unfolding in_order
length-in_order [] = refl
length-in_order (r ∷ l) = length-insert_kept r (in_order l) ∙ ap suc (length-in_order l)
