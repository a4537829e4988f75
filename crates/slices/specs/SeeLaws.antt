-- "Then b is seen": what stands in the seen list after an event, in what order, and what the join of the seen bindings that a
-- combination includes becomes. Any width w, any list seen before.
-- Assumes nothing.
use Rattle.std.specs.Prelude.{ℕ, ◌≡◌, ◌⊎◌, ◌↔◌, Bool, true, false, ◌||◌, List, [], ◌∷◌, ◌++◌, length}
use Rattle.std.proofs.Common.{sym, ◌∙◌, inl, inr}
use Rattle.document.specs.Lists.{In, equal, among}
use Rattle.document.specs.Combinations.{empty_of, includes, join}
use Rattle.document.specs.OneEvent.{join_seen, insert_seen, see}
use Rattle.basics.specs.Tests.{decided}
use Rattle.slices.specs.TestsLaws.{so, not_so, or_of, of_or, equal_of, of_equal, among_of}
use Rattle.slices.specs.ListsLaws.{in_more, in_more_old, in_more_new}
use Rattle.slices.specs.OrderLaws.{Ascends, in_insert_seen, insert_seen_ascends}
use Rattle.slices.specs.JoinSeenLaws.{OfWidth, join_seen_same, join_seen-more_in, join_seen-more_out}

module _ (w : ℕ) (b : List ℕ) (seen : List (List ℕ)) where
  -- b is empty or seen already
  abbrev pub old : Bool
  old = equal b (empty_of w) || among b seen

  pub see-old : old ≡ true → see w b seen ≡ seen
  unfolding see
  see-old e = rw e

  pub see_new : old ≡ false → see w b seen ≡ insert_seen b seen
  unfolding see
  see_new e = rw e

  -- b is empty or one of the seen
  pub old_of : old ≡ true → (b ≡ empty_of w) ⊎ In b seen
  old_of e =
      elim (or_of (equal b (empty_of w)) (among b seen) (so e)) [
        | inl t ↦ inl (equal_of b (empty_of w) t)
        | inr t ↦ inr ((among_of b seen).0 t)
      ]

  new_bound : old ≡ false → b ≡ empty_of w → ⊥
  new_bound e q = not_so e (of_or (equal b (empty_of w)) (among b seen) (inl (of_equal b (empty_of w) q)))

  new_absent : old ≡ false → In b seen → ⊥
  new_absent e i = not_so e (of_or (equal b (empty_of w)) (among b seen) (inr ((among_of b seen).1 i)))

  -- what was seen, and b if it is not empty
  pub in_see : (x : List ℕ) → In x (see w b seen) ↔ (In x seen ⊎ ((x ≡ b) × (x ≡ empty_of w → ⊥)))
  in_see x =
      elim (decided old) [
        | inl e ↦ rw (see-old e) (
          inl,
          (λ s. elim s [
            | inl i ↦ i
            | inr f ↦ elim (old_of e) [ inl q ↦ absurd (f.1 (f.0 ∙ q)) | inr i ↦ rw f.0 i ]
          ]),
        )
        | inr e ↦ rw (see_new e) (
          (λ i. elim ((in_insert_seen b seen x).0 i) [ inl q ↦ inr (q, λ z. new_bound e (sym q ∙ z)) | inr j ↦ inl j ]),
          (λ s. (in_insert_seen b seen x).1 (elim s [ inl i ↦ inr i | inr f ↦ inl f.0 ])),
        )
      ]

  pub see_ascends : Ascends seen → Ascends (see w b seen)
  see_ascends a =
      elim (decided old) [
        | inl e ↦ rw (see-old e) a
        | inr e ↦ rw (see_new e) (insert_seen_ascends b seen a (new_absent e))
      ]

  -- Joins over what is seen then -------------------------------------------------------------------------------------------

  module _ (width : length b ≡ w) (widths : OfWidth w seen) where
    pub see-width : OfWidth w (see w b seen)
    see-width x i = elim ((in_see x).0 i) [ inl j ↦ widths x j | inr f ↦ rw f.0 width ]

    more-width : OfWidth w (seen ++ (b ∷ []))
    more-width x i = elim (in_more seen b x i) [ inl j ↦ widths x j | inr q ↦ rw q width ]

    -- as over the seen and b: the empty binding counts for nothing
    join_seen-see : (c : List ℕ) → length c ≡ w → join_seen w c (see w b seen) ≡ join_seen w c (seen ++ (b ∷ []))
    join_seen-see c o =
        join_seen_same w c (see w b seen) (seen ++ (b ∷ [])) o see-width more-width
        (λ x i. inr (elim ((in_see x).0 i) [ inl j ↦ in_more_old seen b x j | inr f ↦ rw f.0 (in_more_new seen b) ]))
        (λ x i. elim (in_more seen b x i) [
          | inl j ↦ inr ((in_see x).1 (inl j))
          | inr q ↦ elim (decided (equal x (empty_of w))) [
            | inl e ↦ inl (equal_of x (empty_of w) (so e))
            | inr e ↦ inr ((in_see x).1 (inr (q, λ z. not_so e (of_equal x (empty_of w) z))))
          ]
        ])

    pub join_seen-see_in : (c : List ℕ) → length c ≡ w → includes c b ≡ true → join_seen w c (see w b seen) ≡ join b (join_seen w c seen)
    join_seen-see_in c o e = join_seen-see c o ∙ join_seen-more_in w c seen b o more-width e

    pub join_seen-see_out : (c : List ℕ) → length c ≡ w → includes c b ≡ false → join_seen w c (see w b seen) ≡ join_seen w c seen
    join_seen-see_out c o e = join_seen-see c o ∙ join_seen-more_out w c seen b e
