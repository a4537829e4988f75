-- The join of the bindings of a list that c includes: c includes it, it includes each of them, and it is the least that does.
-- So it depends on which bindings stand in the list only, the empty one apart. Any width w.
-- Assumes nothing.
use Rattle.std.specs.Prelude.{ℕ, ◌≡◌, refl, ◌⊎◌, true, false, length}
use Rattle.std.proofs.Math.Logic.{inl, inr}
use mathlib.Core.List.{List, [], ◌∷◌, ◌++◌}
use Rattle.std.proofs.Math.Dec.{T}
use Rattle.document.specs.Lists.{In}
use Rattle.document.specs.Combinations.{empty_of, includes, compatible, join}
use Rattle.document.specs.OneEvent.{join_seen}
use Rattle.basics.specs.Tests.{decided}
use Rattle.slices.specs.TestsLaws.{so, not_so}
use Rattle.slices.specs.ListsLaws.{in_more, in_more_old, in_more_new}
use Rattle.slices.specs.CombinationsLaws.{includes_trans, includes_antisym, includes_empty, join_includes_left, join_includes_right, includes-join, included_compatible, length_empty, length-join}

-- every binding of the list has the width w
abbrev pub OfWidth : ℕ → List (List ℕ) → Type 0
OfWidth w l = (b : List ℕ) → In b l → length b ≡ w

module _ (w : ℕ) where
  pub join_seen_in : (c b : List ℕ) (l : List (List ℕ)) → includes c b ≡ true → join_seen w c (b ∷ l) ≡ join b (join_seen w c l)
  unfolding join_seen
  join_seen_in c b l e = rw e

  pub join_seen_out : (c b : List ℕ) (l : List (List ℕ)) → includes c b ≡ false → join_seen w c (b ∷ l) ≡ join_seen w c l
  unfolding join_seen
  join_seen_out c b l e = rw e

  pub length-join_seen : (c : List ℕ) (l : List (List ℕ)) → OfWidth w l → length (join_seen w c l) ≡ w
  unfolding join_seen
  length-join_seen c [] o = length_empty w
  length-join_seen c (b ∷ l) o =
      let rest = length-join_seen c l (λ x i. o x (inr i)) in
      elim (decided (includes c b)) [
        | inl e ↦ rw (join_seen_in c b l e) (length-join w b (join_seen w c l) (o b (inl refl)) rest)
        | inr e ↦ rw (join_seen_out c b l e) rest
      ]

  -- c includes the join
  pub includes-join_seen : (c : List ℕ) (l : List (List ℕ)) → length c ≡ w → T (includes c (join_seen w c l))
  unfolding join_seen
  includes-join_seen c [] o = includes_empty w c o
  includes-join_seen c (b ∷ l) o =
      elim (decided (includes c b)) [
        | inl e ↦ rw (join_seen_in c b l e) (includes-join c b (join_seen w c l) (so e) (includes-join_seen c l o))
        | inr e ↦ rw (join_seen_out c b l e) (includes-join_seen c l o)
      ]

  -- the join includes each binding that c includes
  pub join_seen-includes : (c : List ℕ) (l : List (List ℕ)) → length c ≡ w → (x : List ℕ) → In x l → T (includes c x)
      → T (includes (join_seen w c l) x)
  join_seen-includes c [] o x i t = absurd i
  join_seen-includes c (b ∷ l) o x i t =
      elim (decided (includes c b)) [
        | inl e ↦ rw (join_seen_in c b l e) (
            let both : T (compatible b (join_seen w c l)) = included_compatible c b (join_seen w c l) (so e) (includes-join_seen c l o) in
            elim i [
              | inl q ↦ rw q (join_includes_left b (join_seen w c l) both)
              | inr j ↦
                  includes_trans (join b (join_seen w c l)) (join_seen w c l) x (join_includes_right b (join_seen w c l) both)
                  (join_seen-includes c l o x j t)
            ])
        | inr e ↦ rw (join_seen_out c b l e) (elim i [ inl q ↦ absurd (not_so e (rw q at t)) | inr j ↦ join_seen-includes c l o x j t ])
      ]

  -- and it is the least that does
  pub join_seen_least : (c d : List ℕ) (l : List (List ℕ)) → length d ≡ w
      → ((x : List ℕ) → In x l → T (includes c x) → T (includes d x)) → T (includes d (join_seen w c l))
  unfolding join_seen
  join_seen_least c d [] o f = includes_empty w d o
  join_seen_least c d (b ∷ l) o f =
      let rest : T (includes d (join_seen w c l)) = join_seen_least c d l o (λ x i. f x (inr i)) in
      elim (decided (includes c b)) [
        | inl e ↦ rw (join_seen_in c b l e) (includes-join d b (join_seen w c l) (f b (inl refl) (so e)) rest)
        | inr e ↦ rw (join_seen_out c b l e) rest
      ]

  -- the non-empty bindings of one list stand in the other: the join of the other includes that of the one
  join_seen_within : (c : List ℕ) (l m : List (List ℕ)) → length c ≡ w → OfWidth w m
      → ((x : List ℕ) → In x l → (x ≡ empty_of w) ⊎ In x m) → T (includes (join_seen w c m) (join_seen w c l))
  join_seen_within c l m o om f =
      join_seen_least c (join_seen w c m) l (length-join_seen c m om) (λ x i t. elim (f x i) [
        | inl q ↦ rw q (includes_empty w (join_seen w c m) (length-join_seen c m om))
        | inr j ↦ join_seen-includes c m o x j t
      ])

  pub join_seen_same : (c : List ℕ) (l m : List (List ℕ)) → length c ≡ w → OfWidth w l → OfWidth w m
      → ((x : List ℕ) → In x l → (x ≡ empty_of w) ⊎ In x m) → ((x : List ℕ) → In x m → (x ≡ empty_of w) ⊎ In x l)
      → join_seen w c l ≡ join_seen w c m
  join_seen_same c l m o ol om f g =
      includes_antisym (join_seen w c l) (join_seen w c m) (join_seen_within c m l o ol g) (join_seen_within c l m o om f)

  -- the join of what the join includes is the join
  pub join_seen_again : (c : List ℕ) (l : List (List ℕ)) → length c ≡ w → OfWidth w l
      → join_seen w (join_seen w c l) l ≡ join_seen w c l
  join_seen_again c l o ol =
      let k = join_seen w c l in
      let ok : length k ≡ w = length-join_seen c l ol in
      includes_antisym (join_seen w k l) k
      (join_seen_least c (join_seen w k l) l (length-join_seen k l ol) (λ x i t.
      join_seen-includes k l ok x i (join_seen-includes c l o x i t)))
      (includes-join_seen k l ok)

  -- one binding more
  pub join_seen-more_out : (c : List ℕ) (l : List (List ℕ)) (b : List ℕ) → includes c b ≡ false
      → join_seen w c (l ++ (b ∷ [])) ≡ join_seen w c l
  unfolding join_seen
  join_seen-more_out c [] b e = rw e
  join_seen-more_out c (x ∷ l) b e = rw (join_seen-more_out c l b e)

  pub join_seen-more_in : (c : List ℕ) (l : List (List ℕ)) (b : List ℕ) → length c ≡ w → OfWidth w (l ++ (b ∷ []))
      → includes c b ≡ true → join_seen w c (l ++ (b ∷ [])) ≡ join b (join_seen w c l)
  join_seen-more_in c l b o om e =
      let m = l ++ (b ∷ []) in
      let k = join_seen w c l in
      let ol : OfWidth w l = λ x i. om x (in_more_old l b x i) in
      let both : T (compatible b k) = included_compatible c b k (so e) (includes-join_seen c l o) in
      includes_antisym (join_seen w c m) (join b k)
      (includes-join (join_seen w c m) b k (join_seen-includes c m o b (in_more_new l b) (so e))
      (join_seen_least c (join_seen w c m) l (length-join_seen c m om) (λ x i t. join_seen-includes c m o x (in_more_old l b x i) t)))
      (join_seen_least c (join b k) m (length-join w b k (om b (in_more_new l b)) (length-join_seen c l ol)) (λ x i t.
      elim (in_more l b x i) [
        | inl j ↦ includes_trans (join b k) k x (join_includes_right b k both) (join_seen-includes c l o x j t)
        | inr q ↦ rw q (join_includes_left b k both)
      ]))
