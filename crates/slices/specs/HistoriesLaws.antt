-- Slices and made combinations over a history: the slice of c is that of the join of the bindings that c includes, and c is
-- made exactly if that join is c. Any width w.
-- Assumes nothing.
use Rattle.std.specs.Prelude.{ℕ, ◌≡◌, ◌↔◌, true, false, T, length}
use Rattle.std.proofs.Math.Path.{refl}
use Rattle.std.proofs.Common.{sym, ◌∙◌}
use Rattle.std.proofs.Math.Logic.{inl, inr}
use mathlib.Core.List.{List, [], ◌∷◌, ◌++◌}
use mathlib.Core.List as list
use Rattle.document.specs.Lists.{In, keep_if}
use Rattle.document.specs.Combinations.{includes, compatible, join}
use Rattle.document.specs.Histories.{Event, slice, AllCompatible, PairwiseCompatible, join_all, IsBinding, Made}
use Rattle.document.specs.OneEvent.{join_seen}
use Rattle.basics.specs.Tests.{decided}
use Rattle.slices.specs.TestsLaws.{same_test}
use Rattle.slices.specs.ListsLaws.{in_map, map_in, map_append, in_keep_if}
use Rattle.slices.specs.CombinationsLaws.{includes_trans, includes_antisym, includes_empty, join_includes_left, join_includes_right, includes-join, included_compatible, compatible_empty, compatible-join, length_empty, length-join}
use Rattle.slices.specs.JoinSeenLaws.{OfWidth, length-join_seen, includes-join_seen, join_seen-includes, join_seen-more_in, join_seen-more_out}

-- the bindings of the accepted events
abbrev pub bindings : List Event → List (List ℕ)
bindings H = list.map (λ (h : Event). h.binding) H

pub is_binding : (H : List Event) (b : List ℕ) → In b (bindings H) ↔ IsBinding H b
is_binding H b = (
  (λ i. let m = (in_map (λ (h : Event). h.binding) H b).0 i in record { event = m.of; accepted = m.member; is = sym m.is }),
  (λ m. (in_map (λ (h : Event). h.binding) H b).1 (record { of = m.event; member = m.accepted; is = sym m.is })),
)

-- Slices ---------------------------------------------------------------------------------------------------------------

pub slice_append : (c : List ℕ) (H G : List Event) → slice c (H ++ G) ≡ slice c H ++ slice c G
unfolding slice
slice_append c [] G = refl
slice_append c (h ∷ H) G =
    elim (decided (includes c h.binding)) [ inl e ↦ rw (e, slice_append c H G) | inr e ↦ rw (e, slice_append c H G) ]

slice_same : (c d : List ℕ) (H : List Event) → ((h : Event) → In h H → includes c h.binding ≡ includes d h.binding)
    → slice c H ≡ slice d H
unfolding slice
slice_same c d [] f = refl
slice_same c d (h ∷ H) f = rw (f h (inl refl), slice_same c d H (λ x i. f x (inr i)))

-- each number of a slice is that of an accepted event
pub in_slice : (c : List ℕ) (H : List Event) (e : ℕ) → In e (slice c H) → (h : Event) × In h H × (e ≡ h.event)
unfolding slice
in_slice c [] e i = absurd i
in_slice c (h ∷ H) e i =
    elim (decided (includes c h.binding)) [
      | inl q ↦ elim (rw q at i) [
        | inl r ↦ (h, inl refl, r)
        | inr j ↦ let m = in_slice c H e j in (m.0, inr m.1, m.2)
      ]
      | inr q ↦ let m = in_slice c H e (rw q at i) in (m.0, inr m.1, m.2)
    ]

-- Made -----------------------------------------------------------------------------------------------------------------

module _ (w : ℕ) where
  -- the join of all bindings that c includes
  abbrev pub join_of : List ℕ → List Event → List ℕ
  join_of c H = join_seen w c (bindings H)

  pub slice_join_of : (c : List ℕ) (H : List Event) → length c ≡ w → slice c H ≡ slice (join_of c H) H
  slice_join_of c H o =
      slice_same c (join_of c H) H (λ h i.
      same_test (includes c h.binding) (includes (join_of c H) h.binding)
      (join_seen-includes w c (bindings H) o h.binding (map_in (λ (x : Event). x.binding) H h i))
      (includes_trans c (join_of c H) h.binding (includes-join_seen w c (bindings H) o)))

  -- the join is that of the bindings that c includes, which are pairwise compatible
  join_seen-join_all : (c : List ℕ) (l : List (List ℕ)) → join_seen w c l ≡ join_all w (keep_if (includes c) l)
  unfolding join_seen keep_if
  join_seen-join_all c [] = refl
  join_seen-join_all c (b ∷ l) =
      elim (decided (includes c b)) [ inl e ↦ rw (e, join_seen-join_all c l) | inr e ↦ rw (e, join_seen-join_all c l) ]

  included_all : (c a : List ℕ) (l : List (List ℕ)) → T (includes c a) → ((b : List ℕ) → In b l → T (includes c b))
      → AllCompatible a l
  included_all c a [] t f = tt
  included_all c a (b ∷ l) t f = (included_compatible c a b t (f b (inl refl)), included_all c a l t (λ x i. f x (inr i)))

  included_pairwise : (c : List ℕ) (l : List (List ℕ)) → ((b : List ℕ) → In b l → T (includes c b)) → PairwiseCompatible l
  included_pairwise c [] f = tt
  included_pairwise c (b ∷ l) f =
      (included_all c b l (f b (inl refl)) (λ x i. f x (inr i)), included_pairwise c l (λ x i. f x (inr i)))

  pub join_of_made : (c : List ℕ) (H : List Event) → join_of c H ≡ c → Made w H c
  join_of_made c H e = record {
    bindings = keep_if (includes c) (bindings H);
    from = λ b i. (is_binding H b).0 ((in_keep_if (includes c) (bindings H) b).0 i).0;
    compatible = included_pairwise c (keep_if (includes c) (bindings H)) (λ b i. ((in_keep_if (includes c) (bindings H) b).0 i).1);
    is = sym e ∙ join_seen-join_all c (bindings H);
  }

  -- the other way: the join of pairwise compatible bindings includes each of them, and is the least that does
  compatible-join_all : (a : List ℕ) (l : List (List ℕ)) → length a ≡ w → AllCompatible a l → T (compatible a (join_all w l))
  compatible-join_all a [] o s = compatible_empty w a o
  compatible-join_all a (b ∷ l) o s = compatible-join a b (join_all w l) s.0 (compatible-join_all a l o s.1)

  length-join_all : (l : List (List ℕ)) → OfWidth w l → length (join_all w l) ≡ w
  length-join_all [] o = length_empty w
  length-join_all (b ∷ l) o = length-join w b (join_all w l) (o b (inl refl)) (length-join_all l (λ x i. o x (inr i)))

  join_all-includes : (l : List (List ℕ)) → OfWidth w l → PairwiseCompatible l → (b : List ℕ) → In b l
      → T (includes (join_all w l) b)
  join_all-includes [] o p b i = absurd i
  join_all-includes (a ∷ l) o p b i =
      let both : T (compatible a (join_all w l)) = compatible-join_all a l (o a (inl refl)) p.0 in
      elim i [
        | inl q ↦ rw q (join_includes_left a (join_all w l) both)
        | inr j ↦ includes_trans (join a (join_all w l)) (join_all w l) b (join_includes_right a (join_all w l) both)
            (join_all-includes l (λ x k. o x (inr k)) p.1 b j)
      ]

  includes-join_all : (c : List ℕ) (l : List (List ℕ)) → length c ≡ w → ((b : List ℕ) → In b l → T (includes c b))
      → T (includes c (join_all w l))
  includes-join_all c [] o f = includes_empty w c o
  includes-join_all c (b ∷ l) o f = includes-join c b (join_all w l) (f b (inl refl)) (includes-join_all c l o (λ x i. f x (inr i)))

  module _ (H : List Event) (o : OfWidth w (bindings H)) where
    from-width : (c : List ℕ) (m : Made w H c) → OfWidth w m.bindings
    from-width c m b i = o b ((is_binding H b).1 (m.from b i))

    pub length_made : (c : List ℕ) → Made w H c → length c ≡ w
    length_made c m = rw m.is (length-join_all m.bindings (from-width c m))

    pub made_join_of : (c : List ℕ) → Made w H c → join_of c H ≡ c
    made_join_of c m =
        let oc : length c ≡ w = length_made c m in
        let up : (b : List ℕ) → In b m.bindings → T (includes c b) =
        λ b i. rw m.is (join_all-includes m.bindings (from-width c m) m.compatible b i) in
        let t : T (includes (join_of c H) (join_all w m.bindings)) =
        includes-join_all (join_of c H) m.bindings (length-join_seen w c (bindings H) o)
        (λ b i. join_seen-includes w c (bindings H) oc b ((is_binding H b).1 (m.from b i)) (up b i)) in
        includes_antisym (join_of c H) c (rw (← m.is) at t) (includes-join_seen w c (bindings H) oc)

  -- One event more -----------------------------------------------------------------------------------------------------

  pub join_of_more_out : (c : List ℕ) (H : List Event) (h : Event) → includes c h.binding ≡ false
      → join_of c (H ++ (h ∷ [])) ≡ join_of c H
  join_of_more_out c H h e =
      rw (map_append (λ (x : Event). x.binding) H (h ∷ [])) (join_seen-more_out w c (bindings H) h.binding e)

  pub join_of_more_in : (c : List ℕ) (H : List Event) (h : Event) → length c ≡ w → OfWidth w (bindings (H ++ (h ∷ [])))
      → includes c h.binding ≡ true → join_of c (H ++ (h ∷ [])) ≡ join h.binding (join_of c H)
  join_of_more_in c H h oc o e =
      let q = map_append (λ (x : Event). x.binding) H (h ∷ []) in
      rw q (join_seen-more_in w c (bindings H) h.binding oc (rw q at o) e)
