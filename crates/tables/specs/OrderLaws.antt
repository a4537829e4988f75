-- Laws of kept rows in the order of their combinations: one row more is put in.
-- Assumes nothing.
use Rattle.std.specs.Prelude.{ℕ, ◌≡◌, List, [], ◌∷◌, ◌++◌}
use Rattle.std.proofs.Common.{sym, inl, inr}
use Rattle.document.specs.Lists.{In}
use Rattle.document.specs.OneEvent.{Kept, insert_kept, in_order}
use Rattle.basics.specs.Lists.{in_append, Distinct}
use Rattle.slices.specs.ListsLaws.{in_more, in_map, map_append}
use Rattle.slices.specs.OrderLaws.{Ascends, combinations, insert_seen_ascends, insert_kept-combinations, in_insert_kept, in_in_order, in_order_ascends, ascends_unique}

-- Order ----------------------------------------------------------------------------------------------------------------

pub insert_kept_ascends : (r : Kept) (l : List Kept) → Ascends (combinations l) → (In r.combination (combinations l) → ⊥) → Ascends (combinations (insert_kept r l))
insert_kept_ascends r l a f = rw (insert_kept-combinations r l) (insert_seen_ascends r.combination (combinations l) a f)

-- Lists with one row more ----------------------------------------------------------------------------------------------

distinct_more : {A : Type 0} (l : List A) (x : A) → Distinct (l ++ (x ∷ [])) → Distinct l × (In x l → ⊥)
distinct_more [] x d = (tt, λ i. i)
distinct_more (y ∷ l) x d =
    let r = distinct_more l x d.1 in (
      ((λ i. d.0 ((in_append y l (x ∷ [])).1 (inl i))), r.0),
      (λ i. elim i [ inl q ↦ d.0 ((in_append y l (x ∷ [])).1 (inr (inl (sym q)))) | inr j ↦ r.1 j ]),
    )

pub in_order-more : (l : List Kept) (r : Kept) → Distinct (combinations (l ++ (r ∷ []))) → in_order (l ++ (r ∷ [])) ≡ insert_kept r (in_order l)
in_order-more l r d =
    let comb : Kept → List ℕ = λ k. k.combination in
    let f = distinct_more (combinations l) r.combination (rw (map_append comb l (r ∷ [])) at d) in
    ascends_unique (λ (k : Kept). k.combination) (in_order (l ++ (r ∷ []))) (insert_kept r (in_order l))
    (in_order_ascends (l ++ (r ∷ [])) d)
    (insert_kept_ascends r (in_order l) (in_order_ascends l f.0) (λ i.
    let m = (in_map comb (in_order l) r.combination).0 i in
    f.1 ((in_map comb l r.combination).1 (record { of = m.of; member = (in_in_order l m.of).0 m.member; is = m.is }))))
    (λ x. (
      (λ i. (in_insert_kept r (in_order l) x).1 (elim (in_more l r x ((in_in_order (l ++ (r ∷ [])) x).0 i)) [ inl j ↦ inr ((in_in_order l x).1 j) | inr q ↦ inl q ])),
      (λ i. (in_in_order (l ++ (r ∷ [])) x).1 ((in_append x l (r ∷ [])).1 (elim ((in_insert_kept r (in_order l) x).0 i) [
        | inl q ↦ inr (inl q)
        | inr j ↦ inl ((in_in_order l x).0 j)
      ]))),
    ))

-- the beginnings of an ascending list ascend, and its ends
pub ascends_front : (l m : List (List ℕ)) → Ascends (l ++ m) → Ascends l
ascends_front [] m a = tt
ascends_front (x ∷ l) m a = ((λ y i. a.0 y ((in_append y l m).1 (inl i))), ascends_front l m a.1)

pub ascends_back : (l m : List (List ℕ)) → Ascends (l ++ m) → Ascends m
ascends_back [] m a = a
ascends_back (x ∷ l) m a = ascends_back l m a.1
