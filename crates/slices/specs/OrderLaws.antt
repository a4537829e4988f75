-- The order of combinations: `precedes` is a strict order of all of them; an ascending list is determined by its members;
-- and rows put in order are the same rows, ascending if no combination stands twice.
-- Assumes nothing.
use Rattle.std.specs.Prelude.{ℕ, ◌<◌, ◌≡◌, refl, ◌⊎◌, ◌↔◌, true, false, ◌&&◌, List, [], ◌∷◌, T, eqb, ltb}
use Rattle.std.proofs.Common.{sym, ap₂, ◌∙◌, inl, inr, arith, eqb→eq, ltb→lt, lt→ltb}
use mathlib.Core.List as list
use Rattle.std.proofs.Math.Decide.{dec_lt}
use Rattle.document.specs.Lists.{In}
use Rattle.document.specs.Combinations.{precedes}
use Rattle.document.specs.OneEvent.{Kept, insert_kept, in_order, insert_seen}
use Rattle.document.specs.Session.{ascending}
use Rattle.basics.specs.Tests.{decided}
use Rattle.basics.specs.Lists.{Distinct}
use Rattle.slices.specs.TestsLaws.{so, not_so, true_of, and_of, of_and, or_of, of_or, of_eqb}
use Rattle.slices.specs.ListsLaws.{in_map, map_in}

-- The order ------------------------------------------------------------------------------------------------------------

pub precedes_of : (x y : ℕ) (a b : List ℕ) → T (precedes (x ∷ a) (y ∷ b)) → (x < y) ⊎ ((x ≡ y) × T (precedes a b))
unfolding precedes
precedes_of x y a b t =
    elim (or_of (ltb x y) (eqb x y && precedes a b) t) [
      | inl h ↦ inl (ltb→lt x y h)
      | inr h ↦ let p = and_of (eqb x y) (precedes a b) h in inr (eqb→eq x y p.0, p.1)
    ]

pub of_precedes : (x y : ℕ) (a b : List ℕ) → (x < y) ⊎ ((x ≡ y) × T (precedes a b)) → T (precedes (x ∷ a) (y ∷ b))
unfolding precedes
of_precedes x y a b (inl h) = of_or (ltb x y) (eqb x y && precedes a b) (inl (lt→ltb x y h))
of_precedes x y a b (inr h) =
    of_or (ltb x y) (eqb x y && precedes a b) (inr (of_and (eqb x y) (precedes a b) (of_eqb x y h.0) h.1))

pub precedes_irrefl : (a : List ℕ) → T (precedes a a) → ⊥
unfolding precedes
precedes_irrefl [] t = t
precedes_irrefl (x ∷ a) t = elim (precedes_of x x a a t) [ inl h ↦ omega arith | inr h ↦ precedes_irrefl a h.1 ]

pub precedes_trans : (a b c : List ℕ) → T (precedes a b) → T (precedes b c) → T (precedes a c)
unfolding precedes
precedes_trans [] [] c s t = absurd s
precedes_trans [] (y ∷ b) [] s t = absurd t
precedes_trans [] (y ∷ b) (z ∷ c) s t = tt
precedes_trans (x ∷ a) [] c s t = absurd s
precedes_trans (x ∷ a) (y ∷ b) [] s t = absurd t
precedes_trans (x ∷ a) (y ∷ b) (z ∷ c) s t =
    of_precedes x z a c (
    elim (precedes_of x y a b s) [
      | inl p ↦ elim (precedes_of y z b c t) [ inl q ↦ inl (omega arith) | inr q ↦ inl (omega arith) ]
      | inr p ↦ elim (precedes_of y z b c t) [
        | inl q ↦ inl (omega arith)
        | inr q ↦ inr (p.0 ∙ q.0, precedes_trans a b c p.1 q.1)
      ]
    ])

pub less_same_more : (x y : ℕ) → (x < y) ⊎ ((x ≡ y) ⊎ (y < x))
less_same_more x y =
    elim (dec_lt x y) [ yes h ↦ inl h | no h ↦ elim (dec_lt y x) [ yes k ↦ inr (inr k) | no k ↦ inr (inl (omega arith)) ] ]

pub precedes_or : (a b : List ℕ) → T (precedes a b) ⊎ ((a ≡ b) ⊎ T (precedes b a))
unfolding precedes
precedes_or [] [] = inr (inl refl)
precedes_or [] (y ∷ b) = inl tt
precedes_or (x ∷ a) [] = inr (inr tt)
precedes_or (x ∷ a) (y ∷ b) = go (less_same_more x y) (precedes_or a b)
  where
    go : (x < y) ⊎ ((x ≡ y) ⊎ (y < x)) → T (precedes a b) ⊎ ((a ≡ b) ⊎ T (precedes b a))
        → T (precedes (x ∷ a) (y ∷ b)) ⊎ (((x ∷ a) ≡ (y ∷ b)) ⊎ T (precedes (y ∷ b) (x ∷ a)))
    go (inl p) r = inl (of_precedes x y a b (inl p))
    go (inr (inl p)) (inl q) = inl (of_precedes x y a b (inr (p, q)))
    go (inr (inl p)) (inr (inl q)) = inr (inl (ap₂ ◌∷◌ p q))
    go (inr (inl p)) (inr (inr q)) = inr (inr (of_precedes y x b a (inr (sym p, q))))
    go (inr (inr p)) r = inr (inr (of_precedes y x b a (inl p)))

-- Ascending lists ------------------------------------------------------------------------------------------------------

-- each precedes all that come after it: `ascending` compares neighbours only
abbrev pub Ascends : List (List ℕ) → Type 0
Ascends [] = Unit {0}
Ascends (x ∷ l) = ((y : List ℕ) → In y l → T (precedes x y)) × Ascends l

pub ascending_of : (l : List (List ℕ)) → ascending l ≡ true → Ascends l
unfolding ascending
ascending_of l e = go l (so e)
  where
    go : (l : List (List ℕ)) → T (ascending l) → Ascends l
    go [] t = tt
    go (x ∷ []) t = ((λ y i. absurd i), tt)
    go (x ∷ y ∷ l) t =
        let h = and_of (precedes x y) (ascending (y ∷ l)) t in
        let rest : Ascends (y ∷ l) = go (y ∷ l) h.1 in
        ((λ z i. elim i [ inl q ↦ rw q h.0 | inr j ↦ precedes_trans x y z h.0 (rest.0 z j) ]), rest)

pub of_ascending : (l : List (List ℕ)) → Ascends l → ascending l ≡ true
unfolding ascending
of_ascending l a = true_of (ascending l) (go l a)
  where
    go : (l : List (List ℕ)) → Ascends l → T (ascending l)
    go [] a = tt
    go (x ∷ []) a = tt
    go (x ∷ y ∷ l) a = of_and (precedes x y) (ascending (y ∷ l)) (a.0 y (inl refl)) (go (y ∷ l) a.1)

pub ascends_distinct : (l : List (List ℕ)) → Ascends l → Distinct l
ascends_distinct [] a = tt
ascends_distinct (x ∷ l) a = ((λ i. precedes_irrefl x (a.0 x i)), ascends_distinct l a.1)

-- two lists with the same members that ascend by their combinations are one
pub ascends_unique : {A : Type 0} (f : A → List ℕ) (l m : List A) → Ascends (list.map f l) → Ascends (list.map f m)
    → ((x : A) → In x l ↔ In x m) → l ≡ m
ascends_unique f [] [] p q g = refl
ascends_unique f [] (y ∷ m) p q g = absurd ((g y).1 (inl refl))
ascends_unique f (x ∷ l) [] p q g = absurd ((g x).0 (inl refl))
ascends_unique f (x ∷ l) (y ∷ m) p q g =
    let e : x ≡ y = elim ((g x).0 (inl refl)) [
      | inl r ↦ r
      | inr i ↦ elim ((g y).1 (inl refl)) [
        | inl r ↦ sym r
        | inr k ↦
            let before : T (precedes (f x) (f y)) = p.0 (f y) (map_in f l y k) in
            let after : T (precedes (f y) (f x)) = q.0 (f x) (map_in f m x i) in
            absurd (precedes_irrefl (f x) (precedes_trans (f x) (f y) (f x) before after))
      ]
    ] in
    ap₂ ◌∷◌ e (ascends_unique f l m p.1 q.1 (λ z. (
      (λ i. elim ((g z).0 (inr i)) [
        | inl r ↦ absurd (precedes_irrefl (f x) (let t = p.0 (f z) (map_in f l z i) in rw (r ∙ sym e) at t))
        | inr k ↦ k
      ]),
      (λ i. elim ((g z).1 (inr i)) [
        | inl r ↦ absurd (precedes_irrefl (f y) (let t = q.0 (f z) (map_in f m z i) in rw (r ∙ e) at t))
        | inr k ↦ k
      ]),
    )))

-- Putting in order -----------------------------------------------------------------------------------------------------

-- one row put before or after the first
pub insert_seen-after : (b x : List ℕ) (l : List (List ℕ)) → precedes x b ≡ true → insert_seen b (x ∷ l) ≡ x ∷ insert_seen b l
unfolding insert_seen
insert_seen-after b x l e = rw (insert_seen, e)

pub insert_seen_here : (b x : List ℕ) (l : List (List ℕ)) → precedes x b ≡ false → insert_seen b (x ∷ l) ≡ b ∷ x ∷ l
unfolding insert_seen
insert_seen_here b x l e = rw (insert_seen, e)

pub insert_kept-after : (r x : Kept) (l : List Kept) → precedes x.combination r.combination ≡ true
    → insert_kept r (x ∷ l) ≡ x ∷ insert_kept r l
unfolding insert_kept
insert_kept-after r x l e = rw (insert_kept, e)

pub insert_kept_here : (r x : Kept) (l : List Kept) → precedes x.combination r.combination ≡ false
    → insert_kept r (x ∷ l) ≡ r ∷ x ∷ l
unfolding insert_kept
insert_kept_here r x l e = rw (insert_kept, e)

pub in_insert_seen : (b : List ℕ) (l : List (List ℕ)) (y : List ℕ) → In y (insert_seen b l) ↔ ((y ≡ b) ⊎ In y l)
unfolding insert_seen
in_insert_seen b [] y = ((λ i. i), (λ i. i))
in_insert_seen b (x ∷ l) y =
    elim (decided (precedes x b)) [
      | inl e ↦ rw (insert_seen-after b x l e) (
        (λ i. elim i [ inl q ↦ inr (inl q) | inr j ↦ elim ((in_insert_seen b l y).0 j) [ inl q ↦ inl q | inr k ↦ inr (inr k) ] ]),
        (λ i. elim i [
          | inl q ↦ inr ((in_insert_seen b l y).1 (inl q))
          | inr j ↦ elim j [ inl q ↦ inl q | inr k ↦ inr ((in_insert_seen b l y).1 (inr k)) ]
        ]),
      )
      | inr e ↦ rw (insert_seen_here b x l e) ((λ i. i), (λ i. i))
    ]

pub insert_seen_ascends : (b : List ℕ) (l : List (List ℕ)) → Ascends l → (In b l → ⊥) → Ascends (insert_seen b l)
unfolding insert_seen
insert_seen_ascends b [] a f = ((λ y i. absurd i), tt)
insert_seen_ascends b (x ∷ l) a f =
    elim (decided (precedes x b)) [
      | inl e ↦ rw (insert_seen-after b x l e) (
        (λ y i. elim ((in_insert_seen b l y).0 i) [ inl q ↦ rw q (so e) | inr k ↦ a.0 y k ]),
        insert_seen_ascends b l a.1 (λ i. f (inr i)),
      )
      | inr e ↦ rw (insert_seen_here b x l e) (
          let first : T (precedes b x) = elim (precedes_or x b) [
            | inl t ↦ absurd (not_so e t)
            | inr h ↦ elim h [ inl q ↦ absurd (f (inl (sym q))) | inr t ↦ t ]
          ] in
          ((λ y i. elim i [ inl q ↦ rw q first | inr k ↦ precedes_trans b x y first (a.0 y k) ]), a))
    ]

abbrev pub combinations : List Kept → List (List ℕ)
combinations l = list.map (λ (k : Kept). k.combination) l

-- rows of kept combinations go where their combinations go
pub insert_kept-combinations : (r : Kept) (l : List Kept) → combinations (insert_kept r l) ≡ insert_seen r.combination (combinations l)
unfolding insert_kept insert_seen
insert_kept-combinations r [] = refl
insert_kept-combinations r (x ∷ l) =
    elim (decided (precedes x.combination r.combination)) [
      | inl e ↦ rw (
        insert_kept-after r x l e,
        insert_seen-after r.combination x.combination (combinations l) e,
        insert_kept-combinations r l,
      )
      | inr e ↦ rw (insert_kept_here r x l e, insert_seen_here r.combination x.combination (combinations l) e)
    ]

pub in_insert_kept : (r : Kept) (l : List Kept) (y : Kept) → In y (insert_kept r l) ↔ ((y ≡ r) ⊎ In y l)
unfolding insert_kept
in_insert_kept r [] y = ((λ i. i), (λ i. i))
in_insert_kept r (x ∷ l) y =
    elim (decided (precedes x.combination r.combination)) [
      | inl e ↦ rw (insert_kept-after r x l e) (
        (λ i. elim i [ inl q ↦ inr (inl q) | inr j ↦ elim ((in_insert_kept r l y).0 j) [ inl q ↦ inl q | inr k ↦ inr (inr k) ] ]),
        (λ i. elim i [
          | inl q ↦ inr ((in_insert_kept r l y).1 (inl q))
          | inr j ↦ elim j [ inl q ↦ inl q | inr k ↦ inr ((in_insert_kept r l y).1 (inr k)) ]
        ]),
      )
      | inr e ↦ rw (insert_kept_here r x l e) ((λ i. i), (λ i. i))
    ]

pub in_in_order : (l : List Kept) (y : Kept) → In y (in_order l) ↔ In y l
unfolding in_order
in_in_order [] y = ((λ i. i), (λ i. i))
in_in_order (r ∷ l) y = (
  (λ i. elim ((in_insert_kept r (in_order l) y).0 i) [ inl q ↦ inl q | inr j ↦ inr ((in_in_order l y).0 j) ]),
  (λ i. (in_insert_kept r (in_order l) y).1 (elim i [ inl q ↦ inl q | inr j ↦ inr ((in_in_order l y).1 j) ])),
)

pub in_order_ascends : (l : List Kept) → Distinct (combinations l) → Ascends (combinations (in_order l))
unfolding in_order
in_order_ascends [] d = tt
in_order_ascends (r ∷ l) d =
    rw (insert_kept-combinations r (in_order l)) (
    insert_seen_ascends r.combination (combinations (in_order l)) (in_order_ascends l d.1) (λ i.
    let m = (in_map (λ (k : Kept). k.combination) (in_order l) r.combination).0 i in
    d.0 ((in_map (λ (k : Kept). k.combination) l r.combination).1
    (record { of = m.of; member = (in_in_order l m.of).0 m.member; is = m.is }))))
