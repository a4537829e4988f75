-- The laws of combinations: `includes` is an order, and `join` the least combination that includes both where two are
-- compatible. Each law is proved number by number first. No width is fixed; where one matters, a length says so.
-- Assumes nothing.
use Rattle.std.specs.Prelude.{ℕ, zero, suc, ◌≡◌, refl, ◌⊎◌, cond, ◌||◌, List, [], ◌∷◌, T, eqb, length}
use Rattle.std.proofs.Common.{sym, ap, ap₂, subst, ◌∙◌, inl, inr, arith, eqb→eq}
use Rattle.std.proofs.lemmas.List.{length-replicate}
use Rattle.document.specs.Combinations.{empty_of, includes, compatible, join, zero_past}
use Rattle.basics.specs.Tests.{decided}
use Rattle.slices.specs.TestsLaws.{so, not_so, and_of, of_and, or_of, of_or, of_eqb}

-- Number by number -----------------------------------------------------------------------------------------------------

-- x includes y; x and y are compatible; the number that binds what either binds
abbrev Includes : ℕ → ℕ → Type 0
Includes x y = (y ≡ 0) ⊎ (x ≡ y)

abbrev Compatible : ℕ → ℕ → Type 0
Compatible x y = (x ≡ 0) ⊎ ((y ≡ 0) ⊎ (x ≡ y))

abbrev joined : ℕ → ℕ → ℕ
joined x y = cond (eqb x 0) y x

joined_of : (x y : ℕ) → ((x ≡ 0) × (joined x y ≡ y)) ⊎ ((x ≡ 0 → ⊥) × (joined x y ≡ x))
joined_of x y = elim (decided (eqb x 0)) [ inl e ↦ inl (eqb→eq x 0 (so e), rw e) | inr e ↦ inr ((λ q. not_so e (of_eqb x 0 q)), rw e) ]

-- what holds of both holds of the joined
joined_has : (P : ℕ → Type 0) (x y : ℕ) → P x → P y → P (joined x y)
joined_has P x y s t = elim (joined_of x y) [ inl h ↦ subst P (sym h.1) t | inr h ↦ subst P (sym h.1) s ]

trans₁ : (x y z : ℕ) → Includes x y → Includes y z → Includes x z
trans₁ x y z (inl p) (inl q) = inl q
trans₁ x y z (inl p) (inr q) = inl (omega arith)
trans₁ x y z (inr p) (inl q) = inl q
trans₁ x y z (inr p) (inr q) = inr (p ∙ q)

antisym₁ : (x y : ℕ) → Includes x y → Includes y x → x ≡ y
antisym₁ x y (inl p) (inl q) = omega arith
antisym₁ x y (inl p) (inr q) = sym q
antisym₁ x y (inr p) q = p

left₁ : (x y : ℕ) → Includes (joined x y) x
left₁ x y = elim (joined_of x y) [ inl h ↦ inl h.0 | inr h ↦ inr h.1 ]

right₁ : (x y : ℕ) → Compatible x y → Includes (joined x y) y
right₁ x y t = go (joined_of x y) t
  where
    go : ((x ≡ 0) × (joined x y ≡ y)) ⊎ ((x ≡ 0 → ⊥) × (joined x y ≡ x)) → Compatible x y → Includes (joined x y) y
    go (inl p) q = inr p.1
    go (inr p) (inl q) = absurd (p.0 q)
    go (inr p) (inr (inl q)) = inl q
    go (inr p) (inr (inr q)) = inr (p.1 ∙ q)

upper₁ : (z x y : ℕ) → Includes z x → Includes z y → Compatible x y
upper₁ z x y (inl p) q = inl p
upper₁ z x y (inr p) (inl q) = inr (inl q)
upper₁ z x y (inr p) (inr q) = inr (inr (sym p ∙ q))

-- One number more ------------------------------------------------------------------------------------------------------

includes_of : (x y : ℕ) (c b : List ℕ) → T (includes (x ∷ c) (y ∷ b)) → Includes x y × T (includes c b)
unfolding includes
includes_of x y c b t =
    let h = and_of (eqb y 0 || eqb x y) (includes c b) t in
    (elim (or_of (eqb y 0) (eqb x y) h.0) [ inl p ↦ inl (eqb→eq y 0 p) | inr p ↦ inr (eqb→eq x y p) ], h.1)

of_includes : (x y : ℕ) (c b : List ℕ) → Includes x y → T (includes c b) → T (includes (x ∷ c) (y ∷ b))
unfolding includes
of_includes x y c b h t =
    of_and (eqb y 0 || eqb x y) (includes c b)
    (of_or (eqb y 0) (eqb x y) (elim h [ inl p ↦ inl (of_eqb y 0 p) | inr p ↦ inr (of_eqb x y p) ])) t

compatible_of : (x y : ℕ) (c b : List ℕ) → T (compatible (x ∷ c) (y ∷ b)) → Compatible x y × T (compatible c b)
unfolding compatible
compatible_of x y c b t =
    let h = and_of (eqb x 0 || eqb y 0 || eqb x y) (compatible c b) t in (
      elim (or_of (eqb x 0 || eqb y 0) (eqb x y) h.0) [
        | inl k ↦ elim (or_of (eqb x 0) (eqb y 0) k) [ inl p ↦ inl (eqb→eq x 0 p) | inr p ↦ inr (inl (eqb→eq y 0 p)) ]
        | inr p ↦ inr (inr (eqb→eq x y p))
      ],
      h.1,
    )

of_compatible : (x y : ℕ) (c b : List ℕ) → Compatible x y → T (compatible c b) → T (compatible (x ∷ c) (y ∷ b))
unfolding compatible
of_compatible x y c b h t = of_and (eqb x 0 || eqb y 0 || eqb x y) (compatible c b) (go h) t
  where
    go : Compatible x y → T (eqb x 0 || eqb y 0 || eqb x y)
    go (inl p) = of_or (eqb x 0 || eqb y 0) (eqb x y) (inl (of_or (eqb x 0) (eqb y 0) (inl (of_eqb x 0 p))))
    go (inr (inl p)) = of_or (eqb x 0 || eqb y 0) (eqb x y) (inl (of_or (eqb x 0) (eqb y 0) (inr (of_eqb y 0 p))))
    go (inr (inr p)) = of_or (eqb x 0 || eqb y 0) (eqb x y) (inr (of_eqb x y p))

-- Combinations ---------------------------------------------------------------------------------------------------------

pub includes_refl : (c : List ℕ) → T (includes c c)
unfolding includes
includes_refl [] = tt
includes_refl (x ∷ c) = of_includes x x c c (inr refl) (includes_refl c)

pub includes_trans : (c b a : List ℕ) → T (includes c b) → T (includes b a) → T (includes c a)
unfolding includes
includes_trans [] [] a s t = t
includes_trans [] (y ∷ b) a s t = absurd s
includes_trans (x ∷ c) [] a s t = absurd s
includes_trans (x ∷ c) (y ∷ b) [] s t = absurd t
includes_trans (x ∷ c) (y ∷ b) (z ∷ a) s t =
    let p = includes_of x y c b s in
    let q = includes_of y z b a t in
    of_includes x z c a (trans₁ x y z p.0 q.0) (includes_trans c b a p.1 q.1)

pub includes_antisym : (a b : List ℕ) → T (includes a b) → T (includes b a) → a ≡ b
unfolding includes
includes_antisym [] [] s t = refl
includes_antisym [] (y ∷ b) s t = absurd s
includes_antisym (x ∷ a) [] s t = absurd s
includes_antisym (x ∷ a) (y ∷ b) s t =
    let p = includes_of x y a b s in
    let q = includes_of y x b a t in
    ap₂ ◌∷◌ (antisym₁ x y p.0 q.0) (includes_antisym a b p.1 q.1)

pub includes_empty : (w : ℕ) (c : List ℕ) → length c ≡ w → T (includes c (empty_of w))
unfolding includes
includes_empty w c o = rw (← o) (go c)
  where
    go : (c : List ℕ) → T (includes c (empty_of (length c)))
    go [] = tt
    go (x ∷ c) = of_includes x 0 c (empty_of (length c)) (inl refl) (go c)

pub join_includes_left : (a b : List ℕ) → T (compatible a b) → T (includes (join a b) a)
unfolding includes compatible join
join_includes_left [] [] t = tt
join_includes_left [] (y ∷ b) t = absurd t
join_includes_left (x ∷ a) [] t = absurd t
join_includes_left (x ∷ a) (y ∷ b) t =
    of_includes (joined x y) x (join a b) a (left₁ x y) (join_includes_left a b (compatible_of x y a b t).1)

pub join_includes_right : (a b : List ℕ) → T (compatible a b) → T (includes (join a b) b)
unfolding includes compatible join
join_includes_right [] [] t = tt
join_includes_right [] (y ∷ b) t = absurd t
join_includes_right (x ∷ a) [] t = absurd t
join_includes_right (x ∷ a) (y ∷ b) t =
    let h = compatible_of x y a b t in
    of_includes (joined x y) y (join a b) b (right₁ x y h.0) (join_includes_right a b h.1)

-- the join is the least that includes both
pub includes-join : (c a b : List ℕ) → T (includes c a) → T (includes c b) → T (includes c (join a b))
unfolding includes join
includes-join [] [] b s t = t
includes-join [] (x ∷ a) b s t = absurd s
includes-join (z ∷ c) [] b s t = absurd s
includes-join (z ∷ c) (x ∷ a) [] s t = absurd t
includes-join (z ∷ c) (x ∷ a) (y ∷ b) s t =
    let p = includes_of z x c a s in
    let q = includes_of z y c b t in
    of_includes z (joined x y) c (join a b) (joined_has (λ k. Includes z k) x y p.0 q.0) (includes-join c a b p.1 q.1)

-- two that one combination includes are compatible
pub included_compatible : (c a b : List ℕ) → T (includes c a) → T (includes c b) → T (compatible a b)
unfolding includes compatible
included_compatible [] [] [] s t = tt
included_compatible [] [] (y ∷ b) s t = absurd t
included_compatible [] (x ∷ a) b s t = absurd s
included_compatible (z ∷ c) [] b s t = absurd s
included_compatible (z ∷ c) (x ∷ a) [] s t = absurd t
included_compatible (z ∷ c) (x ∷ a) (y ∷ b) s t =
    let p = includes_of z x c a s in
    let q = includes_of z y c b t in
    of_compatible x y a b (upper₁ z x y p.0 q.0) (included_compatible c a b p.1 q.1)

pub compatible_empty : (w : ℕ) (a : List ℕ) → length a ≡ w → T (compatible a (empty_of w))
compatible_empty w a o = included_compatible a a (empty_of w) (includes_refl a) (includes_empty w a o)

-- the join with what a combination includes is that combination
pub join_included : (c b : List ℕ) → T (includes c b) → join b c ≡ c
join_included c b t =
    includes_antisym (join b c) c (join_includes_right b c (included_compatible c b c t (includes_refl c)))
    (includes-join c b c t (includes_refl c))

pub compatible-join : (a b c : List ℕ) → T (compatible a b) → T (compatible a c) → T (compatible a (join b c))
unfolding compatible join
compatible-join [] [] c s t = t
compatible-join [] (y ∷ b) c s t = absurd s
compatible-join (x ∷ a) [] c s t = absurd s
compatible-join (x ∷ a) (y ∷ b) [] s t = absurd t
compatible-join (x ∷ a) (y ∷ b) (z ∷ c) s t =
    let p = compatible_of x y a b s in
    let q = compatible_of x z a c t in
    of_compatible x (joined y z) a (join b c) (joined_has (λ k. Compatible x k) y z p.0 q.0) (compatible-join a b c p.1 q.1)

-- The width, and the numbers past the parameters ------------------------------------------------------------------------

pub length_empty : (w : ℕ) → length (empty_of w) ≡ w
length_empty w = length-replicate w 0

pub length-join : (w : ℕ) (a b : List ℕ) → length a ≡ w → length b ≡ w → length (join a b) ≡ w
unfolding join
length-join w [] b p q = q
length-join w (x ∷ a) [] p q = p
length-join w (x ∷ a) (y ∷ b) p q = ap suc (length-join (length a) a b refl (omega arith)) ∙ p

pub zero_past_empty : (n w : ℕ) → T (zero_past n (empty_of w))
unfolding zero_past
zero_past_empty n zero = tt
zero_past_empty zero (suc w) = of_and (eqb 0 0) (zero_past zero (empty_of w)) tt (zero_past_empty zero w)
zero_past_empty (suc n) (suc w) = zero_past_empty n w

pub zero_past-join : (n : ℕ) (a b : List ℕ) → T (zero_past n a) → T (zero_past n b) → T (zero_past n (join a b))
unfolding zero_past join
zero_past-join n [] b s t = t
zero_past-join n (x ∷ a) [] s t = s
zero_past-join zero (x ∷ a) (y ∷ b) s t =
    let p = and_of (eqb x 0) (zero_past zero a) s in
    let q = and_of (eqb y 0) (zero_past zero b) t in
    of_and (eqb (joined x y) 0) (zero_past zero (join a b))
    (joined_has (λ k. T (eqb k 0)) x y p.0 q.0) (zero_past-join zero a b p.1 q.1)
zero_past-join (suc n) (x ∷ a) (y ∷ b) s t = zero_past-join n a b s t
