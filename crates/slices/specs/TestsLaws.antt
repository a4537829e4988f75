-- Tests that compute, as statements: what `&&`, `||`, `not`, `equal`, `every` and `some_below` say when they hold.
-- Assumes nothing.
use Rattle.std.specs.Prelude.{ℕ, zero, suc, ◌<◌, ◌≡◌, refl, ◌⊎◌, ◌↔◌, Bool, true, false, not, ◌&&◌, ◌||◌, List, [], ◌∷◌, T, eqb}
use Rattle.std.proofs.Common.{sym, ap₂, subst, inl, inr, arith, eqb→eq}
use Rattle.std.proofs.Math.Decide.{ℕ_discrete}
use Rattle.std.proofs.Math.Dec.{eqb_refl}
use Rattle.document.specs.Lists.{In, every, every_below, some_below, equal, among, some}

-- a test holds or it does not
pub so : {b : Bool} → b ≡ true → T b
so e = subst T (sym e) tt

pub not_so : {b : Bool} → b ≡ false → T b → ⊥
not_so e t = subst T e t

pub true_of : (b : Bool) → T b → b ≡ true
true_of true t = refl
true_of false t = absurd t

pub false_of : (b : Bool) → (T b → ⊥) → b ≡ false
false_of true f = absurd (f tt)
false_of false f = refl

pub not_of : (b : Bool) → T (not b) → b ≡ false
not_of true t = absurd t
not_of false t = refl

pub of_not : (b : Bool) → (T b → ⊥) → T (not b)
of_not true f = f tt
of_not false f = tt

-- two tests that hold together are one
pub same_test : (a b : Bool) → (T a → T b) → (T b → T a) → a ≡ b
same_test true true f g = refl
same_test true false f g = absurd (f tt)
same_test false true f g = absurd (g tt)
same_test false false f g = refl

-- both, either
pub and_of : (a b : Bool) → T (a && b) → T a × T b
and_of true b t = (tt, t)
and_of false b t = absurd t

pub of_and : (a b : Bool) → T a → T b → T (a && b)
of_and true b s t = t
of_and false b s t = absurd s

pub or_of : (a b : Bool) → T (a || b) → T a ⊎ T b
or_of true b t = inl tt
or_of false b t = inr t

pub of_or : (a b : Bool) → T a ⊎ T b → T (a || b)
of_or true b t = tt
of_or false b (inl t) = absurd t
of_or false b (inr t) = t

-- the same number
pub of_eqb : (a b : ℕ) → a ≡ b → T (eqb a b)
of_eqb a b e = rw e (eqb_refl b)

-- the same list, one of the lists
pub equal_of : (a b : List ℕ) → T (equal a b) → a ≡ b
unfolding equal
equal_of [] [] t = refl
equal_of [] (y ∷ b) t = absurd t
equal_of (x ∷ a) [] t = absurd t
equal_of (x ∷ a) (y ∷ b) t =
    let h = and_of (eqb x y) (equal a b) t in
    ap₂ ◌∷◌ (eqb→eq x y h.0) (equal_of a b h.1)

equal-refl : (a : List ℕ) → T (equal a a)
unfolding equal
equal-refl [] = tt
equal-refl (x ∷ a) = of_and (eqb x x) (equal a a) (eqb_refl x) (equal-refl a)

pub of_equal : (a b : List ℕ) → a ≡ b → T (equal a b)
of_equal a b e = rw e (equal-refl b)

pub among_of : (x : List ℕ) (l : List (List ℕ)) → T (among x l) ↔ In x l
unfolding among some
among_of x [] = ((λ t. t), (λ i. i))
among_of x (y ∷ l) = (
  (λ t. elim (or_of (equal x y) (some (equal x) l) t) [ inl h ↦ inl (equal_of x y h) | inr h ↦ inr ((among_of x l).0 h) ]),
  (λ i. of_or (equal x y) (some (equal x) l) (elim i [ inl h ↦ inl (of_equal x y h) | inr h ↦ inr ((among_of x l).1 h) ])),
)

-- every member of a list, every number and some number below a bound
pub of_every : {A : Type 0} (p : A → Bool) (l : List A) → ((x : A) → In x l → T (p x)) → T (every p l)
unfolding every
of_every p [] f = tt
of_every p (x ∷ l) f = of_and (p x) (every p l) (f x (inl refl)) (of_every p l (λ y i. f y (inr i)))

pub every_of : {A : Type 0} (p : A → Bool) (l : List A) → T (every p l) → (x : A) → In x l → T (p x)
unfolding every
every_of p [] t x i = absurd i
every_of p (y ∷ l) t x i =
    let h = and_of (p y) (every p l) t in
    elim i [ inl q ↦ rw q h.0 | inr j ↦ every_of p l h.1 x j ]

pub every_below_of : (n : ℕ) (p : ℕ → Bool) → T (every_below n p) → (k : ℕ) → k < n → T (p k)
unfolding every_below
every_below_of zero p t k h = absurd (omega arith)
every_below_of (suc n) p t k h =
    let both = and_of (p n) (every_below n p) t in
    elim (ℕ_discrete k n) [
      | yes e ↦ rw e both.0
      | no e ↦ every_below_of n p both.1 k (omega arith)
    ]

pub of_every_below : (n : ℕ) (p : ℕ → Bool) → ((k : ℕ) → k < n → T (p k)) → T (every_below n p)
unfolding every_below
of_every_below zero p f = tt
of_every_below (suc n) p f = of_and (p n) (every_below n p) (f n (omega arith)) (of_every_below n p (λ k h. f k (omega arith)))

pub some_below_of : (n : ℕ) (p : ℕ → Bool) → T (some_below n p) → (k : ℕ) × (k < n) × T (p k)
unfolding some_below
some_below_of zero p t = absurd t
some_below_of (suc n) p t =
    elim (or_of (p n) (some_below n p) t) [
      | inl h ↦ (n, omega arith, h)
      | inr h ↦ let k = some_below_of n p h in (k.0, omega arith, k.2)
    ]

pub of_some_below : (n : ℕ) (p : ℕ → Bool) (k : ℕ) → k < n → T (p k) → T (some_below n p)
unfolding some_below
of_some_below zero p k h t = absurd (omega arith)
of_some_below (suc n) p k h t =
    of_or (p n) (some_below n p) (elim (ℕ_discrete k n) [
      | yes e ↦ inl (rw e at t)
      | no e ↦ inr (of_some_below n p k (omega arith) t)
    ])
