-- Lists: members of an append, lists in which nothing stands twice, lists made by a rule, zeros, the part of a list at its
-- start whose members pass a test.
-- Assumes nothing.
use Rattle.std.specs.Prelude.{ℕ, zero, suc, ◌+◌, ◌<◌, ◌≤◌, ◌≡◌, refl, ◌⊎◌, ◌↔◌, Bool, List, [], ◌∷◌, ◌++◌, length, get_or, replicate, take}
use Rattle.std.proofs.Common.{ap, ap₂, inl, inr, arith}
use Rattle.document.specs.Lists.{In, tabulate, take_while}
use Rattle.basics.specs.Tests.{decided}

-- a member of the one or of the other
pub in_append : {A : Type 0} (a : A) (l m : List A) → In a (l ++ m) ↔ (In a l ⊎ In a m)
in_append a [] m = (inr, λ s. elim s [ inl h ↦ absurd h | inr h ↦ h ])
in_append a (x ∷ l) m = (
  λ s. elim s [ inl h ↦ inl (inl h) | inr h ↦ elim ((in_append a l m).0 h) [ inl k ↦ inl (inr k) | inr k ↦ inr k ] ],
  λ s. elim s [
    | inl h ↦ elim h [ inl k ↦ inl k | inr k ↦ inr ((in_append a l m).1 (inl k)) ]
    | inr h ↦ inr ((in_append a l m).1 (inr h))
  ],
)

-- nothing stands twice
abbrev pub Distinct : {A : Type 0} → List A → Type 0
Distinct [] = Unit {0}
Distinct (x ∷ l) = (In x l → ⊥) × Distinct l

-- Lists made by a rule -------------------------------------------------------------------------------------------------

pub length-tabulate : {A : Type 0} (n : ℕ) (f : ℕ → A) → length (tabulate n f) ≡ n
unfolding tabulate
length-tabulate zero f = refl
length-tabulate (suc n) f = ap suc (length-tabulate n (λ k. f (suc k)))

pub tabulate_at : {A : Type 0} (n : ℕ) (f : ℕ → A) (k : ℕ) (d : A) → k < n → get_or (tabulate n f) k d ≡ f k
unfolding tabulate
tabulate_at zero f k d h = absurd (omega arith)
tabulate_at (suc n) f zero d h = refl
tabulate_at (suc n) f (suc k) d h = tabulate_at n (λ j. f (suc j)) k d (omega arith)

pub tabulate-past : {A : Type 0} (n : ℕ) (f : ℕ → A) (k : ℕ) (d : A) → n ≤ k → get_or (tabulate n f) k d ≡ d
unfolding tabulate
tabulate-past zero f k d h = refl
tabulate-past (suc n) f zero d h = absurd (omega arith)
tabulate-past (suc n) f (suc k) d h = tabulate-past n (λ j. f (suc j)) k d (omega arith)

-- two rules that agree below n make the same list
pub tabulate_same : {A : Type 0} (n : ℕ) (f g : ℕ → A) → ((k : ℕ) → k < n → f k ≡ g k) → tabulate n f ≡ tabulate n g
unfolding tabulate
tabulate_same zero f g h = refl
tabulate_same (suc n) f g h =
    ap₂ ◌∷◌ (h 0 (omega arith)) (tabulate_same n (λ j. f (suc j)) (λ j. g (suc j)) (λ j l. h (suc j) (omega arith)))

-- one more stands at the end
pub tabulate-next : {A : Type 0} (n : ℕ) (f : ℕ → A) → tabulate (n + 1) f ≡ tabulate n f ++ (f n ∷ [])
unfolding tabulate
tabulate-next zero f = refl
tabulate-next (suc n) f =
    let z : suc n + 1 ≡ suc (n + 1) = omega arith in
    rw z (ap (λ l. f 0 ∷ l) (tabulate-next n (λ j. f (suc j))))

-- Zeros, and a number that is not there ----------------------------------------------------------------------------------

pub zero_at : (n k : ℕ) → ◌≡◌ {A = ℕ} (get_or (replicate n 0) k 0) 0
zero_at zero k = refl
zero_at (suc n) zero = refl
zero_at (suc n) (suc k) = zero_at n k

-- A run: the longest part at the start whose members pass ----------------------------------------------------------------

pub run_within : (p : ℕ → Bool) (l : List ℕ) → length (take_while p l) ≤ length l
unfolding take_while
run_within p [] = omega arith
run_within p (x ∷ l) = elim (decided (p x)) [
  | inl e ↦ rw (e, take_while) (let k = run_within p l in omega arith)
  | inr e ↦ rw (e, take_while) (omega arith)
]

pub run-part : (p : ℕ → Bool) (l : List ℕ) → take (length (take_while p l)) l ≡ take_while p l
unfolding take_while
run-part p [] = refl
run-part p (x ∷ l) = elim (decided (p x)) [
  | inl e ↦ rw (e, take_while) (ap (λ m. x ∷ m) (run-part p l))
  | inr e ↦ rw (e, take_while)
]
