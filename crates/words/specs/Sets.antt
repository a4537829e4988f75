-- Document 01, "The table": sets of numbers as the bits of a number. What a set holds, for each way in which sets are made;
-- a set is 0 exactly where it holds nothing.
-- Assumes nothing.
use Rattle.std.specs.Prelude.{ℕ, zero, suc, ◌/◌, ◌%◌, ◌^◌, ◌≤◌, ◌≡◌, refl, ◌⊎◌, Bool, true, false, cond, ◌||◌, ◌&&◌, eqb}
use Rattle.std.proofs.Common.{arith, sym, ◌∙◌, inl, inr, ⊎_elim, true≢false, eqb-true}
use Rattle.std.specs.Int.Bits.{bit_or, bit_and}
use Rattle.std.proofs.lemmas.Bool.{eqb-false}
use Rattle.document.specs.Positions.{holds}
use Rattle.basics.specs.Tests.{both}
use Rattle.basics.specs.Sets.{holds_or, holds-and, holds_pow_other, holds_half, holds_pow_same, holds-zero}

-- the set s holds the number p
abbrev pub Has : ℕ → ℕ → Type 0
Has s p = holds s p ≡ true

-- ---- tests
pub or_cases : (a b : Bool) → a || b ≡ true → (a ≡ true) ⊎ (b ≡ true)
or_cases true b h = inl refl
or_cases false b h = inr h

pub or_left : (a b : Bool) → a ≡ true → a || b ≡ true
or_left a b h = rw h refl

pub or_right : (a b : Bool) → b ≡ true → a || b ≡ true
or_right true b h = refl
or_right false b h = h

pub and_both : (a b : Bool) → a ≡ true → b ≡ true → a && b ≡ true
and_both a b h k = rw (h, k) refl

-- ---- a set of one number
pub one_has : (q p : ℕ) → Has (2 ^ q) p → p ≡ q
one_has q p h = go (eqb p q) refl
  where
    go : (t : Bool) → eqb p q ≡ t → p ≡ q
    go true e = eqb-true p q e
    go false e = absurd (true≢false (sym h ∙ holds_pow_other q p (eqb-false p q e)))

pub has_one : (q p : ℕ) → p ≡ q → Has (2 ^ q) p
has_one q p e = rw e (holds_pow_same q)

-- ---- no number, a union, an intersection
pub none_has : (p : ℕ) → Has 0 p → ⊥
none_has p h = true≢false (sym h ∙ holds-zero p)

pub or_has : (a b p : ℕ) → Has (bit_or a b) p → Has a p ⊎ Has b p
or_has a b p h = or_cases (holds a p) (holds b p) (sym (holds_or a b p) ∙ h)

pub has_or_left : (a b p : ℕ) → Has a p → Has (bit_or a b) p
has_or_left a b p h = holds_or a b p ∙ or_left (holds a p) (holds b p) h

pub has_or_right : (a b p : ℕ) → Has b p → Has (bit_or a b) p
has_or_right a b p h = holds_or a b p ∙ or_right (holds a p) (holds b p) h

pub and_has : (a b p : ℕ) → Has (bit_and a b) p → Has a p × Has b p
and_has a b p h = both (holds a p) (holds b p) (sym (holds-and a b p) ∙ h)

pub has_and : (a b p : ℕ) → Has a p → Has b p → Has (bit_and a b) p
has_and a b p h k = holds-and a b p ∙ and_both (holds a p) (holds b p) h k

-- ---- a set that is taken only where a test holds
pub guarded_has : (t : Bool) (a p : ℕ) → Has (cond t a 0) p → (t ≡ true) × Has a p
guarded_has true a p h = (refl, h)
guarded_has false a p h = absurd (none_has p h)

pub has_guarded : (t : Bool) (a p : ℕ) → t ≡ true → Has a p → Has (cond t a 0) p
has_guarded t a p e h = rw e h

-- a, and b too where the test holds
pub with_right_has : (t : Bool) (a b p : ℕ) → Has (cond t (bit_or a b) a) p → Has a p ⊎ ((t ≡ true) × Has b p)
with_right_has true a b p h = ⊎_elim inl (λ x. inr (refl, x)) (or_has a b p h)
with_right_has false a b p h = inl h

pub has_with_right : (t : Bool) (a b p : ℕ) → Has a p ⊎ ((t ≡ true) × Has b p) → Has (cond t (bit_or a b) a) p
has_with_right true a b p h = ⊎_elim (has_or_left a b p) (λ x. has_or_right a b p x.1) h
has_with_right false a b p h = ⊎_elim (λ x. x) (λ x. absurd (true≢false (sym x.0))) h

-- b, and a too where the test holds
pub with_left_has : (t : Bool) (a b p : ℕ) → Has (cond t (bit_or a b) b) p → Has b p ⊎ ((t ≡ true) × Has a p)
with_left_has true a b p h = ⊎_elim (λ x. inr (refl, x)) inl (or_has a b p h)
with_left_has false a b p h = inl h

pub has_with_left : (t : Bool) (a b p : ℕ) → Has b p ⊎ ((t ≡ true) × Has a p) → Has (cond t (bit_or a b) b) p
has_with_left true a b p h = ⊎_elim (has_or_right a b p) (λ x. has_or_left a b p x.1) h
has_with_left false a b p h = ⊎_elim (λ x. x) (λ x. absurd (true≢false (sym x.0))) h

-- ---- a set that is not 0 holds a number
member_within : (n s : ℕ) → s ≤ n → (s ≡ 0 → ⊥) → (p : ℕ) × Has s p
member_within zero s l h = absurd (h (omega arith))
member_within (suc n) s l h = go (eqb (s % 2) 1) refl (member_within n (s / 2) (omega arith))
  where
    go : (t : Bool) → eqb (s % 2) 1 ≡ t → ((s / 2 ≡ 0 → ⊥) → (p : ℕ) × Has (s / 2) p) → (p : ℕ) × Has s p
    go true e ih = let z : s / 1 ≡ s = omega arith in (0, rw z e)
    go false e ih =
        let odd : (s % 2 ≡ 1 → ⊥) = eqb-false (s % 2) 1 e in
        let g = ih (λ (z : s / 2 ≡ 0). h (omega arith)) in
        (suc g.0, sym (holds_half s g.0) ∙ g.1)

pub member : (s : ℕ) → (s ≡ 0 → ⊥) → (p : ℕ) × Has s p
member s h = member_within s s (omega arith) h

pub empty : (s : ℕ) → ((p : ℕ) → Has s p → ⊥) → s ≡ 0
empty s h = go (eqb s 0) refl
  where
    go : (t : Bool) → eqb s 0 ≡ t → s ≡ 0
    go true e = eqb-true s 0 e
    go false e = let g = member s (eqb-false s 0 e) in absurd (h g.0 g.1)

pub start_has : (p : ℕ) → Has 1 p → p ≡ 0
start_has p h = one_has 0 p h

pub has_start : Has 1 0
has_start = refl
