-- Laws of sets as the bits of numbers: what a union, a common part and a set of one number hold; two sets that hold the
-- same numbers are the same number; what a set has in common with a union and with a set of one.
-- Assumes nothing.
use Rattle.std.specs.Prelude.{ℕ, ◌*◌, ◌%◌, ◌^◌, ◌<◌, ◌≡◌, refl, Bool, true, false, not, ◌||◌, ◌&&◌, eqb}
use Rattle.std.proofs.Common.{arith, one-mul, mod-eq_of_lt, sym, ap, ◌∙◌, inl, inr, eq-eqb, ne_eqb, eqb-true}
use Rattle.std.proofs.Math.Decide.{ℕ_discrete}
use Rattle.std.proofs.Math.Bool.{or-true, and-false}
use Rattle.std.specs.Int.Bits.{bit_or, bit_and, and_zero_l}
use Rattle.std.proofs.Math.Pow.{pow-lt}
use Rattle.std.proofs.lemmas.Bool.{not-false}
use Rattle.document.specs.Positions.{holds}
use Rattle.basics.specs.Tests.{decided}
use Rattle.basics.specs.Sets.{holds_or, holds-and, holds-zero, holds_pow_same, holds_pow_other, holds_none}
use Rattle.bits.specs.Bits.{meets}

-- what a set has in common with the empty set, with a union, and with a set of one number
pub meets-zero : (c : ℕ) → meets 0 c ≡ false
meets-zero c = ap (λ (x : ℕ). not (eqb x 0)) (and_zero_l c)

pub meets_at : (a b k : ℕ) → holds a k ≡ true → holds b k ≡ true → meets a b ≡ true
meets_at a b k p q = ap not (ne_eqb (bit_and a b) 0 (λ (z : bit_and a b ≡ 0).
    let e : holds (bit_and a b) k ≡ true = rw (holds-and a b k, p, q) in
    let f : holds 0 k ≡ true = rw z at e in
    let g = holds-zero k in
    let y : ◌≡◌ {A = ℕ} 0 1 = cc in omega arith))

pub meets_none : (a b : ℕ) → ((k : ℕ) → holds a k && holds b k ≡ false) → meets a b ≡ false
meets_none a b h = ap not (eq-eqb (bit_and a b) 0 (holds_none (bit_and a b) (λ k. holds-and a b k ∙ h k)))

meets_or_false : (a b c : ℕ) → meets a c ≡ false → meets b c ≡ false → meets (bit_or a b) c ≡ false
meets_or_false a b c p q =
    let x : bit_and a c ≡ 0 = eqb-true (bit_and a c) 0 (not-false (eqb (bit_and a c) 0) p) in
    let y : bit_and b c ≡ 0 = eqb-true (bit_and b c) 0 (not-false (eqb (bit_and b c) 0) q) in
    meets_none (bit_or a b) c (λ k.
    let f : holds a k && holds c k ≡ false = sym (holds-and a c k) ∙ ap (λ (x : ℕ). holds x k) x ∙ holds-zero k in
    let g : holds b k && holds c k ≡ false = sym (holds-and b c k) ∙ ap (λ (x : ℕ). holds x k) y ∙ holds-zero k in
    ap (λ (t : Bool). t && holds c k) (holds_or a b k) ∙ neither (holds a k) (holds b k) (holds c k) f g)
  where
    neither : (x y z : Bool) → x && z ≡ false → y && z ≡ false → (x || y) && z ≡ false
    neither true y z p q = p
    neither false y z p q = q

-- where two sets meet, and where one of them is a part of another
meets_where : (a b c : ℕ) → meets a c ≡ true → ((k : ℕ) → holds a k ≡ true → holds b k ≡ true) → meets b c ≡ true
meets_where a b c p h = elim (decided (meets b c)) [
  | inl e ↦ e
  | inr e ↦
      let y : bit_and b c ≡ 0 = eqb-true (bit_and b c) 0 (not-false (eqb (bit_and b c) 0) e) in
      let z : meets a c ≡ false = meets_none a c (λ k. part (holds a k) (holds b k) (holds c k) (h k) (sym (holds-and b c k) ∙ ap (λ (x : ℕ). holds x k) y ∙ holds-zero k)) in
      e ∙ sym z ∙ p
]
  where
    part : (x y z : Bool) → (x ≡ true → y ≡ true) → y && z ≡ false → x && z ≡ false
    part true y z f g = let e = f refl in rw e at g
    part false y z f g = refl

pub meets_or : (a b c : ℕ) → meets (bit_or a b) c ≡ meets a c || meets b c
meets_or a b c = elim (decided (meets a c)) [
  | inl e ↦ rw e (meets_where a (bit_or a b) c e (λ k h. holds_or a b k ∙ ap (λ (t : Bool). t || holds b k) h))
  | inr e ↦ rw e (elim (decided (meets b c)) [
    | inl f ↦ rw f (meets_where b (bit_or a b) c f (λ k h. holds_or a b k ∙ ap (λ (t : Bool). holds a k || t) h ∙ or-true (holds a k)))
    | inr f ↦ rw f (meets_or_false a b c e f)
  ])
]

pub meets_pow : (n c : ℕ) → meets (2 ^ n) c ≡ holds c n
meets_pow n c = elim (decided (holds c n)) [
  | inl e ↦ meets_at (2 ^ n) c n (holds_pow_same n) e ∙ sym e
  | inr e ↦ meets_none (2 ^ n) c (λ k. elim (ℕ_discrete k n) [
    | yes q ↦ rw (q, e) (and-false (holds (2 ^ n) n))
    | no q ↦ ap (λ (t : Bool). t && holds c k) (holds_pow_other n k q)
  ]) ∙ sym e
]

-- a shifted 1 is a set of one number
pub shifted_one : (n k : ℕ) → k < n → 1 * 2 ^ k % 2 ^ n ≡ 2 ^ k
shifted_one n k h = simp one-mul (mod-eq_of_lt (pow-lt h))
