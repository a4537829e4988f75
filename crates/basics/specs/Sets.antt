-- Document 01, "The table": sets of numbers as the bits of a number. What a union, a common part and a set of one number hold;
-- two sets that hold the same numbers are the same number.
-- Assumes nothing.
use Rattle.std.specs.Prelude.{ℕ, zero, suc, ◌+◌, ◌-◌, ◌/◌, ◌%◌, ◌^◌, ◌<◌, ◌≤◌, ◌≡◌, refl, Bool, true, false, ◌||◌, ◌&&◌, eqb, ltb}
use Rattle.std.proofs.Common.{sym, ap, ◌∙◌, arith, mod-lt, zero-lt-suc, pow-suc, div-add-mod', div-one, pow-add, pow_pos, shr-shr, ltb-true, ltb-false}
use Rattle.std.proofs.Math.Nat.{mul-mod_left, div-eq_of_lt, two-pow-succ}
use Rattle.std.specs.Int.Bits.{bit_or, bit_and}
use Rattle.std.proofs.lemmas.Nat.{or_shr, or_mod, and_shr, and_mod, shl-shr}
use Rattle.std.proofs.Math.Pow.{pow-lt}
use Rattle.document.specs.Positions.{holds}

-- a bit is 0 or 1
pub bit_small : (x : ℕ) → x % 2 < 2
bit_small x = mod-lt x (zero-lt-suc 1)

or_small : (x y : ℕ) → x < 2 → y < 2 → eqb (bit_or x y) 1 ≡ eqb x 1 || eqb y 1
or_small zero zero h k = refl
or_small zero (suc zero) h k = refl
or_small zero (suc (suc y)) h k = absurd (omega arith)
or_small (suc zero) zero h k = refl
or_small (suc zero) (suc zero) h k = refl
or_small (suc zero) (suc (suc y)) h k = absurd (omega arith)
or_small (suc (suc x)) y h k = absurd (omega arith)

and_small : (x y : ℕ) → x < 2 → y < 2 → eqb (bit_and x y) 1 ≡ eqb x 1 && eqb y 1
and_small zero zero h k = refl
and_small zero (suc zero) h k = refl
and_small zero (suc (suc y)) h k = absurd (omega arith)
and_small (suc zero) zero h k = refl
and_small (suc zero) (suc zero) h k = refl
and_small (suc zero) (suc (suc y)) h k = absurd (omega arith)
and_small (suc (suc x)) y h k = absurd (omega arith)

-- a union holds what either holds
pub holds_or : (a b k : ℕ) → holds (bit_or a b) k ≡ holds a k || holds b k
holds_or a b k =
    ap (λ (x : ℕ). eqb (x % 2) 1) (or_shr a b k)
    ∙ ap (λ (x : ℕ). eqb x 1) (or_mod (a / 2 ^ k) (b / 2 ^ k) 1)
    ∙ or_small (a / 2 ^ k % 2) (b / 2 ^ k % 2) (bit_small (a / 2 ^ k)) (bit_small (b / 2 ^ k))

-- a common part holds what both hold
pub holds-and : (a b k : ℕ) → holds (bit_and a b) k ≡ holds a k && holds b k
holds-and a b k =
    ap (λ (x : ℕ). eqb (x % 2) 1) (and_shr a b k)
    ∙ ap (λ (x : ℕ). eqb x 1) (and_mod (a / 2 ^ k) (b / 2 ^ k) 1)
    ∙ and_small (a / 2 ^ k % 2) (b / 2 ^ k % 2) (bit_small (a / 2 ^ k)) (bit_small (b / 2 ^ k))

-- a number below 2 ^ k does not hold k
pub holds_high : (a k : ℕ) → a < 2 ^ k → holds a k ≡ false
holds_high a k h = rw (div-eq_of_lt h)

pub holds-zero : (k : ℕ) → holds 0 k ≡ false
holds-zero k = holds_high 0 k (pow_pos k)

at_or_above : (j k : ℕ) → holds (2 ^ (j + k)) k ≡ eqb (2 ^ j % 2) 1
at_or_above j k = ap (λ (x : ℕ). eqb (x % 2) 1) (ap (λ (x : ℕ). x / 2 ^ k) (pow-add 2 j k) ∙ shl-shr (2 ^ j) k)

even : (j : ℕ) → eqb (2 ^ suc j % 2) 1 ≡ false
even j = rw (pow-suc 2 j, mul-mod_left)

-- a set of one number holds that number alone
pub holds_pow_same : (n : ℕ) → holds (2 ^ n) n ≡ true
holds_pow_same n = let z : 0 + n ≡ n = omega arith in rw z at (at_or_above 0 n)

pub holds_pow_other : (n k : ℕ) → (k ≡ n → ⊥) → holds (2 ^ n) k ≡ false
holds_pow_other n k h = go (ltb n k) refl
  where
    go : (t : Bool) → ltb n k ≡ t → holds (2 ^ n) k ≡ false
    go true e = holds_high (2 ^ n) k (pow-lt (ltb-true n k e))
    go false e =
        let l : k ≤ n = ltb-false n k e in
        let z : suc (n - k - 1) + k ≡ n = omega arith in
        rw (sym z) (at_or_above (suc (n - k - 1)) k ∙ even (n - k - 1))

-- the bits of the half are the higher bits
pub holds_half : (a k : ℕ) → holds (a / 2) k ≡ holds a (suc k)
holds_half a k = let z : 1 + k ≡ suc k = omega arith in rw z at (ap (λ (x : ℕ). eqb (x % 2) 1) (shr-shr a 1 k))

bit_same : (x y : ℕ) → x < 2 → y < 2 → eqb x 1 ≡ eqb y 1 → x ≡ y
bit_same zero zero h k e = refl
bit_same zero (suc zero) h k e = let z : ◌≡◌ {A = ℕ} 0 1 = cc in absurd (omega arith)
bit_same zero (suc (suc y)) h k e = absurd (omega arith)
bit_same (suc zero) zero h k e = let z : ◌≡◌ {A = ℕ} 0 1 = cc in absurd (omega arith)
bit_same (suc zero) (suc zero) h k e = refl
bit_same (suc zero) (suc (suc y)) h k e = absurd (omega arith)
bit_same (suc (suc x)) y h k e = absurd (omega arith)

-- two sets that hold the same numbers are the same number
pub same_bits : (n a b : ℕ) → a < 2 ^ n → b < 2 ^ n → ((k : ℕ) → k < n → holds a k ≡ holds b k) → a ≡ b
same_bits zero a b h l e = omega arith
same_bits (suc n) a b h l e =
    let p = two-pow-succ n in
    let f : a / 2 ≡ b / 2 = same_bits n (a / 2) (b / 2) (omega arith) (omega arith)
    (λ k m. holds_half a k ∙ e (suc k) (omega arith) ∙ sym (holds_half b k)) in
    let g : a % 2 ≡ b % 2 = bit_same (a % 2) (b % 2) (bit_small a) (bit_small b) (simp div-one at (e 0 (omega arith))) in
    omega (arith, div-add-mod' a 2, div-add-mod' b 2)

pub below_pow : (n : ℕ) → n < 2 ^ n
below_pow zero = omega arith
below_pow (suc n) = omega (arith, two-pow-succ n, below_pow n)

pub holds_single : (a b : ℕ) → ((k : ℕ) → holds a k ≡ holds b k) → a ≡ b
holds_single a b h = let p = below_pow (a + b) in same_bits (a + b) a b (omega arith) (omega arith) (λ k m. h k)

-- a set that holds nothing is 0
pub holds_none : (a : ℕ) → ((k : ℕ) → holds a k ≡ false) → a ≡ 0
holds_none a h = same_bits a a 0 (below_pow a) (pow_pos a) (λ k m. h k ∙ sym (holds-zero k))
