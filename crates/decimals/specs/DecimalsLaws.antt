-- Laws of decimal numbers: how many digits there are, and that they are the last so many.
-- Assumes nothing.
use Rattle.std.specs.Prelude.{ℕ, zero, suc, ◌+◌, ◌*◌, ◌/◌, ◌%◌, ◌^◌, ◌≤◌, ◌<◌, ◌≡◌, refl, max, ◌⊎◌, [], ◌∷◌, ◌++◌, length, ltb}
use Rattle.std.proofs.Common.{ap, inl, inr, arith, length-append, lt-ltb, le-ltb, ltb-true, ltb-false}
use Rattle.std.proofs.Math.Nat.{pow-le-pow_right}
use Rattle.document.specs.Classes.{zero_byte}
use Rattle.document.specs.Printing.{digits, decimal}
use Rattle.basics.specs.Tests.{decided}
use Rattle.decimals.specs.Decimals.{without_last, last_digits, most_digits, value_digits, refusal_digits}

-- The last digits -------------------------------------------------------------------------------------------------------

without_inner : (n x : ℕ) → without_last n (x / 10) ≡ without_last n x / 10
unfolding without_last
without_inner zero x = refl
without_inner (suc n) x = rw (without_inner n x)

last_snoc : (n x : ℕ) → last_digits (suc n) x ≡ last_digits n (x / 10) ++ ((zero_byte + x % 10) ∷ [])
unfolding last_digits without_last
last_snoc zero x = refl
last_snoc (suc n) x = rw (without_inner n x) (ap (λ l. (zero_byte + without_last n x / 10 % 10) ∷ l) (last_snoc n x))

-- The definition, one digit at a time -----------------------------------------------------------------------------------

digits-one : (n x : ℕ) → x < 10 → digits (suc n) x ≡ (zero_byte + x) ∷ []
unfolding digits
digits-one n x h = rw (lt-ltb x 10 h, digits)

digits_more : (n x : ℕ) → 10 ≤ x → digits (suc n) x ≡ digits n (x / 10) ++ ((zero_byte + x % 10) ∷ [])
unfolding digits
digits_more n x h = rw (le-ltb x 10 h, digits)

few_or_more : (x : ℕ) → (x < 10) ⊎ (10 ≤ x)
few_or_more x = elim (decided (ltb x 10)) [ inl e ↦ inl (ltb-true x 10 e) | inr e ↦ inr (ltb-false x 10 e) ]

digits_last : (f x : ℕ) → x < f → digits f x ≡ last_digits (length (digits f x)) x
unfolding last_digits without_last
digits_last zero x h = absurd (omega arith)
digits_last (suc f) x h = elim (few_or_more x) [
  | inl l ↦ let e : x % 10 ≡ x = omega arith in rw (digits-one f x l, e)
  | inr l ↦
      let ih = digits_last f (x / 10) (omega arith) in
      let n : length (digits f (x / 10) ++ ((zero_byte + x % 10) ∷ [])) ≡ suc (length (digits f (x / 10))) = rw length-append (omega arith) in
      rw (digits_more f x l, n, last_snoc (length (digits f (x / 10))) x) (ap (λ l. l ++ ((zero_byte + x % 10) ∷ [])) ih)
]

-- How many digits -------------------------------------------------------------------------------------------------------

digits_most : (f n x : ℕ) → 0 < n → x < 10 ^ n → length (digits f x) ≤ n
unfolding digits
digits_most zero n x h l = omega arith
digits_most (suc f) zero x h l = absurd (omega arith)
digits_most (suc f) (suc zero) x h l = rw (digits-one f x (omega arith)) (omega arith)
digits_most (suc f) (suc (suc n)) x h l = elim (few_or_more x) [
  | inl g ↦ rw (digits-one f x g) (omega arith)
  | inr g ↦
      let k : x / 10 < 10 ^ suc n = omega arith in
      let ih = digits_most f (suc n) (x / 10) (omega arith) k in
      rw (digits_more f x g, length-append) (omega arith)
]

digits_least : (f n x : ℕ) → x < f → 10 ^ n ≤ x → n < length (digits f x)
digits_least zero n x h l = absurd (omega arith)
digits_least (suc f) zero x h l = elim (few_or_more x) [
  | inl g ↦ rw (digits-one f x g) (omega arith)
  | inr g ↦ rw (digits_more f x g, length-append) (omega arith)
]
digits_least (suc f) (suc n) x h l =
    let p : 1 ≤ 10 ^ n = pow-le-pow_right {n = 10} (omega arith) {i = 0} {j = n} (omega arith) in
    let g : 10 ≤ x = omega arith in
    let ih = digits_least f n (x / 10) (omega arith) (omega arith) in
    rw (digits_more f x g, length-append) (omega arith)

digits-some : (f x : ℕ) → 0 < f → 0 < length (digits f x)
digits-some zero x h = absurd (omega arith)
digits-some (suc f) x h = elim (few_or_more x) [
  | inl g ↦ rw (digits-one f x g) (omega arith)
  | inr g ↦ rw (digits_more f x g, length-append) (omega arith)
]

-- The decimal number ----------------------------------------------------------------------------------------------------

pub decimal-last : (x : ℕ) → decimal x ≡ last_digits (length (decimal x)) x
unfolding decimal
decimal-last x = digits_last (suc x) x (omega arith)

pub decimal_most : (n x : ℕ) → 0 < n → x < 10 ^ n → length (decimal x) ≤ n
unfolding decimal
decimal_most n x h l = digits_most (suc x) n x h l

pub decimal_least : (n x : ℕ) → 10 ^ n ≤ x → n < length (decimal x)
unfolding decimal
decimal_least n x l = digits_least (suc x) n x (omega arith) l

pub decimal-some : (x : ℕ) → 0 < length (decimal x)
unfolding decimal
decimal-some x = digits-some (suc x) x (omega arith)

-- by the largest power of ten that a number reaches; 0 has as many as 1
pub decimal_count : (x k : ℕ) → 10 ^ k ≤ max x 1 → max x 1 < 10 * 10 ^ k → k + 1 ≡ length (decimal x)
decimal_count zero zero l h =
    let some = decimal-some 0 in
    let most = decimal_most 1 0 (omega arith) (omega arith) in
    omega arith
decimal_count zero (suc k) l h = absurd (let p = pow-le-pow_right {n = 10} (omega arith) {i = 1} {j = suc k} (omega arith) in omega arith)
decimal_count (suc x) k l h =
    let least = decimal_least k (suc x) (omega arith) in
    let most = decimal_most (suc k) (suc x) (omega arith) (omega arith) in
    omega arith

-- a number of 64 bits, a value (32 bits), a refusal (8 bits)
pub decimal-usize : (x : ℕ) → x < 2 ^ 64 → length (decimal x) ≤ most_digits
decimal-usize x h = decimal_most most_digits x (omega arith) (omega arith)

pub decimal_value : (x : ℕ) → x < 2 ^ 32 → length (decimal x) ≤ value_digits
decimal_value x h = decimal_most value_digits x (omega arith) (omega arith)

pub decimal_byte : (x : ℕ) → x < 256 → length (decimal x) ≤ refusal_digits
decimal_byte x h = decimal_most refusal_digits x (omega arith) (omega arith)
