-- Laws of decimal numbers in fields, as the loop over a field's digits meets them.
-- Assumes nothing.
use Rattle.std.specs.Prelude.{ℕ, ◌+◌, ◌-◌, ◌*◌, ◌≤◌, ◌<◌, ◌≡◌, refl, Bool, true, false, not, cond, ◌&&◌, ◌||◌, List, [], ◌∷◌, length, get_or, drop, eqb, leb}
use Rattle.std.proofs.Common.{sym, ◌∙◌, inl, inr, arith, ne_eqb, le-leb, leb-true}
use Rattle.std.proofs.Math.Bool.{and-false}
use Rattle.std.proofs.lemmas.Bool.{lt-leb}
use Rattle.document.specs.Lists.{every}
use Rattle.document.specs.Limits.{largest_value}
use Rattle.document.specs.Classes.{class_of, is_digit, between, zero_byte}
use Rattle.document.specs.Rows.{decimal_from, value_of}
use Rattle.basics.specs.Tests.{decided, both}
use Rattle.basics.specs.Left.{drop_here, drop-end}

-- a class that is picked from classes other than a digit's is none
neither : (x : Bool) (n k : ℕ) → eqb n 1 ≡ false → eqb k 1 ≡ false → eqb (cond x n k) 1 ≡ false
neither true n k p q = p
neither false n k p q = q

no_digit : (b : ℕ) → between 48 57 b ≡ false → is_digit b ≡ false
unfolding class_of
no_digit b e = rw e
    (neither (between 65 90 b || between 97 122 b) _ _ refl
    (neither (eqb b 95) _ _ refl
    (neither (eqb b 32 || eqb b 9 || eqb b 13 || eqb b 10) _ _ refl
    (neither (eqb b 40) _ _ refl
    (neither (eqb b 41) _ _ refl
    (neither (eqb b 58) _ _ refl
    (neither (eqb b 124) _ _ refl
    (neither (eqb b 42) _ _ refl
    (neither (eqb b 43) _ _ refl
    (neither (eqb b 64) _ _ refl refl))))))))))

-- a byte is a digit exactly from `0` to `9`: the class by two comparisons
pub digit-between : (b : ℕ) → is_digit b ≡ between 48 57 b
unfolding class_of
digit-between b = elim (decided (between 48 57 b)) [
  | inl e ↦
      let p = both (leb 48 b) (leb b 57) e in
      let l = leb-true b 57 p.1 in
      rw (lt-leb 65 b (omega arith), lt-leb 97 b (omega arith), e)
  | inr e ↦ no_digit b e ∙ sym e
]

digit_here : (b : ℕ) → zero_byte ≤ b → b ≤ 57 → is_digit b ≡ true
digit_here b h l = digit-between b ∙ rw (le-leb 48 b h, le-leb b 57 l)

digit-past : (b : ℕ) → 57 < b → is_digit b ≡ false
digit-past b h = digit-between b ∙ rw (lt-leb b 57 h, and-false (leb 48 b))

digit_below : (b : ℕ) → b < zero_byte → is_digit b ≡ false
digit_below b h = digit-between b ∙ rw (lt-leb 48 b h)

-- a decimal number does not fall as digits are added
pub decimal-grows : (n : ℕ) (t : List ℕ) → n ≤ decimal_from n t
unfolding decimal_from
decimal-grows n [] = omega arith
decimal-grows n (b ∷ t) = let k = decimal-grows (n * 10 + (b - zero_byte)) t in omega arith

-- the value of a field that is not empty, by its bytes
value_is : (f : List ℕ) → 0 < length f
    → value_of f ≡ cond (every is_digit f && not (eqb (get_or f 0 0) zero_byte) && leb (decimal_from 0 f) largest_value) (decimal_from 0 f) 0
unfolding value_of
value_is [] h = absurd (omega arith)
value_is (b ∷ t) h = refl

pub value_empty : (f : List ℕ) → length f ≡ 0 → 0 ≡ value_of f
unfolding value_of
value_empty [] h = refl
value_empty (b ∷ t) h = absurd (omega arith)

pub value_zero : (f : List ℕ) → (length f ≡ 0 → ⊥) → get_or f 0 0 ≡ zero_byte → 0 ≡ value_of f
value_zero f h e = sym (value_is f (omega arith) ∙ rw e (none (every is_digit f)))
  where
    none : (x : Bool) → cond (x && false && leb (decimal_from 0 f) largest_value) (decimal_from 0 f) 0 ≡ 0
    none true = refl
    none false = refl

-- The loop over the digits: what was read so far, and what the rest adds to it.
pub record Digits (f : List ℕ) (value i : ℕ) : Type 0 where
  pub filled : 0 < length f
  pub first : get_or f 0 0 ≡ zero_byte → ⊥
  pub small : value ≤ largest_value
  pub digits : every is_digit (drop i f) ≡ every is_digit f
  pub number : decimal_from value (drop i f) ≡ decimal_from 0 f

pub digits_begin : (f : List ℕ) → (length f ≡ 0 → ⊥) → (get_or f 0 0 ≡ zero_byte → ⊥) → Digits f 0 0
digits_begin f h n = record { filled = omega arith; first = n; small = omega arith; digits = refl; number = refl }

-- a byte that is no digit
digits-other : (f : List ℕ) (value i : ℕ) → Digits f value i → i < length f → is_digit (get_or f i 0) ≡ false → 0 ≡ value_of f
unfolding every
digits-other f value i g h e =
    let z : every is_digit f ≡ false = sym g.digits ∙ rw (drop_here f i h, e) in
    sym (value_is f g.filled ∙ rw z)

pub digits_below : (f : List ℕ) (value i : ℕ) → Digits f value i → i < length f → get_or f i 0 < zero_byte → 0 ≡ value_of f
digits_below f value i g h l = digits-other f value i g h (digit_below (get_or f i 0) l)

pub digits-past : (f : List ℕ) (value i : ℕ) → Digits f value i → i < length f → 57 < get_or f i 0 → 0 ≡ value_of f
digits-past f value i g h l = digits-other f value i g h (digit-past (get_or f i 0) l)

-- a digit more, past the largest value
pub digits_large : (f : List ℕ) (value i d : ℕ) → Digits f value i → i < length f → d ≡ get_or f i 0 - zero_byte
    → largest_value < value * 10 + d → 0 ≡ value_of f
unfolding decimal_from
digits_large f value i d g h q l =
    let m = value * 10 + (get_or f i 0 - zero_byte) in
    let e : decimal_from m (drop (i + 1) f) ≡ decimal_from 0 f = rw (drop_here f i h) at g.number in
    let k = decimal-grows m (drop (i + 1) f) in
    let z : largest_value < decimal_from 0 f = omega arith in
    sym (value_is f g.filled ∙ rw (lt-leb (decimal_from 0 f) largest_value z) (none (every is_digit f) (not (eqb (get_or f 0 0) zero_byte))))
  where
    none : (x y : Bool) → cond (x && y && false) (decimal_from 0 f) 0 ≡ 0
    none true true = refl
    none true false = refl
    none false y = refl

-- a digit more
pub digits-turn : (f : List ℕ) (value i d : ℕ) → Digits f value i → i < length f → zero_byte ≤ get_or f i 0 → get_or f i 0 ≤ 57
    → d ≡ get_or f i 0 - zero_byte → value * 10 + d ≤ largest_value → Digits f (value * 10 + d) (i + 1)
unfolding every decimal_from
digits-turn f value i d g h a z q l = rw q (record {
  filled = g.filled;
  first = g.first;
  small = rw q at l;
  digits = rw (drop_here f i h, digit_here (get_or f i 0) a z) at g.digits;
  number = rw (drop_here f i h) at g.number;
})

-- all digits read
pub digits-end : (f : List ℕ) (value i : ℕ) → Digits f value i → length f ≤ i → value ≡ value_of f
unfolding every decimal_from
digits-end f value i g h =
    let a : true ≡ every is_digit f = rw (drop-end f i h) at g.digits in
    let n : value ≡ decimal_from 0 f = rw (drop-end f i h) at g.number in
    let s : decimal_from 0 f ≤ largest_value = let k = g.small in omega arith in
    n ∙ sym (value_is f g.filled ∙ rw (← a, ne_eqb (get_or f 0 0) zero_byte g.first, le-leb (decimal_from 0 f) largest_value s))
