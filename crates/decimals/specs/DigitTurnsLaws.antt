-- The digits of a number counted one at a time by powers of ten, and the turns of the loop that writes them.
-- Assumes nothing.
use Rattle.std.specs.Prelude.{ℕ, suc, ◌+◌, ◌-◌, ◌*◌, ◌/◌, ◌%◌, ◌^◌, ◌≤◌, ◌<◌, ◌≡◌, refl, List, length, set}
use Rattle.std.proofs.Common.{sym, arith}
use Rattle.std.proofs.Math.Nat.{pow-le-pow_right}
use Rattle.document.specs.Classes.{zero_byte}
use Rattle.document.specs.Printing.{decimal}
use Rattle.decimals.specs.Written.{Written}
use Rattle.decimals.specs.WrittenLaws.{written_none, written_before, written_as}
use Rattle.decimals.specs.Decimals.{without_last, last_digits, sure_digits}
use Rattle.decimals.specs.DecimalsLaws.{decimal-last, decimal-some, decimal_least, decimal_most, decimal-usize}

-- Counting: there are at least n, and the power is that of n digits.
pub record Counting (x n power : ℕ) : Type 0 where
  pub some : 0 < n
  pub short : n ≤ sure_digits
  pub least : n ≤ length (decimal x)
  pub reached : power ≡ 10 ^ n
  pub bounded : power ≤ 10 ^ sure_digits

power_bound : (n : ℕ) → n ≤ sure_digits → 10 ^ n ≤ 10 ^ sure_digits
power_bound n h = pow-le-pow_right {n = 10} (omega arith) {i = n} {j = sure_digits} h

pub counting_begins : (x : ℕ) → Counting x 1 10
counting_begins x = record { some = omega arith; short = omega arith; least = decimal-some x; reached = refl; bounded = omega arith }

pub counting_fits : (x n power : ℕ) → Counting x n power → n < sure_digits → power * 10 ≤ 10 ^ sure_digits
counting_fits x n power c h =
    let e = c.reached in
    let k = power_bound (suc n) (omega arith) in
    omega arith

pub counting_turn : (x n power : ℕ) → Counting x n power → n < sure_digits → power ≤ x → Counting x (n + 1) (power * 10)
counting_turn x n power c h l =
    let e = c.reached in
    let k = decimal_least n x (omega arith) in
    record {
      some = omega arith;
      short = omega arith;
      least = omega arith;
      reached = let z : n + 1 ≡ suc n = omega arith in rw z (omega arith);
      bounded = counting_fits x n power c h;
    }

pub counting_found : (x n power : ℕ) → Counting x n power → x < power → n ≡ length (decimal x)
counting_found x n power c h =
    let e = c.reached in
    let s = c.some in
    let l = c.least in
    let k = decimal_most n x s (omega arith) in
    omega arith

pub counting_sure : (x n power : ℕ) → Counting x n power → sure_digits ≤ n → x < power → sure_digits ≡ length (decimal x)
counting_sure x n power c h l = let s = c.short in let k = counting_found x n power c l in omega arith

pub counting_longest : (x n power : ℕ) → x < 2 ^ 64 → Counting x n power → sure_digits ≤ n → power ≤ x → sure_digits + 1 ≡ length (decimal x)
counting_longest x n power b c h l =
    let e = c.reached in
    let s = c.short in
    let j = decimal_least n x (omega arith) in
    let k = decimal-usize x b in
    omega arith

-- The loop that writes digits: those from place p on stand.
pub record Writing (at count x : ℕ) (t t' : List ℕ) (left p : ℕ) : Type 0 where
  pub low : at ≤ p
  pub high : p ≤ at + count
  pub rest : left ≡ without_last (at + count - p) x
  pub written : Written p (at + count - p) (last_digits (at + count - p) x) t t' (at + count)

pub writing_begins : (at count x : ℕ) (t : List ℕ) → at + count ≤ length t → Writing at count x t t x (at + count)
unfolding without_last last_digits
writing_begins at count x t h =
    let e : at + count - (at + count) ≡ 0 = omega arith in
    record { low = omega arith; high = omega arith; rest = rw e; written = rw e (written_none (at + count) t h) }

pub writing_turn : (at count x : ℕ) (t t' : List ℕ) (left p : ℕ) → Writing at count x t t' left p → at < p
    → Writing at count x t (set t' (p - 1) (zero_byte + left % 10)) (left / 10) (p - 1)
unfolding without_last last_digits
writing_turn at count x t t' left p w h =
    let l = w.low in
    let g = w.high in
    let j = at + count - p in
    let e : at + count - (p - 1) ≡ suc j = omega arith in
    let o : j + 1 ≡ suc j = omega arith in
    let q = w.rest in
    record {
      low = omega arith;
      high = omega arith;
      rest = rw (e, q);
      written = rw (e, q) (rw o at (written_before p (at + count) j (zero_byte + without_last j x % 10) (last_digits j x) t t' (omega arith) w.written));
    }

pub writing_ends : (at count x : ℕ) (t t' : List ℕ) (left p : ℕ) → Writing at count x t t' left p → p ≤ at
    → Written at count (last_digits count x) t t' (at + count)
writing_ends at count x t t' left p w h =
    let l = w.low in
    let e : p ≡ at = omega arith in
    let n : at + count - at ≡ count = omega arith in
    rw n at (rw e at w.written)

-- as many digits as there are make the number
pub decimal-written : (at n r x : ℕ) (t t' : List ℕ) → n ≡ length (decimal x) → Written at n (last_digits n x) t t' r
    → Written at (length (decimal x)) (decimal x) t t' r
decimal-written at n r x t t' e w = written_as at (length (decimal x)) r (last_digits (length (decimal x)) x) (decimal x) t t' (rw e at w) (sym (decimal-last x))
