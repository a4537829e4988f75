-- Laws of a run of bytes that pass a test, as the loop over them meets it.
-- Assumes nothing.
use Rattle.std.specs.Prelude.{ℕ, ◌+◌, ◌≤◌, ◌<◌, ◌≡◌, Bool, true, false, List, length, get_or, drop}
use Rattle.std.proofs.Common.{sym, ◌∙◌, arith}
use Rattle.document.specs.Lists.{take_while}
use Rattle.basics.specs.Left.{drop_here, drop-end}

-- from the place `at` on: at a byte that does not pass, at one that does, at the end
module _ (p : ℕ → Bool) (s : List ℕ) (at i : ℕ) (q : i + length (take_while p (drop i s)) ≡ at + length (take_while p (drop at s))) where
  pub run_stops : i < length s → (d : Bool) → d ≡ p (get_or s i 0) → d ≡ false → i ≡ at + length (take_while p (drop at s))
  unfolding take_while
  run_stops h d e n = let k = rw (drop_here s i h, sym e ∙ n, take_while) at q in omega arith

  pub run_goes_on : i < length s → (d : Bool) → d ≡ p (get_or s i 0) → d ≡ true
      → i + 1 + length (take_while p (drop (i + 1) s)) ≡ at + length (take_while p (drop at s))
  unfolding take_while
  run_goes_on h d e n = let k = rw (drop_here s i h, sym e ∙ n, take_while) at q in omega arith

  pub run_over : length s ≤ i → i ≡ at + length (take_while p (drop at s))
  unfolding take_while
  run_over h = let k = rw (drop-end s i h) at q in omega arith
