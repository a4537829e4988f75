-- What is left of a list of bytes from a place on, as a loop over the list meets it.
-- Assumes nothing.
use Rattle.std.specs.Prelude.{ℕ, ◌+◌, ◌≤◌, ◌<◌, ◌≡◌, refl, Bool, true, false, List, [], ◌∷◌, length, get_or, drop, eqb}
use Rattle.std.proofs.Math.Bool.{and-false}
use Rattle.std.proofs.Common.{drop_of_length-le, drop-cons, arith, add-one, eq-eqb, ne_eqb}
use Rattle.document.specs.Lists.{some, equal}

-- what is left from a place inside is the element there and what is left after it
pub drop_here : (s : List ℕ) (i : ℕ) → i < length s → drop i s ≡ get_or s i 0 ∷ drop (i + 1) s
drop_here s i h = rw (add-one, drop-cons s i 0 h)

pub drop-end : (s : List ℕ) (i : ℕ) → length s ≤ i → drop i s ≡ []
drop-end s i h = drop_of_length-le s h

-- A test over all bytes: none left, one that passes, one that does not.
pub some_over : (p : ℕ → Bool) (s : List ℕ) (i : ℕ) → length s ≤ i → some p (drop i s) ≡ false
unfolding some
some_over p s i h = rw (drop-end s i h)

pub some-found : (p : ℕ → Bool) (s : List ℕ) (i : ℕ) → i < length s → p (get_or s i 0) ≡ true → some p (drop i s) ≡ true
unfolding some
some-found p s i h e = rw (drop_here s i h, e)

pub some_goes_on : (p : ℕ → Bool) (s : List ℕ) (i : ℕ) → i < length s → p (get_or s i 0) ≡ false → some p (drop i s) ≡ some p (drop (i + 1) s)
unfolding some
some_goes_on p s i h e = rw (drop_here s i h, e)

-- Two parts: at the end of both, at two bytes that differ, at two that are the same; and of two lengths.
pub equal_over : (a b : List ℕ) (i : ℕ) → length a ≡ length b → length a ≤ i → equal (drop i a) (drop i b) ≡ true
unfolding equal
equal_over a b i q h = rw (drop-end a i h, drop-end b i (omega arith))

pub equal_differs : (a b : List ℕ) (i : ℕ) → length a ≡ length b → i < length a → (get_or a i 0 ≡ get_or b i 0 → ⊥)
    → equal (drop i a) (drop i b) ≡ false
unfolding equal
equal_differs a b i q h d = rw (drop_here a i h, drop_here b i (omega arith), ne_eqb (get_or a i 0) (get_or b i 0) d)

pub equal_goes_on : (a b : List ℕ) (i : ℕ) → length a ≡ length b → i < length a → get_or a i 0 ≡ get_or b i 0
    → equal (drop i a) (drop i b) ≡ equal (drop (i + 1) a) (drop (i + 1) b)
unfolding equal
equal_goes_on a b i q h e = rw (drop_here a i h, drop_here b i (omega arith), eq-eqb (get_or a i 0) (get_or b i 0) e)

pub equal_lengths : (a b : List ℕ) → (length a ≡ length b → ⊥) → equal a b ≡ false
unfolding equal
equal_lengths [] [] h = absurd (h refl)
equal_lengths [] (y ∷ b) h = refl
equal_lengths (x ∷ a) [] h = refl
equal_lengths (x ∷ a) (y ∷ b) h = rw (equal_lengths a b (λ (e : length a ≡ length b). h (omega arith))) (and-false (eqb x y))
