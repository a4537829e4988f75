-- Tests that compute, as equations: a test holds or fails; what `&&`, `||` and `equal` say where they do.
-- Assumes nothing.
use Rattle.std.specs.Prelude.{ℕ, ◌≡◌, refl, ◌⊎◌, Bool, true, false, ◌&&◌, ◌||◌, List, [], ◌∷◌, eqb}
use Rattle.std.proofs.Common.{sym, ap₂, inl, inr, true≢false, arith, eqb-true, eq-eqb}
use Rattle.document.specs.Lists.{equal}

-- a test holds or fails, and not both
pub decided : (b : Bool) → (b ≡ true) ⊎ (b ≡ false)
decided true = inl refl
decided false = inr refl

pub not_both : (b : Bool) → b ≡ true → b ≡ false → ⊥
not_both b p q = let z : ◌≡◌ {A = ℕ} 0 1 = cc in omega arith

-- both hold
pub and_left : (a b : Bool) → a && b ≡ true → a ≡ true
and_left true b h = refl
and_left false b h = h

pub and_right : (a b : Bool) → a && b ≡ true → b ≡ true
and_right true b h = h
and_right false b h = absurd (true≢false (sym h))

pub both : (a b : Bool) → a && b ≡ true → (a ≡ true) × (b ≡ true)
both a b h = (and_left a b h, and_right a b h)

-- neither holds
pub neither : (a b : Bool) → a || b ≡ false → (a ≡ false) × (b ≡ false)
neither true b h = absurd (true≢false h)
neither false b h = (refl, h)

-- the same list
pub equal-refl : (a : List ℕ) → equal a a ≡ true
unfolding equal
equal-refl [] = refl
equal-refl (x ∷ a) = rw (eq-eqb x x refl) (equal-refl a)

pub equal_same : (a b : List ℕ) → equal a b ≡ true → a ≡ b
unfolding equal
equal_same [] [] h = refl
equal_same [] (y ∷ b) h = absurd (true≢false (sym h))
equal_same (x ∷ a) [] h = absurd (true≢false (sym h))
equal_same (x ∷ a) (y ∷ b) h = let t = both (eqb x y) (equal a b) h in ap₂ ◌∷◌ (eqb-true x y t.0) (equal_same a b t.1)

pub equal_differs : (a b : List ℕ) → equal a b ≡ false → a ≡ b → ⊥
equal_differs a b h e = not_both (equal a b) (rw e (equal-refl b)) h
