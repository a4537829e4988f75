-- An event of the property with values for exactly its set: its binding is 0 past the parameters.
-- Assumes nothing.
use Rattle.std.specs.Prelude.{ℕ, zero, suc, ◌+◌, ◌^◌, ◌<◌, ◌≤◌, ◌≡◌, refl, true, false, cond, not, List, [], ◌∷◌, T, eqb}
use Rattle.std.proofs.Common.{arith}
use Rattle.std.proofs.Math.Nat.{div-eq_of_lt, pow-le-pow_right}
use Rattle.document.specs.Positions.{holds}
use Rattle.document.specs.Combinations.{binds_from, binds_exactly, zero_past}
use Rattle.document.specs.Property.{Property, in_range, set_of}
use Rattle.document.specs.Demands.{Proper}
use Rattle.slices.specs.TestsLaws.{so, and_of, of_and}
use Rattle.slices.specs.PropertyLaws.{ranges}

-- a set below 2 ^ n holds nothing from n on
holds-past : (s n j : ℕ) → s < 2 ^ n → n ≤ j → holds s j ≡ false
holds-past s n j h k =
    let up : 2 ^ n ≤ 2 ^ j = pow-le-pow_right (omega arith) k in
    let low : s < 2 ^ j = omega arith in
    rw (div-eq_of_lt low) refl

binds_zero_past : (n k s : ℕ) (c : List ℕ) → ((j : ℕ) → k + n ≤ j → holds s j ≡ false) → T (binds_from k s c) → T (zero_past n c)
unfolding binds_from zero_past
binds_zero_past n k s [] f t = tt
binds_zero_past zero k s (x ∷ c) f t =
    let h = and_of (cond (holds s k) (not (eqb x 0)) (eqb x 0)) (binds_from (suc k) s c) t in
    of_and (eqb x 0) (zero_past zero c) (rw (f k (omega arith)) at h.0)
    (binds_zero_past zero (suc k) s c (λ j l. f j (omega arith)) h.1)
binds_zero_past (suc n) k s (x ∷ c) f t =
    let h = and_of (cond (holds s k) (not (eqb x 0)) (eqb x 0)) (binds_from (suc k) s c) t in
    binds_zero_past n (suc k) s c (λ j l. f j (omega arith)) h.1

pub proper_zero_past : (p : Property) → in_range p ≡ true → (e : ℕ) (b : List ℕ) → Proper p e b → T (zero_past p.parameters b)
unfolding binds_exactly
proper_zero_past p r e b h =
    let below : set_of p e < 2 ^ p.parameters = (ranges p r).sets e h.declared in
    let none : (j : ℕ) → 0 + p.parameters ≤ j → holds (set_of p e) j ≡ false =
    λ j l. holds-past (set_of p e) p.parameters j below (omega arith) in
    binds_zero_past p.parameters 0 (set_of p e) b none (so h.values)
