-- Document 01, "Words": combinations. A combination is a list of numbers, one a parameter; 0 stands for unbound. Only
-- combinations of one width are compared: of two widths, neither includes the other and they are not compatible.
-- Assumes nothing.
use Rattle.std.specs.Prelude.{ℕ, zero, suc, Bool, true, false, cond, not, ◌&&◌, ◌||◌, List, [], ◌∷◌, replicate, eqb, ltb}
use Rattle.document.specs.Positions.{holds}

-- "It may be empty (all 0)"
abbrev pub empty_of : ℕ → List ℕ
empty_of w = replicate w 0

-- "One includes another if it agrees wherever the other is bound"
unfoldable pub includes : List ℕ → List ℕ → Bool
includes [] [] = true
includes [] (y ∷ b) = false
includes (x ∷ c) [] = false
includes (x ∷ c) (y ∷ b) = (eqb y 0 || eqb x y) && includes c b

-- "Two are compatible if they agree wherever both are bound"
unfoldable pub compatible : List ℕ → List ℕ → Bool
compatible [] [] = true
compatible [] (y ∷ b) = false
compatible (x ∷ c) [] = false
compatible (x ∷ c) (y ∷ b) = (eqb x 0 || eqb y 0 || eqb x y) && compatible c b

-- "their join binds what either binds"
unfoldable pub join : List ℕ → List ℕ → List ℕ
join [] b = b
join (x ∷ c) [] = x ∷ c
join (x ∷ c) (y ∷ b) = cond (eqb x 0) y x ∷ join c b

-- "Order: parameter 0 first, then 1, 2, 3, as whole numbers"
unfoldable pub precedes : List ℕ → List ℕ → Bool
precedes [] [] = false
precedes [] (y ∷ b) = true
precedes (x ∷ c) [] = false
precedes (x ∷ c) (y ∷ b) = ltb x y || (eqb x y && precedes c b)

-- the combination binds exactly the parameters of a set, counted from k
unfoldable pub binds_from : ℕ → ℕ → List ℕ → Bool
binds_from k s [] = true
binds_from k s (x ∷ c) = (cond (holds s k) (not (eqb x 0)) (eqb x 0)) && binds_from (suc k) s c

unfoldable pub binds_exactly : ℕ → List ℕ → Bool
binds_exactly s c = binds_from 0 s c

-- the numbers past the first n are 0
unfoldable pub zero_past : ℕ → List ℕ → Bool
zero_past n [] = true
zero_past zero (x ∷ c) = eqb x 0 && zero_past zero c
zero_past (suc n) (x ∷ c) = zero_past n c
