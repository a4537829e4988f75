-- A combination restricted to a set of parameters, the others unbound: of two combinations, one includes the other exactly if
-- the other is such a restriction of it.
-- Assumes nothing.
use Rattle.std.specs.Prelude.{ℕ, suc, cond, List, [], ◌∷◌}
use Rattle.document.specs.Positions.{holds}

unfoldable pub restricted_from : ℕ → ℕ → List ℕ → List ℕ
restricted_from k s [] = []
restricted_from k s (x ∷ c) = cond (holds s k) x 0 ∷ restricted_from (suc k) s c

unfoldable pub restricted : ℕ → List ℕ → List ℕ
restricted s c = restricted_from 0 s c
