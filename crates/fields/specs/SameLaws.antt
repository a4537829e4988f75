-- What `==` answers of two parts is what the definitions call equal.
-- Assumes nothing.
use Rattle.std.specs.Prelude.{ℕ, ◌≡◌, refl, Bool, true, false, not, ◌&&◌, List, [], ◌∷◌, eqb}
use Rattle.std.proofs.Common.{sym, ap, ◌∙◌}
use Rattle.std.proofs.lemmas.Bool.{not-true, not-false}
use lib.Pointwise.{pointwise}
use Rattle.document.specs.Lists.{equal}

pub equal_is : (a b : List ℕ) → equal a b ≡ pointwise eqb a b
unfolding equal
equal_is [] [] = refl
equal_is [] (y ∷ b) = refl
equal_is (x ∷ a) [] = refl
equal_is (x ∷ a) (y ∷ b) = ap (λ t. eqb x y && t) (equal_is a b)

-- and `!=` that they are not
pub unequal_is : (a b : List ℕ) (d : Bool) → d ≡ not (pointwise eqb a b) → d ≡ true → equal a b ≡ false
unequal_is a b d q e = equal_is a b ∙ not-true (pointwise eqb a b) (sym q ∙ e)

pub equal_after : (a b : List ℕ) (d : Bool) → d ≡ not (pointwise eqb a b) → d ≡ false → equal a b ≡ true
equal_after a b d q e = equal_is a b ∙ not-false (pointwise eqb a b) (sym q ∙ e)
