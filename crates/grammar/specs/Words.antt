-- What the tests on words decide: that two are the same, and that one is among the declared.
-- Assumes nothing.
use Rattle.std.specs.Prelude.{ℕ, suc, ◌<◌, ◌≡◌, ◌⊎◌, true, false, List, [], ◌∷◌, length}
use Rattle.std.proofs.Common.{arith, inl, inr}
use Rattle.document.specs.Lists.{In, equal, place_of}
use Rattle.basics.specs.Tests.{decided, equal_same, equal_differs}

-- a word has a place among the declared exactly if it is one of them
pub place_in : (w : List ℕ) (l : List (List ℕ)) → place_of w l < length l → In w l
unfolding place_of
place_in w [] h = absurd (omega arith)
place_in w (y ∷ l) h = go (decided (equal w y)) (place_in w l)
  where
    go : (equal w y ≡ true) ⊎ (equal w y ≡ false) → (place_of w l < length l → In w l) → In w (y ∷ l)
    go (inl e) ih = inl (equal_same w y e)
    go (inr e) ih = inr (ih (let k : suc (place_of w l) < suc (length l) = rw (e, place_of) at h in omega arith))

pub in_place_lem : (w : List ℕ) (l : List (List ℕ)) → In w l → place_of w l < length l
unfolding place_of
in_place_lem w [] h = elim h [ ]
in_place_lem w (y ∷ l) h = go (decided (equal w y)) h (in_place_lem w l)
  where
    go : (equal w y ≡ true) ⊎ (equal w y ≡ false) → (w ≡ y) ⊎ In w l → (In w l → place_of w l < length l) → place_of w (y ∷ l) < suc (length l)
    go (inl e) p ih = rw (e, place_of) (omega arith)
    go (inr e) (inl p) ih = absurd (equal_differs w y e p)
    go (inr e) (inr p) ih = rw (e, place_of) (let k : place_of w l < length l = ih p in omega arith)
