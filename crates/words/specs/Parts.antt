-- Document 01, "The pattern text" (meaning): lists that are parted, and words one after another.
-- Assumes nothing.
use Rattle.std.specs.Prelude.{ℕ, ◌≡◌, refl, List, [], ◌∷◌, ◌++◌}
use Rattle.std.proofs.Common.{arith, sym, ap, ◌∙◌, append_assoc, append-nil}
use Rattle.document.specs.Patterns.{Many, none, more, Then}
use Rattle.document.specs.PatternsLaws.{many_append, many-one}

pub clash : {e : ℕ} {w : List ℕ} → [] ≡ e ∷ w → ⊥
clash h = let z : ◌≡◌ {A = ℕ} 0 1 = cc in omega arith

pub left_nil : (u v : List ℕ) → [] ≡ u ++ v → u ≡ []
left_nil [] v h = refl
left_nil (x ∷ u) v h = cc

pub right_nil : (u v : List ℕ) → [] ≡ u ++ v → v ≡ []
right_nil [] v h = sym h
right_nil (x ∷ u) v h = cc

-- of two ways to part a list, the first part of one begins with the first part of the other
pub data Parted (u v w rest : List ℕ) : Type 0 where
  within : (t : List ℕ) → u ≡ w ++ t → Parted u v w rest
  beyond : (x : ℕ) (t : List ℕ) → w ≡ u ++ (x ∷ t) → v ≡ (x ∷ t) ++ rest → Parted u v w rest

pub parted : (u v w rest : List ℕ) → u ++ v ≡ w ++ rest → Parted u v w rest
parted u v [] rest h = within u refl
parted [] v (x ∷ w) rest h = beyond x w refl h
parted (y ∷ u) v (x ∷ w) rest h = go (parted u v w rest (cc))
  where
    same : y ≡ x
    same = cc

    go : Parted u v w rest → Parted (y ∷ u) v (x ∷ w) rest
    go (within t i) = within t (cc)
    go (beyond z t i j) = beyond z t (cc) j

-- a list with one more at its end, parted: the second part is empty or ends with it
pub data EndParted (u v w : List ℕ) (e : ℕ) : Type 0 where
  nothing : v ≡ [] → EndParted u v w e
  something : (t : List ℕ) → v ≡ t ++ (e ∷ []) → w ≡ u ++ t → EndParted u v w e

pub end_parted : (u v w : List ℕ) (e : ℕ) → w ++ (e ∷ []) ≡ u ++ v → EndParted u v w e
end_parted [] v w e h = something w (sym h) refl
end_parted (x ∷ u) v [] e h = let t : [] ≡ u ++ v = cc in nothing (right_nil u v t)
end_parted (x ∷ u) v (y ∷ w) e h = go (end_parted u v w e (cc))
  where
    same : x ≡ y
    same = cc

    go : EndParted u v w e → EndParted (x ∷ u) v (y ∷ w) e
    go (nothing i) = nothing i
    go (something t i j) = something t i (cc)

-- ---- a word of P and then a word of Q
-- with another second part, or with more at its end
pub then_with : {P Q R : List ℕ → Type 0} {w : List ℕ} (h : Then P Q w) → R h.back → Then P R w
then_with h x = record { front = h.front; back = h.back; is = h.is; left = h.left; right = x }

pub then_end : {P Q R : List ℕ → Type 0} {w : List ℕ} (h : Then P Q w) (x : List ℕ) → R (h.back ++ x) → Then P R (w ++ x)
then_end h x y = record {
  front = h.front;
  back = h.back ++ x;
  is = ap (λ (u : List ℕ). u ++ x) h.is ∙ append_assoc h.front h.back x;
  left = h.left;
  right = y;
}

-- ---- any number of words of P

-- some words and one more: as some words, and as one and some more
pub then_many : (P : List ℕ → Type 0) (w : List ℕ) → Then (Many P) P w → Many P w
then_many P w h = rw h.is (many_append P h.front h.back h.left (many-one P h.back h.right))

pub then_turned : (P : List ℕ → Type 0) (w : List ℕ) → Then (Many P) P w → Then P (Many P) w
then_turned P w h = rw h.is (go h.front h.back h.left h.right)
  where
    go : (u v : List ℕ) → Many P u → P v → Then P (Many P) (u ++ v)
    go u v none x = record { front = v; back = []; is = sym (append-nil v); left = x; right = none }
    go u v (more {u = a} {v = b} y m) x =
        record { front = a; back = b ++ v; is = append_assoc a b v; left = y; right = many_append P b v m (many-one P v x) }

-- no word before, and one word more before
pub then_alone : {P Q : List ℕ → Type 0} (w : List ℕ) → Q w → Then (Many P) Q w
then_alone w x = record { front = []; back = w; is = refl; left = none; right = x }

pub then_before : {P Q : List ℕ → Type 0} (w u v : List ℕ) → w ≡ u ++ v → P u → Then (Many P) Q v → Then (Many P) Q w
then_before w u v i x h = record {
  front = u ++ h.front;
  back = h.back;
  is = i ∙ ap (λ (t : List ℕ). u ++ t) h.is ∙ sym (append_assoc u h.front h.back);
  left = more x h.left;
  right = h.right;
}
