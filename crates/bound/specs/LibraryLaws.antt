-- The library's words for one combination are the document's: numbers made, a test of each number, numbers past the first n.
-- Assumes nothing.
use Rattle.std.specs.Prelude.{ℕ, zero, suc, ◌+◌, ◌<◌, ◌≡◌, refl, Bool, not, cond, ◌&&◌, List, [], ◌∷◌, length, get_or, drop, eqb}
use Rattle.std.specs.Array.{IsFromFnResult}
use Rattle.std.specs.Fn.{Called}
use Rattle.std.specs.List.{list_all, range_with_len}
use Rattle.std.proofs.Common.{sym, ap, ◌∙◌, arith, drop-cons, drop_of_length-le, add-one}
use denote.Param.Members.{Mut}
use Rattle.document.specs.Limits.{width}
use Rattle.document.specs.Positions.{holds}
use Rattle.document.specs.Combinations.{binds_from, binds_exactly, zero_past}
use Rattle.document.specs.Tables.{numbers_at}
use Rattle.slices.specs.TablesBackLaws.{length-numbers_at}
use Rattle.slices.specs.NumbersLaws.{get_or_numbers_at}
use Rattle.combos.specs.LibraryLaws.{made_of}
use Rattle.bound.specs.Restrictions.{restricted}
use Rattle.bound.specs.RestrictionsLaws.{length-restricted, get_or_of_restricted}

-- a test of the numbers past the first n
abbrev pub unbound : ℕ → Bool
unbound x = eqb x 0

pub all_zero_past : (n : ℕ) (c : List ℕ) → list_all unbound (drop n c) ≡ zero_past n c
unfolding zero_past
all_zero_past zero [] = refl
all_zero_past (suc n) [] = refl
all_zero_past zero (x ∷ c) = ap (λ r. eqb x 0 && r) (all_zero_past zero c)
all_zero_past (suc n) (x ∷ c) = all_zero_past n c

-- a test of each number
abbrev pub bound_as : ℕ → List ℕ → ℕ → Bool
bound_as s c j = cond (holds s j) (not (eqb (get_or c j 0) 0)) (eqb (get_or c j 0) 0)

all_binds_from : (s : ℕ) (c : List ℕ) (k n : ℕ) → k + n ≡ length c → list_all (bound_as s c) (range_with_len k n) ≡ binds_from k s (drop k c)
unfolding binds_from
all_binds_from s c k zero e = rw (drop_of_length-le c {i = k} (omega arith))
all_binds_from s c k (suc n) e =
    rw (drop-cons c k 0 (omega arith))
    (ap (λ r. bound_as s c k && r) (all_binds_from s c (k + 1) n (omega arith) ∙ rw add-one))

pub all_binds_exactly : (s : ℕ) (c : List ℕ) → length c ≡ width → list_all (bound_as s c) (range_with_len 0 width) ≡ binds_exactly s c
unfolding binds_exactly
all_binds_exactly s c e = all_binds_from s c 0 width (sym e)

-- numbers made
abbrev pub restricted_at : ℕ → List ℕ → ℕ → ℕ
restricted_at s c k = cond (holds s k) (get_or c k 0) 0

pub made_restricted : {F : Type 0} {g : Mut F (ℕ × Unit {0}) ℕ} {f : F} (s : ℕ) (c ys : List ℕ) → length c ≡ width → IsFromFnResult g f ys width
    → ((k r : ℕ) (p : F) → k < width → Called g f (k, tt) r p → (p ≡ f) × (r ≡ restricted_at s c k)) → ys ≡ restricted s c
made_restricted s c ys w e t =
    made_of (restricted_at s c) (restricted s c) ys (length-restricted s c ∙ w) (λ k l. get_or_of_restricted s c k (omega arith)) e t

pub made_row : {F : Type 0} {g : Mut F (ℕ × Unit {0}) ℕ} {f : F} (t : List ℕ) (at : ℕ) (ys : List ℕ) → IsFromFnResult g f ys width
    → ((k r : ℕ) (p : F) → k < width → Called g f (k, tt) r p → (p ≡ f) × (r ≡ get_or t (at + k) 0)) → ys ≡ numbers_at width t at
made_row t at ys e s =
    made_of (λ k. get_or t (at + k) 0) (numbers_at width t at) ys (length-numbers_at width t at) (λ k l. get_or_numbers_at width t at k l) e s
