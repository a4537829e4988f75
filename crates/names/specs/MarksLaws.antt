-- Laws of tests over the fields of a row, by their numbers in a split row, and of the set that its marks say.
-- Assumes nothing.
use Rattle.std.specs.Prelude.{ℕ, zero, suc, ◌+◌, ◌-◌, ◌*◌, ◌^◌, ◌≤◌, ◌<◌, ◌≡◌, refl, Bool, true, false, cond, ◌&&◌, ◌||◌, List, [], ◌∷◌, length, drop, eqb}
use Rattle.std.specs.List.{list_all, list_any, range_with_len}
use lib.Pointwise.{pointwise}
use Rattle.fields.specs.SameLaws.{equal_is}
use Rattle.std.proofs.Common.{ap, ◌∙◌, drop_of_length-le, drop-cons, pow_mono, arith, add-one}
use Rattle.std.proofs.Math.Nat.{two-pow-succ}
use Rattle.document.specs.Lists.{every, some, among, repeated, equal}
use Rattle.document.specs.Limits.{width}
use Rattle.document.specs.Classes.{one_byte}
use Rattle.document.specs.Rows.{fields, field}
use Rattle.document.specs.Declarations.{set_from}
use Rattle.fields.specs.declared.Fields.{Fields}
use Rattle.fields.specs.Split.{most_fields, Split}
use Rattle.fields.specs.FieldsLaws.{split_counts}

-- the fields from a place on
fields_here : (row : List ℕ) (f : Fields) (k : ℕ) → Split row f → f.count ≤ most_fields → k < f.count
    → drop k (fields row) ≡ field row k ∷ drop (k + 1) (fields row)
unfolding field
fields_here row f k s m h = let c = (split_counts row f s).few m in rw (add-one, drop-cons (fields row) k [] (omega arith))

fields-past : (row : List ℕ) (f : Fields) (k : ℕ) → Split row f → f.count ≤ most_fields → f.count ≤ k → drop k (fields row) ≡ []
fields-past row f k s m h = let c = (split_counts row f s).few m in let l : length (fields row) ≤ k = omega arith in drop_of_length-le (fields row) l

-- Tests at the numbers of the fields from one on, n of them: whether all pass, whether a name is one of them, whether some
-- stands again.
module _ (row : List ℕ) (f : Fields) (s : Split row f) (m : f.count ≤ most_fields) where
  pub all_pass : (p : List ℕ → Bool) (k n : ℕ) → f.count - k ≡ n → list_all (λ j. p (field row j)) (range_with_len k n) ≡ every p (drop k (fields row))
  unfolding every
  all_pass p k zero h = rw (fields-past row f k s m (omega arith))
  all_pass p k (suc n) h = rw (fields_here row f k s m (omega arith)) (ap (λ b. p (field row k) && b) (all_pass p (k + 1) n (omega arith)))

  pub some_same : (name : List ℕ) (k n : ℕ) → f.count - k ≡ n
      → list_any (λ j. pointwise eqb name (field row j)) (range_with_len k n) ≡ among name (drop k (fields row))
  unfolding among some
  some_same name k zero h = rw (fields-past row f k s m (omega arith))
  some_same name k (suc n) h =
      rw (fields_here row f k s m (omega arith), equal_is name (field row k))
      (ap (λ b. pointwise eqb name (field row k) || b) (some_same name (k + 1) n (omega arith)))

  pub some_again : (k n : ℕ) → f.count - k ≡ n
      → list_any (λ j. among (field row j) (drop (j + 1) (fields row))) (range_with_len k n) ≡ repeated (drop k (fields row))
  unfolding repeated
  some_again k zero h = rw (fields-past row f k s m (omega arith))
  some_again k (suc n) h =
      rw (fields_here row f k s m (omega arith))
      (ap (λ b. among (field row k) (drop (k + 1) (fields row)) || b) (some_again (k + 1) n (omega arith)))

-- The set that the marks say: what was added so far, below the next bit, and what the marks from a place on add.
pub record Sums (row : List ℕ) (set bit k : ℕ) : Type 0 where
  pub place : 1 ≤ k
  pub power : bit ≡ 2 ^ (k - 1)
  pub small : bit ≤ 2 ^ width
  pub below : set < bit
  pub sum : set + set_from (k - 1) (drop k (fields row)) ≡ set_from 0 (drop 1 (fields row))

pub sums_none : (row : List ℕ) → Sums row 0 1 1
sums_none row = record { place = omega arith; power = refl; small = omega arith; below = omega arith; sum = omega arith }

pub worth_small : (b : Bool) (bit w : ℕ) → w ≡ cond b bit 0 → w ≤ bit
worth_small true bit w e = omega arith
worth_small false bit w e = omega arith

set_here : (row : List ℕ) (f : Fields) (k : ℕ) → Split row f → f.count ≤ most_fields → k < f.count → 1 ≤ k
    → set_from (k - 1) (drop k (fields row)) ≡ cond (equal (field row k) (one_byte ∷ [])) (2 ^ (k - 1)) 0 + set_from (k + 1 - 1) (drop (k + 1) (fields row))
unfolding set_from
set_here row f k s m h l = let e : suc (k - 1) ≡ k + 1 - 1 = omega arith in rw (fields_here row f k s m h, e)

pub sums_turn : (row : List ℕ) (f : Fields) (set bit k : ℕ) → Sums row set bit k → Split row f → f.count ≤ most_fields → k < f.count
    → (x : List ℕ) → x ≡ field row k → (w : ℕ) → w ≡ cond (equal x (one_byte ∷ [])) bit 0 → Sums row (set + w) (bit * 2) (k + 1)
sums_turn row f set bit k i s m h x e w q =
    let p : k - 1 ≤ width - 1 = omega arith in
    let n : 2 ^ (k - 1) ≤ 2 ^ (width - 1) = pow_mono p in
    let z : bit ≡ 2 ^ (k - 1) = i.power in
    let d : 2 ^ suc (k - 1) ≡ 2 ^ (k - 1) + 2 ^ (k - 1) = two-pow-succ (k - 1) in
    let j : suc (k - 1) ≡ k + 1 - 1 = let o = i.place in omega arith in
    let v = worth_small (equal x (one_byte ∷ [])) bit w q in
    let g : w ≡ cond (equal (field row k) (one_byte ∷ [])) (2 ^ (k - 1)) 0 = q ∙ rw (e, ← z) in
    let a = set_here row f k s m h i.place in
    let t = i.sum in
    record {
      place = omega arith;
      power = rw (← j) (omega arith);
      small = omega arith;
      below = let b = i.below in omega arith;
      sum = omega arith;
    }

pub sums_all : (row : List ℕ) (f : Fields) (set bit k : ℕ) → Sums row set bit k → Split row f → f.count ≤ most_fields → f.count ≤ k
    → set ≡ set_from 0 (drop 1 (fields row))
unfolding set_from
sums_all row f set bit k i s m h = let t = rw (fields-past row f k s m h) at i.sum in omega arith
