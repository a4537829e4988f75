-- Laws that link what `split` answers with the fields of the row: how many there are, and where each stands.
-- Assumes nothing.
use Rattle.std.specs.Prelude.{ℕ, zero, suc, ◌+◌, ◌≤◌, ◌<◌, ◌≡◌, refl, true, false, cond, List, [], ◌∷◌, length, get_or, set, leb}
use Rattle.std.proofs.Common.{sym, ap, ◌∙◌, inl, inr, length-set, get_or-set_same, get_or-set_other, arith, leb-true, leb-false}
use Rattle.std.proofs.lemmas.List.{length-map}
use Rattle.std.proofs.Math.ListN.{get_or-map}
use Rattle.std.proofs.lemmas.Bool.{lt-leb}
use Rattle.document.specs.Rows.{Part, parts, part_of, fields, field}
use Rattle.basics.specs.Tests.{decided}
use Rattle.fields.specs.declared.Fields.{Fields}
use Rattle.fields.specs.Split.{most_fields, as_told, added, collected, no_fields, Split}
use Rattle.fields.specs.declared.Part.{Part as Told}
use Rattle.fields.specs.Places.{place_at, told, no_part}
use Rattle.fields.specs.SplitLaws.{field_there}

-- a count that goes no further than one past what a row can have
pub record Counts (n count : ℕ) : Type 0 where
  pub few : count ≤ most_fields → n ≡ count
  pub many : most_fields < count → most_fields < n

-- one field more, where there is a place for it and where there is none
abbrev placed : Fields → Part → Fields
placed f p = record { count = f.count + 1; places = set f.places f.count (as_told p) }

abbrev counted : Fields → Fields
counted f = record { count = most_fields + 1; places = f.places }

collected_few : (f : Fields) (p : Part) (l : List Part) → leb most_fields f.count ≡ false → collected f (p ∷ l) ≡ collected (placed f p) l
unfolding collected added
collected_few f p l e = ap (λ b. collected (cond b (counted f) (placed f p)) l) e

collected-many : (f : Fields) (p : Part) (l : List Part) → leb most_fields f.count ≡ true → collected f (p ∷ l) ≡ collected (counted f) l
unfolding collected added
collected-many f p l e = ap (λ b. collected (cond b (counted f) (placed f p)) l) e

collected_none : (f : Fields) → collected f [] ≡ f
unfolding collected
collected_none f = refl

collected_count : (f : Fields) (l : List Part) → f.count ≤ most_fields + 1 → Counts (f.count + length l) (collected f l).count
collected_count f [] h = rw (collected_none f) (record { few = λ (k : f.count ≤ most_fields). omega arith; many = λ (k : most_fields < f.count). omega arith })
collected_count f (p ∷ l) h = elim (decided (leb most_fields f.count)) [
  | inl e ↦
      let g = counted f in
      let k = leb-true most_fields f.count e in
      let i = collected_count g l (omega arith) in
      rw (collected-many f p l e) (record {
        few = λ (q : (collected g l).count ≤ most_fields). let z = i.few q in absurd (omega arith);
        many = λ (q : most_fields < (collected g l).count). omega arith;
      })
  | inr e ↦
      let g = placed f p in
      let k = leb-false most_fields f.count e in
      let i = collected_count g l (omega arith) in
      rw (collected_few f p l e) (record {
        few = λ (q : (collected g l).count ≤ most_fields). let z = i.few q in omega arith;
        many = λ (q : most_fields < (collected g l).count). let z = i.many q in omega arith;
      })
]

-- what has a place keeps it
collected-keeps : (f : Fields) (l : List Part) (k : ℕ) → f.count ≤ most_fields + 1 → k < f.count
    → place_at (collected f l).places k ≡ place_at f.places k
collected-keeps f [] k m h = rw (collected_none f)
collected-keeps f (p ∷ l) k m h = elim (decided (leb most_fields f.count)) [
  | inl e ↦
      let g = counted f in
      let i = collected-keeps g l k (omega arith) (omega arith) in
      rw (collected-many f p l e) i
  | inr e ↦
      let g = placed f p in
      let j = leb-false most_fields f.count e in
      let i = collected-keeps g l k (omega arith) (omega arith) in
      let n : (k ≡ f.count → ⊥) = λ (q : k ≡ f.count). omega arith in
      rw (collected_few f p l e) (i ∙ get_or-set_other f.places f.count k (as_told p) (record { start = 0; size = 0 }) n)
]

-- and one that is added gets the place after those before it
collected_at : (f : Fields) (l : List Part) (j : ℕ) → length f.places ≡ most_fields
    → j < length l → f.count + j < most_fields → place_at (collected f l).places (f.count + j) ≡ as_told (get_or l j no_part)
collected_at f [] j a h m = absurd (omega arith)
collected_at f (p ∷ l) zero a h m =
    let i = collected-keeps (placed f p) l f.count (omega arith) (omega arith) in
    let z : f.count + 0 ≡ f.count = omega arith in
    rw (collected_few f p l (lt-leb most_fields f.count (omega arith)), z)
    (i ∙ get_or-set_same f.places f.count (as_told p) (record { start = 0; size = 0 }) (omega arith))
collected_at f (p ∷ l) (suc j) a h m =
    let z : f.count + suc j ≡ f.count + 1 + j = omega arith in
    rw (collected_few f p l (lt-leb most_fields f.count (omega arith)), z)
    (collected_at (placed f p) l j (length-set f.places f.count (as_told p) ∙ a) (omega arith) (omega arith))

-- The fields of a row that was split.
pub fields-length : (row : List ℕ) → length (fields row) ≡ length (parts row)
unfolding fields
fields-length row = length-map (parts row) (part_of row)

pub split_counts : (row : List ℕ) (f : Fields) → Split row f → Counts (length (fields row)) f.count
split_counts row f s =
    let z : length (fields row) ≡ 0 + length (parts row) = let n = fields-length row in omega arith in
    rw (z, s.is) (collected_count no_fields (parts row) (omega arith))

-- a row has one field at least
pub fields-some : (row : List ℕ) → 1 ≤ length (fields row)
unfolding parts
fields-some row = rw (fields-length row, field_there row 0) (omega arith)

pub split-some : (row : List ℕ) (f : Fields) → Split row f → 1 ≤ f.count
split-some row f s = elim (decided (leb f.count most_fields)) [
  | inl e ↦ let k = fields-some row in let c = (split_counts row f s).few (leb-true f.count most_fields e) in omega arith
  | inr e ↦ let c = leb-false f.count most_fields e in omega arith
]

-- each field is the part of the row that its place says
pub split_at : (row : List ℕ) (f : Fields) (k : ℕ) → Split row f → k < f.count → f.count ≤ most_fields
    → told row (place_at f.places k) ≡ field row k
unfolding field fields part_of
split_at row f k s h m =
    let c : length (fields row) ≡ f.count = (split_counts row f s).few m in
    let n = fields-length row in
    let i = collected_at no_fields (parts row) k refl (omega arith) (omega arith) in
    let z : 0 + k ≡ k = omega arith in
    let j = rw (z, ← s.is) at i in
    rw j (sym (get_or-map (part_of row) (parts row) k no_part))

-- the first field stands at the row's start
pub split_first : (row : List ℕ) (f : Fields) → Split row f → (place_at f.places 0).start ≡ 0
unfolding parts
split_first row f s =
    let n = fields-length row in
    let m = fields-some row in
    let i = collected_at no_fields (parts row) 0 refl (omega arith) (omega arith) in
    ap (λ (p : Told). p.start) (rw (← s.is) at i) ∙ ap (λ l. (get_or l 0 no_part).start) (field_there row 0)
