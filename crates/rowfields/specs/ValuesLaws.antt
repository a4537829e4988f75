-- Laws of the loops over a row's bytes and values.
-- Assumes nothing.
use Rattle.std.specs.Prelude.{ℕ, zero, suc, ◌+◌, ◌≤◌, ◌<◌, min, ◌≡◌, refl, Bool, true, false, not, cond, ◌&&◌, Option, Some, None, List, [], ◌∷◌, ◌++◌, length, get_or, take, drop, set, replicate, eqb, ltb}
use Rattle.std.proofs.Common.{sym, ap, ◌∙◌, inl, inr, length-set, length-append, length-take, drop_of_length-le, drop-cons, ext_get_or, get_or-take, get_or-set_same, get_or-set_other, arith, add-one, eq-eqb, ne_eqb, eqb-true, ltb-true, ltb-false}
use mathlib.Core.List as list
use Rattle.std.proofs.Math.ListN.{get_or-append}
use Rattle.std.proofs.lemmas.Bool.{eqb-false}
use Rattle.document.specs.Lists.{some, equal}
use Rattle.document.specs.Limits.{width}
use Rattle.document.specs.Classes.{comma}
use Rattle.document.specs.Rows.{fields, value_of}
use Rattle.document.specs.Log.{is_bad_value, values_of}
use Rattle.basics.specs.Tests.{decided}
use Rattle.basics.specs.Lists.{zero_at}
use Rattle.rowfields.specs.Said.{is_barred}
use Rattle.basics.specs.Left.{some_over, some-found, some_goes_on}
use Rattle.fields.specs.FieldsInTurn.{commas, commas_here, commas-later, commas_over, fields_count}

-- The turns of the loop that counts a row's fields: no byte so far is barred, and the commas that are left are the fields after
-- those counted.
pub record Counting (row : List ℕ) (count i : ℕ) : Type 0 where
  pub clean : some is_barred (drop i row) ≡ some is_barred row
  pub counted : count + commas (drop i row) ≡ length (fields row)
  pub small : count ≤ i + 1

-- what the count answers
abbrev pub counted_fields : List ℕ → Option ℕ
counted_fields row = cond (some is_barred row) None (Some (length (fields row)))

pub counting_begin : (row : List ℕ) → Counting row 1 0
counting_begin row = let n = fields_count row in record { clean = refl; counted = omega arith; small = omega arith }

module _ (row : List ℕ) (count i : ℕ) (g : Counting row count i) where
  pub counting_end : length row ≤ i → Some count ≡ counted_fields row
  counting_end h =
      let z = commas_over row i h in
      let n : count ≡ length (fields row) = let c = g.counted in omega arith in
      rw (sym g.clean ∙ some_over is_barred row i h, n)

  module _ (h : i < length row) where
    pub counting_barred : (x : Bool) → x ≡ is_barred (get_or row i 0) → x ≡ true → None ≡ counted_fields row
    counting_barred x q t = rw (sym g.clean ∙ some-found is_barred row i h (sym q ∙ t))

    pub counting_comma : get_or row i 0 ≡ comma → Counting row (count + 1) (i + 1)
    counting_comma e =
        let z = commas_here row i h e in
        let c = g.counted in
        let s = g.small in
        let f : is_barred (get_or row i 0) ≡ false = rw e in
        record { clean = sym (some_goes_on is_barred row i h f) ∙ g.clean; counted = omega arith; small = omega arith }

    pub counting_other : (get_or row i 0 ≡ comma → ⊥) → (x : Bool) → x ≡ is_barred (get_or row i 0) → x ≡ false → Counting row count (i + 1)
    counting_other n x q f =
        let z = commas-later row i h n in
        let c = g.counted in
        let s = g.small in
        record { clean = sym (some_goes_on is_barred row i h (sym q ∙ f)) ∙ g.clean; counted = omega arith; small = omega arith }

-- What one field says: a value, nothing, or neither.
empty_length : (f : List ℕ) → length f ≡ 0 → equal f [] ≡ true
unfolding equal
empty_length [] h = refl
empty_length (x ∷ f) h = absurd (omega arith)

filled-length : (f : List ℕ) → (length f ≡ 0 → ⊥) → equal f [] ≡ false
unfolding equal
filled-length [] h = absurd (h refl)
filled-length (x ∷ f) h = refl

pub value_good : (f : List ℕ) (v : ℕ) → v ≡ value_of f → (v ≡ 0 → ⊥) → false ≡ is_bad_value f
unfolding is_bad_value
value_good f v e n = rw (← e, ne_eqb v 0 n) (go (not (equal f [])))
  where
    go : (b : Bool) → false ≡ (b && false)
    go true = refl
    go false = refl

pub value_none : (f : List ℕ) → length f ≡ 0 → false ≡ is_bad_value f
unfolding is_bad_value
value_none f h = rw (empty_length f h)

pub value_bad : (f : List ℕ) (v : ℕ) → v ≡ value_of f → v ≡ 0 → (length f ≡ 0 → ⊥) → true ≡ is_bad_value f
unfolding is_bad_value
value_bad f v e z n = rw (filled-length f n, ← e, eq-eqb v 0 z)

-- The loop over the fields: the values of those before k are there, the others are 0, and what is left decides.
pub record Takes (fs : List (List ℕ)) (values : List ℕ) (k : ℕ) : Type 0 where
  pub long : length values ≡ width
  pub done : (j : ℕ) → j < k → get_or values j 0 ≡ value_of (get_or fs j [])
  pub rest : (j : ℕ) → k ≤ j → get_or values j 0 ≡ 0
  pub fine : some is_bad_value (drop k fs) ≡ some is_bad_value fs

pub takes_begin : (fs : List (List ℕ)) → Takes fs (replicate width 0) 0
takes_begin fs = record { long = refl; done = λ j h. absurd (omega arith); rest = λ j h. zero_at width j; fine = refl }

fields_here : (fs : List (List ℕ)) (k : ℕ) → k < length fs → drop k fs ≡ get_or fs k [] ∷ drop (k + 1) fs
fields_here fs k h = rw (add-one, drop-cons fs k [] h)

pub takes_bad : (fs : List (List ℕ)) (values : List ℕ) (k : ℕ) → Takes fs values k → k < length fs → true ≡ is_bad_value (get_or fs k [])
    → some is_bad_value fs ≡ true
unfolding some
takes_bad fs values k t h e = sym (rw (fields_here fs k h, ← e) at t.fine)

pub takes_more : (fs : List (List ℕ)) (values : List ℕ) (k v : ℕ) → Takes fs values k → k < length fs → k < width
    → false ≡ is_bad_value (get_or fs k []) → v ≡ value_of (get_or fs k []) → Takes fs (set values k v) (k + 1)
unfolding some
takes_more fs values k v t h l e q = record {
  long = length-set values k v ∙ t.long;
  done = λ j m. elim (decided (eqb j k)) [
    | inl s ↦ let z : j ≡ k = eqb-true j k s in rw (z, get_or-set_same values k v 0 (let a = t.long in omega arith)) q
    | inr s ↦ let n = eqb-false j k s in rw (get_or-set_other values k j v 0 n) (t.done j (omega arith))
  ];
  rest = λ j m. rw (get_or-set_other values k j v 0 (λ (z : j ≡ k). omega arith)) (t.rest j (omega arith));
  fine = rw (fields_here fs k h, ← e) at t.fine;
}

get_d_map : (fs : List (List ℕ)) (j : ℕ) → j < length fs → get_or (list.map value_of fs) j 0 ≡ value_of (get_or fs j [])
get_d_map [] j h = absurd (omega arith)
get_d_map (f ∷ fs) zero h = refl
get_d_map (f ∷ fs) (suc j) h = get_d_map fs j (omega arith)

map_length : (fs : List (List ℕ)) → length (list.map value_of fs) ≡ length fs
map_length [] = refl
map_length (f ∷ fs) = ap suc (map_length fs)

append_zeros : (l : List ℕ) (n j : ℕ) → length l ≤ j → ◌≡◌ {A = ℕ} (get_or (l ++ replicate n 0) j 0) 0
append_zeros [] n j h = zero_at n j
append_zeros (x ∷ l) n zero h = absurd (omega arith)
append_zeros (x ∷ l) n (suc j) h = append_zeros l n j (omega arith)

pub takes_all : (fs : List (List ℕ)) (values : List ℕ) (k : ℕ) → Takes fs values k → length fs ≡ k → k ≤ width → values ≡ values_of fs
unfolding values_of
takes_all fs values k t e l =
    let all = list.map value_of fs ++ replicate width 0 in
    let m = map_length fs in
    let n = length-append (list.map value_of fs) (replicate width 0) in
    ext_get_or 0 values (take width all) (t.long ∙ sym (length-take width all ∙ min-is (length all) (omega arith))) (λ j h.
    let w : j < width = let a = t.long in omega arith in
    sym (get_or-take width all j 0 w ∙ at j))
  where
    min-is : (n : ℕ) → width ≤ n → min width n ≡ width
    min-is n h = omega arith

    at : (j : ℕ) → get_or (list.map value_of fs ++ replicate width 0) j 0 ≡ get_or values j 0
    at j = elim (decided (ltb j k)) [
      | inl s ↦
          let h = ltb-true j k s in
          get_or-append (list.map value_of fs) (replicate width 0) 0 j (rw (map_length fs) (omega arith)) ∙ get_d_map fs j (omega arith) ∙ sym (t.done j h)
      | inr s ↦
          let h = ltb-false j k s in
          append_zeros (list.map value_of fs) width j (rw (map_length fs) (omega arith)) ∙ sym (t.rest j h)
    ]

pub takes_fine : (fs : List (List ℕ)) (values : List ℕ) (k : ℕ) → Takes fs values k → length fs ≤ k → some is_bad_value fs ≡ false
unfolding some
takes_fine fs values k t h = sym (rw (drop_of_length-le fs h) at t.fine)
