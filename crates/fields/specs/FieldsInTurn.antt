-- Laws of a row's fields taken in turn: there is one more than there are commas, and where one ends the next begins.
-- Assumes nothing.
use Rattle.std.specs.Prelude.{ℕ, suc, ◌+◌, ◌-◌, ◌≤◌, ◌<◌, ◌≡◌, refl, true, false, length, take, drop, eqb, leb}
use Rattle.std.proofs.Math.Path.{ap}
use Rattle.std.proofs.Common.{◌∙◌, inl, inr, length-drop, drop-drop, eq-eqb, ne_eqb, leb-true, leb-false}
use mathlib.Core.List.{List, [], ◌∷◌}
use mathlib.Core.List as list
use Rattle.std.proofs.Math.ListN.{get_or}
use Rattle.std.proofs.Math.Seq.{get_or-drop}
use native.Mathlib.Omega.{arith}
use Rattle.document.specs.Classes.{comma}
use Rattle.document.specs.Rows.{parts_from, parts, part_of, fields, field}
use Rattle.basics.specs.Tests.{decided}
use Rattle.basics.specs.Left.{drop_here, drop-end}
use Rattle.fields.specs.Split.{up_to_comma}
use Rattle.fields.specs.SplitLaws.{parts_after, field_there, fields-after, fields_over, end_within}
use Rattle.fields.specs.FieldsLaws.{fields-length}

-- how many commas there are
unfoldable pub commas : List ℕ → ℕ
commas [] = 0
commas (b ∷ r) = elim (eqb b comma) [ true ↦ suc (commas r) | false ↦ commas r ]

pub commas_here : (s : List ℕ) (i : ℕ) → i < length s → get_or s i 0 ≡ comma → commas (drop i s) ≡ suc (commas (drop (i + 1) s))
unfolding commas
commas_here s i h e = rw (drop_here s i h, eq-eqb (get_or s i 0) comma e, commas)

pub commas-later : (s : List ℕ) (i : ℕ) → i < length s → (get_or s i 0 ≡ comma → ⊥) → commas (drop i s) ≡ commas (drop (i + 1) s)
unfolding commas
commas-later s i h e = rw (drop_here s i h, ne_eqb (get_or s i 0) comma e, commas)

pub commas_over : (s : List ℕ) (i : ℕ) → length s ≤ i → commas (drop i s) ≡ 0
unfolding commas
commas_over s i h = rw (drop-end s i h)

parts_count : (start at : ℕ) (r : List ℕ) → length (parts_from start at r) ≡ suc (commas r)
unfolding parts_from commas
parts_count start at [] = refl
parts_count start at (b ∷ r) = elim (decided (eqb b comma)) [
  | inl e ↦ rw (e, parts_from, commas) (ap suc (parts_count (at + 1) (at + 1) r))
  | inr e ↦ rw (e, parts_from, commas) (parts_count start (at + 1) r)
]

pub fields_count : (row : List ℕ) → length (fields row) ≡ suc (commas row)
unfolding parts
fields_count row = fields-length row ∙ parts_count 0 0 row

-- A walk from field to field has reached field k, which ends at `end`: the fields from there on are those from its start on.
pub record Reached (row : List ℕ) (k end : ℕ) : Type 0 where
  pub start : ℕ
  pub place : start ≤ length row
  pub ends : end ≡ start + up_to_comma (drop start row)
  pub rest : list.map (part_of row) (parts_from start start (drop start row)) ≡ drop k (fields row)

pub reached_first : (row : List ℕ) (end : ℕ) → end ≡ up_to_comma row → Reached row 0 end
unfolding fields parts
reached_first row end e = record { start = 0; place = omega arith; ends = omega arith; rest = refl }

-- the fields after the one that is reached
reached_after : (row : List ℕ) (k end : ℕ) → (r : Reached row k end)
    → list.map (part_of row) (parts_after r.start (drop r.start row)) ≡ drop (k + 1) (fields row)
reached_after row k end r = ap (drop 1) (rw (field_there row r.start) at r.rest) ∙ drop-drop 1 k (fields row)

-- where a field follows, a comma stands at the end of this one
pub reached_comma : (row : List ℕ) (k end : ℕ) → Reached row k end → k + 1 < length (fields row) → end < length row
reached_comma row k end r h = elim (decided (leb (length row) end)) [
  | inl e ↦
      let o = fields_over row r.start end r.ends (leb-true (length row) end e) in
      let z : [] ≡ drop (k + 1) (fields row) = rw o at (reached_after row k end r) in
      let n : 0 ≡ length (fields row) - (k + 1) = ap length z ∙ length-drop (k + 1) (fields row) in
      absurd (omega arith)
  | inr e ↦ leb-false (length row) end e
]

next-rest : (row : List ℕ) (k end : ℕ) → Reached row k end → k + 1 < length (fields row)
    → list.map (part_of row) (parts_from (end + 1) (end + 1) (drop (end + 1) row)) ≡ drop (k + 1) (fields row)
next-rest row k end r h =
    rw (fields-after row r.start end r.ends r.place (reached_comma row k end r h)) at (reached_after row k end r)

-- The field that follows: it ends where the next comma stands, lies inside the row, and is that part of it.
module _ (row : List ℕ) (k end end' : ℕ) (r : Reached row k end) (h : k + 1 < length (fields row))
    (e : end' ≡ end + 1 + up_to_comma (drop (end + 1) row)) where
  pub reached_next : Reached row (k + 1) end'
  reached_next =
      let l = reached_comma row k end r h in
      record { start = end + 1; place = omega arith; ends = e; rest = next-rest row k end r h }

  pub next_within : (end + 1 ≤ end') × (end' ≤ length row)
  next_within = let l = reached_comma row k end r h in end_within row (end + 1) end' e (omega arith)

  pub next-part : take (end' - (end + 1)) (drop (end + 1) row) ≡ field row (k + 1)
  unfolding field part_of
  next-part =
      let z : end' - (end + 1) ≡ up_to_comma (drop (end + 1) row) = omega arith in
      let o : k + 1 + 0 ≡ k + 1 = omega arith in
      let n = rw (field_there row (end + 1)) at (next-rest row k end r h) in
      rw z (ap (λ l. get_or l 0 []) n ∙ get_or-drop (k + 1) (fields row) 0 [] ∙ ap (λ j. get_or (fields row) j []) o)
