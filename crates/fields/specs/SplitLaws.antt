-- Laws of fields: how the parts of a row go on after a comma, and what the collected fields say of them.
-- Assumes nothing.
use Rattle.std.specs.Prelude.{ℕ, suc, ◌+◌, ◌-◌, ◌≤◌, ◌<◌, ◌≡◌, refl, ◌⊎◌, true, false, List, [], ◌∷◌, length, get_or, take, drop, set, eqb, leb}
use Rattle.std.proofs.Common.{sym, ap, ◌∙◌, inl, inr, length-drop, length-set, drop-drop, get_or-set_same, get_or-set_other, arith, eq-eqb, ne_eqb, leb-false, eqb-true}
use Rattle.std.proofs.Math.ListN.{get_or-map}
use Rattle.std.proofs.lemmas.Bool.{eqb-false}
use Rattle.document.specs.Classes.{comma}
use Rattle.document.specs.Rows.{Part, parts_from, parts, part_of, fields, field}
use Rattle.basics.specs.Tests.{decided}
use Rattle.fields.specs.declared.Fields.{Fields}
use Rattle.basics.specs.Left.{drop_here, drop-end}
use Rattle.fields.specs.Split.{up_to_comma, most_fields, as_told, added, collected, no_fields, Split}
use Rattle.fields.specs.Places.{ToldAt, place_at, no_part, field_part}
use Rattle.fields.specs.PlacesLaws.{told_at, empty_at}

-- The bytes before the first comma: at a comma, at another byte, at the end.
pub comma_here : (s : List ℕ) (i : ℕ) → i < length s → get_or s i 0 ≡ comma → up_to_comma (drop i s) ≡ 0
unfolding up_to_comma
comma_here s i h e = rw (drop_here s i h, eq-eqb (get_or s i 0) comma e, up_to_comma)

pub comma-later : (s : List ℕ) (i : ℕ) → i < length s → (get_or s i 0 ≡ comma → ⊥) → up_to_comma (drop i s) ≡ suc (up_to_comma (drop (i + 1) s))
unfolding up_to_comma
comma-later s i h e = rw (drop_here s i h, ne_eqb (get_or s i 0) comma e, up_to_comma)

pub comma_never : (s : List ℕ) (i : ℕ) → length s ≤ i → up_to_comma (drop i s) ≡ 0
unfolding up_to_comma
comma_never s i h = rw (drop-end s i h)

pub up_to_within : (r : List ℕ) → up_to_comma r ≤ length r
unfolding up_to_comma
up_to_within [] = omega arith
up_to_within (b ∷ r) = elim (decided (eqb b comma)) [
  | inl e ↦ rw (e, up_to_comma) (omega arith)
  | inr e ↦ rw (e, up_to_comma) (let k = up_to_within r in omega arith)
]

-- The parts of a row: the first, up to its comma, and those after the comma.
unfoldable pub parts_after : ℕ → List ℕ → List Part
parts_after at [] = []
parts_after at (b ∷ r) = elim (eqb b comma) [ true ↦ parts_from (at + 1) (at + 1) r | false ↦ parts_after (at + 1) r ]

pub parts_first : (start at : ℕ) (r : List ℕ) → parts_from start at r ≡ record { start = start; size = at + up_to_comma r - start } ∷ parts_after at r
unfolding parts_from parts_after up_to_comma
parts_first start at [] = let e : at + 0 - start ≡ at - start = omega arith in rw e
parts_first start at (b ∷ r) = elim (decided (eqb b comma)) [
  | inl e ↦ let k : at + 0 - start ≡ at - start = omega arith in rw (e, parts_from, parts_after, up_to_comma, k)
  | inr e ↦ let k : at + suc (up_to_comma r) ≡ at + 1 + up_to_comma r = omega arith in rw (e, parts_from, parts_after, up_to_comma, k) (parts_first start (at + 1) r)
]

pub parts-rest : (at : ℕ) (r : List ℕ) → up_to_comma r < length r
    → parts_after at r ≡ parts_from (at + up_to_comma r + 1) (at + up_to_comma r + 1) (drop (up_to_comma r + 1) r)
unfolding parts_after up_to_comma
parts-rest at [] h = absurd (omega arith)
parts-rest at (b ∷ r) h = elim (decided (eqb b comma)) [
  | inl e ↦ let k : at + 0 + 1 ≡ at + 1 = omega arith in rw (e, parts_after, up_to_comma, k)
  | inr e ↦
      let m : up_to_comma r < length r = let g = rw (e, up_to_comma) at h in omega arith in
      let k : at + suc (up_to_comma r) + 1 ≡ at + 1 + up_to_comma r + 1 = omega arith in
      let j : suc (up_to_comma r) + 1 ≡ suc (up_to_comma r + 1) = omega arith in
      rw (e, parts_after, up_to_comma, k, j) (parts-rest (at + 1) r m)
]

pub parts_none : (at : ℕ) (r : List ℕ) → length r ≤ up_to_comma r → parts_after at r ≡ []
unfolding parts_after up_to_comma
parts_none at [] h = refl
parts_none at (b ∷ r) h = elim (decided (eqb b comma)) [
  | inl e ↦ absurd (let g = rw (e, up_to_comma) at h in omega arith)
  | inr e ↦ let m : length r ≤ up_to_comma r = let g = rw (e, up_to_comma) at h in omega arith in rw (e, parts_after) (parts_none (at + 1) r m)
]

-- the same of a row from a place inside it on: the field there ends at `end`
pub field_there : (row : List ℕ) (start : ℕ) → parts_from start start (drop start row)
    ≡ record { start = start; size = up_to_comma (drop start row) } ∷ parts_after start (drop start row)
field_there row start = let k : start + up_to_comma (drop start row) - start ≡ up_to_comma (drop start row) = omega arith in rw (parts_first start start (drop start row), k)

pub fields-after : (row : List ℕ) (start end : ℕ) → end ≡ start + up_to_comma (drop start row) → start ≤ length row → end < length row
    → parts_after start (drop start row) ≡ parts_from (end + 1) (end + 1) (drop (end + 1) row)
fields-after row start end e l h =
    let m : up_to_comma (drop start row) < length (drop start row) = rw length-drop (omega arith) in
    let k : start + (up_to_comma (drop start row) + 1) ≡ end + 1 = omega arith in
    rw (parts-rest start (drop start row) m, ← e, drop-drop, k)

pub fields_over : (row : List ℕ) (start end : ℕ) → end ≡ start + up_to_comma (drop start row) → length row ≤ end
    → parts_after start (drop start row) ≡ []
fields_over row start end e h = parts_none start (drop start row) (rw length-drop (omega arith))

pub end_within : (row : List ℕ) (start end : ℕ) → end ≡ start + up_to_comma (drop start row) → start ≤ length row → (start ≤ end) × (end ≤ length row)
end_within row start end e l = let k = up_to_within (drop start row) in let j = rw length-drop at k in (omega arith, omega arith)

-- The turns of the loop that looks for a field's end.
pub field-end-found : (s : List ℕ) (start i : ℕ) → i + up_to_comma (drop i s) ≡ start + up_to_comma (drop start s) → i < length s
    → get_or s i 0 ≡ comma → i ≡ start + up_to_comma (drop start s)
field-end-found s start i q h e = let z = comma_here s i h e in omega arith

pub field-end-turn : (s : List ℕ) (start i : ℕ) → i + up_to_comma (drop i s) ≡ start + up_to_comma (drop start s) → i < length s
    → (get_or s i 0 ≡ comma → ⊥) → i + 1 + up_to_comma (drop (i + 1) s) ≡ start + up_to_comma (drop start s)
field-end-turn s start i q h e = let z = comma-later s i h e in omega arith

pub field_end_over : (s : List ℕ) (start i : ℕ) → i + up_to_comma (drop i s) ≡ start + up_to_comma (drop start s) → length s ≤ i
    → i ≡ start + up_to_comma (drop start s)
field_end_over s start i q h = let z = comma_never s i h in omega arith

-- The turns of the loop that walks to a field: `left` fields are still to be passed, and the next one begins at `start` and
-- ends at `end`.
pub record Walk (row : List ℕ) (number start end left : ℕ) : Type 0 where
  pub place : start ≤ length row
  pub ends : end ≡ start + up_to_comma (drop start row)
  pub rest : get_or (parts_from start start (drop start row)) left no_part ≡ field_part row number

pub walk_begins : (row : List ℕ) (number end : ℕ) → end ≡ 0 + up_to_comma (drop 0 row) → Walk row number 0 end number
unfolding field_part parts
walk_begins row number end e = record { place = omega arith; ends = e; rest = refl }

walk_tail : (row : List ℕ) (start left : ℕ) → get_or (parts_from start start (drop start row)) (suc left) no_part
    ≡ get_or (parts_after start (drop start row)) left no_part
walk_tail row start left = rw (field_there row start)

pub walk_on : (row : List ℕ) (number start end left end' next : ℕ) → Walk row number start end left → left ≡ suc next → end < length row
    → end' ≡ end + 1 + up_to_comma (drop (end + 1) row) → Walk row number (end + 1) end' next
walk_on row number start end left end' next w k h e =
    record {
      place = omega arith;
      ends = e;
      rest = sym (ap (λ l. get_or l next no_part) (fields-after row start end w.ends w.place h))
          ∙ sym (walk_tail row start next) ∙ ap (λ n. get_or (parts_from start start (drop start row)) n no_part) (sym k) ∙ w.rest;
    }

-- a field holds the bytes of its part
field-part : (row : List ℕ) (number : ℕ) → field row number ≡ part_of row (field_part row number)
unfolding field fields field_part part_of
field-part row number = get_or-map (part_of row) (parts row) number no_part

-- past the last field: the empty part at the start
walk_over : (row : List ℕ) (number start end left : ℕ) → Walk row number start end left → 0 < left → length row ≤ end → field_part row number ≡ no_part
walk_over row number start end left w p h =
    let k : left ≡ suc (left - 1) = omega arith in
    sym (sym (ap (λ l. get_or l (left - 1) no_part) (fields_over row start end w.ends h))
    ∙ sym (walk_tail row start (left - 1)) ∙ ap (λ n. get_or (parts_from start start (drop start row)) n no_part) (sym k) ∙ w.rest)

-- at the field: it is the part from `start` up to `end`
walk_there : (row : List ℕ) (number start end left : ℕ) → Walk row number start end left → left ≤ 0
    → field_part row number ≡ record { start = start; size = up_to_comma (drop start row) }
walk_there row number start end left w h = let z : left ≡ 0 = omega arith in sym (rw (z, field_there row start) at w.rest)

pub walk_none : (row : List ℕ) (number start end left : ℕ) → Walk row number start end left → 0 < left → length row ≤ end
    → ToldAt row (field_part row number).start (field row number) (record { start = 0; size = 0 })
unfolding part_of
walk_none row number start end left w p h =
    let z = walk_over row number start end left w p h in
    rw z (told_at row (field row number) 0 0 (omega arith) (sym (field-part row number ∙ ap (part_of row) z)))

pub walk_field : (row : List ℕ) (number start end left : ℕ) → Walk row number start end left → left ≤ 0 → take (end - start) (drop start row) ≡ field row number
unfolding part_of
walk_field row number start end left w h =
    let z = walk_there row number start end left w h in
    let k : end - start ≡ up_to_comma (drop start row) = let e = w.ends in omega arith in
    sym (field-part row number ∙ ap (part_of row) z ∙ rw k)

pub walk_inside : (row : List ℕ) (number start end left : ℕ) → Walk row number start end left → (start ≤ end) × (end ≤ length row)
walk_inside row number start end left w = end_within row start end w.ends w.place

pub walk_ends : (row : List ℕ) (number start end left : ℕ) → Walk row number start end left → left ≤ 0
    → ToldAt row (field_part row number).start (field row number) (record { start = start; size = end - start })
walk_ends row number start end left w h =
    let i = walk_inside row number start end left w in
    rw (walk_there row number start end left w h) (told_at row (field row number) start (end - start) (omega arith) (walk_field row number start end left w h))

-- The turns of the loop that collects all fields: those after the field from `start` to `end` are still to be added.
pub record Collects (row : List ℕ) (start end : ℕ) (f : Fields) : Type 0 where
  pub place : start ≤ length row
  pub ends : end ≡ start + up_to_comma (drop start row)
  pub rest : collected f (parts_after start (drop start row)) ≡ collected no_fields (parts row)
  pub inside : (k : ℕ) → (place_at f.places k).start + (place_at f.places k).size ≤ length row
  pub places : length f.places ≡ most_fields

-- one field more, inside the row, keeps all fields inside it
added_inside : (n : ℕ) (f : Fields) (p : Part) → p.start + p.size ≤ n → length f.places ≡ most_fields
    → ((k : ℕ) → (place_at f.places k).start + (place_at f.places k).size ≤ n)
    → (k : ℕ) → (place_at (added f p).places k).start + (place_at (added f p).places k).size ≤ n
unfolding added
added_inside n f p h a i k = elim (decided (leb most_fields f.count)) [
  | inl e ↦ rw e (i k)
  | inr e ↦ rw e (go (leb-false most_fields f.count e) (decided (eqb k f.count)))
]
  where
    go : f.count < most_fields → (eqb k f.count ≡ true) ⊎ (eqb k f.count ≡ false)
        → (place_at (set f.places f.count (as_told p)) k).start + (place_at (set f.places f.count (as_told p)) k).size ≤ n
    go l (inl q) = rw (eqb-true k f.count q, get_or-set_same f.places f.count (as_told p) (record { start = 0; size = 0 }) (omega arith)) h
    go l (inr q) = rw (get_or-set_other f.places f.count k (as_told p) (record { start = 0; size = 0 }) (eqb-false k f.count q)) (i k)

added_places : (f : Fields) (p : Part) → length (added f p).places ≡ length f.places
unfolding added
added_places f p = elim (decided (leb most_fields f.count)) [ inl e ↦ rw e | inr e ↦ rw e (length-set f.places f.count (as_told p)) ]

pub collects_first : (row : List ℕ) (end : ℕ) (f : Fields) → end ≡ 0 + up_to_comma (drop 0 row)
    → f ≡ added no_fields (record { start = 0; size = end - 0 }) → Collects row 0 end f
unfolding parts collected
collects_first row end f e q =
    let p : Part = record { start = 0; size = end - 0 } in
    let k : end - 0 ≡ up_to_comma row = omega arith in
    let w = end_within row 0 end e (omega arith) in
    rw q (record {
      place = omega arith;
      ends = e;
      rest = sym (rw (field_there row 0, k) refl);
      inside = added_inside (length row) no_fields p (omega arith) refl (λ j. rw (empty_at most_fields j) (omega arith));
      places = added_places no_fields p;
    })

pub collects_next : (row : List ℕ) (start end end' : ℕ) (f g : Fields) → Collects row start end f → end < length row
    → end' ≡ end + 1 + up_to_comma (drop (end + 1) row) → g ≡ added f (record { start = end + 1; size = end' - (end + 1) })
    → Collects row (end + 1) end' g
unfolding collected
collects_next row start end end' f g c h e q =
    let p : Part = record { start = end + 1; size = end' - (end + 1) } in
    let k : end' - (end + 1) ≡ up_to_comma (drop (end + 1) row) = omega arith in
    let w = end_within row (end + 1) end' e (omega arith) in
    rw q (record {
      place = omega arith;
      ends = e;
      rest = rw k (rw (fields-after row start end c.ends c.place h, field_there row (end + 1)) at c.rest);
      inside = added_inside (length row) f p (omega arith) c.places c.inside;
      places = added_places f p ∙ c.places;
    })

pub collects_all : (row : List ℕ) (start end : ℕ) (f : Fields) → Collects row start end f → length row ≤ end → Split row f
unfolding collected
collects_all row start end f c h = record { is = rw (fields_over row start end c.ends h) at c.rest; inside = c.inside }
