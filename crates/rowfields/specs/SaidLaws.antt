-- Laws of what one field says, and of the loop over the fields of a row after the first.
-- Assumes nothing.
use Rattle.std.specs.Prelude.{ℕ, ◌+◌, ◌-◌, ◌≤◌, ◌<◌, ◌≡◌, Bool, false, cond, Option, Some, None, List, [], length, get_or, take, drop, set, replicate}
use Rattle.std.proofs.Math.Path.{refl, sym, ap}
use Rattle.std.proofs.Common.{◌∙◌, length-drop, get_or-drop, arith}
use Rattle.std.proofs.Math.Bool.{true}
use Rattle.document.specs.Limits.{width}
use Rattle.document.specs.Rows.{fields, field, value_of}
use Rattle.document.specs.Log.{is_bad_value}
use Rattle.fields.specs.Split.{up_to_comma}
use Rattle.fields.specs.FieldsInTurn.{Reached, reached_first, reached_comma, reached_next, next_within, next-part}
use Rattle.rowfields.specs.Said.{values_said}
use Rattle.rowfields.specs.ValuesLaws.{value_good, value_none, value_bad, Takes, takes_begin, takes_bad, takes_more, takes_all, takes_fine}

-- the fields after the first are as many as the parameters
pub rest_right : (row : List ℕ) (n : ℕ) → length (fields row) ≡ n + 1 → length (drop 1 (fields row)) ≡ n
rest_right row n e = rw length-drop (omega arith)

-- What one field says, as the code holds it.
abbrev pub said : List ℕ → Option ℕ
said f = cond (is_bad_value f) None (Some (value_of f))

pub said_bad : (f : List ℕ) (v : ℕ) → v ≡ value_of f → v ≡ 0 → (length f ≡ 0 → ⊥) → None ≡ said f
said_bad f v e z n = rw (← value_bad f v e z n)

pub said_good : (f : List ℕ) (v : ℕ) → v ≡ value_of f → (v ≡ 0 → ⊥) → Some v ≡ said f
said_good f v e n = rw (← value_good f v e n, e)

pub said_none : (f : List ℕ) (v : ℕ) → v ≡ value_of f → length f ≡ 0 → Some v ≡ said f
said_none f v e n = rw (← value_none f n, e)

pub none_said : (f : List ℕ) → None ≡ said f → true ≡ is_bad_value f
none_said f = go (is_bad_value f)
  where
    go : (b : Bool) → None ≡ cond b None (Some (value_of f)) → true ≡ b
    go true e = refl
    go false e = cc

pub some_said : (f : List ℕ) (x : ℕ) → Some x ≡ said f → (false ≡ is_bad_value f) × (x ≡ value_of f)
some_said f x = go (is_bad_value f)
  where
    go : (b : Bool) → Some x ≡ cond b None (Some (value_of f)) → (false ≡ b) × (x ≡ value_of f)
    go true e = cc
    go false e = (refl, cc)

-- The turns of the loop over the fields of a row after the first: the field before those that are left ends at `end`.
pub record Reading (row values : List ℕ) (n k end : ℕ) : Type 0 where
  pub takes : Takes (drop 1 (fields row)) values k
  pub reached : Reached row k end
  pub count : length (fields row) ≡ n + 1
  pub within : k ≤ n
  pub few : n ≤ width

pub reading_begins : (row : List ℕ) (end n : ℕ) → end ≡ up_to_comma row → length (fields row) ≡ n + 1 → n ≤ width
    → Reading row (replicate width 0) n 0 end
reading_begins row end n e c h = record {
  takes = takes_begin (drop 1 (fields row));
  reached = reached_first row end e;
  count = c;
  within = omega arith;
  few = h;
}

field_next : (row : List ℕ) (k : ℕ) → get_or (drop 1 (fields row)) k [] ≡ field row (k + 1)
unfolding field
field_next row k = let e : 1 + k ≡ k + 1 = omega arith in rw (get_or-drop 1 (fields row) k [], e)

module _ (row values : List ℕ) (n k end : ℕ) (g : Reading row values n k end) (h : k < n) where
  follows : k + 1 < length (fields row)
  follows = let c = g.count in omega arith

  pub reading_comma : end < length row
  reading_comma = reached_comma row k end g.reached follows

  module _ (end' : ℕ) (f : end' ≡ end + 1 + up_to_comma (drop (end + 1) row)) where
    abbrev part : List ℕ
    part = take (end' - (end + 1)) (drop (end + 1) row)

    pub reading_within : (end + 1 ≤ end') × (end' ≤ length row)
    reading_within = next_within row k end end' g.reached follows f

    module _ (v : Option ℕ) (e : v ≡ said part) where
      here : part ≡ get_or (drop 1 (fields row)) k []
      here = next-part row k end end' g.reached follows f ∙ sym (field_next row k)

      rest : length (drop 1 (fields row)) ≡ n
      rest = rest_right row n g.count

      pub reading_bad : v ≡ None → None ≡ values_said (drop 1 (fields row))
      unfolding values_said
      reading_bad t =
          let b : true ≡ is_bad_value (get_or (drop 1 (fields row)) k []) = none_said part (sym t ∙ e) ∙ ap is_bad_value here in
          let c = rest in
          rw (takes_bad (drop 1 (fields row)) values k g.takes (omega arith) b)

      pub reading_more : (x : ℕ) → v ≡ Some x → Reading row (set values k x) n (k + 1) end'
      reading_more x t =
          let w = some_said part x (sym t ∙ e) in
          let b : false ≡ is_bad_value (get_or (drop 1 (fields row)) k []) = w.0 ∙ ap is_bad_value here in
          let q : x ≡ value_of (get_or (drop 1 (fields row)) k []) = w.1 ∙ ap value_of here in
          let c = rest in
          let l = g.few in
          record {
            takes = takes_more (drop 1 (fields row)) values k x g.takes (omega arith) (omega arith) b q;
            reached = reached_next row k end end' g.reached follows f;
            count = g.count;
            within = omega arith;
            few = g.few;
          }

pub reading_ends : (row values : List ℕ) (n k end : ℕ) → Reading row values n k end → n ≤ k → Some values ≡ values_said (drop 1 (fields row))
unfolding values_said
reading_ends row values n k end g h =
    let c = rest_right row n g.count in
    let w = g.within in
    let l = g.few in
    let e : length (drop 1 (fields row)) ≡ k = omega arith in
    rw (takes_fine (drop 1 (fields row)) values k g.takes (omega arith), takes_all (drop 1 (fields row)) values k g.takes e (omega arith))
