-- What each test of a row decides: 18, 19, 20, 21, or the event and its values.
-- Assumes nothing.
use Rattle.std.specs.Prelude.{ℕ, ◌+◌, ◌-◌, ◌≤◌, ◌<◌, ◌≡◌, Bool, true, false, not, cond, ◌||◌, Option, Some, None, Result, Err, IsErrAnd, ok_or, List, [], length, get_or, take, drop, eqb, leb, ltb}
use Rattle.std.specs.Option.{option_eq}
use Rattle.std.proofs.Common.{refl, sym, ap, ◌∙◌, eqb-true, length-drop, get_or-take, arith}
use Rattle.std.proofs.lemmas.List.{length-replicate}
use Rattle.std.proofs.lemmas.Result.{err_from_is_err_and}
use borrow.Author.Tests.{eq-eqb, ne_eqb, lt-ltb, le-ltb, le-leb, lt-leb, not-false}
use Rattle.document.specs.Lists.{some, place_of}
use Rattle.document.specs.Limits.{row_bytes}
use Rattle.document.specs.Refusals.{badRow, unknownEvent, badValue, wrongFields, taken, refused}
use Rattle.document.specs.Rows.{fields, field}
use Rattle.document.specs.Declarations.{Declared}
use Rattle.document.specs.Combinations.{binds_exactly}
use Rattle.document.specs.Log.{is_bad_value, values_of, row_event}
use Rattle.refusals.specs.declared.Refusal.{Refusal}
use Rattle.fields.specs.declared.Part.{Part as Told}
use Rattle.fields.specs.FieldsLaws.{fields-some}
use Rattle.fields.specs.Split.{up_to_comma}
use Rattle.fields.specs.SplitLaws.{walk_begins, walk_field}
use Rattle.places.specs.NamesAt.{names_at, FoundAs}
use Rattle.places.specs.PlacesLaws.{names_length}
use Rattle.rowfields.specs.Said.{is_barred, values_said}
use Rattle.rowfields.specs.SaidLaws.{rest_right}
use Rattle.rowfields.specs.ValuesLaws.{counted_fields}
use Rattle.entries.specs.declared.Entry.{Entry}
use Rattle.entries.specs.Entries.{declared_at}

-- a refusal that is passed on is the one that stands for what is missing
pub passed_on : {T : Type 0} (r : Result Entry Refusal) (o : Option T) (e f : Refusal) → IsErrAnd r (λ y. y ≡ e) → o ≡ None
    → ◌≡◌ {A = Result T Refusal} (Err e) (ok_or o f) → r ≡ Err f
passed_on r (Some x) e f w z q = cc
passed_on r None e f w z q =
    let p = err_from_is_err_and r w in
    let same : e ≡ f = cc in
    p.1 ∙ ap (λ (y : Refusal). Err y) (p.2 ∙ same)

-- whether a count is the one that is asked for
count-same : (m : Option ℕ) (k : ℕ) (b : Bool) → b ≡ not (option_eq eqb m (Some k)) → b ≡ false → m ≡ Some k
count-same None k b e f = let z : true ≡ false = sym e ∙ f in cc
count-same (Some x) k b e f = ap (λ (y : ℕ). Some y) (eqb-true x k (not-false (eqb x k) (sym e ∙ f)))

count-other : (m : Option ℕ) (k : ℕ) (b : Bool) → b ≡ not (option_eq eqb m (Some k)) → b ≡ true → m ≡ Some k → ⊥
count-other m k b e t i =
    let z : b ≡ false = rw (i, eq-eqb k k refl) at e in
    let o : true ≡ false = sym t ∙ z in
    cc

-- what the count of the fields says of the row: where it is right, no byte is barred
module _ (row : List ℕ) (n : ℕ) (m : Option ℕ) (q : m ≡ counted_fields row) (b : Bool) (t : b ≡ not (option_eq eqb m (Some (n + 1)))) (f : b ≡ false) where
  counted : (d : Bool) → Some (n + 1) ≡ cond d None (Some (length (fields row))) → (d ≡ false) × (length (fields row) ≡ n + 1)
  counted true e = cc
  counted false e = (refl, cc)

  right : (some is_barred row ≡ false) × (length (fields row) ≡ n + 1)
  right = counted (some is_barred row) (sym (count-same m (n + 1) b t f) ∙ q)

  pub count_clean : some is_barred row ≡ false
  count_clean = right.0

  pub count_right : length (fields row) ≡ n + 1
  count_right = right.1

-- and where it is another than the declarations ask for, the row is refused
count_wrong : (row : List ℕ) (m : Option ℕ) (n : ℕ) (b : Bool) → m ≡ cond b None (Some (length (fields row))) → (m ≡ Some (n + 1) → ⊥)
    → (b || not (eqb (length (drop 1 (fields row))) n)) ≡ true
count_wrong row m n true q c = refl
count_wrong row m n false q c = rw (ne_eqb (length (drop 1 (fields row))) n other)
  where
    other : length (drop 1 (fields row)) ≡ n → ⊥
    other e =
        let k : length (fields row) - 1 ≡ n = rw length-drop at e in
        let o = fields-some row in
        let f : length (fields row) ≡ n + 1 = omega arith in
        c (q ∙ ap (λ (x : ℕ). Some x) f)

-- the event's name is the part of the row up to its first comma
first_field : (row : List ℕ) (end : ℕ) → end ≡ 0 + up_to_comma (drop 0 row) → take end row ≡ field row 0
first_field row end e = let z : end - 0 ≡ end = omega arith in rw z at (walk_field row 0 0 end 0 (walk_begins row 0 end e) (omega arith))

-- what the values say of themselves is what the fields say
values_bad : (fs : List (List ℕ)) → None ≡ values_said fs → some is_bad_value fs ≡ true
unfolding values_said
values_bad fs = go (some is_bad_value fs)
  where
    go : (b : Bool) → None ≡ cond b None (Some (values_of fs)) → b ≡ true
    go true e = refl
    go false e = cc

values_good : (fs : List (List ℕ)) (v : List ℕ) → Some v ≡ values_said fs → (some is_bad_value fs ≡ false) × (v ≡ values_of fs)
unfolding values_said
values_good fs v = go (some is_bad_value fs)
  where
    go : (b : Bool) → Some v ≡ cond b None (Some (values_of fs)) → (b ≡ false) × (v ≡ values_of fs)
    go true e = cc
    go false e = (refl, cc)

module _ (text : List ℕ) (places : List Told) (sets row : List ℕ) (events n : ℕ) where
  abbrev d : Declared
  d = declared_at text places sets events n

  parameters_are : length d.parameters ≡ n
  unfolding declared_at
  parameters_are = length-replicate n []

  events_are : length d.events ≡ events
  unfolding declared_at
  events_are = names_length text events places

  set_is : (e : ℕ) → e < events → get_or d.sets e 0 ≡ get_or sets e 0
  unfolding declared_at
  set_is e h = get_or-take events sets e 0 h

  pub row_long : row_bytes < length row → row_event d row ≡ refused badRow 0
  unfolding row_event
  row_long l = rw (lt-ltb row_bytes (length row) l)

  module _ (l : length row ≤ row_bytes) (m : Option ℕ) (q : m ≡ counted_fields row) (other : Bool) (t : other ≡ not (option_eq eqb m (Some (n + 1)))) where
    pub row-fields : other ≡ true → row_event d row ≡ refused badRow 0
    unfolding row_event
    row-fields c =
        rw (le-ltb row_bytes (length row) l, parameters_are, count_wrong row m n (some is_barred row) q (count-other m (n + 1) other t c))

    module _ (c : other ≡ false) (end : ℕ) (f : end ≡ 0 + up_to_comma (drop 0 row))
        (x : Option ℕ) (found : FoundAs (take end row) (names_at text events places) events x) where
      shape : (ltb row_bytes (length row) || some is_barred row || not (eqb (length (drop 1 (fields row))) (length d.parameters))) ≡ false
      shape =
          let k = rest_right row n (count_right row n m q other t c) in
          rw (le-ltb row_bytes (length row) l, count_clean row n m q other t c, parameters_are, eq-eqb (length (drop 1 (fields row))) n k)

      place : place_of (get_or (fields row) 0 []) d.events ≡ place_of (take end row) (names_at text events places)
      unfolding declared_at field
      place = ap (λ (x : List ℕ). place_of x d.events) (sym (first_field row end f))

      pub row_unknown : x ≡ None → row_event d row ≡ refused unknownEvent 0
      unfolding row_event
      row_unknown e =
          let g = rw e at found in
          rw (shape, place ∙ g, events_are, le-leb events events (omega arith))

      module _ (event : ℕ) (at : x ≡ Some event) (v : Option (List ℕ)) (said : v ≡ values_said (drop 1 (fields row))) where
        here : (event ≡ place_of (take end row) (names_at text events places)) × (event < events)
        here = rw at at found

        known : leb (length d.events) event ≡ false
        known = rw events_are (lt-leb events event here.1)

        pub row_bad : v ≡ None → row_event d row ≡ refused badValue 0
        unfolding row_event
        row_bad e = rw (shape, place ∙ sym here.0, known, values_bad (drop 1 (fields row)) (sym e ∙ said))

        module _ (values : List ℕ) (u : v ≡ Some values) (b : Bool) (y : b ≡ binds_exactly (get_or sets event 0) values) where
          good : (some is_bad_value (drop 1 (fields row)) ≡ false) × (values ≡ values_of (drop 1 (fields row)))
          good = values_good (drop 1 (fields row)) values (sym u ∙ said)

          binds : binds_exactly (get_or d.sets event 0) (values_of (drop 1 (fields row))) ≡ b
          binds = ap (binds_exactly (get_or d.sets event 0)) (sym good.1) ∙ ap (λ (s : ℕ). binds_exactly s values) (set_is event here.1) ∙ sym y

          pub row_wrong : b ≡ false → row_event d row ≡ refused wrongFields 0
          unfolding row_event
          row_wrong z = rw (shape, place ∙ sym here.0, known, good.0, binds ∙ z)

          pub row_right : b ≡ true → row_event d row ≡ taken (record { event = event; values = values })
          unfolding row_event
          row_right z = rw (shape, place ∙ sym here.0, known, good.0, binds ∙ z, sym good.1)
