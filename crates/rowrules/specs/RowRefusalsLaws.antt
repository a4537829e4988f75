-- Laws of the refusals of a row of declarations: one for each test that the code makes, in the document's order 5, 2, 3, 4.
-- Assumes nothing.
use Rattle.std.specs.Prelude.{ℕ, ◌+◌, ◌-◌, ◌≤◌, ◌<◌, ◌≡◌, refl, ◌⊎◌, Bool, true, false, not, ◌||◌, List, [], ◌∷◌, ◌++◌, length, drop, eqb, leb, ltb, Option}
use Rattle.std.proofs.Common.{sym, ◌∙◌, inl, inr, length-drop, arith, eq-eqb, eqb-true, ne_eqb, leb-true, leb-false, le-leb, lt-ltb, le-ltb}
use Rattle.std.proofs.lemmas.Bool.{eqb-false, lt-leb, not-true, not-false}
use Rattle.document.specs.Lists.{every, repeated, place_of, equal}
use Rattle.document.specs.Limits.{width, most_events}
use Rattle.document.specs.Refusals.{badShape, badName, nameTwice, overLimits, number, taken, refuse_if, refusal_of}
use Rattle.document.specs.RefusalsLaws.{none_refused}
use Rattle.document.specs.Classes.{event_word, epsilon_word}
use Rattle.document.specs.Rows.{stray, fields, field}
use Rattle.document.specs.Declarations.{Declared, is_name, is_mark, set_from, header_row, event_row}
use Rattle.basics.specs.Tests.{decided}
use Rattle.fields.specs.declared.Fields.{Fields}
use Rattle.fields.specs.Split.{most_fields, Split}
use Rattle.fields.specs.FieldsLaws.{split_counts, fields-some}
use Rattle.readings.specs.declared.Reading.{Reading}
use Rattle.places.specs.NamesAt.{names_at, FoundAs}
use Rattle.std.specs.Option.{is_some}
use lib.Pointwise.{pointwise}
use Rattle.fields.specs.SameLaws.{equal_is, unequal_is, equal_after}
use Rattle.readings.specs.Readings.{Placed, said}
use Rattle.places.specs.PlacesLaws.{names_length, among_place, found_some}

-- The header: its refusal with the tests that the code makes.
header_is : (row : List ℕ) → header_row row ≡ refuse_if (ltb width (length (drop 1 (fields row)))) overLimits
    (refuse_if (stray row || not (equal (field row 0) event_word)) badShape
    (refuse_if (not (every is_name (drop 1 (fields row)))) badName
    (refuse_if (repeated (drop 1 (fields row))) nameTwice
    (taken (drop 1 (fields row))))))
unfolding header_row field
header_is row = refl

pub header-many : (row : List ℕ) (f : Fields) → Split row f → most_fields < f.count → number overLimits ≡ refusal_of (header_row row)
header-many row f s h =
    let c = (split_counts row f s).many h in
    rw (header_is row, lt-ltb width (length (drop 1 (fields row))) (rw length-drop (omega arith)))

few : (row : List ℕ) (f : Fields) → Split row f → f.count ≤ most_fields → ltb width (length (drop 1 (fields row))) ≡ false
few row f s h = let c = (split_counts row f s).few h in le-ltb width (length (drop 1 (fields row))) (rw length-drop (omega arith))

pub header-stray : (row : List ℕ) (f : Fields) → Split row f → f.count ≤ most_fields
    → (a : Bool) → a ≡ stray row → a ≡ true → number badShape ≡ refusal_of (header_row row)
header-stray row f s h a p t = rw (header_is row, few row f s h, sym p ∙ t)

pub header_word : (row : List ℕ) (f : Fields) → Split row f → f.count ≤ most_fields
    → (a : Bool) → a ≡ stray row → a ≡ false
    → (x : List ℕ) → x ≡ field row 0 → (b : Bool) → b ≡ not (pointwise eqb x event_word) → b ≡ true → number badShape ≡ refusal_of (header_row row)
header_word row f s h a p t x e b q n = rw (header_is row, few row f s h, sym p ∙ t, ← e, unequal_is x event_word b q n)

pub header_names : (row : List ℕ) (f : Fields) → Split row f → f.count ≤ most_fields
    → (a : Bool) → a ≡ stray row → a ≡ false
    → (x : List ℕ) → x ≡ field row 0 → (b : Bool) → b ≡ not (pointwise eqb x event_word) → b ≡ false
    → (c : Bool) → c ≡ every is_name (drop 1 (fields row)) → not c ≡ true → number badName ≡ refusal_of (header_row row)
header_names row f s h a p t x e b q n c v m = rw (header_is row, few row f s h, sym p ∙ t, ← e, equal_after x event_word b q n, sym v ∙ not-true c m)

pub header_twice : (row : List ℕ) (f : Fields) → Split row f → f.count ≤ most_fields
    → (a : Bool) → a ≡ stray row → a ≡ false
    → (x : List ℕ) → x ≡ field row 0 → (b : Bool) → b ≡ not (pointwise eqb x event_word) → b ≡ false
    → (c : Bool) → c ≡ every is_name (drop 1 (fields row)) → not c ≡ false
    → (d : Bool) → d ≡ repeated (drop 1 (fields row)) → d ≡ true → number nameTwice ≡ refusal_of (header_row row)
header_twice row f s h a p t x e b q n c v m d u l =
    rw (header_is row, few row f s h, sym p ∙ t, ← e, equal_after x event_word b q n, sym v ∙ not-false c m, sym u ∙ l)

pub header_taken : (row : List ℕ) (f : Fields) → Split row f → f.count ≤ most_fields
    → (a : Bool) → a ≡ stray row → a ≡ false
    → (x : List ℕ) → x ≡ field row 0 → (b : Bool) → b ≡ not (pointwise eqb x event_word) → b ≡ false
    → (c : Bool) → c ≡ every is_name (drop 1 (fields row)) → not c ≡ false
    → (d : Bool) → d ≡ repeated (drop 1 (fields row)) → d ≡ false → 0 ≡ refusal_of (header_row row)
header_taken row f s h a p t x e b q n c v m d u l =
    rw (header_is row, few row f s h, sym p ∙ t, ← e, equal_after x event_word b q n, sym v ∙ not-false c m, sym u ∙ l)

-- An event's row after those that a reading says.
abbrev pub row_adds : Declared → List ℕ → Declared
row_adds d row = record {
  parameters = d.parameters;
  events = d.events ++ (field row 0 ∷ []);
  sets = d.sets ++ (set_from 0 (drop 1 (fields row)) ∷ []);
}

-- its refusal with the tests that the code makes
event-is : (text : List ℕ) (t : Reading) (row : List ℕ) → Placed text t → event_row (said text t) row
    ≡ refuse_if (leb most_events t.events) overLimits
    (refuse_if (stray row || not (eqb (length (drop 1 (fields row))) t.parameters) || not (every is_mark (drop 1 (fields row)))) badShape
    (refuse_if (not (is_name (field row 0)) || equal (field row 0) epsilon_word) badName
    (refuse_if (ltb (place_of (field row 0) (names_at text t.events t.places)) t.events) nameTwice
    (taken (row_adds (said text t) row)))))
unfolding event_row said field
event-is text t row p =
    rw (among_place (field row 0) (names_at text t.events t.places), names_length text t.events t.places, ← p.parameters)

pub event-many : (text : List ℕ) (t : Reading) (row : List ℕ) → Placed text t → most_events ≤ t.events
    → number overLimits ≡ refusal_of (event_row (said text t) row)
event-many text t row p h = rw (event-is text t row p, le-leb most_events t.events h)

pub event-stray : (text : List ℕ) (t : Reading) (row : List ℕ) → Placed text t → t.events < most_events
    → (a : Bool) → a ≡ stray row → a ≡ true → number badShape ≡ refusal_of (event_row (said text t) row)
event-stray text t row p h a e v = rw (event-is text t row p, lt-leb most_events t.events h, sym e ∙ v)

-- the number of fields is right exactly where the code's count of them says so
count_right : (text : List ℕ) (t : Reading) (row : List ℕ) (f : Fields) → Placed text t → Split row f → f.count ≡ t.parameters + 1
    → eqb (length (drop 1 (fields row))) t.parameters ≡ true
count_right text t row f p s e =
    let l = p.few_parameters in
    let c = (split_counts row f s).few (omega arith) in
    eq-eqb (length (drop 1 (fields row))) t.parameters (rw length-drop (omega arith))

count_wrong : (text : List ℕ) (t : Reading) (row : List ℕ) (f : Fields) → Placed text t → Split row f → (f.count ≡ t.parameters + 1 → ⊥)
    → eqb (length (drop 1 (fields row))) t.parameters ≡ false
count_wrong text t row f p s n = ne_eqb (length (drop 1 (fields row))) t.parameters (λ e. go (rw length-drop at e) (decided (leb f.count most_fields)))
  where
    go : length (fields row) - 1 ≡ t.parameters → (leb f.count most_fields ≡ true) ⊎ (leb f.count most_fields ≡ false) → ⊥
    go e (inl q) = let m = (split_counts row f s).few (leb-true f.count most_fields q) in let k = fields-some row in n (omega arith)
    go e (inr q) = let m = (split_counts row f s).many (leb-false f.count most_fields q) in let l = p.few_parameters in omega arith

pub event_count_lem : (text : List ℕ) (t : Reading) (row : List ℕ) (f : Fields) → Placed text t → t.events < most_events
    → (a : Bool) → a ≡ stray row → a ≡ false
    → Split row f → (f.count ≡ t.parameters + 1 → ⊥) → number badShape ≡ refusal_of (event_row (said text t) row)
event_count_lem text t row f p h a e v s n =
    rw (event-is text t row p, lt-leb most_events t.events h, sym e ∙ v, count_wrong text t row f p s n)

pub event_marks : (text : List ℕ) (t : Reading) (row : List ℕ) (f : Fields) → Placed text t → t.events < most_events
    → (a : Bool) → a ≡ stray row → a ≡ false
    → Split row f → f.count ≡ t.parameters + 1
    → (b : Bool) → b ≡ every is_mark (drop 1 (fields row)) → not b ≡ true → number badShape ≡ refusal_of (event_row (said text t) row)
event_marks text t row f p h a e v s q b w n =
    rw (event-is text t row p, lt-leb most_events t.events h, sym e ∙ v, count_right text t row f p s q, sym w ∙ not-true b n)

pub event_name_lem : (text : List ℕ) (t : Reading) (row : List ℕ) (f : Fields) → Placed text t → t.events < most_events
    → (a : Bool) → a ≡ stray row → a ≡ false
    → Split row f → f.count ≡ t.parameters + 1
    → (b : Bool) → b ≡ every is_mark (drop 1 (fields row)) → not b ≡ false
    → (x : List ℕ) → x ≡ field row 0 → (c : Bool) → c ≡ is_name x → not c ≡ true → number badName ≡ refusal_of (event_row (said text t) row)
event_name_lem text t row f p h a e v s q b w n x i c j m =
    rw (event-is text t row p, lt-leb most_events t.events h, sym e ∙ v, count_right text t row f p s q, sym w ∙ not-false b n, ← i, sym j ∙ not-true c m)

pub event_epsilon : (text : List ℕ) (t : Reading) (row : List ℕ) (f : Fields) → Placed text t → t.events < most_events
    → (a : Bool) → a ≡ stray row → a ≡ false
    → Split row f → f.count ≡ t.parameters + 1
    → (b : Bool) → b ≡ every is_mark (drop 1 (fields row)) → not b ≡ false
    → (x : List ℕ) → x ≡ field row 0 → (c : Bool) → c ≡ is_name x → not c ≡ false
    → (d : Bool) → d ≡ pointwise eqb x epsilon_word → d ≡ true → number badName ≡ refusal_of (event_row (said text t) row)
event_epsilon text t row f p h a e v s q b w n x i c j m d k l =
    rw (event-is text t row p, lt-leb most_events t.events h, sym e ∙ v, count_right text t row f p s q, sym w ∙ not-false b n, ← i, sym j ∙ not-false c m, equal_is x epsilon_word ∙ sym k ∙ l)

pub event_twice : (text : List ℕ) (t : Reading) (row : List ℕ) (f : Fields) → Placed text t → t.events < most_events
    → (a : Bool) → a ≡ stray row → a ≡ false
    → Split row f → f.count ≡ t.parameters + 1
    → (b : Bool) → b ≡ every is_mark (drop 1 (fields row)) → not b ≡ false
    → (x : List ℕ) → x ≡ field row 0 → (c : Bool) → c ≡ is_name x → not c ≡ false
    → (d : Bool) → d ≡ pointwise eqb x epsilon_word → d ≡ false
    → (g : Option ℕ) → FoundAs x (names_at text t.events t.places) t.events g → (o : Bool) → o ≡ is_some g → o ≡ true
    → number nameTwice ≡ refusal_of (event_row (said text t) row)
event_twice text t row f p h a e v s q b w n x i c j m d k l g z o u r =
    rw (event-is text t row p, lt-leb most_events t.events h, sym e ∙ v, count_right text t row f p s q, sym w ∙ not-false b n, ← i, sym j ∙ not-false c m, equal_is x epsilon_word ∙ sym k ∙ l, sym (found_some x (names_at text t.events t.places) t.events g z) ∙ sym u ∙ r)

pub event_taken : (text : List ℕ) (t : Reading) (row : List ℕ) (f : Fields) → Placed text t → t.events < most_events
    → (a : Bool) → a ≡ stray row → a ≡ false
    → Split row f → f.count ≡ t.parameters + 1
    → (b : Bool) → b ≡ every is_mark (drop 1 (fields row)) → not b ≡ false
    → (x : List ℕ) → x ≡ field row 0 → (c : Bool) → c ≡ is_name x → not c ≡ false
    → (d : Bool) → d ≡ pointwise eqb x epsilon_word → d ≡ false
    → (g : Option ℕ) → FoundAs x (names_at text t.events t.places) t.events g → (o : Bool) → o ≡ is_some g → o ≡ false
    → 0 ≡ refusal_of (event_row (said text t) row)
event_taken text t row f p h a e v s q b w n x i c j m d k l g z o u r =
    rw (event-is text t row p, lt-leb most_events t.events h, sym e ∙ v, count_right text t row f p s q, sym w ∙ not-false b n, ← i, sym j ∙ not-false c m, equal_is x epsilon_word ∙ sym k ∙ l, sym (found_some x (names_at text t.events t.places) t.events g z) ∙ sym u ∙ r)

-- A row that is not refused is taken as it stands.
pub header_takes : (row : List ℕ) → 0 ≡ refusal_of (header_row row) → header_row row ≡ taken (drop 1 (fields row))
header_takes row h =
    header_is row ∙ none_refused (ltb width (length (drop 1 (fields row)))) (stray row || not (equal (field row 0) event_word))
    (not (every is_name (drop 1 (fields row)))) (repeated (drop 1 (fields row))) overLimits badShape badName nameTwice (drop 1 (fields row))
    (sym (rw (header_is row) at h))

pub event_takes : (text : List ℕ) (t : Reading) (row : List ℕ) → Placed text t → 0 ≡ refusal_of (event_row (said text t) row)
    → event_row (said text t) row ≡ taken (row_adds (said text t) row)
event_takes text t row p h =
    event-is text t row p ∙ none_refused (leb most_events t.events)
    (stray row || not (eqb (length (drop 1 (fields row))) t.parameters) || not (every is_mark (drop 1 (fields row))))
    (not (is_name (field row 0)) || equal (field row 0) epsilon_word)
    (ltb (place_of (field row 0) (names_at text t.events t.places)) t.events)
    overLimits badShape badName nameTwice (row_adds (said text t) row) (sym (rw (event-is text t row p) at h))

-- and then there was a place for the event, and its fields are as many as the parameters and one
pub event_fits : (text : List ℕ) (t : Reading) (row : List ℕ) → Placed text t → 0 ≡ refusal_of (event_row (said text t) row) → t.events < most_events
event_fits text t row p h = elim (decided (leb most_events t.events)) [
  | inl e ↦ let z = rw (event-is text t row p, e) at h in absurd (omega arith)
  | inr e ↦ leb-false most_events t.events e
]

pub event-fields : (text : List ℕ) (t : Reading) (row : List ℕ) (f : Fields) → Placed text t → Split row f
    → 0 ≡ refusal_of (event_row (said text t) row) → f.count ≤ most_fields
event-fields text t row f p s h = elim (decided (eqb f.count (t.parameters + 1))) [
  | inl e ↦ let v = eqb-true f.count (t.parameters + 1) e in let l = p.few_parameters in omega arith
  | inr e ↦ absurd (wrong (count_wrong text t row f p s (eqb-false f.count (t.parameters + 1) e)))
]
  where
    none : (a : Bool) → 0 ≡ refusal_of {A = Declared} (refuse_if (a || true || not (every is_mark (drop 1 (fields row)))) badShape
        (refuse_if (not (is_name (field row 0)) || equal (field row 0) epsilon_word) badName
        (refuse_if (ltb (place_of (field row 0) (names_at text t.events t.places)) t.events) nameTwice
        (taken (row_adds (said text t) row))))) → ⊥
    none true z = omega arith
    none false z = omega arith

    wrong : eqb (length (drop 1 (fields row))) t.parameters ≡ false → ⊥
    wrong w =
        let k = event_fits text t row p h in
        let z = rw (event-is text t row p, lt-leb most_events t.events k, w) at h in
        none (stray row) z

pub header-fields : (row : List ℕ) (f : Fields) → Split row f → 0 ≡ refusal_of (header_row row) → f.count ≤ most_fields
header-fields row f s h = elim (decided (leb f.count most_fields)) [
  | inl e ↦ leb-true f.count most_fields e
  | inr e ↦ let z = header-many row f s (leb-false f.count most_fields e) in absurd (omega arith)
]
