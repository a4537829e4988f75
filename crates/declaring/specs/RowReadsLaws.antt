-- Laws of reading declarations row by row: what one row makes of a reading, and what is left of the text's rows.
-- Assumes nothing.
use Rattle.std.specs.Prelude.{ℕ, zero, suc, ◌+◌, ◌-◌, ◌≤◌, ◌<◌, ◌≡◌, refl, ◌⊎◌, true, false, List, [], ◌∷◌, length, take, drop, set, replicate, eqb, Result, Ok, Err}
use Rattle.std.proofs.Common.{sym, ap, ◌∙◌, inl, inr, length-drop, length-set, take-take, drop-drop, take-suc-set, drop-set-lt, get_or-set_same, get_or-set_other, length-take-le, arith, add-one, eqb-true}
use Rattle.std.proofs.lemmas.Bool.{eqb-false}
use Rattle.std.specs.Result.{IsErrAnd}
use Rattle.document.specs.Limits.{most_events}
use Rattle.document.specs.Refusals.{Answer, taken, refused, number, refusal_of}
use Rattle.document.specs.RefusalsLaws.{number-some}
use Rattle.refusals.specs.declared.Refusal.{Refusal}
use Rattle.refusals.specs.Named.{named}
use Rattle.document.specs.Rows.{first_row, fields, field}
use Rattle.document.specs.Declarations.{Declared, set_from, event_row}
use Rattle.basics.specs.Tests.{decided}
use Rattle.fields.specs.declared.Fields.{Fields}
use Rattle.rows.specs.TextLaws.{row-part, row_within}
use Rattle.fields.specs.Split.{Split}
use Rattle.fields.specs.FieldsLaws.{split_at, split-some, split_first}
use Rattle.readings.specs.declared.Reading.{Reading}
use Rattle.fields.specs.declared.Part.{Part as Told}
use Rattle.fields.specs.Places.{place_at, told}
use Rattle.places.specs.NamesAt.{Inside}
use Rattle.readings.specs.Readings.{Placed, said, one_more, RowAs, Follows, RowReads}
use Rattle.places.specs.PlacesLaws.{names_more}
use Rattle.rowrules.specs.RowRefusalsLaws.{row_adds, event_takes, event_fits, event-fields}

-- a part of the first n bytes is that part of the whole
part_of_part : (m k n : ℕ) (l : List ℕ) → k + m ≤ n → take m (drop k (take n l)) ≡ take m (drop k l)
part_of_part m zero n l h = take-take m n l (omega arith)
part_of_part m (suc k) zero l h = absurd (omega arith)
part_of_part m (suc k) (suc n) [] h = refl
part_of_part m (suc k) (suc n) (x ∷ l) h = part_of_part m k n l (omega arith)

-- a row of the text: its fields lie inside the text
module _ (text : List ℕ) (at end : ℕ) (f : Fields) (e : end ≡ at + length (first_row (drop at text))) (h : at ≤ length text)
    (s : Split (take (end - at) (drop at text)) f) where
  row-length : length (take (end - at) (drop at text)) ≡ end - at
  row-length = let w = row_within text at end e h in length-take-le (end - at) (drop at text) (rw length-drop (omega arith))

  pub field_inside : (k : ℕ) → at + (place_at f.places k).start + (place_at f.places k).size ≤ length text
  field_inside k =
      let w = row_within text at end e h in
      let i = s.inside k in
      let l = row-length in
      omega arith

  field-part : (k : ℕ) → told (take (end - at) (drop at text)) (place_at f.places k)
      ≡ take (place_at f.places k).size (drop (at + (place_at f.places k).start) text)
  field-part k =
      let i = s.inside k in
      let l = row-length in
      part_of_part (place_at f.places k).size (place_at f.places k).start (end - at) (drop at text) (omega arith)
      ∙ ap (take (place_at f.places k).size) (drop-drop (place_at f.places k).start at text)

-- what `?` passes on is the refusal that it met
pub passed_on : {T : Type 0} (P : Result T Refusal → Type 0) (r : Result T Refusal) (q : Refusal) → IsErrAnd r (λ e. e ≡ q) → P (Err q) → P r
passed_on P (Ok x) q i p = absurd i
passed_on P (Err e) q i p = rw i p

-- a row is refused by the number that is answered
refused_as : (text : List ℕ) (q : Refusal) (a : Answer Declared) → number (named q) ≡ refusal_of a → RowAs text (Err q) a
refused_as text q (taken d) e = absurd (let k = number-some (named q) in omega arith)
refused_as text q (refused r at) e = e

pub row_refused : (text : List ℕ) (at end : ℕ) (t : Reading) (q : Refusal) (row : List ℕ) → end ≡ at + length (first_row (drop at text))
    → row ≡ take (end - at) (drop at text) → number (named q) ≡ refusal_of (event_row (said text t) row)
    → (r : Result Reading Refusal) → IsErrAnd r (λ e. e ≡ q) → RowReads text at t r
row_refused text at end t q row e b h r i = passed_on (RowReads text at t) r q i
    (record { says = refused_as text q (event_row (said text t) (first_row (drop at text))) (rw (b ∙ row-part text at end e) at h); follows = tt })

-- one event more
more_inside : (text : List ℕ) (places : List Told) (n : ℕ) (p : Told) → Inside text places → n < length places
    → p.start + p.size ≤ length text → Inside text (set places n p)
more_inside text places n p i a h = record { within = λ k. go k (decided (eqb k n)) }
  where
    go : (k : ℕ) → (eqb k n ≡ true) ⊎ (eqb k n ≡ false) → (place_at (set places n p) k).start + (place_at (set places n p) k).size ≤ length text
    go k (inl q) = rw (eqb-true k n q, get_or-set_same places n p (record { start = 0; size = 0 }) a) h
    go k (inr q) = rw (get_or-set_other places n k p (record { start = 0; size = 0 }) (eqb-false k n q)) (i.within k)

rest_more : (n m : ℕ) (l : List ℕ) (v : ℕ) → n < m → drop n l ≡ replicate (m - n) 0 → drop (n + 1) (set l n v) ≡ replicate (m - (n + 1)) 0
rest_more n m l v h e =
    let k : m - n ≡ suc (m - (n + 1)) = omega arith in
    drop-set-lt (n + 1) l n v (omega arith) ∙ sym (drop-drop 1 n l) ∙ ap (drop 1) (rw k at e)

more-placed : (text : List ℕ) (t : Reading) (name : Told) (marks : ℕ) → Placed text t → t.events < most_events → name.start + name.size ≤ length text
    → Placed text (one_more t name marks)
unfolding one_more
more-placed text t name marks p l h =
    let a = p.places in
    record {
      parameters = p.parameters;
      few_parameters = p.few_parameters;
      few_events = omega arith;
      inside = more_inside text t.places t.events name p.inside (omega arith) h;
      places = length-set t.places t.events name ∙ p.places;
      sets = length-set t.sets t.events marks ∙ p.sets;
      rest = rest_more t.events most_events t.sets marks l p.rest;
    }

more-said : (text : List ℕ) (t : Reading) (name : Told) (marks : ℕ) (row : List ℕ) → Placed text t → t.events < most_events
    → told text name ≡ field row 0 → marks ≡ set_from 0 (drop 1 (fields row)) → said text (one_more t name marks) ≡ row_adds (said text t) row
unfolding one_more said
more-said text t name marks row p l e m =
    let a = p.places in
    let c = p.sets in
    rw (names_more text t.events t.places name (omega arith), e, add-one, take-suc-set t.sets t.events marks (omega arith), m)

more-follows : (at : ℕ) (name : Told) (marks : ℕ) (t : Reading) → name.start ≡ at → Follows at t (one_more t name marks)
unfolding one_more
more-follows at name marks t e = record { events = refl; place = name; begins = e; places = refl }

taken_as_lem : (text : List ℕ) (r : Reading) (a : Answer Declared) (d : Declared) → a ≡ taken d → Placed text r → said text r ≡ d → RowAs text (Ok r) a
taken_as_lem text r a d e p q = rw e (p, q)

pub row_inside : (text : List ℕ) (at end : ℕ) (f : Fields) (row : List ℕ) → end ≡ at + length (first_row (drop at text)) → at ≤ length text
    → row ≡ take (end - at) (drop at text) → Split row f → (k : ℕ) → at + (place_at f.places k).start + (place_at f.places k).size ≤ length text
row_inside text at end f row e h b s k = field_inside text at end f e h (rw b at s) k

-- where the first field of the row at a place lies in the text
abbrev first_place : ℕ → Fields → Told
first_place at f = record { start = at + (place_at f.places 0).start; size = (place_at f.places 0).size }

pub row_taken : (text : List ℕ) (at end : ℕ) (t r : Reading) (f : Fields) (row : List ℕ) (marks : ℕ)
    → end ≡ at + length (first_row (drop at text)) → Placed text t → at ≤ length text
    → row ≡ take (end - at) (drop at text) → Split row f
    → 0 ≡ refusal_of (event_row (said text t) row) → marks ≡ set_from 0 (drop 1 (fields row))
    → r ≡ one_more t (first_place at f) marks → RowReads text at t (Ok r)
row_taken text at end t r f row marks e p h b w v m z =
    let s : Split (take (end - at) (drop at text)) f = rw b at w in
    let l = event_fits text t row p v in
    let k = event-fields text t row f p w v in
    let part = rw (← b) at (field-part text at end f e h s 0) in
    let name : told text (first_place at f) ≡ field row 0 =
    sym part ∙ split_at row f 0 w (split-some row f w) k in
    let a : event_row (said text t) (first_row (drop at text)) ≡ taken (row_adds (said text t) row) =
    rw (← row-part text at end e, ← b) (event_takes text t row p v) in
    rw z (record {
      says = taken_as_lem text (one_more t (first_place at f) marks) (event_row (said text t) (first_row (drop at text)))
          (row_adds (said text t) row) a
          (more-placed text t (first_place at f) marks p l (field_inside text at end f e h s 0))
          (more-said text t (first_place at f) marks row p l name m);
      follows = more-follows at (first_place at f) marks t (let y = split_first row f w in omega arith);
    })
