-- Laws of the heading: of declarations that are taken, the parameter names with their commas are the bytes of the first row
-- past `event`, and they are few.
-- Assumes nothing.
use Rattle.std.specs.Prelude.{ℕ, zero, suc, ◌+◌, ◌-◌, ◌*◌, ◌≤◌, ◌≡◌, refl, Bool, true, false, not, ◌&&◌, ◌||◌, List, [], ◌∷◌, ◌++◌, length, get_or, take, drop, eqb, leb, ltb}
use Rattle.std.proofs.Common.{sym, ap, ap₂, ◌∙◌, inl, inr, append-nil, arith, length-append, length-take, length-drop, take-append-drop, take_all, drop-drop, eqb-true, leb-true, ltb-false}
use mathlib.Core.List as list
use Rattle.std.proofs.Math.Seq.{take-nil, drop-append_seam}
use Rattle.std.proofs.lemmas.Bool.{not-false}
use Rattle.document.specs.Bytes.{bytes}
use Rattle.document.specs.Lists.{joined_up, every, among, repeated, equal}
use Rattle.document.specs.Limits.{width, name_bytes, text_bytes, most_events}
use Rattle.document.specs.Classes.{comma, event_word, epsilon_word, is_letter, is_name_byte}
use Rattle.document.specs.Refusals.{textTooLong, badShape, badName, nameTwice, overLimits, Answer, taken, refused, and_then, refusal_of}
use Rattle.document.specs.RefusalsLaws.{number-some}
use Rattle.document.specs.Rows.{parts_from, parts, part_of, fields, first_row, after_row, rows, stray}
use Rattle.document.specs.Declarations.{Declared, is_name, is_mark, header_row, event_row, event_rows, no_events, declarations}
use Rattle.document.specs.Printing.{line_end, with_commas, line}
use Rattle.basics.specs.Tests.{decided, and_left, and_right, equal_same}
use Rattle.basics.specs.Answers.{taken_one, past_test, past_call}
use Rattle.fields.specs.SplitLaws.{parts_first}
use Rattle.rows.specs.TextLaws.{first_part, first_within}
use Rattle.decimals.specs.Written.{Written}
use Rattle.decimals.specs.WrittenLaws.{written_then, written_as, written_within}
use Rattle.lineparts.specs.Lines.{names_of, heading_of, most_names, most_heading, line_end_bytes}

-- A row is its fields with commas between ---------------------------------------------------------------------------------

-- the first, then the others with their commas
unfoldable pub rejoined : List (List ℕ) → List ℕ
rejoined [] = []
rejoined (f ∷ fs) = f ++ with_commas fs

commas_first : (f : List ℕ) (fs : List (List ℕ)) → with_commas (f ∷ fs) ≡ comma ∷ rejoined (f ∷ fs)
unfolding with_commas joined_up rejoined
commas_first f fs = refl

commas_none : with_commas [] ≡ []
unfolding with_commas joined_up
commas_none = refl

commas-parts : (row : List ℕ) (start at : ℕ) (r : List ℕ)
    → with_commas (list.map (part_of row) (parts_from start at r)) ≡ comma ∷ rejoined (list.map (part_of row) (parts_from start at r))
commas-parts row start at r = rw (parts_first start at r) (commas_first _ _)

rejoin_from : (row : List ℕ) (start at : ℕ) (r : List ℕ) → start ≤ at → drop at row ≡ r → at + length r ≡ length row
    → rejoined (list.map (part_of row) (parts_from start at r)) ≡ drop start row
unfolding parts_from part_of rejoined
rejoin_from row start at [] h e l =
    rw commas_none (append-nil (take (at - start) (drop start row)) ∙ take_all (at - start) (drop start row) (rw length-drop (omega arith)))
rejoin_from row start at (b ∷ r) h e l =
    let z : drop (at + 1) row ≡ r = sym (drop-drop 1 at row) ∙ ap (drop 1) e in
    elim (decided (eqb b comma)) [
      | inl q ↦
          let ih = rejoin_from row (at + 1) (at + 1) r (omega arith) z (omega arith) in
          let c : comma ∷ drop (at + 1) row ≡ drop at row = rw (z, e, eqb-true b comma q) in
          let k : start + (at - start) ≡ at = omega arith in
          let j : drop (at - start) (drop start row) ≡ drop at row = drop-drop (at - start) start row ∙ rw k in
          rw (q, parts_from, commas-parts row (at + 1) (at + 1) r, ih, c, ← j) (take-append-drop (at - start) (drop start row))
      | inr q ↦ rw (q, parts_from) (rejoin_from row start (at + 1) r (omega arith) z (omega arith))
    ]

pub rejoin : (row : List ℕ) → rejoined (fields row) ≡ row
unfolding fields parts
rejoin row = rejoin_from row 0 0 row (omega arith) refl (omega arith)

fields_first : (row : List ℕ) → get_or (fields row) 0 [] ++ with_commas (drop 1 (fields row)) ≡ row
unfolding rejoined with_commas joined_up
fields_first row = go (fields row) (rejoin row)
  where
    go : (l : List (List ℕ)) → rejoined l ≡ row → get_or l 0 [] ++ with_commas (drop 1 l) ≡ row
    go [] e = e
    go (f ∷ fs) e = e

-- What taken declarations say of their first row -------------------------------------------------------------------------

-- the names that a header says
pub record Header (row : List ℕ) (names : List (List ℕ)) : Type 0 where
  pub said : names ≡ drop 1 (fields row)
  pub first : get_or (fields row) 0 [] ≡ event_word
  pub few : length names ≤ width
  pub proper : every is_name names ≡ true

or_right : (a b : Bool) → a || b ≡ false → b ≡ false
or_right true b h = cc
or_right false b h = h

header-says : (row : List ℕ) (names : List (List ℕ)) → header_row row ≡ taken names → Header row names
unfolding header_row
header-says row names h =
    let found : List (List ℕ) = drop 1 (fields row) in
    let first : List ℕ = get_or (fields row) 0 [] in
    let one = past_test (ltb width (length found)) overLimits _ names h in
    let two = past_test (stray row || not (equal first event_word)) badShape _ names one.1 in
    let three = past_test (not (every is_name found)) badName _ names two.1 in
    let four = past_test (repeated found) nameTwice (taken found) names three.1 in
    rw (← (taken_one four.1)) (record {
      said = refl;
      first = equal_same first event_word (not-false (equal first event_word) (or_right (stray row) (not (equal first event_word)) two.0));
      few = ltb-false width (length found) one.0;
      proper = not-false (every is_name found) three.0;
    })

-- events leave the parameters as they are
event-keeps : (names : List (List ℕ)) (d : Declared) (row : List ℕ) (d' : Declared) → d.parameters ≡ names → event_row d row ≡ taken d' → d'.parameters ≡ names
unfolding event_row
event-keeps names d row d' x h =
    let name : List ℕ = get_or (fields row) 0 [] in
    let marks : List (List ℕ) = drop 1 (fields row) in
    let one = past_test (leb most_events (length d.events)) overLimits _ d' h in
    let two = past_test (stray row || not (eqb (length marks) (length d.parameters)) || not (every is_mark marks)) badShape _ d' one.1 in
    let three = past_test (not (is_name name) || equal name epsilon_word) badName _ d' two.1 in
    let four = past_test (among name d.events) nameTwice _ d' three.1 in
    sym (ap (λ (y : Declared). y.parameters) (taken_one four.1)) ∙ x

events_keep : (names : List (List ℕ)) (more : List (List ℕ)) (a : Answer Declared) (d : Declared)
    → ((x : Declared) → a ≡ taken x → x.parameters ≡ names) → event_rows a more ≡ taken d → d.parameters ≡ names
unfolding event_rows
events_keep names [] a d x h = x d h
events_keep names (row ∷ more) a d x h =
    events_keep names more (and_then a (λ y. event_row y row)) d
    (λ y i. let g = past_call a (λ z. event_row z row) y i in event-keeps names g.0 row y (x g.0 g.1) g.2) h

pub header_of : (text : List ℕ) (d : Declared) → declarations text ≡ taken d → Header (first_row text) d.parameters
unfolding declarations no_events
header_of text d h =
    let one = past_test (ltb text_bytes (length text)) textTooLong _ d h in
    let two = past_call (header_row (first_row text)) _ d one.1 in
    let names = two.0 in
    let three = past_call (event_rows (taken (no_events names)) (rows (after_row text))) _ d two.2 in
    let four = past_test (eqb (length three.0.events) 0) overLimits (taken three.0) d three.2 in
    let none : ((y : Declared) → taken (no_events names) ≡ taken y → y.parameters ≡ names) =
    λ y i. sym (ap (λ (z : Declared). z.parameters) (taken_one i)) in
    let e = events_keep names (rows (after_row text)) (taken (no_events names)) three.0 none three.1 in
    rw (← (taken_one four.1), e) (header-says (first_row text) names two.1)

-- the row is `event` and the names with their commas
header_row_lem : (row : List ℕ) (names : List (List ℕ)) → Header row names → event_word ++ with_commas names ≡ row
header_row_lem row names h = sym (ap₂ (λ (x : List ℕ) (l : List (List ℕ)). x ++ with_commas l) h.first (sym h.said)) ∙ fields_first row

pub names_are : (row : List ℕ) (names : List (List ℕ)) → Header row names → drop (length event_word) row ≡ with_commas names
names_are row names h = ap (drop (length event_word)) (sym (header_row_lem row names h)) ∙ drop-append_seam event_word (with_commas names)

row-length : (row : List ℕ) (names : List (List ℕ)) → Header row names → length row ≡ length event_word + length (with_commas names)
row-length row names h = ap length (sym (header_row_lem row names h)) ∙ length-append event_word (with_commas names)

-- How long they are ---------------------------------------------------------------------------------------------------------

name_length : (f : List ℕ) → is_name f ≡ true → length f ≤ name_bytes
unfolding is_name
name_length [] h = omega arith
name_length (b ∷ f) h =
    leb-true (length (b ∷ f)) name_bytes (and_right (is_letter b && every is_name_byte f) (leb (length (b ∷ f)) name_bytes) h)

names_length : (names : List (List ℕ)) → every is_name names ≡ true → length (with_commas names) ≤ length names * (1 + name_bytes)
unfolding with_commas joined_up every
names_length [] h = omega arith
names_length (f ∷ names) h =
    let one = name_length f (and_left (is_name f) (every is_name names) h) in
    let more = names_length names (and_right (is_name f) (every is_name names) h) in
    rw (length-append (comma ∷ f) (with_commas names)) (omega arith)

-- The heading, written -----------------------------------------------------------------------------------------------------

drop-take : (i n : ℕ) (l : List ℕ) → drop i (take n l) ≡ take (n - i) (drop i l)
drop-take zero n l = let e : n - 0 ≡ n = omega arith in rw e
drop-take (suc i) zero l = let e : 0 - suc i ≡ 0 = omega arith in rw e
drop-take (suc i) (suc n) [] = sym (take-nil (suc n - suc i))
drop-take (suc i) (suc n) (x ∷ l) = let e : suc n - suc i ≡ n - i = omega arith in rw e (drop-take i n l)

-- the part of the declarations that holds the names with their commas: from past `event` to the end of the first row
pub record Names (text : List ℕ) (end : ℕ) (d : Declared) : Type 0 where
  pub starts : length event_word ≤ end
  pub ends : end ≤ length text
  pub short : end ≤ length event_word + most_names
  pub part : take (end - length event_word) (drop (length event_word) text) ≡ with_commas d.parameters

names_of_lem : (text : List ℕ) (end : ℕ) (d : Declared) → declarations text ≡ taken d → end ≡ 0 + length (first_row (drop 0 text)) → Names text end d
names_of_lem text end d t e =
    let h = header_of text d t in
    let l = row-length (first_row text) d.parameters h in
    let m = names_length d.parameters h.proper in
    let f = h.few in
    let w = first_within text in
    let z : end ≡ length (first_row text) = omega arith in
    let r : take end text ≡ first_row text = rw z (first_part text) in
    record {
      starts = omega arith;
      ends = omega arith;
      short = omega arith;
      part = sym (drop-take (length event_word) end text)
          ∙ ap (drop (length event_word)) r
          ∙ names_are (first_row text) d.parameters h;
    }

taken_of : (a : Answer Declared) → refusal_of a ≡ 0 → (d : Declared) × (a ≡ taken d)
taken_of (taken d) h = (d, refl)
taken_of (refused q at) h = absurd (let k = number-some q in omega arith)

-- where the part lies, and how much room it asks
pub names_within : (text : List ℕ) (end : ℕ) → refusal_of (declarations text) ≡ 0 → end ≡ 0 + length (first_row (drop 0 text))
    → (5 ≤ end) × (end ≤ length text) × (end ≤ 5 + most_names)
names_within text end h e =
    let d = taken_of (declarations text) h in
    let n = names_of_lem text end d.0 d.1 e in
    (n.starts, n.ends, n.short)

pub names_room : (text : List ℕ) (end : ℕ) → refusal_of (declarations text) ≡ 0 → end ≡ 0 + length (first_row (drop 0 text))
    → length (take (end - 5) (drop 5 text)) ≤ most_names
names_room text end h e = let w = names_within text end h e in rw length-take (omega arith)

pub names_written : (at n end : ℕ) (text t t' : List ℕ) → refusal_of (declarations text) ≡ 0 → end ≡ 0 + length (first_row (drop 0 text))
    → Written at (length (take (end - 5) (drop 5 text))) (take (end - 5) (drop 5 text)) t t' n
    → Written at most_names (names_of (declarations text)) t t' n
unfolding names_of
names_written at n end text t t' h e w =
    let d = taken_of (declarations text) h in
    let p = names_of_lem text end d.0 d.1 e in
    let part = take (end - 5) (drop 5 text) in
    rw (d.1, ← p.part) (written_within at (length part) most_names n part t t' w (names_room text end h e))

heading-is : (a : Answer Declared) → refusal_of a ≡ 0 → bytes "row,verdict" ++ names_of a ++ line_end ≡ heading_of a
unfolding heading_of names_of line with_commas joined_up
heading-is (taken d) h = refl
heading-is (refused q at) h = absurd (let k = number-some q in omega arith)

pub heading-written : (at k l n : ℕ) (text t t₁ t₂ t₃ : List ℕ) → refusal_of (declarations text) ≡ 0
    → Written at 11 (bytes "row,verdict") t t₁ k → Written k most_names (names_of (declarations text)) t₁ t₂ l → Written l line_end_bytes line_end t₂ t₃ n
    → Written at most_heading (heading_of (declarations text)) t t₃ n
heading-written at k l n text t t₁ t₂ t₃ h u v w =
    let names = names_of (declarations text) in
    let one = written_then at k l 11 most_names (bytes "row,verdict") names t t₁ t₂ u v in
    let all = written_then at l n (11 + most_names) line_end_bytes (bytes "row,verdict" ++ names) line_end t t₂ t₃ one w in
    written_as at most_heading n (bytes "row,verdict" ++ names ++ line_end) (heading_of (declarations text)) t t₃ all (heading-is (declarations text) h)
