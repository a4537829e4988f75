-- Document 01, "The declarations": what declarations that are taken have: 1 to 16 events, at most 4 parameters, and for each
-- event a set of those parameters.
-- Assumes nothing.
use Rattle.std.specs.Prelude.{ℕ, suc, ◌+◌, ◌^◌, ◌<◌, ◌≤◌, ◌≡◌, refl, Bool, true, false, cond, not, ◌||◌, List, [], ◌∷◌, ◌++◌, length, get_or, drop, leb, ltb, eqb}
use Rattle.std.proofs.Common.{arith, pow-suc, sym, ap, subst, ◌∙◌, length-append, leb-false, ltb-false, eqb-true}
use Rattle.std.proofs.Math.ListN.{get_or-append}
use Rattle.std.proofs.Math.Seq.{get_or-append_seam}
use Rattle.std.proofs.lemmas.Bool.{eqb-false, not-false}
use Rattle.document.specs.Lists.{equal, every, among, repeated}
use Rattle.document.specs.Limits.{width, text_bytes, most_events}
use Rattle.document.specs.Classes.{one_byte, event_word, epsilon_word}
use Rattle.document.specs.Refusals.{textTooLong, badShape, badName, nameTwice, overLimits, Answer, taken, and_then}
use Rattle.document.specs.Rows.{first_row, after_row, rows, stray, fields}
use Rattle.document.specs.Declarations.{Declared, is_name, is_mark, set_from, header_row, event_row, event_rows, no_events, declarations}
use Rattle.basics.specs.Answers.{taken_one, past_test, past_call}
use Rattle.basics.specs.Tests.{neither}
use Rattle.words.specs.Table.{Fits}

-- ---- a set that marks say
set_from_lt : (k : ℕ) (marks : List (List ℕ)) → set_from k marks + 2 ^ k ≤ 2 ^ (k + length marks)
unfolding set_from
set_from_lt k [] = let z : k + 0 ≡ k = omega arith in rw z (omega arith)
set_from_lt k (f ∷ marks) = go (equal f (one_byte ∷ [])) (set_from_lt (suc k) marks)
  where
    go : (t : Bool) → set_from (suc k) marks + 2 ^ suc k ≤ 2 ^ (suc k + length marks)
        → cond t (2 ^ k) 0 + set_from (suc k) marks + 2 ^ k ≤ 2 ^ (k + suc (length marks))
    go true ih = let z : suc k + length marks ≡ k + suc (length marks) = omega arith in let p = pow-suc 2 k in rw (sym z) (omega arith)
    go false ih = let z : suc k + length marks ≡ k + suc (length marks) = omega arith in let p = pow-suc 2 k in rw (sym z) (omega arith)

-- ---- the rows of the events
record RowsFit (names : List (List ℕ)) (d : Declared) : Type 0 where
  parameters : d.parameters ≡ names
  few_events : length d.events ≤ most_events
  sets_long : length d.sets ≡ length d.events
  sets_fit : (e : ℕ) → e < length d.events → get_or d.sets e 0 < 2 ^ length d.parameters

-- one event more
abbrev with_event : Declared → List ℕ → ℕ → Declared
with_event d name set = record { parameters = d.parameters; events = d.events ++ (name ∷ []); sets = d.sets ++ (set ∷ []) }

with_event_fits : (names : List (List ℕ)) (d : Declared) (name : List ℕ) (set : ℕ) → RowsFit names d → length d.events < most_events
    → set < 2 ^ length d.parameters → RowsFit names (with_event d name set)
with_event_fits names d name set x few small = record {
  parameters = x.parameters;
  few_events = rw (length-append d.events (name ∷ [])) (omega arith);
  sets_long = length-append d.sets (set ∷ []) ∙ ap (λ (n : ℕ). n + 1) x.sets_long ∙ sym (length-append d.events (name ∷ []));
  sets_fit = λ e l. fit e (eqb e (length d.sets)) refl (rw (length-append d.events (name ∷ [])) at l);
}
  where
    fit : (e : ℕ) (t : Bool) → eqb e (length d.sets) ≡ t → e < length d.events + 1 → get_or (d.sets ++ (set ∷ [])) e 0 < 2 ^ length d.parameters
    fit e true i l = rw (eqb-true e (length d.sets) i, get_or-append_seam d.sets set [] 0) small
    fit e false i l =
        let other : (e ≡ length d.sets → ⊥) = eqb-false e (length d.sets) i in
        let z = x.sets_long in
        let old : e < length d.sets = omega arith in
        rw (get_or-append d.sets (set ∷ []) 0 e old) (x.sets_fit e (omega arith))

event_row_fits : (names : List (List ℕ)) (d : Declared) (row : List ℕ) (d' : Declared) → RowsFit names d → event_row d row ≡ taken d' → RowsFit names d'
unfolding event_row
event_row_fits names d row d' x h =
    let name : List ℕ = get_or (fields row) 0 [] in
    let marks : List (List ℕ) = drop 1 (fields row) in
    let one = past_test (leb most_events (length d.events)) overLimits _ d' h in
    let two = past_test (stray row || not (eqb (length marks) (length d.parameters)) || not (every is_mark marks)) badShape _ d' one.1 in
    let three = past_test (not (is_name name) || equal name epsilon_word) badName _ d' two.1 in
    let four = past_test (among name d.events) nameTwice (taken (with_event d name (set_from 0 marks))) d' three.1 in
    let few : length d.events < most_events = leb-false most_events (length d.events) one.0 in
    let shape = (neither (stray row || not (eqb (length marks) (length d.parameters))) (not (every is_mark marks)) two.0).0 in
    let counted = (neither (stray row) (not (eqb (length marks) (length d.parameters))) shape).1 in
    let many : length marks ≡ length d.parameters = eqb-true _ _ (not-false (eqb (length marks) (length d.parameters)) counted) in
    let z : 0 + length marks ≡ length marks = omega arith in
    let small : set_from 0 marks + 1 ≤ 2 ^ length d.parameters = rw (z, many) at (set_from_lt 0 marks) in
    subst (RowsFit names) (taken_one four.1) (with_event_fits names d name (set_from 0 marks) x few (omega arith))

event_rows_fit : (names : List (List ℕ)) (more : List (List ℕ)) (a : Answer Declared) (d : Declared)
    → ((x : Declared) → a ≡ taken x → RowsFit names x) → event_rows a more ≡ taken d → RowsFit names d
unfolding event_rows
event_rows_fit names [] a d x h = x d h
event_rows_fit names (row ∷ more) a d x h =
    event_rows_fit names more (and_then a (λ y. event_row y row)) d
    (λ y i. let g = past_call a (λ z. event_row z row) y i in event_row_fits names g.0 row y (x g.0 g.1) g.2) h

header_row_few : (row : List ℕ) (names : List (List ℕ)) → header_row row ≡ taken names → length names ≤ width
unfolding header_row
header_row_few row names h =
    let found : List (List ℕ) = drop 1 (fields row) in
    let one = past_test (ltb width (length found)) overLimits _ names h in
    let two = past_test (stray row || not (equal (get_or (fields row) 0 []) event_word)) badShape _ names one.1 in
    let three = past_test (not (every is_name found)) badName _ names two.1 in
    let four = past_test (repeated found) nameTwice (taken found) names three.1 in
    let l : length found ≤ width = ltb-false width (length found) one.0 in
    rw (taken_one four.1) at l

no_events_fit : (names : List (List ℕ)) → RowsFit names (no_events names)
unfolding no_events
no_events_fit names = record { parameters = refl; few_events = omega arith; sets_long = refl; sets_fit = λ e l. absurd (omega arith) }

pub declarations_fit : (text : List ℕ) (d : Declared) → declarations text ≡ taken d → Fits d
unfolding declarations
declarations_fit text d h =
    let one = past_test (ltb text_bytes (length text)) textTooLong _ d h in
    let two = past_call (header_row (first_row text)) _ d one.1 in
    let names = two.0 in
    let three = past_call (event_rows (taken (no_events names)) (rows (after_row text))) _ d two.2 in
    let four = past_test (eqb (length three.0.events) 0) overLimits (taken three.0) d three.2 in
    let some : (length three.0.events ≡ 0 → ⊥) = eqb-false (length three.0.events) 0 four.0 in
    let none : ((y : Declared) → taken (no_events names) ≡ taken y → RowsFit names y) = λ y i. subst (RowsFit names) (taken_one i) (no_events_fit names) in
    let x : RowsFit names three.0 = event_rows_fit names (rows (after_row text)) (taken (no_events names)) three.0 none three.1 in
    let few = header_row_few (first_row text) names two.1 in
    subst Fits (taken_one four.1) (record {
      some_event = omega arith;
      few_events = x.few_events;
      few_parameters = rw x.parameters few;
      sets_long = x.sets_long;
      sets_fit = x.sets_fit;
    })
