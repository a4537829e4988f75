-- Laws of document 01, "The declarations": refused declarations have offset 0 ("its offset for 6 to 9, zero elsewhere").
-- Assumes nothing.
use Rattle.std.specs.Prelude.{ℕ, ◌≡◌, refl, Bool, true, false, not, ◌||◌, List, [], ◌∷◌, ◌++◌, length, get_or, drop, eqb, leb, ltb}
use Rattle.document.specs.Lists.{every, among, repeated, equal}
use Rattle.document.specs.Limits.{width, text_bytes, most_events}
use Rattle.document.specs.Refusals.{Refusal, textTooLong, badShape, badName, nameTwice, overLimits, Answer, taken, refused, refuse_if, and_then}
use Rattle.document.specs.Classes.{event_word, epsilon_word}
use Rattle.document.specs.Rows.{first_row, after_row, rows, stray, fields}
use Rattle.document.specs.Declarations.{is_name, is_mark, set_from, Declared, header_row, event_row, event_rows, no_events, declarations}

-- if it is a refusal, its offset is 0
abbrev Zero : {A : Type 0} → Answer A → Type 0
Zero (taken x) = Unit {0}
Zero (refused r at) = at ≡ 0

zero-refuse_if : {A : Type 0} (t : Bool) (r : Refusal) (a : Answer A) → Zero a → Zero (refuse_if t r a)
zero-refuse_if true r a z = refl
zero-refuse_if false r a z = z

zero_and_then : {A B : Type 0} (a : Answer A) (f : A → Answer B) → Zero a → ((x : A) → Zero (f x)) → Zero (and_then a f)
zero_and_then (taken x) f z g = g x
zero_and_then (refused r at) f z g = z

-- the tests of a row, in their order
zero_row : {A : Type 0} (over shape name twice : Bool) (x : A)
    → Zero (refuse_if over overLimits (refuse_if shape badShape (refuse_if name badName (refuse_if twice nameTwice (taken x)))))
zero_row true shape name twice x = refl
zero_row false true name twice x = refl
zero_row false false true twice x = refl
zero_row false false false true x = refl
zero_row false false false false x = tt

zero-header_row : (row : List ℕ) → Zero (header_row row)
unfolding header_row
zero-header_row row =
    let names = drop 1 (fields row) in
    zero_row (ltb width (length names)) (stray row || not (equal (get_or (fields row) 0 []) event_word)) (not (every is_name names)) (repeated names) names

zero-event_row : (d : Declared) (row : List ℕ) → Zero (event_row d row)
unfolding event_row
zero-event_row d row =
    let name = get_or (fields row) 0 [] in
    let marks = drop 1 (fields row) in
    let more : Declared = record { parameters = d.parameters; events = d.events ++ (name ∷ []); sets = d.sets ++ (set_from 0 marks ∷ []) } in
    zero_row (leb most_events (length d.events)) (stray row || not (eqb (length marks) (length d.parameters)) || not (every is_mark marks))
    (not (is_name name) || equal name epsilon_word) (among name d.events) more

zero-event_rows : (a : Answer Declared) (rs : List (List ℕ)) → Zero a → Zero (event_rows a rs)
unfolding event_rows
zero-event_rows a [] z = z
zero-event_rows a (row ∷ rs) z = zero-event_rows (and_then a (λ d. event_row d row)) rs (zero_and_then a (λ d. event_row d row) z (λ d. zero-event_row d row))

zero-declarations : (text : List ℕ) → Zero (declarations text)
unfolding declarations
zero-declarations text =
    let events : List (List ℕ) → Answer Declared = λ names. event_rows (taken (no_events names)) (rows (after_row text)) in
    let last : Declared → Answer Declared = λ d. refuse_if (eqb (length d.events) 0) overLimits (taken d) in
    let read = and_then (header_row (first_row text)) (λ names. and_then (events names) last) in
    zero-refuse_if (ltb text_bytes (length text)) textTooLong read
    (zero_and_then (header_row (first_row text)) (λ names. and_then (events names) last) (zero-header_row (first_row text)) (λ names.
    zero_and_then (events names) last (zero-event_rows (taken (no_events names)) (rows (after_row text)) tt) (λ d.
    zero-refuse_if (eqb (length d.events) 0) overLimits (taken d) tt)))

pub declarations_offset : (text : List ℕ) (r : Refusal) (at : ℕ) → declarations text ≡ refused r at → at ≡ 0
declarations_offset text r at e = let z = zero-declarations text in rw e at z
