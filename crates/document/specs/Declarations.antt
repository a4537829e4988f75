-- Document 01, "The declarations": names, what declarations say, their refusals 1 to 5 in the document's order, the log's
-- header (22), and names given back as parts of the two texts.
-- Assumes nothing.
use Rattle.std.specs.Prelude.{ℕ, suc, ◌+◌, ◌^◌, Bool, false, not, cond, ◌&&◌, ◌||◌, List, [], ◌∷◌, ◌++◌, length, get_or, drop, eqb, leb, ltb}
use Rattle.document.specs.Lists.{every, among, repeated, equal, take_while}
use Rattle.document.specs.Limits.{width, text_bytes, name_bytes, most_events}
use Rattle.document.specs.Refusals.{textTooLong, badShape, badName, nameTwice, overLimits, headerDiffers, Answer, taken, refused, refuse_if, and_then}
use Rattle.document.specs.Classes.{is_letter, is_name_byte, zero_byte, one_byte, event_word, epsilon_word}
use Rattle.document.specs.Rows.{first_row, after_row, rows, stray, fields}

-- "1 to 32 bytes, ASCII letters, digits and underscore, the first a letter"
unfoldable pub is_name : List ℕ → Bool
is_name [] = false
is_name (b ∷ t) = is_letter b && every is_name_byte t && leb (length (b ∷ t)) name_bytes

-- what accepted declarations say: the names, and for each event the set of parameters that it binds.
-- A set is a number: bit k says whether parameter k is in it.
pub record Declared : Type 0 where
  pub parameters : List (List ℕ)
  pub events : List (List ℕ)
  pub sets : List ℕ

-- a mark is the one byte `0` or `1`
unfoldable pub is_mark : List ℕ → Bool
is_mark f = equal f (zero_byte ∷ []) || equal f (one_byte ∷ [])

-- the set that an event's marks say, counted from parameter k
unfoldable pub set_from : ℕ → List (List ℕ) → ℕ
set_from k [] = 0
set_from k (f ∷ marks) = cond (equal f (one_byte ∷ [])) (2 ^ k) 0 + set_from (suc k) marks

-- "The header is `event` and the parameter names": the names
unfoldable pub header_row : List ℕ → Answer (List (List ℕ))
header_row row =
    let names = drop 1 (fields row) in
    refuse_if (ltb width (length names)) overLimits
    (refuse_if (stray row || not (equal (get_or (fields row) 0 []) event_word)) badShape
    (refuse_if (not (every is_name names)) badName
    (refuse_if (repeated names) nameTwice
    (taken names))))

-- an event's row after those that came before it: the declarations with this event
unfoldable pub event_row : Declared → List ℕ → Answer Declared
event_row d row =
    let name = get_or (fields row) 0 [] in
    let marks = drop 1 (fields row) in
    refuse_if (leb most_events (length d.events)) overLimits
    (refuse_if (stray row || not (eqb (length marks) (length d.parameters)) || not (every is_mark marks)) badShape
    (refuse_if (not (is_name name) || equal name epsilon_word) badName
    (refuse_if (among name d.events) nameTwice
    (taken (record {
      parameters = d.parameters;
      events = d.events ++ (name ∷ []);
      sets = d.sets ++ (set_from 0 marks ∷ []);
    })))))

-- "the first faulty row" refuses
unfoldable pub event_rows : Answer Declared → List (List ℕ) → Answer Declared
event_rows a [] = a
event_rows a (row ∷ more) = event_rows (and_then a (λ d. event_row d row)) more

unfoldable pub no_events : List (List ℕ) → Declared
no_events names = record { parameters = names; events = []; sets = [] }

-- "1, then the first faulty row; .. "no event" last"
unfoldable pub declarations : List ℕ → Answer Declared
declarations text =
    refuse_if (ltb text_bytes (length text)) textTooLong
    (and_then (header_row (first_row text)) (λ names.
    and_then (event_rows (taken (no_events names)) (rows (after_row text))) (λ d.
    refuse_if (eqb (length d.events) 0) overLimits (taken d))))

-- the header of a log, judged by a call of its own: "the same bytes" as the declarations' header
unfoldable pub header : List ℕ → List ℕ → Answer (Unit {0})
header text row = and_then (declarations text) (λ d. refuse_if (not (equal row (first_row text))) headerDiffers (taken tt))

-- the name of an event by its number, a part of the declarations; nothing where there is none
unfoldable pub event_name_of : Answer Declared → ℕ → List ℕ
event_name_of (taken d) e = get_or d.events e []
event_name_of (refused r at) e = []

unfoldable pub event_name : List ℕ → ℕ → List ℕ
event_name text e = event_name_of (declarations text) e

-- the name that begins a text: "the name bytes from there, if a letter is first"
unfoldable pub name_run : List ℕ → List ℕ
name_run [] = []
name_run (b ∷ t) = cond (is_letter b) (take_while is_name_byte (b ∷ t)) []

-- the name at an offset, a part of the pattern text; nothing where there is none
unfoldable pub name_at : List ℕ → ℕ → List ℕ
name_at text at = name_run (drop at text)
