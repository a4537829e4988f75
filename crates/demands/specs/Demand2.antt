-- The customer's demand 2 as a whole: what the reader says of the grammar (crate grammar), what the table says of words
-- (crate words), and, here, the order of the refusals.
-- Assumes nothing.
use Rattle.std.specs.Prelude.{ℕ, ◌<◌, ◌≤◌, ◌≡◌, refl, Bool, true, false, List, length, ltb}
use Rattle.std.proofs.Common.{sym, subst, subst₂, ◌∙◌, ltb-true, ltb-false, le-ltb, lt-ltb}
use Rattle.document.specs.Limits.{text_bytes, most_states}
use Rattle.document.specs.Refusals.{Refusal, textTooLong, tooManyStates, Answer, taken, refused, refuse_if, and_then}
use Rattle.document.specs.Declarations.{Declared, declarations}
use Rattle.document.specs.Reading.{Parsed, parse}
use Rattle.document.specs.Property.{Property}
use Rattle.document.specs.Translate.{anew, translate}
use Rattle.document.specs.Demands.{Allowed, Means, RefusedFor, declarations_refused, pattern_too_long, faulty, states_exceeded, Demand2}
use Rattle.grammar.specs.Parsing.{whole_faultless_parse, parse_taken_whole, parse_taken_faultless, parse_refused_first}
use Rattle.words.specs.Numbers.{reads_numbered}
use Rattle.words.specs.Matching.{set-after-holds}
use Rattle.words.specs.Count.{more_states}
use Rattle.document.specs.DeclarationsLaws.{declarations_offset}
use Rattle.basics.specs.Answers.{refused_taken, taken_one}
use Rattle.words.specs.Meaning.{states_for, table_for, states_few, few_states_lem, allowed_means}

-- the texts that come as far as the readers
pub record Comes (events text : List ℕ) (d : Declared) : Type 0 where
  pub declares : declarations events ≡ taken d
  pub short : length text ≤ text_bytes

-- ---- the translator's answers, in the order of the refusals
pub data Translated (events text : List ℕ) : Answer Property → Type 0 where
  not_declared : {q : Refusal} {at : ℕ} → declarations events ≡ refused q at → Translated events text (refused q at)
  too_long : {d : Declared} → declarations events ≡ taken d → text_bytes < length text → Translated events text (refused textTooLong 0)
  not_read : {d : Declared} {q : Refusal} {at : ℕ} → Comes events text d → parse d.events text ≡ refused q at → Translated events text (refused q at)
  too_many : {d : Declared} {t : Parsed} → Comes events text d → parse d.events text ≡ taken t → most_states < length (states_for d t.pattern).sets
      → Translated events text (refused tooManyStates 0)
  tabled : {d : Declared} {t : Parsed} → Comes events text d → parse d.events text ≡ taken t → length (states_for d t.pattern).sets ≤ most_states
      → Translated events text (taken (table_for d t))

-- the answer for what was read, and for what was declared
abbrev from_read : Declared → Parsed → Answer Property
from_read d t = refuse_if (ltb most_states (length (states_for d t.pattern).sets)) tooManyStates (taken (table_for d t))

abbrev from_declared : List ℕ → Declared → Answer Property
from_declared text d = refuse_if (ltb text_bytes (length text)) textTooLong (and_then (parse d.events text) (from_read d))

pub translated : (events text : List ℕ) → Translated events text (translate events text)
unfolding translate
translated events text = from-declarations (declarations events) refl
  where
    from_states : (d : Declared) (t : Parsed) → Comes events text d → parse d.events text ≡ taken t
        → (u : Bool) → ltb most_states (length (states_for d t.pattern).sets) ≡ u
        → Translated events text (refuse_if u tooManyStates (taken (table_for d t)))
    from_states d t c e true u = too_many c e (ltb-true most_states (length (states_for d t.pattern).sets) u)
    from_states d t c e false u = tabled c e (ltb-false most_states (length (states_for d t.pattern).sets) u)

    from_pattern : (d : Declared) → Comes events text d → (a : Answer Parsed) → parse d.events text ≡ a
        → Translated events text (and_then a (from_read d))
    from_pattern d c (taken t) e = from_states d t c e (ltb most_states (length (states_for d t.pattern).sets)) refl
    from_pattern d c (refused q at) e = not_read c e

    from_text : (d : Declared) → declarations events ≡ taken d → (u : Bool) → ltb text_bytes (length text) ≡ u
        → Translated events text (refuse_if u textTooLong (and_then (parse d.events text) (from_read d)))
    from_text d e true u = too_long e (ltb-true text_bytes (length text) u)
    from_text d e false u = from_pattern d (record { declares = e; short = ltb-false text_bytes (length text) u }) (parse d.events text) refl

    from-declarations : (a : Answer Declared) → declarations events ≡ a
        → Translated events text (and_then a (from_declared text))
    from-declarations (taken d) e = from_text d e (ltb text_bytes (length text)) refl
    from-declarations (refused q at) e = not_declared e

-- ---- the fields of demand 2
demand_takes : (events text : List ℕ) (a : Allowed events text)
    → translate events text ≡ taken (table_for a.declared (record { pattern = a.pattern; asked = a.asked }))
unfolding translate
demand_takes events text a =
    let d : Declared = a.declared in
    let read = whole_faultless_parse d.events text a.whole a.faultless in
    let few : length (states_for d a.pattern).sets ≤ most_states = few_states_lem d a.pattern a.few_states in
    let fits = le-ltb most_states (length (states_for d a.pattern).sets) few in
    rw (a.declares, le-ltb text_bytes (length text) a.short, read, fits) refl

demand_allows : (events text : List ℕ) (p : Property) → translate events text ≡ taken p → Allowed events text
demand_allows events text p h = go (translate events text) (translated events text) h
  where
    go : (a : Answer Property) → Translated events text a → a ≡ taken p → Allowed events text
    go a (not_declared e) i = absurd (refused_taken i)
    go a (too_long e l) i = absurd (refused_taken i)
    go a (not_read c e) i = absurd (refused_taken i)
    go a (too_many c e l) i = absurd (refused_taken i)
    go a (tabled {d = d} {t = t} c e l) i = record {
      declared = d;
      pattern = t.pattern;
      asked = t.asked;
      declares = c.declares;
      short = c.short;
      whole = parse_taken_whole d.events text e;
      faultless = parse_taken_faultless d.events text e;
      few_states = states_few d t.pattern l;
    }

demand_means : (events text : List ℕ) (p : Property) → translate events text ≡ taken p → (a : Allowed events text) → Means a p
demand_means events text p h a = subst (Means a) (taken_one (sym (demand_takes events text a) ∙ h)) (allowed_means a)

demand_refuses : (events text : List ℕ) (r : Refusal) (at : ℕ) → translate events text ≡ refused r at → RefusedFor events text r at
demand_refuses events text r at h = go (translate events text) (translated events text) h
  where
    same : {q : Refusal} {k : ℕ} → ◌≡◌ {A = Answer Property} (refused q k) (refused r at) → RefusedFor events text q k
        → RefusedFor events text r at
    same {q} {k} i x = subst₂ (RefusedFor events text) (cc) (cc) x

    go : (a : Answer Property) → Translated events text a → a ≡ refused r at → RefusedFor events text r at
    go a (not_declared {q = q} {at = k} e) i =
        let z : k ≡ 0 = declarations_offset events q k e in
        let x : RefusedFor events text q k = rw z (declarations_refused (rw z at e)) in
        same i x
    go a (too_long e l) i = same i (pattern_too_long e l)
    go a (not_read {d = d} {q = q} {at = k} c e) i =
        let x = parse_refused_first d.events text e in
        same i (rw x.offset (faulty c.declares c.short x.first))
    go a (too_many {d = d} {t = t} c e l) i =
        same i (states_exceeded c.declares c.short (parse_taken_whole d.events text e) (parse_taken_faultless d.events text e)
        ((more_states anew t.pattern (length d.events)).0 (lt-ltb most_states (length (states_for d t.pattern).sets) l)))
    go a (tabled c e l) i = absurd (refused_taken (sym i))

pub demand_2 : Demand2
demand_2 = record {
  takes = λ events text a. (table_for a.declared (record { pattern = a.pattern; asked = a.asked }), demand_takes events text a);
  allows = demand_allows;
  means = demand_means;
  refuses = demand_refuses;
  sets = λ declared n ts r reads few w k. set-after-holds r n (reads_numbered declared reads) few w k;
}
