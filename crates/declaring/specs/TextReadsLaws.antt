-- Laws of reading the whole text: the header, then event after event, then the end.
-- Assumes nothing.
use Rattle.std.specs.Prelude.{ℕ, ◌+◌, ◌-◌, ◌≤◌, ◌<◌, ◌≡◌, refl, ◌⊎◌, true, false, List, [], ◌∷◌, length, take, drop, set, replicate, eqb, Result, Ok, Err}
use Rattle.std.proofs.Common.{sym, ap, ◌∙◌, inl, inr, take-append-drop, length-drop, length-take-le, get_or-set_same, get_or-set_other, arith, add-one, eq-eqb, ne_eqb, lt-ltb, le-ltb, eqb-true}
use Rattle.std.proofs.lemmas.Bool.{eqb-false}
use Rattle.std.specs.Result.{IsErrAnd}
use Rattle.declaring.specs.RowReadsLaws.{passed_on}
use Rattle.document.specs.Limits.{width, text_bytes, most_events}
use Rattle.document.specs.Refusals.{Refusal, textTooLong, overLimits, number, Answer, taken, refused, refuse_if, and_then, refusal_of}
use Rattle.document.specs.RefusalsLaws.{number-some}
use Rattle.refusals.specs.declared.Refusal.{Refusal as Code}
use Rattle.refusals.specs.declared.Refusal.TheVariants as code
use Rattle.refusals.specs.Named.{named}
use Rattle.document.specs.Rows.{first_row, after_row, rows, fields}
use Rattle.document.specs.Log.{next_at}
use Rattle.document.specs.Declarations.{Declared, header_row, event_row, event_rows, no_events, declarations}
use Rattle.basics.specs.Tests.{decided}
use Rattle.fields.specs.declared.Fields.{Fields}
use Rattle.fields.specs.Places.{place_at}
use Rattle.fields.specs.PlacesLaws.{empty_at}
use Rattle.rows.specs.TextLaws.{row-part, row_within, rows_over, rows_next, drop-next, next-later}
use Rattle.fields.specs.Split.{Split}
use Rattle.fields.specs.FieldsLaws.{split_counts}
use Rattle.readings.specs.declared.Reading.{Reading}
use Rattle.readings.specs.Readings.{padded, Stands, ReadAs, row_start, AtRows, Reads, Placed, said, none_read, RowAs, Follows, RowReads}
use Rattle.places.specs.PlacesLaws.{names_length, names_none}
use Rattle.rowrules.specs.RowRefusalsLaws.{header_takes, header-fields}

-- the declarations, once all their rows are read: "no event" last
unfoldable pub finish : Answer Declared → Answer Declared
finish a = and_then a (λ d. refuse_if (eqb (length d.events) 0) overLimits (taken d))

-- what is left of a text whose rows before a place were read
pub record Going (text : List ℕ) (at : ℕ) (t : Reading) : Type 0 where
  pub placed : Placed text t
  pub left : declarations text ≡ finish (event_rows (taken (said text t)) (rows (drop at text)))
  pub turn : at ≡ row_start text t.events
  pub places : AtRows text t

-- where nothing is read there is no name
none_at : (text : List ℕ) (n : ℕ) → AtRows text (none_read n)
none_at text n = record { begin = λ k h. absurd (omega arith) }

-- an answer that is known is read as what it is
refused_as : (text : List ℕ) (q : Code) (a : Answer Declared) → declarations text ≡ a → ReadAs text (Err q) a → Reads text (Err q)
refused_as text q a e s = record { says = rw e s; places = tt }

-- the text is too long
pub read_long : (text : List ℕ) → text_bytes < length text → Reads text (Err code.TextTooLong)
unfolding declarations
read_long text h = refused_as text code.TextTooLong (refused textTooLong 0) (rw (lt-ltb text_bytes (length text) h)) refl

-- the first row is a part of the text
pub first_inside : (text : List ℕ) (end : ℕ) → end ≡ 0 + length (first_row (drop 0 text)) → end ≡ length (take end text)
first_inside text end e = sym (length-take-le end text (row_within text 0 end e (omega arith)).1)

first-part : (text : List ℕ) (end : ℕ) → end ≡ 0 + length (first_row (drop 0 text)) → take end text ≡ first_row text
first-part text end e = let k : end - 0 ≡ end = omega arith in rw k at (row-part text 0 end e)

-- otherwise its header is judged, and then its events
declarations-is : (text : List ℕ) → length text ≤ text_bytes
    → declarations text ≡ and_then (header_row (first_row text)) (λ names. finish (event_rows (taken (no_events names)) (rows (after_row text))))
unfolding declarations finish
declarations-is text h = rw (le-ltb text_bytes (length text) h)

header_refuses : (text : List ℕ) (a : Answer (List (List ℕ))) (f : List (List ℕ) → Answer Declared) (q : Code)
    → number (named q) ≡ refusal_of a → ReadAs text (Err q) (and_then a f)
header_refuses text (taken names) f q e = absurd (let k = number-some (named q) in omega arith)
header_refuses text (refused r at) f q e = e

pub read_header : (text : List ℕ) (end : ℕ) (q : Code) (row : List ℕ) → length text ≤ text_bytes → end ≡ 0 + length (first_row (drop 0 text))
    → row ≡ take end text → number (named q) ≡ refusal_of (header_row row) → (r : Result Reading Code) → IsErrAnd r (λ x. x ≡ q) → Reads text r
read_header text end q row l e b h r i = passed_on (Reads text) r q i
    (refused_as text q _ (declarations-is text l) (header_refuses text (header_row (first_row text)) _ q (rw (b ∙ first-part text end e) at h)))

none_placed : (text : List ℕ) (n : ℕ) → n ≡ length (drop 1 (fields (first_row text))) → n ≤ width → Placed text (none_read n)
none_placed text n e h = record {
  parameters = e;
  few_parameters = h;
  few_events = omega arith;
  inside = record { within = λ k. rw (empty_at most_events k) (omega arith) };
  places = refl;
  sets = refl;
  rest = refl;
}

none_said : (text : List ℕ) (n : ℕ) → said text (none_read n) ≡ no_events (drop 1 (fields (first_row text)))
unfolding said no_events
none_said text n = rw (names_none text (replicate most_events (record { start = 0; size = 0 })))

pub read_begins : (text : List ℕ) (end at : ℕ) (f : Fields) (row : List ℕ) (r : Reading) → length text ≤ text_bytes → end ≡ 0 + length (first_row (drop 0 text))
    → row ≡ take end text → Split row f → 0 ≡ refusal_of (header_row row)
    → r ≡ none_read (f.count - 1) → at ≡ next_at text 0 → Going text at r
unfolding row_start
read_begins text end at f row r l e b s h z o =
    let same : row ≡ first_row text = b ∙ first-part text end e in
    let v : 0 ≡ refusal_of (header_row (first_row text)) = rw same at h in
    let w : Split (first_row text) f = rw same at s in
    let m = header-fields (first_row text) f w v in
    let c = (split_counts (first_row text) f w).few m in
    let k : f.count - 1 ≡ length (drop 1 (fields (first_row text))) = rw length-drop (omega arith) in
    let j : drop (next_at text 0) text ≡ after_row text = drop-next text 0 (omega arith) in
    rw z (record {
      placed = none_placed text (f.count - 1) k (omega arith);
      left = declarations-is text l
          ∙ rw (header_takes (first_row text) v, o, j, none_said text (f.count - 1));
      turn = o;
      places = none_at text (f.count - 1);
    })

-- One row more.
rows_left : (text : List ℕ) (at : ℕ) (d : Declared) → at < length text
    → event_rows (taken d) (rows (drop at text)) ≡ event_rows (event_row d (first_row (drop at text))) (rows (drop (next_at text at) text))
unfolding event_rows
rows_left text at d h = rw (rows_next text at h)

refused_stays : (q : Refusal) (o : ℕ) (l : List (List ℕ)) → event_rows (refused q o) l ≡ refused q o
unfolding event_rows
refused_stays q o [] = refl
refused_stays q o (row ∷ l) = refused_stays q o l

row_goes_on : (text : List ℕ) (m : Reading) (a : Answer Declared) → RowAs text (Ok m) a → Placed text m × (a ≡ taken (said text m))
row_goes_on text m (taken d) s = (s.0, ap taken (sym s.1))
row_goes_on text m (refused q o) s = absurd s

next_start : (text : List ℕ) (at next n m : ℕ) → at ≡ row_start text n → next ≡ next_at text at → m ≡ n + 1 → next ≡ row_start text m
unfolding row_start
next_start text at next n m a e k = e ∙ ap (next_at text) a ∙ rw (k, add-one)

more_at : (text : List ℕ) (at : ℕ) (t m : Reading) → Going text at t → Placed text m → Follows at t m → AtRows text m
more_at text at t m g p f = record { begin = λ k h. rw f.places (go k h (decided (eqb k t.events))) }
  where
    go : (k : ℕ) → k < m.events → (eqb k t.events ≡ true) ⊎ (eqb k t.events ≡ false) → (place_at (set t.places t.events f.place) k).start ≡ row_start text k
    go k h (inl e) =
        let z = g.placed.places in
        let few = p.few_events in
        let more = f.events in
        rw (eqb-true k t.events e, get_or-set_same t.places t.events f.place (record { start = 0; size = 0 }) (omega arith), f.begins) g.turn
    go k h (inr e) =
        let more = f.events in
        let ne : (k ≡ t.events → ⊥) = eqb-false k t.events e in
        rw (get_or-set_other t.places t.events k f.place (record { start = 0; size = 0 }) ne) (g.places.begin k (omega arith))

pub read_row : (text : List ℕ) (at next : ℕ) (t m : Reading) → Going text at t → at < length text → RowReads text at t (Ok m)
    → next ≡ next_at text at → Going text next m
read_row text at next t m g h s e =
    let p = row_goes_on text m (event_row (said text t) (first_row (drop at text))) s.says in
    let f = s.follows in
    record {
      placed = p.0;
      left = g.left ∙ ap finish (rows_left text at (said text t) h ∙ rw (p.1, e));
      turn = next_start text at next t.events m.events g.turn e f.events;
      places = more_at text at t m g p.0 f;
    }

row_stops : (text : List ℕ) (q : Code) (a : Answer Declared) (l : List (List ℕ)) → RowAs text (Err q) a → ReadAs text (Err q) (finish (event_rows a l))
unfolding finish
row_stops text q (taken d) l s = absurd s
row_stops text q (refused r o) l s = rw (refused_stays r o l) s

pub read_refused : (text : List ℕ) (at : ℕ) (t : Reading) (q : Code) → Going text at t → at < length text → RowReads text at t (Err q)
    → (r : Result Reading Code) → IsErrAnd r (λ x. x ≡ q) → Reads text r
read_refused text at t q g h s r i = passed_on (Reads text) r q i
    (refused_as text q _ (g.left ∙ ap finish (rows_left text at (said text t) h))
    (row_stops text q (event_row (said text t) (first_row (drop at text))) (rows (drop (next_at text at) text)) s.says))

-- each row lies further on
pub read_later : (text : List ℕ) (at next : ℕ) → at < length text → next ≡ next_at text at → length text - next < length text - at
read_later text at next h e = let k = next-later text at h in omega arith

-- All rows read.
said_counts : (text : List ℕ) (t : Reading) → length (said text t).events ≡ t.events
unfolding said
said_counts text t = names_length text t.events t.places

all_left : (text : List ℕ) (at : ℕ) (t : Reading) → Going text at t → length text ≤ at
    → declarations text ≡ refuse_if (eqb t.events 0) overLimits (taken (said text t))
unfolding finish event_rows
all_left text at t g h = g.left ∙ rw (rows_over text at h, said_counts text t)

pub read_none : (text : List ℕ) (at : ℕ) (t : Reading) → Going text at t → length text ≤ at → t.events ≡ 0 → Reads text (Err code.OverLimits)
read_none text at t g h n = refused_as text code.OverLimits (refused overLimits 0) (all_left text at t g h ∙ rw (eq-eqb t.events 0 n)) refl

placed_stands : (text : List ℕ) (t : Reading) → Placed text t → (t.events ≡ 0 → ⊥) → Stands text (said text t) t
unfolding said padded
placed_stands text t p n =
    let a = p.few_events in
    let b = p.sets in
    let l : length (take t.events t.sets) ≡ t.events = length-take-le t.events t.sets (omega arith) in
    record {
      parameters = p.parameters;
      events = sym (names_length text t.events t.places);
      names = refl;
      sets = sym (rw (l, ← p.rest) (take-append-drop t.events t.sets));
      inside = p.inside;
      few_parameters = p.few_parameters;
      few_events = p.few_events;
      some_events = omega arith;
    }

pub read_all : (text : List ℕ) (at : ℕ) (t : Reading) → Going text at t → length text ≤ at → (t.events ≡ 0 → ⊥) → Reads text (Ok t)
read_all text at t g h n =
    let e : declarations text ≡ taken (said text t) = all_left text at t g h ∙ rw (ne_eqb t.events 0 n) in
    record { says = rw e (placed_stands text t g.placed n); places = g.places }
