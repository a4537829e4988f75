-- Laws of translating: the table from what was read, and one law for each return.
-- Assumes nothing.
use Rattle.std.specs.Prelude.{ℕ, ◌-◌, ◌≤◌, ◌<◌, ◌≡◌, refl, List, ◌++◌, length, get_or, replicate, Option, Some, None, Result, Ok, Err}
use Rattle.std.proofs.Common.{sym, ap, ◌∙◌, length-append, arith}
use Rattle.std.proofs.lemmas.List.{length-replicate}
use borrow.Author.Tests.{lt-ltb, le-ltb}
use Rattle.document.specs.Lists.{tabulate}
use Rattle.document.specs.Limits.{text_bytes, most_events}
use Rattle.document.specs.Refusals.{Answer, taken, refused, and_then}
use Rattle.document.specs.Declarations.{Declared}
use Rattle.document.specs.DeclarationsLaws.{declarations_offset}
use Rattle.document.specs.Reading as reading
use Rattle.document.specs.States.{states_of}
use Rattle.document.specs.Translate.{anew, translate}
use Rattle.words.specs.Taken.{declarations_fit}
use Rattle.refusals.specs.declared.Refusal.{Refusal}
use Rattle.refusals.specs.declared.Refusal.TheVariants as code
use Rattle.readings.specs.declared.Reading.{Reading}
use Rattle.readings.specs.Readings.{padded, Stands, Reads}
use Rattle.places.specs.NamesAt.{names_at}
use Rattle.readings.specs.ReadingsLaws.{reads_taken, reads_refused, padded_at}
use Rattle.sets.specs.ShapesLaws.{tabulate-is}
use Rattle.parts.specs.declared.Stopped.{Stopped}
use Rattle.parts.specs.Parts.{AnsweredAs, refused_at}
use Rattle.asking.specs.declared.Parsed.{Parsed}
use Rattle.asking.specs.Texts.{parsed_of}
use Rattle.states.specs.declared.Table.{Table}
use Rattle.states.specs.Tabling.{table_of, Tabled}
use Rattle.states.specs.TableLaws.{table_over, table_fits, table_property}
use Rattle.property.specs.declared.Property.{Property}
use Rattle.translate.specs.Translations.{held, Tables}

-- the sets of the events, 0 past the last
padded-is : (l : List ℕ) → length l ≤ most_events → padded l ≡ tabulate most_events (λ e. get_or l e 0)
unfolding padded
padded-is l h = tabulate-is most_events (λ e. get_or l e 0) (l ++ replicate (most_events - length l) 0)
    (simp (length-append, length-replicate) (omega arith)) (λ k _. padded_at l k)

-- The table from what was read -----------------------------------------------------------------------------------------

module _ (d : Reading) (t : Parsed) (r : Option Table) (m : Tabled t.shape d.events 0 r) where
  table_is : (text : List ℕ) (x : Declared) (p : reading.Parsed) → Stands text x d → t ≡ parsed_of p
      → r ≡ table_of p.pattern (states_of anew p.pattern (length x.events))
  table_is text x p w g = rw w.events at (m.says p.pattern anew (ap (λ (y : Parsed). y.shape) g) refl)

  pub tables_over : (x : Stopped) → r ≡ None → x ≡ refused_at code.TooManyStates 0 → Tables d t (Err x)
  tables_over x o k = record {
    says = λ text y p e w g. rw (table_over p.pattern _ (sym o ∙ table_is text y p w g), k) (refl, refl);
  }

  pub tables_all : (table : Table) → r ≡ Some table → Tables d t (Ok (record {
    parameters = d.parameters;
    events = d.events;
    states = table.states;
    asked = t.asked;
    sets = d.sets;
    next = table.next;
    verdicts = table.verdicts;
  }))
  tables_all table o = record {
    says = λ text x p e w g.
        let q = sym o ∙ table_is text x p w g in
        let f = declarations_fit text x e in
        let i = w.parameters in
        let j = w.events in
        let a = ap (λ (y : Parsed). y.asked) g in
        let n : d.sets ≡ tabulate most_events (λ k. get_or x.sets k 0) =
        w.sets ∙ padded-is x.sets (let u = f.sets_long in let v = f.few_events in omega arith) in
        rw (table_fits p.pattern _ table q, table_property x p _ table q) (λ k. record {
          parameters = i k;
          events = j k;
          states = table.states;
          asked = a k;
          sets = n k;
          next = table.next;
          verdicts = table.verdicts;
        });
  }

-- The whole ------------------------------------------------------------------------------------------------------------

-- an answer that goes on from another: its refusal, or what follows its value
then_refused : {A B C E : Type 0} (f : A → B) (g : C → E) (a : Answer A) (F : A → Answer C) (x : Stopped) → AnsweredAs f a (Err x) → AnsweredAs g (and_then a F) (Err x)
then_refused f g (taken y) F x h = absurd h
then_refused f g (refused q at) F x h = h

then_taken : {A B C E : Type 0} (f : A → B) (g : C → E) (a : Answer A) (F : A → Answer C) (y : B) (r : Result E Stopped) → AnsweredAs f a (Ok y)
    → ((x : A) → y ≡ f x → AnsweredAs g (F x) r) → AnsweredAs g (and_then a F) r
then_taken f g (taken x) F y r h go = go x h
then_taken f g (refused q at) F y r h go = absurd h

-- the declarations are refused
pub translate_refused : (D s : List ℕ) (e : Refusal) (x : Stopped) → Reads D (Err e) → x ≡ refused_at e 0 → AnsweredAs held (translate D s) (Err x)
unfolding translate
translate_refused D s e x h k =
    let w = reads_refused D e h in
    rw (w.is, k) (w.number, sym (declarations_offset D w.why w.at w.is))

-- the same of a reading that is looked at
pub translate_unread : (D s : List ℕ) (r : Result Reading Refusal) (x : Stopped) → Reads D r → ((d : Reading) → r ≡ Ok d → ⊥)
    → ((e : Refusal) → r ≡ Err e → x ≡ refused_at e 0) → AnsweredAs held (translate D s) (Err x)
translate_unread D s (Ok d) x h n g = absurd (n d refl)
translate_unread D s (Err e) x h n g = translate_refused D s e x h (g e refl)

-- what follows accepted declarations: a pattern too long, one that is refused, one that is read
module _ (D s : List ℕ) (d : Reading) (h : Reads D (Ok d)) where
  pub translate_long : (x : Stopped) → text_bytes < length s → x ≡ refused_at code.TextTooLong 0 → AnsweredAs held (translate D s) (Err x)
  unfolding translate
  translate_long x l k = rw ((reads_taken D d h).is, lt-ltb text_bytes (length s) l, k) (refl, refl)

  module _ (l : length s ≤ text_bytes) where
    pub translate_stopped : (x : Stopped) → AnsweredAs parsed_of (reading.parse (names_at D d.events d.places) s) (Err x) → AnsweredAs held (translate D s) (Err x)
    unfolding translate
    translate_stopped x e =
        let w = reads_taken D d h in
        rw (w.is, le-ltb text_bytes (length s) l) (then_refused parsed_of held (reading.parse w.said.events s) _ x (rw w.stands.names at e))

    pub translate_table : (t : Parsed) (r : Result Property Stopped) → AnsweredAs parsed_of (reading.parse (names_at D d.events d.places) s) (Ok t) → Tables d t r
        → AnsweredAs held (translate D s) r
    unfolding translate
    translate_table t r e m =
        let w = reads_taken D d h in
        rw (w.is, le-ltb text_bytes (length s) l) (then_taken parsed_of held (reading.parse w.said.events s) _ t r (rw w.stands.names at e)
        (λ p k. m.says D w.said p w.is w.stands k))
