-- Document 01, "What the promises say": "Each public call's promise determines its answer and every lent number afterwards for
-- every input, refused ones too; that this leaves a single answer is proved". A part for each call of the face, in the order of
-- the document. `..Promise` is what a caller learns by the call's own contract, as the checker reads it off the code
-- (`Learnt`), of the answer and of what the lent numbers hold afterwards; `.._takes`: a caller has nothing to show (`Asked`);
-- `.._single`: two answers that meet the promise for the same arguments are equal, and so is what they leave. So a contract
-- that came to ask for something, or to leave something open, would be refused here. What is lent to be read only stays by its
-- type.
-- Assumes nothing.
use Rattle.std.specs.Prelude.{ℕ, ◌+◌, ◌≡◌, refl, Bool, List}
use Rattle.std.proofs.Common.{sym, ap, ◌∙◌}
use base.Logic.{emp}
use contract.Monad.{fact}
use contract.Lifetimes.{Lfts}
use denote.Ref.{Bor, MutBor, at_last as last}
use borrow.Fn.World.{World}
use Rattle.declared.specs.declared.Declared.{Declared}
use Rattle.declared.proofs.declarations.Reads as declarations
use Rattle.declared.proofs.header.Reads as header
use Rattle.declared.proofs.event_name.Reads as event_name
use Rattle.declared.proofs.pattern_name.Reads as pattern-name
use Rattle.declared.proofs.event_place.Reads as event-place
use Rattle.declared.proofs.pattern_place.Reads as pattern-place
use Rattle.translate.specs.declared.Translated.{Translated}
use Rattle.translate.proofs.translate.Reads as translate
use Rattle.property.specs.declared.Property.{Property}
use Rattle.property.proofs.in_range.Reads as in_range
use Rattle.hopes.specs.declared.Checked.{Checked}
use Rattle.hopes.proofs.check.Reads as check
use Rattle.steps.specs.declared.Answered.{Answered}
use Rattle.finding.specs.declared.Looked.{Looked}
use Rattle.starting.proofs.start.Reads as start
use Rattle.session.proofs.event.Reads as event
use Rattle.finding.proofs.lookup.Reads as lookup
use Rattle.turns.specs.declared.Ran.{Ran}
use Rattle.logs.proofs.row.Reads as row
use Rattle.logs.proofs.run.Reads as run
use Rattle.fields.specs.declared.Part.{Part}
use Rattle.fields.proofs.field.Reads as field
use Rattle.fields.proofs.field_place.Reads as field-place
use Rattle.reader.specs.declared.Reader.{Reader}
use Rattle.reader.specs.declared.Place.{Place}
use Rattle.fields.specs.Places.{Lies, place_from}
use Rattle.reader.specs.declared.Row.{Row}
use Rattle.reader.specs.Handing.{HandsOut}
use Rattle.reader.specs.WholeLog.{hands_single}
use Rattle.reader.specs.contracts.reader_at as reader_at
use Rattle.reader.specs.contracts.hand_out as hand-out
use Rattle.reader.proofs.place_at.Reads as place_at
use Rattle.reader.proofs.part.Reads as part
use Rattle.printrow.specs.declared.Printed.{Printed}
use Rattle.printing.proofs.print.Reads as print
use Rattle.single.specs.Leaves.{part_at_single, told_single, checks_single, start_leaves_single, leaves_single, run_leaves_single, print_leaves_single}

-- bytes or numbers that the caller lends to be read only, and a part of them that is given back; `now` is what they hold
abbrev pub Lent : Type 0
Lent = Bor (List ℕ)

-- bytes or numbers that the caller lends to be written; `last seen seen'` are the lent numbers `seen` when they hold seen' at last
abbrev pub MutLent : Type 0
MutLent = MutBor (List ℕ)

-- The declarations -----------------------------------------------------------------------------------------------------

-- declared::declarations(text)
module _ (κs : Lfts 1) (text : Lent) where
  abbrev pub DeclarationsPromise : Declared → Type 0
  DeclarationsPromise r = declarations.Learnt κs (text, tt) r (text, tt)

  pub declarations_takes : declarations.Asked κs (text, tt)
  declarations_takes = tt

  pub declarations_single : (r q : Declared) → DeclarationsPromise r → DeclarationsPromise q → r ≡ q
  declarations_single r q x y = x ∙ sym y

-- The pattern text, the table ------------------------------------------------------------------------------------------

-- translate::translate(declarations, pattern)
module _ (κs : Lfts 2) (declarations pattern : Lent) where
  abbrev pub TranslatePromise : Translated → Type 0
  TranslatePromise r = translate.Learnt κs (declarations, (pattern, tt)) r (declarations, (pattern, tt))

  pub translate_takes : translate.Asked κs (declarations, (pattern, tt))
  translate_takes = tt

  pub translate_single : (r q : Translated) → TranslatePromise r → TranslatePromise q → r ≡ q
  translate_single r q x y = x ∙ sym y

-- property::in_range(p)
module _ (κs : Lfts 0) (p : Property) where
  abbrev pub InRangePromise : Bool → Type 0
  InRangePromise r = in_range.Learnt κs (p, tt) r (p, tt)

  pub in_range_takes : in_range.Asked κs (p, tt)
  in_range_takes = tt

  pub in_range_single : (r q : Bool) → InRangePromise r → InRangePromise q → r ≡ q
  in_range_single r q x y = x ∙ sym y

-- hopes::check(p)
module _ (κs : Lfts 0) (p : Property) where
  abbrev pub CheckPromise : Checked → Type 0
  CheckPromise r = check.Learnt κs (p, tt) r (p, tt)

  pub check_takes : check.Asked κs (p, tt)
  check_takes = tt

  pub check_single : (r q : Checked) → CheckPromise r → CheckPromise q → r ≡ q
  check_single r q x y = checks_single x y

-- One event ------------------------------------------------------------------------------------------------------------

-- starting::start(p, &mut seen, &mut kept)
module _ (κs : Lfts 2) (p : Property) (seen kept : MutLent) where
  abbrev pub StartPromise : Answered → List ℕ → List ℕ → Type 0
  StartPromise r seen' kept' = start.Learnt κs (p, (seen, (kept, tt))) r (p, (last seen seen', (last kept kept', tt)))

  pub start_takes : start.Asked κs (p, (seen, (kept, tt)))
  start_takes = tt

  pub start_single : (r q : Answered) (seen' seen'' kept' kept'' : List ℕ)
      → StartPromise r seen' kept' → StartPromise q seen'' kept''
      → (r ≡ q) × (seen' ≡ seen'') × (kept' ≡ kept'')
  start_single r q seen' seen'' kept' kept'' x y = start_leaves_single x y

-- session::event(p, &mut seen, n, &mut kept, m, &mut reports, e, values)
module _ (κs : Lfts 3) (p : Property) (seen : MutLent) (n : ℕ) (kept : MutLent) (m : ℕ) (reports : MutLent) (e : ℕ)
    (values : List ℕ) where
  abbrev pub EventPromise : Answered → List ℕ → List ℕ → List ℕ → Type 0
  EventPromise r seen' kept' reports' =
      event.Learnt κs (p, (seen, (n, (kept, (m, (reports, (e, (values, tt)))))))) r
      (p, (last seen seen', (n, (last kept kept', (m, (last reports reports', (e, (values, tt))))))))

  pub event_takes : event.Asked κs (p, (seen, (n, (kept, (m, (reports, (e, (values, tt))))))))
  event_takes = tt

  pub event_single : (r q : Answered) (seen' seen'' kept' kept'' reports' reports'' : List ℕ)
      → EventPromise r seen' kept' reports' → EventPromise q seen'' kept'' reports''
      → (r ≡ q) × (seen' ≡ seen'') × (kept' ≡ kept'') × (reports' ≡ reports'')
  event_single r q seen' seen'' kept' kept'' reports' reports'' x y = leaves_single x y

-- finding::lookup(p, seen, n, kept, m, c)
module _ (κs : Lfts 2) (p : Property) (seen : Lent) (n : ℕ) (kept : Lent) (m : ℕ) (c : List ℕ) where
  abbrev pub LookupPromise : Looked → Type 0
  LookupPromise r = lookup.Learnt κs (p, (seen, (n, (kept, (m, (c, tt)))))) r (p, (seen, (n, (kept, (m, (c, tt))))))

  pub lookup_takes : lookup.Asked κs (p, (seen, (n, (kept, (m, (c, tt))))))
  lookup_takes = tt

  pub lookup_single : (r q : Looked) → LookupPromise r → LookupPromise q → r ≡ q
  lookup_single r q x y = x ∙ sym y

-- Log rows and the run -------------------------------------------------------------------------------------------------

-- declared::header(declarations, row)
module _ (κs : Lfts 2) (declarations bytes : Lent) where
  abbrev pub HeaderPromise : ℕ → Type 0
  HeaderPromise r = header.Learnt κs (declarations, (bytes, tt)) r (declarations, (bytes, tt))

  pub header_takes : header.Asked κs (declarations, (bytes, tt))
  header_takes = tt

  pub header_single : (r q : ℕ) → HeaderPromise r → HeaderPromise q → r ≡ q
  header_single r q x y = x ∙ sym y

-- logs::row(declarations, p, &mut seen, n, &mut kept, m, &mut reports, bytes)
module _ (κs : Lfts 5) (declarations : Lent) (p : Property) (seen : MutLent) (n : ℕ) (kept : MutLent) (m : ℕ)
    (reports : MutLent) (bytes : Lent) where
  abbrev pub RowPromise : Answered → List ℕ → List ℕ → List ℕ → Type 0
  RowPromise r seen' kept' reports' =
      row.Learnt κs (declarations, (p, (seen, (n, (kept, (m, (reports, (bytes, tt)))))))) r
      (declarations, (p, (last seen seen', (n, (last kept kept', (m, (last reports reports', (bytes, tt))))))))

  pub row_takes : row.Asked κs (declarations, (p, (seen, (n, (kept, (m, (reports, (bytes, tt))))))))
  row_takes = tt

  pub row_single : (r q : Answered) (seen' seen'' kept' kept'' reports' reports'' : List ℕ)
      → RowPromise r seen' kept' reports' → RowPromise q seen'' kept'' reports''
      → (r ≡ q) × (seen' ≡ seen'') × (kept' ≡ kept'') × (reports' ≡ reports'')
  row_single r q seen' seen'' kept' kept'' reports' reports'' x y = leaves_single x y

-- fields::field(row, number): the bytes of the part, and where it lies (`ref_ptr`)
module _ (κs : Lfts 1) (bytes : Lent) (number : ℕ) where
  abbrev pub FieldPromise : Lent → Type 0
  FieldPromise r = field.Learnt κs (bytes, (number, tt)) r (bytes, (number, tt))

  pub field_takes : field.Asked κs (bytes, (number, tt))
  field_takes = tt

  pub field_single : (r q : Lent) → FieldPromise r → FieldPromise q → (r.now ≡ q.now) × (r.ref_ptr ≡ q.ref_ptr)
  field_single r q x y = part_at_single x y

-- fields::field_place(row, number): the same part told by numbers
module _ (κs : Lfts 1) (bytes : Lent) (number : ℕ) where
  abbrev pub FieldPlacePromise : Part → Type 0
  FieldPlacePromise r = field-place.Learnt κs (bytes, (number, tt)) r (bytes, (number, tt))

  pub field_place_takes : field-place.Asked κs (bytes, (number, tt))
  field_place_takes = tt

  pub field_place_single : (r q : Part) → FieldPlacePromise r → FieldPlacePromise q → r ≡ q
  field_place_single r q x y = told_single x y

-- declared::event_name(declarations, pattern, event), declared::pattern_name(declarations, pattern, at): the same
module _ (κs : Lfts 2) (declarations pattern : Lent) (number : ℕ) where
  abbrev pub EventNamePromise : Lent → Type 0
  EventNamePromise r = event_name.Learnt κs (declarations, (pattern, (number, tt))) r (declarations, (pattern, (number, tt)))

  pub event_name_takes : event_name.Asked κs (declarations, (pattern, (number, tt)))
  event_name_takes = tt

  pub event_name_single : (r q : Lent) → EventNamePromise r → EventNamePromise q → (r.now ≡ q.now) × (r.ref_ptr ≡ q.ref_ptr)
  event_name_single r q x y = part_at_single x y

  abbrev pub PatternNamePromise : Lent → Type 0
  PatternNamePromise r =
      pattern-name.Learnt κs (declarations, (pattern, (number, tt))) r (declarations, (pattern, (number, tt)))

  pub pattern_name_takes : pattern-name.Asked κs (declarations, (pattern, (number, tt)))
  pattern_name_takes = tt

  pub pattern_name_single : (r q : Lent) → PatternNamePromise r → PatternNamePromise q → (r.now ≡ q.now) × (r.ref_ptr ≡ q.ref_ptr)
  pattern_name_single r q x y = part_at_single x y

-- declared::event_place(declarations, event), declared::pattern_place(pattern, at): told by numbers
module _ (κs : Lfts 1) (text : Lent) (number : ℕ) where
  abbrev pub EventPlacePromise : Part → Type 0
  EventPlacePromise r = event-place.Learnt κs (text, (number, tt)) r (text, (number, tt))

  pub event_place_takes : event-place.Asked κs (text, (number, tt))
  event_place_takes = tt

  pub event_place_single : (r q : Part) → EventPlacePromise r → EventPlacePromise q → r ≡ q
  event_place_single r q x y = told_single x y

  abbrev pub PatternPlacePromise : Part → Type 0
  PatternPlacePromise r = pattern-place.Learnt κs (text, (number, tt)) r (text, (number, tt))

  pub pattern_place_takes : pattern-place.Asked κs (text, (number, tt))
  pattern_place_takes = tt

  pub pattern_place_single : (r q : Part) → PatternPlacePromise r → PatternPlacePromise q → r ≡ q
  pattern_place_single r q x y = told_single x y

-- The reader holds a reference, and its two calls' promises are written out: that `..Promise` is their contract is shown by
-- `.._promise`, in every model `w` of the checker's logic.
-- reader::reader_at(log, at): the log as it was lent, and the position
module _ (log : Lent) (at : ℕ) where
  abbrev pub ReaderAtPromise : Reader → Type 0
  ReaderAtPromise r = (r.log ≡ log) × (r.at ≡ at)

  pub reader_at_promise : (w : World) (κs : Lfts 1) (r : Reader)
      → (reader_at.clauses w.𝓛 w.𝓜.mem w.𝓡.run κs (log, (at, tt))).ensures tt r (log, (at, tt))
      ≡ fact w.𝓤 (ReaderAtPromise r)
  reader_at_promise w κs r = refl

  pub reader_at_takes : (w : World) (κs : Lfts 1)
      → (reader_at.clauses w.𝓛 w.𝓜.mem w.𝓡.run κs (log, (at, tt))).requires tt ≡ emp w.𝓤
  reader_at_takes w κs = refl

  pub reader_at_single : (r q : Reader) → ReaderAtPromise r → ReaderAtPromise q → r ≡ q
  reader_at_single r q x y = λ i. record { log = (x.0 ∙ sym y.0) i; at = (x.1 ∙ sym y.1) i }

-- reader::hand_out(&mut reader): whether there is a row, its bytes, where they lie, and the reader afterwards, also where there
-- is none
module _ (reader : MutBor Reader) where
  abbrev pub HandOutPromise : Row → Reader → Type 0
  HandOutPromise h reader' =
      (reader'.log ≡ reader.now.log)
      × HandsOut reader.now.log.now reader.now.at h.there h.bytes.now reader'.at
      × Lies reader.now.log (place_from reader.now.at h.bytes.now) h.bytes

  pub hand_out_promise : (w : World) (κs : Lfts 2) (h : Row) (reader' : Reader)
      → (hand-out.clauses w.𝓛 w.𝓜.mem w.𝓡.run κs (reader, tt)).ensures tt h (last reader reader', tt)
      ≡ fact w.𝓤 (HandOutPromise h reader')
  hand_out_promise w κs h reader' = refl

  pub hand_out_takes : (w : World) (κs : Lfts 2)
      → (hand-out.clauses w.𝓛 w.𝓜.mem w.𝓡.run κs (reader, tt)).requires tt ≡ emp w.𝓤
  hand_out_takes w κs = refl

  pub hand_out_single : (h k : Row) (reader' reader'' : Reader) → HandOutPromise h reader' → HandOutPromise k reader''
      → (h ≡ k) × (reader' ≡ reader'')
  hand_out_single h k reader' reader'' x y =
      let z = hands_single x.1 y.1 in
      let log = reader.now.log in
      let b : h.bytes.now ≡ k.bytes.now = z.1.0 in
      let l : h.bytes.ref_ptr ≡ k.bytes.ref_ptr = x.2 ∙ ap (λ (b : List ℕ). (log.ref_ptr.0, place_from reader.now.at b + log.ref_ptr.1)) b ∙ sym y.2 in (
        λ i. record { bytes = record { ref_ptr = l i; now = b i }; there = z.0 i },
        λ i. record { log = (x.0 ∙ sym y.0) i; at = z.1.1 i },
      )

-- reader::place_at(log, at) and reader::part(log, start, end): the same for callers that hold no reader
module _ (κs : Lfts 1) (log : Lent) (at : ℕ) where
  abbrev pub PlaceAtPromise : Place → Type 0
  PlaceAtPromise r = place_at.Learnt κs (log, (at, tt)) r (log, (at, tt))

  pub place_at_takes : place_at.Asked κs (log, (at, tt))
  place_at_takes = tt

  pub place_at_single : (r q : Place) → PlaceAtPromise r → PlaceAtPromise q → r ≡ q
  place_at_single r q x y = x ∙ sym y

module _ (κs : Lfts 1) (log : Lent) (start end : ℕ) where
  abbrev pub PartPromise : Lent → Type 0
  PartPromise r = part.Learnt κs (log, (start, (end, tt))) r (log, (start, (end, tt)))

  pub part_takes : part.Asked κs (log, (start, (end, tt)))
  part_takes = tt

  pub part_single : (r q : Lent) → PartPromise r → PartPromise q → (r.now ≡ q.now) × (r.ref_ptr ≡ q.ref_ptr)
  part_single r q x y = part_at_single x y

-- logs::run(declarations, p, &mut seen, n, &mut kept, m, &mut reports, log, at, budget)
module _ (κs : Lfts 5) (declarations : Lent) (p : Property) (seen : MutLent) (n : ℕ) (kept : MutLent) (m : ℕ)
    (reports : MutLent) (log : Lent) (at budget : ℕ) where
  abbrev pub RunPromise : Ran → List ℕ → List ℕ → List ℕ → Type 0
  RunPromise r seen' kept' reports' =
      run.Learnt κs (declarations, (p, (seen, (n, (kept, (m, (reports, (log, (at, (budget, tt)))))))))) r
      (declarations, (p, (last seen seen', (n, (last kept kept', (m, (last reports reports', (log, (at, (budget, tt))))))))))

  pub run_takes : run.Asked κs (declarations, (p, (seen, (n, (kept, (m, (reports, (log, (at, (budget, tt))))))))))
  run_takes = tt

  pub run_single : (r q : Ran) (seen' seen'' kept' kept'' reports' reports'' : List ℕ)
      → RunPromise r seen' kept' reports' → RunPromise q seen'' kept'' reports''
      → (r ≡ q) × (seen' ≡ seen'') × (kept' ≡ kept'') × (reports' ≡ reports'')
  run_single r q seen' seen'' kept' kept'' reports' reports'' x y = run_leaves_single x y

-- The program ----------------------------------------------------------------------------------------------------------

-- printing::print(declarations, p, &mut seen, n, &mut kept, m, &mut reports, log, at, number, &mut text)
module _ (κs : Lfts 6) (declarations : Lent) (p : Property) (seen : MutLent) (n : ℕ) (kept : MutLent) (m : ℕ)
    (reports : MutLent) (log : Lent) (at number : ℕ) (text : MutLent) where
  abbrev pub PrintPromise : Printed → List ℕ → List ℕ → List ℕ → List ℕ → Type 0
  PrintPromise r seen' kept' reports' text' =
      let rest : Lent × (ℕ × (ℕ × (MutLent × Unit {0}))) = (log, (at, (number, (last text text', tt)))) in
      print.Learnt κs (declarations, (p, (seen, (n, (kept, (m, (reports, (log, (at, (number, (text, tt))))))))))) r
      (declarations, (p, (last seen seen', (n, (last kept kept', (m, (last reports reports', rest)))))))

  pub print_takes : print.Asked κs (declarations, (p, (seen, (n, (kept, (m, (reports, (log, (at, (number, (text, tt)))))))))))
  print_takes = tt

  pub print_single : (r q : Printed) (seen' seen'' kept' kept'' reports' reports'' text' text'' : List ℕ)
      → PrintPromise r seen' kept' reports' text' → PrintPromise q seen'' kept'' reports'' text''
      → (r ≡ q) × (seen' ≡ seen'') × (kept' ≡ kept'') × (reports' ≡ reports'') × (text' ≡ text'')
  print_single r q seen' seen'' kept' kept'' reports' reports'' text' text'' x y = print_leaves_single x y
