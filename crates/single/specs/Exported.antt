-- What a caller of each call of crates/gorrindatz learns is what a caller of the crate beneath learns, word for word: the promises
-- of Calls.antt are theirs too, and so are the single answers. A combination, which C lends by a pointer, counts by the numbers
-- that it holds. That crates/gorrindatz_c exports the same promises stands in its proofs/Exported.
-- Assumes nothing.
use Rattle.std.specs.Prelude.{ℕ, ◌≡◌, refl, List}
use contract.Lifetimes.{Lfts}
use denote.Ref.{at_last as last}
use Rattle.declared.specs.declared.Declared.{Declared}
use Rattle.translate.specs.declared.Translated.{Translated}
use Rattle.property.specs.declared.Property.{Property}
use Rattle.hopes.specs.declared.Checked.{Checked}
use Rattle.fields.specs.declared.Part.{Part}
use Rattle.reader.specs.declared.Place.{Place}
use Rattle.steps.specs.declared.Answered.{Answered}
use Rattle.finding.specs.declared.Looked.{Looked}
use Rattle.turns.specs.declared.Ran.{Ran}
use Rattle.printrow.specs.declared.Printed.{Printed}
use Rattle.gorrindatz.proofs.gorrindatz_declarations.Reads as declarations
use Rattle.gorrindatz.proofs.gorrindatz_header.Reads as header
use Rattle.gorrindatz.proofs.gorrindatz_field.Reads as field
use Rattle.gorrindatz.proofs.gorrindatz_event_name.Reads as event_name
use Rattle.gorrindatz.proofs.gorrindatz_pattern_name.Reads as pattern-name
use Rattle.gorrindatz.proofs.gorrindatz_row_at.Reads as row_at
use Rattle.gorrindatz.proofs.gorrindatz_translate.Reads as translate
use Rattle.gorrindatz.proofs.gorrindatz_check.Reads as check
use Rattle.gorrindatz.proofs.gorrindatz_start.Reads as start
use Rattle.gorrindatz.proofs.gorrindatz_event.Reads as event
use Rattle.gorrindatz.proofs.gorrindatz_lookup.Reads as lookup
use Rattle.gorrindatz.proofs.gorrindatz_row.Reads as row
use Rattle.gorrindatz.proofs.gorrindatz_run.Reads as run
use Rattle.gorrindatz.proofs.gorrindatz_print.Reads as print
use Rattle.single.specs.Calls.{Lent, MutLent, DeclarationsPromise, HeaderPromise, FieldPlacePromise, EventPlacePromise, PatternPlacePromise, PlaceAtPromise, TranslatePromise, CheckPromise, StartPromise, EventPromise, LookupPromise, RowPromise, RunPromise, PrintPromise}

-- Texts ----------------------------------------------------------------------------------------------------------------

pub declarations_same : (κs : Lfts 1) (text : Lent) (r : Declared)
    → declarations.Learnt κs (text, tt) r (text, tt) ≡ DeclarationsPromise κs text r
declarations_same κs text r = refl

pub header_same : (κs : Lfts 2) (text bytes : Lent) (r : ℕ)
    → header.Learnt κs (text, (bytes, tt)) r (text, (bytes, tt)) ≡ HeaderPromise κs text bytes r
header_same κs text bytes r = refl

pub field_same : (κs : Lfts 1) (bytes : Lent) (number : ℕ) (r : Part)
    → field.Learnt κs (bytes, (number, tt)) r (bytes, (number, tt)) ≡ FieldPlacePromise κs bytes number r
field_same κs bytes number r = refl

pub event_name_same : (κs : Lfts 1) (text : Lent) (number : ℕ) (r : Part)
    → event_name.Learnt κs (text, (number, tt)) r (text, (number, tt)) ≡ EventPlacePromise κs text number r
event_name_same κs text number r = refl

pub pattern_name_same : (κs : Lfts 1) (text : Lent) (at : ℕ) (r : Part)
    → pattern-name.Learnt κs (text, (at, tt)) r (text, (at, tt)) ≡ PatternPlacePromise κs text at r
pattern_name_same κs text at r = refl

pub row_at_same : (κs : Lfts 1) (log : Lent) (at : ℕ) (r : Place)
    → row_at.Learnt κs (log, (at, tt)) r (log, (at, tt)) ≡ PlaceAtPromise κs log at r
row_at_same κs log at r = refl

-- Properties -----------------------------------------------------------------------------------------------------------

pub translate_same : (κs : Lfts 2) (text pattern : Lent) (r : Translated)
    → translate.Learnt κs (text, (pattern, tt)) r (text, (pattern, tt)) ≡ TranslatePromise κs text pattern r
translate_same κs text pattern r = refl

pub check_same : (κs : Lfts 0) (p : Property) (r : Checked) → check.Learnt κs (p, tt) r (p, tt) ≡ CheckPromise κs p r
check_same κs p r = refl

-- Sessions -------------------------------------------------------------------------------------------------------------

module _ (p : Property) (seen kept : MutLent) where
  pub start_same : (κs : Lfts 2) (r : Answered) (seen' kept' : List ℕ)
      → start.Learnt κs (p, (seen, (kept, tt))) r (p, (last seen seen', (last kept kept', tt))) ≡ StartPromise κs p seen kept r seen' kept'
  start_same κs r seen' kept' = refl

module _ (p : Property) (seen : MutLent) (n : ℕ) (kept : MutLent) (m : ℕ) where
  pub event_same : (κs : Lfts 4) (κs' : Lfts 3) (reports : MutLent) (e : ℕ) (values : Lent) (r : Answered) (seen' kept' reports' : List ℕ)
      → event.Learnt κs (p, (seen, (n, (kept, (m, (reports, (e, (values, tt)))))))) r
      (p, (last seen seen', (n, (last kept kept', (m, (last reports reports', (e, (values, tt))))))))
      ≡ EventPromise κs' p seen n kept m reports e values.now r seen' kept' reports'
  event_same κs κs' reports e values r seen' kept' reports' = refl

module _ (p : Property) (seen : Lent) (n : ℕ) (kept : Lent) (m : ℕ) where
  pub lookup_same : (κs : Lfts 3) (κs' : Lfts 2) (c : Lent) (r : Looked)
      → lookup.Learnt κs (p, (seen, (n, (kept, (m, (c, tt)))))) r (p, (seen, (n, (kept, (m, (c, tt))))))
      ≡ LookupPromise κs' p seen n kept m c.now r
  lookup_same κs κs' c r = refl

-- Logs -----------------------------------------------------------------------------------------------------------------

module _ (declarations : Lent) (p : Property) (seen : MutLent) (n : ℕ) (kept : MutLent) (m : ℕ) (reports : MutLent) where
  pub row_same : (κs : Lfts 5) (bytes : Lent) (r : Answered) (seen' kept' reports' : List ℕ)
      → row.Learnt κs (declarations, (p, (seen, (n, (kept, (m, (reports, (bytes, tt)))))))) r
      (declarations, (p, (last seen seen', (n, (last kept kept', (m, (last reports reports', (bytes, tt))))))))
      ≡ RowPromise κs declarations p seen n kept m reports bytes r seen' kept' reports'
  row_same κs bytes r seen' kept' reports' = refl

  pub run_same : (κs : Lfts 5) (log : Lent) (at budget : ℕ) (r : Ran) (seen' kept' reports' : List ℕ)
      → run.Learnt κs (declarations, (p, (seen, (n, (kept, (m, (reports, (log, (at, (budget, tt)))))))))) r
      (declarations, (p, (last seen seen', (n, (last kept kept', (m, (last reports reports', (log, (at, (budget, tt))))))))))
      ≡ RunPromise κs declarations p seen n kept m reports log at budget r seen' kept' reports'
  run_same κs log at budget r seen' kept' reports' = refl

  pub print_same : (κs : Lfts 6) (log : Lent) (at number : ℕ) (text : MutLent) (r : Printed) (seen' kept' reports' text' : List ℕ)
      → print.Learnt κs (declarations, (p, (seen, (n, (kept, (m, (reports, (log, (at, (number, (text, tt))))))))))) r
      (declarations, (p, (last seen seen', (n, (last kept kept', (m, (last reports reports', (log, (at, (number, (last text text', tt)))))))))))
      ≡ PrintPromise κs declarations p seen n kept m reports log at number text r seen' kept' reports' text'
  print_same κs log at number text r seen' kept' reports' text' = refl
