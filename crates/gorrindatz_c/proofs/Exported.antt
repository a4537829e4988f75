-- What a host in C is asked and learns of each call that is exported here is what a caller of the same call of crates/gorrindatz is
-- asked and learns, whatever it lends: the promises of crates/single, Exported.antt, are theirs too, and so are the single answers.
-- Assumes nothing.
use Rattle.std.specs.Prelude.{◌≡◌, refl}
use Rattle.gorrindatz.proofs.gorrindatz_class_of.Reads as class_of
use Rattle.gorrindatz.proofs.gorrindatz_declarations.Reads as declarations
use Rattle.gorrindatz.proofs.gorrindatz_header.Reads as header
use Rattle.gorrindatz.proofs.gorrindatz_field.Reads as field
use Rattle.gorrindatz.proofs.gorrindatz_event_name.Reads as event_name
use Rattle.gorrindatz.proofs.gorrindatz_pattern_name.Reads as pattern_name
use Rattle.gorrindatz.proofs.gorrindatz_row_at.Reads as row_at
use Rattle.gorrindatz.proofs.gorrindatz_translate.Reads as translate
use Rattle.gorrindatz.proofs.gorrindatz_check.Reads as check
use Rattle.gorrindatz.proofs.gorrindatz_start.Reads as start
use Rattle.gorrindatz.proofs.gorrindatz_event.Reads as event
use Rattle.gorrindatz.proofs.gorrindatz_lookup.Reads as lookup
use Rattle.gorrindatz.proofs.gorrindatz_row.Reads as row
use Rattle.gorrindatz.proofs.gorrindatz_run.Reads as run
use Rattle.gorrindatz.proofs.gorrindatz_print.Reads as print
use Rattle.gorrindatz_c.proofs.gorrindatz_class_of.Reads as c_class_of
use Rattle.gorrindatz_c.proofs.gorrindatz_declarations.Reads as c_declarations
use Rattle.gorrindatz_c.proofs.gorrindatz_header.Reads as c_header
use Rattle.gorrindatz_c.proofs.gorrindatz_field.Reads as c_field
use Rattle.gorrindatz_c.proofs.gorrindatz_event_name.Reads as c_event_name
use Rattle.gorrindatz_c.proofs.gorrindatz_pattern_name.Reads as c_pattern_name
use Rattle.gorrindatz_c.proofs.gorrindatz_row_at.Reads as c_row_at
use Rattle.gorrindatz_c.proofs.gorrindatz_translate.Reads as c_translate
use Rattle.gorrindatz_c.proofs.gorrindatz_check.Reads as c_check
use Rattle.gorrindatz_c.proofs.gorrindatz_start.Reads as c_start
use Rattle.gorrindatz_c.proofs.gorrindatz_event.Reads as c_event
use Rattle.gorrindatz_c.proofs.gorrindatz_lookup.Reads as c_lookup
use Rattle.gorrindatz_c.proofs.gorrindatz_row.Reads as c_row
use Rattle.gorrindatz_c.proofs.gorrindatz_run.Reads as c_run
use Rattle.gorrindatz_c.proofs.gorrindatz_print.Reads as c_print

pub class_of_asks : c_class_of.Asked ≡ class_of.Asked
class_of_asks = refl

pub class_of_same : c_class_of.Learnt ≡ class_of.Learnt
class_of_same = refl

pub declarations_asks : c_declarations.Asked ≡ declarations.Asked
declarations_asks = refl

pub declarations_same : c_declarations.Learnt ≡ declarations.Learnt
declarations_same = refl

pub header_asks : c_header.Asked ≡ header.Asked
header_asks = refl

pub header_same : c_header.Learnt ≡ header.Learnt
header_same = refl

pub field_asks : c_field.Asked ≡ field.Asked
field_asks = refl

pub field_same : c_field.Learnt ≡ field.Learnt
field_same = refl

pub event_name_asks : c_event_name.Asked ≡ event_name.Asked
event_name_asks = refl

pub event_name_same : c_event_name.Learnt ≡ event_name.Learnt
event_name_same = refl

pub pattern_name_asks : c_pattern_name.Asked ≡ pattern_name.Asked
pattern_name_asks = refl

pub pattern_name_same : c_pattern_name.Learnt ≡ pattern_name.Learnt
pattern_name_same = refl

pub row_at_asks : c_row_at.Asked ≡ row_at.Asked
row_at_asks = refl

pub row_at_same : c_row_at.Learnt ≡ row_at.Learnt
row_at_same = refl

pub translate_asks : c_translate.Asked ≡ translate.Asked
translate_asks = refl

pub translate_same : c_translate.Learnt ≡ translate.Learnt
translate_same = refl

pub check_asks : c_check.Asked ≡ check.Asked
check_asks = refl

pub check_same : c_check.Learnt ≡ check.Learnt
check_same = refl

pub start_asks : c_start.Asked ≡ start.Asked
start_asks = refl

pub start_same : c_start.Learnt ≡ start.Learnt
start_same = refl

pub event_asks : c_event.Asked ≡ event.Asked
event_asks = refl

pub event_same : c_event.Learnt ≡ event.Learnt
event_same = refl

pub lookup_asks : c_lookup.Asked ≡ lookup.Asked
lookup_asks = refl

pub lookup_same : c_lookup.Learnt ≡ lookup.Learnt
lookup_same = refl

pub row_asks : c_row.Asked ≡ row.Asked
row_asks = refl

pub row_same : c_row.Learnt ≡ row.Learnt
row_same = refl

pub run_asks : c_run.Asked ≡ run.Asked
run_asks = refl

pub run_same : c_run.Learnt ≡ run.Learnt
run_same = refl

pub print_asks : c_print.Asked ≡ print.Asked
print_asks = refl

pub print_same : c_print.Learnt ≡ print.Learnt
print_same = refl
