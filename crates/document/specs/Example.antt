-- Document 01, "The program and its example": the three files of the example, its table, and its session after each row.
-- Assumes nothing.
use Rattle.std.specs.Prelude.{ℕ, ◌*◌, List, [], replicate}
use Rattle.document.specs.Bytes.{bytes}
use Rattle.document.specs.Limits.{seen_stride, kept_stride, report_stride}
use Rattle.document.specs.Refusals.{taken_or}
use Rattle.document.specs.Property.{Property}
use Rattle.document.specs.Translate.{translate}
use Rattle.document.specs.Session.{lent_tables, start}
use Rattle.document.specs.Log.{Ran, next_at, run}

abbrev pub events_file : List ℕ
events_file = bytes "event,bay,batch\r\nmix,0,1\r\nfeed,1,1\r\ndrain,1,0\r\n"

abbrev pub pattern_file : List ℕ
pattern_file = bytes "ere : mix feed+ drain @match"

abbrev pub log_file : List ℕ
log_file = bytes "event,bay,batch\r\nmix,,7\r\nfeed,1,7\r\ndrain,2,\r\nfeed,2,7\r\ndrain,1,\r\ndrain,2,\r\n"

abbrev pub output_file : List ℕ
output_file = bytes "row,verdict,bay,batch\r\n5,match,1,7\r\n"

-- a text with the one event `a` declared, for the cases that need no more
abbrev pub one_event_file : List ℕ
one_event_file = bytes "event\r\na\r\n"

abbrev pub no_property : Property
no_property = record { parameters = 0; events = 0; states = 0; asked = 0; sets = []; next = []; verdicts = [] }

-- the table that the two texts give, and the session after some rows of the log, in rooms of eight rows each
unfoldable pub table_of : List ℕ → List ℕ → Property
table_of events pattern = taken_or no_property (translate events pattern)

unfoldable pub after_rows : ℕ → Ran
after_rows n =
    let p = table_of events_file pattern_file in
    let s = taken_or (lent_tables [] []) (start p (replicate (8 * seen_stride) 0) (replicate (8 * kept_stride) 0)) in
    run events_file p s (replicate (8 * report_stride) 0) log_file (next_at log_file 0) n
