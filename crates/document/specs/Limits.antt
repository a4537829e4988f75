-- Document 01: every number that it sets as a limit, a width or a room, each once.
-- Document 02 changes some of them; nothing else in the definitions says them again.
-- Assumes nothing.
use Rattle.std.specs.Prelude.{ℕ, ◌+◌}

-- "Words": parameters 0 to 4, so a combination is four numbers; the largest value
abbrev pub width : ℕ
width = 4

abbrev pub largest_value : ℕ
largest_value = 4294967295

-- "The declarations": bytes of declarations and of a pattern (refusal 1), bytes of a name, events
abbrev pub text_bytes : ℕ
text_bytes = 4096

abbrev pub name_bytes : ℕ
name_bytes = 32

abbrev pub most_events : ℕ
most_events = 16

-- "The table": event names in a pattern (refusal 8), open parentheses (9), states (10)
abbrev pub most_names : ℕ
most_names = 31

abbrev pub most_open : ℕ
most_open = 16

abbrev pub most_states : ℕ
most_states = 64

-- "One event": rows of the seen and of the kept table at most, and the numbers in a row of each.
-- A kept row is a combination and its state; a report is a combination and its verdict.
abbrev pub most_seen : ℕ
most_seen = 1024

abbrev pub most_kept : ℕ
most_kept = 3000

abbrev pub seen_stride : ℕ
seen_stride = width

abbrev pub kept_stride : ℕ
kept_stride = width + 1

abbrev pub report_stride : ℕ
report_stride = width + 1

-- "Log rows and the run": bytes of a row, its line end not counted
abbrev pub row_bytes : ℕ
row_bytes = 128

-- "The program": reports that it has room for at each row
abbrev pub program_reports : ℕ
program_reports = 3000
