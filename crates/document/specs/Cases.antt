-- Document 01, "Cases marked P are proved": P1 to P10 as one list under one statement, about the definitions, from the bytes
-- of the texts on. `worked_cases`, at the end, proves it by computing; P10 speaks of all words and is proved by induction.
-- Assumes nothing.
use Rattle.std.specs.Prelude.{ℕ, ◌-◌, ◌≡◌, refl, ◌↔◌, true, false, List, [], ◌∷◌, ◌++◌, take}
use Rattle.document.specs.Bytes.{bytes}
use Rattle.document.specs.Lists.{keep_if, every, some, every_below, some_below, tabulate, equal, among, place_of, repeated, starts_with, take_while, joined_up}
use Rattle.document.specs.Limits.{width, report_stride}
use Rattle.document.specs.Classes.{class_of}
use Rattle.document.specs.Refusals.{taken}
use Rattle.document.specs.Rows.{ends_row, first_row, after_row, rows_within, rows, stray, parts_from, parts, part_of, fields, decimal_from, value_of}
use Rattle.document.specs.Declarations.{is_name, is_mark, set_from, header_row, event_row, event_rows, no_events, declarations, header, name_run}
use Rattle.document.specs.Patterns.{name, star, Word, Many, none, more, match, fail}
use Rattle.document.specs.Tokens.{ask_token, token_at, lexemes_from, lexemes, offset_of}
use Rattle.document.specs.Reading.{marked, marked_reading, closed, read_name, more_alternatives, more_repetitions, atom_of, read_atom_in, read_alternative, read_whole, second_ask, read_asks, parse}
use Rattle.document.specs.Positions.{nullable, firsts, lasts, follows, named, nexts, move, verdict_of}
use Rattle.document.specs.States.{state_of, find, find_all, row_of, go_through, states_of}
use Rattle.document.specs.Property.{Property, set_of, next_state, state_from, state_after, verdict, in_range, asks_for, is_asked, leads_in, leads_after, leads, hopeful}
use Rattle.document.specs.Translate.{property_of, translate}
use Rattle.document.specs.Combinations.{empty_of, includes, compatible, join, precedes, binds_from, binds_exactly, zero_past}
use Rattle.document.specs.OneEvent.{Kept, join_seen, insert_kept, in_order, insert_seen, see, moves, moved_from, moved, kept_after, reports_after}
use Rattle.document.specs.Tables.{numbers_at, seen_room, kept_room, report_room, seen_rows, kept_rows, kept_numbers, filled, seen_table, kept_table}
use Rattle.document.specs.Session.{seen_of, kept_of, session_with, ascending, zero_between, kept_combinations, rightly_kept, sound, first_kept, lent_tables, start, report_numbers, keeps, reported, outcome, written, within_rooms, step_from}
use Rattle.document.specs.Log.{is_bad_value, values_of, row_event, step_row, agrees, judged, row_at, next_at, ran_to, run_from, run}
use Rattle.document.specs.Printing.{digits, decimal, word_of, refused_text, with_commas, value_text, line, report_line, report_lines, refused_line, row_lines, printed, program_session, output}
use Rattle.document.specs.Example.{events_file, pattern_file, log_file, output_file, one_event_file, table_of, after_rows}
use Rattle.document.specs.PatternsLaws.{many_append, many-one}

-- the states that mix, feed and drain lead to
unfoldable pub row : Property → ℕ → List ℕ
row p s = next_state p s 0 ∷ next_state p s 1 ∷ next_state p s 2 ∷ []

-- a seen row by its bay and batch, unbound past them; a kept row by its bay, batch and state
abbrev pub seen_row : ℕ → ℕ → List ℕ
seen_row bay batch = bay ∷ batch ∷ empty_of (width - 2)

abbrev pub kept_row : ℕ → ℕ → ℕ → Kept
kept_row bay batch state = record { combination = seen_row bay batch; state = state }

pub record WorkedCases : Type 0 where
  pub translates : translate events_file pattern_file ≡ taken (table_of events_file pattern_file)
  -- P1 to P5: "the table has 5 states; from 0 by mix, feed, drain: 1, 2, 2; from 1: 2, 3, 2; from 3: 2, 3, 4; 4 is match, 2 is
  -- fail; 0, 1 and 3 are hopeful", and no other state is
  pub p1 : (table_of events_file pattern_file).states ≡ 5
  pub p2 : row (table_of events_file pattern_file) 0 ≡ 1 ∷ 2 ∷ 2 ∷ []
  pub p3 : row (table_of events_file pattern_file) 1 ≡ 2 ∷ 3 ∷ 2 ∷ []
  pub p4 : row (table_of events_file pattern_file) 3 ≡ 2 ∷ 3 ∷ 4 ∷ []
  pub p5_verdicts : tabulate 5 (verdict (table_of events_file pattern_file)) ≡ 0 ∷ 0 ∷ fail ∷ 0 ∷ match ∷ []
  pub p5_hopeful : tabulate 5 (hopeful (table_of events_file pattern_file)) ≡ true ∷ true ∷ false ∷ true ∷ false ∷ []
  -- P6: "row 4 reports nothing and keeps nothing new"; `after_rows n` is the run over the first n rows, with the reports so far
  pub p6_reports : (after_rows 4).happened.reported ≡ 0
  pub p6_kept_before : kept_of (after_rows 3).happened.session ≡ kept_row 0 0 0 ∷ kept_row 0 7 1 ∷ kept_row 1 7 3 ∷ []
  pub p6_kept_after : kept_of (after_rows 4).happened.session ≡ kept_row 0 0 0 ∷ kept_row 0 7 1 ∷ kept_row 1 7 3 ∷ []
  -- P7: row 5 reports bay 1, batch 7, match
  pub p7_count : (after_rows 5).happened.reported ≡ 1
  pub p7_report : take report_stride (after_rows 5).happened.reports ≡ seen_row 1 7 ++ (match ∷ [])
  -- P8: "row 6 reports nothing"
  pub p8 : (after_rows 6).happened.reported ≡ 1
  -- "Afterwards seen holds .. ; kept holds .."; all six rows are taken
  pub rows_taken : (after_rows 4).taken ∷ (after_rows 5).taken ∷ (after_rows 6).taken ∷ [] ≡ 4 ∷ 5 ∷ 6 ∷ []
  pub seen_afterwards : seen_of (after_rows 6).happened.session ≡ seen_row 0 7 ∷ seen_row 1 0 ∷ seen_row 1 7 ∷ seen_row 2 0 ∷ seen_row 2 7 ∷ []
  pub kept_afterwards : kept_of (after_rows 6).happened.session ≡ kept_row 0 0 0 ∷ kept_row 0 7 1 ∷ []
  -- the whole output
  pub prints : output events_file pattern_file log_file ≡ output_file
  -- P9: "`epsilon`: the empty sequence matches, one event fails"
  pub p9_empty : verdict (table_of one_event_file (bytes "ere : epsilon @match")) (state_after (table_of one_event_file (bytes "ere : epsilon @match")) []) ≡ match
  pub p9_event : verdict (table_of one_event_file (bytes "ere : epsilon @match")) (state_after (table_of one_event_file (bytes "ere : epsilon @match")) (0 ∷ [])) ≡ fail
  -- P10: "`a**` has the words of `a*`"
  pub p10_once : parse (bytes "a" ∷ []) (bytes "ere : a* @match") ≡ taken (record { pattern = star (name 1 0); asked = 1 })
  pub p10_twice : parse (bytes "a" ∷ []) (bytes "ere : a** @match") ≡ taken (record { pattern = star (star (name 1 0)); asked = 1 })
  pub p10_words : (w : List ℕ) → Word (star (star (name 1 0))) w ↔ Word (star (name 1 0)) w

-- a word of (a*)* is a word of a*
many_flat : (P : List ℕ → Type 0) (w : List ℕ) → Many (Many P) w → Many P w
many_flat P w none = none
many_flat P w (more {u = a} {v = b} x m) = many_append P a b x (many_flat P b m)

-- the definitions that the cases compute through, named once
computing : Unit {0}
unfolding keep_if every some every_below some_below tabulate equal among place_of repeated starts_with take_while joined_up class_of ends_row first_row after_row rows_within rows stray parts_from parts part_of fields decimal_from value_of is_name is_mark set_from header_row event_row event_rows no_events declarations header name_run ask_token token_at lexemes_from lexemes offset_of marked marked_reading closed read_name more_alternatives more_repetitions atom_of read_atom_in read_alternative read_whole second_ask read_asks parse nullable firsts lasts follows named nexts move verdict_of state_of find find_all row_of go_through states_of set_of next_state state_from state_after verdict in_range asks_for is_asked leads_in leads_after leads hopeful property_of translate includes compatible join precedes binds_from binds_exactly zero_past join_seen insert_kept in_order insert_seen see moves moved_from moved kept_after reports_after numbers_at seen_room kept_room report_room seen_rows kept_rows kept_numbers filled seen_table kept_table seen_of kept_of session_with ascending zero_between kept_combinations rightly_kept sound first_kept lent_tables start report_numbers keeps reported outcome written within_rooms step_from is_bad_value values_of row_event step_row agrees judged row_at next_at ran_to run_from run digits decimal word_of refused_text with_commas value_text line report_line report_lines refused_line row_lines printed program_session output table_of after_rows
computing = tt

pub worked_cases : WorkedCases
unfolding computing row
worked_cases = record {
  translates = refl;
  p1 = refl;
  p2 = refl;
  p3 = refl;
  p4 = refl;
  p5_verdicts = refl;
  p5_hopeful = refl;
  p6_reports = refl;
  p6_kept_before = refl;
  p6_kept_after = refl;
  p7_count = refl;
  p7_report = refl;
  p8 = refl;
  rows_taken = refl;
  seen_afterwards = refl;
  kept_afterwards = refl;
  prints = refl;
  p9_empty = refl;
  p9_event = refl;
  p10_once = refl;
  p10_twice = refl;
  p10_words = λ w. (many_flat (Word (name 1 0)) w, many-one (Many (Word (name 1 0))) w);
}
