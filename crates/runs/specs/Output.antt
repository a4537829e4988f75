-- What the program prints for its three files, with the log printed part by part: the heading, and then the lines of the rows
-- after the log's header.
-- Assumes nothing.
use Rattle.std.specs.Prelude.{ℕ, ◌≤◌, ◌≡◌, List, ◌∷◌, ◌++◌, length}
use Rattle.std.proofs.Common.{sym, ap, ◌∙◌}
use Rattle.document.specs.Refusals.{taken}
use Rattle.document.specs.Declarations.{Declared, declarations, header}
use Rattle.document.specs.Property.{Property}
use Rattle.document.specs.Translate.{translate}
use Rattle.document.specs.Rows.{first_row, after_row, rows}
use Rattle.document.specs.Session.{Session}
use Rattle.document.specs.Log.{next_at}
use Rattle.document.specs.Printing.{row_word, verdict_word, line, row_lines, printed, program_session, output}
use Rattle.runs.specs.PrintPart.{program_numbers, print_from}
use Rattle.runs.specs.PrintLog.{print_log}

abbrev pub heading : Declared → List ℕ
heading d = line row_word (verdict_word ∷ d.parameters)

module _ (events pattern log : List ℕ) (p : Property) (d : Declared) (s : Session) where
  pub output_taken : translate events pattern ≡ taken p → declarations events ≡ taken d → header events (first_row log) ≡ taken tt
      → program_session p ≡ taken s
      → output events pattern log ≡ heading d ++ row_lines d p 1 s program_numbers (rows (after_row log))
  unfolding output printed program_numbers
  output_taken a b c e = rw (a, b, c, e)

  pub output_prints : (budget : ℕ) → translate events pattern ≡ taken p → declarations events ≡ taken d
      → header events (first_row log) ≡ taken tt → program_session p ≡ taken s → length log ≤ budget
      → output events pattern log ≡ heading d ++ (print_from budget d p log (next_at log 0) 1 s program_numbers).lines
  output_prints budget a b c e h =
      output_taken a b c e ∙ ap (λ l. heading d ++ l) (sym (print_log d p log budget s program_numbers h))
