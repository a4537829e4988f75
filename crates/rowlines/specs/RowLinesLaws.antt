-- Laws of the room, and the returns of the function that writes a row's lines.
-- Assumes nothing.
use Rattle.std.specs.Prelude.{ℕ, zero, suc, ◌+◌, ◌-◌, ◌*◌, ◌^◌, ◌≤◌, ◌<◌, ◌≡◌, refl, max, Bool, false, List, length, eqb, leb}
use Rattle.std.proofs.Common.{◌∙◌, inl, inr, arith, eq-eqb, ne_eqb, eqb-true, lt-ltb, le-ltb}
use Rattle.std.proofs.lemmas.Bool.{eqb-false}
use Rattle.document.specs.Printing.{report_lines}
use Rattle.basics.specs.Tests.{decided}
use Rattle.decimals.specs.Written.{Written}
use Rattle.lineparts.specs.Lines.{refused_number_line, most_line}
use Rattle.steps.specs.declared.Answered.{Answered}
use Rattle.rowlines.specs.RowLines.{most_lines, fits_row, answer_text}

-- Room -----------------------------------------------------------------------------------------------------------------

pub most_one : (kept : ℕ) → kept ≡ 0 → 1 ≡ most_lines kept
unfolding most_lines
most_one kept e = rw (eq-eqb kept 0 e)

pub most_kept_lem : (kept : ℕ) → (kept ≡ 0 → ⊥) → kept ≡ most_lines kept
unfolding most_lines
most_kept_lem kept e = rw (ne_eqb kept 0 e)

pub most_max : (kept : ℕ) → max kept 1 ≡ most_lines kept
most_max zero = most_one 0 refl
most_max (suc k) = omega arith ∙ most_kept_lem (suc k) (omega arith)

-- it is enough for a line, and for one of each kept row
pub lines_enough : (kept : ℕ) → (1 ≤ most_lines kept) × (kept ≤ most_lines kept)
unfolding most_lines
lines_enough kept = elim (decided (eqb kept 0)) [
  | inl e ↦ let z = eqb-true kept 0 e in rw e (omega arith, omega arith)
  | inr e ↦ let z = eqb-false kept 0 e in rw e (some z, omega arith)
]
  where
    some : (kept ≡ 0 → ⊥) → 1 ≤ kept
    some z = omega arith

pub fits_last : (room filled kept number : ℕ) → number ≡ 2 ^ 64 - 1 → false ≡ fits_row room filled kept number
unfolding fits_row
fits_last room filled kept number e = rw (le-ltb (number + 1) (2 ^ 64) (omega arith))

pub fits_room : (room filled kept number most : ℕ) (f : Bool) → number < 2 ^ 64 → (number ≡ 2 ^ 64 - 1 → ⊥) → most ≡ most_lines kept
    → f ≡ leb (filled + most * most_line) room → f ≡ fits_row room filled kept number
unfolding fits_row
fits_room room filled kept number most f h z e q = q ∙ rw (e, lt-ltb (number + 1) (2 ^ 64) (omega arith))

-- The lines of a row by its step's answer --------------------------------------------------------------------------------

pub written_tight : (at most k : ℕ) (x t t' : List ℕ) → Written at most x t t' k → Written at (length x) x t t' k
written_tight at most k x t t' w = record { text = w.text; ends = w.ends; fits = w.fits; few = omega arith }

pub text_refused : (at parameters n : ℕ) (reports : List ℕ) (a : Answered) (t t' : List ℕ) (k : ℕ) → (a.refusal ≡ 0 → ⊥)
    → Written at most_line (refused_number_line parameters n a.refusal) t t' k
    → Written at (length (answer_text parameters n reports a)) (answer_text parameters n reports a) t t' k
unfolding answer_text
text_refused at parameters n reports a t t' k z w = rw (ne_eqb a.refusal 0 z) (written_tight at most_line k _ t t' w)

pub text_reports : (at parameters n : ℕ) (reports : List ℕ) (a : Answered) (t t' : List ℕ) (k : ℕ) → a.refusal ≡ 0
    → Written at (a.reported * most_line) (report_lines parameters n a.reported reports) t t' k
    → Written at (length (answer_text parameters n reports a)) (answer_text parameters n reports a) t t' k
unfolding answer_text
text_reports at parameters n reports a t t' k z w = rw (eq-eqb a.refusal 0 z) (written_tight at (a.reported * most_line) k _ t t' w)
