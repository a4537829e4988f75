-- Printing rows, turn by turn: the log's end, no room left, a row; and that what is printed are the rows that `print_from`
-- prints, so that calls one after another print what one prints (`print_append`, `print_log` of runs).
-- Assumes nothing.
use Prim.Native.Nat.{ℕ, zero, suc, ◌+◌, ◌≤◌, ◌<◌}
use Rattle.std.specs.Prelude.{◌≡◌, true, false, List, [], ◌++◌, length, drop, leb}
use Rattle.std.proofs.Math.Path.{refl}
use Rattle.std.proofs.Common.{sym, ap, ◌∙◌, inl, inr, append-nil, le-leb, leb-true, leb-false}
use Rattle.std.proofs.lemmas.Bool.{lt-leb}
use Rattle.document.specs.Declarations.{Declared}
use Rattle.document.specs.Property.{Property}
use Rattle.document.specs.Rows.{rows}
use Rattle.document.specs.Session.{Session, leaves}
use Rattle.document.specs.Log.{row_event, step_row, row_at, next_at}
use Rattle.document.specs.Printing.{row_lines}
use Rattle.basics.specs.Tests.{decided}
use Rattle.rows.specs.TextLaws.{rows_over}
use Rattle.rows.specs.RunsOfRows.{passes_cut}
use Rattle.runs.specs.PrintPart.{row_text, PrintedTo, nothing_printed, lines_first, print_from}
use Rattle.runs.specs.PrintLaws.{print_row, print_append, prints}
use Rattle.rowlines.specs.RowLines.{fits_row}
use Rattle.printing.specs.Printing.{print_rows}

-- no row left, or none whose lines are sure to fit
module _ (d : Declared) (p : Property) (log : List ℕ) (turns at n : ℕ) (s : Session) (reports : List ℕ) (room filled : ℕ) where
  pub rows_ended : length log ≤ at → print_rows turns d p log at n s reports room filled ≡ nothing_printed at n s reports
  unfolding print_rows
  rows_ended h = go turns
    where
      go : (k : ℕ) → print_rows k d p log at n s reports room filled ≡ nothing_printed at n s reports
      go zero = refl
      go (suc k) = rw (le-leb (length log) at h, print_rows)

  pub rows_full : at < length log → fits_row room filled s.kept_count n ≡ false
      → print_rows turns d p log at n s reports room filled ≡ nothing_printed at n s reports
  unfolding print_rows
  rows_full h f = go turns
    where
      go : (k : ℕ) → print_rows k d p log at n s reports room filled ≡ nothing_printed at n s reports
      go zero = refl
      go (suc k) = rw (lt-leb (length log) at h, f, print_rows)

  -- a row, and those after it
  pub rows_row : at < length log → fits_row room filled s.kept_count n ≡ true
      → let a = step_row 0 d p s reports (row_at log at) in let h = leaves s reports a in
      print_rows (suc turns) d p log at n s reports room filled
      ≡ lines_first (row_text p n a)
      (print_rows turns d p log (next_at log at) (n + 1) h.session h.reports room (filled + length (row_text p n a)))
  unfolding print_rows
  rows_row h f = rw (lt-leb (length log) at h, f, print_rows)

-- What is printed --------------------------------------------------------------------------------------------------------

-- so many rows, as a part of a log is printed
pub record Part (d : Declared) (p : Property) (log : List ℕ) (at n : ℕ) (s : Session) (reports : List ℕ) (x : PrintedTo) : Type 0 where
  pub rows : ℕ
  pub is : x ≡ print_from rows d p log at n s reports

pub prints_part : (turns : ℕ) (d : Declared) (p : Property) (log : List ℕ) (at n : ℕ) (s : Session) (reports : List ℕ) (room filled : ℕ)
    → Part d p log at n s reports (print_rows turns d p log at n s reports room filled)
unfolding print_rows print_from
prints_part zero d p log at n s reports room filled = record { rows = 0; is = refl }
prints_part (suc turns) d p log at n s reports room filled = elim (decided (leb (length log) at)) [
  | inl e ↦ record { rows = 0; is = rows_ended d p log (suc turns) at n s reports room filled (leb-true (length log) at e) }
  | inr e ↦
      let l = leb-false (length log) at e in
      elim (decided (fits_row room filled s.kept_count n)) [
        | inr f ↦ record { rows = 0; is = rows_full d p log (suc turns) at n s reports room filled l f }
        | inl f ↦
            let a = step_row 0 d p s reports (row_at log at) in
            let h = leaves s reports a in
            let more = prints_part turns d p log (next_at log at) (n + 1) h.session h.reports room (filled + length (row_text p n a)) in
            record {
              rows = suc more.rows;
              is =
                  rows_row d p log turns at n s reports room filled l f
                  ∙ ap (lines_first (row_text p n a)) more.is
                  ∙ sym (print_row d p log more.rows at n s reports l);
            }
      ]
]

-- calls one after another, each from where the one before it came to, print as one
pub parts_join : (d : Declared) (p : Property) (log : List ℕ) (at n : ℕ) (s : Session) (reports : List ℕ) (x y : PrintedTo)
    → Part d p log at n s reports x → Part d p log x.next x.number x.session x.reports y
    → Part d p log at n s reports (lines_first x.lines y)
parts_join d p log at n s reports x y a b =
    let e = a.is in
    record {
      rows = a.rows + b.rows;
      is =
          ap (lines_first x.lines) b.is
          ∙ (λ i. lines_first (e i).lines (print_from b.rows d p log (e i).next (e i).number (e i).session (e i).reports))
          ∙ sym (print_append d p log a.rows b.rows at n s reports);
    }

-- and once the log's end is reached, they have printed the lines of all its rows
pub part-whole : (d : Declared) (p : Property) (log : List ℕ) (at n : ℕ) (s : Session) (reports : List ℕ) (x : PrintedTo)
    → Part d p log at n s reports x → length log ≤ x.next → x.lines ≡ row_lines d p n s reports (rows (drop at log))
part-whole d p log at n s reports x a h =
    let r = print_from a.rows d p log at n s reports in
    let v = prints d p log a.rows at n s reports in
    let e = a.is in
    let l : length log ≤ r.next = rw e at h in
    let none : rows (drop r.next log) ≡ [] = rows_over log r.next l in
    let cut : rows (drop at log) ≡ v.covered ++ rows (drop r.next log) = passes_cut v.passes in
    ap (λ (y : PrintedTo). y.lines) e ∙ v.lines
    ∙ ap (row_lines d p n s reports) (sym (append-nil v.covered) ∙ ap (λ l. v.covered ++ l) (sym none) ∙ sym cut)

-- Declarations that say the same of each row -----------------------------------------------------------------------------

step_alike : (d e : Declared) → ((bytes : List ℕ) → row_event d bytes ≡ row_event e bytes)
    → (from : ℕ) (p : Property) (s : Session) (reports bytes : List ℕ) → step_row from d p s reports bytes ≡ step_row from e p s reports bytes
unfolding step_row
step_alike d e same from p s reports bytes = rw (same bytes)

pub rows_alike : (d e : Declared) → ((bytes : List ℕ) → row_event d bytes ≡ row_event e bytes)
    → (turns : ℕ) (p : Property) (log : List ℕ) (at n : ℕ) (s : Session) (reports : List ℕ) (room filled : ℕ)
    → print_rows turns d p log at n s reports room filled ≡ print_rows turns e p log at n s reports room filled
unfolding print_rows
rows_alike d e same zero p log at n s reports room filled = refl
rows_alike d e same (suc turns) p log at n s reports room filled = elim (decided (leb (length log) at)) [
  | inl b ↦
      let l = leb-true (length log) at b in
      rows_ended d p log (suc turns) at n s reports room filled l ∙ sym (rows_ended e p log (suc turns) at n s reports room filled l)
  | inr b ↦
      let l = leb-false (length log) at b in
      elim (decided (fits_row room filled s.kept_count n)) [
        | inr f ↦ rows_full d p log (suc turns) at n s reports room filled l f ∙ sym (rows_full e p log (suc turns) at n s reports room filled l f)
        | inl f ↦
            let q = step_alike d e same 0 p s reports (row_at log at) in
            let a = step_row 0 e p s reports (row_at log at) in
            let h = leaves s reports a in
            rows_row d p log turns at n s reports room filled l f
            ∙ (λ i. lines_first (row_text p n (q i))
            (print_rows turns d p log (next_at log at) (n + 1) (leaves s reports (q i)).session (leaves s reports (q i)).reports room (filled + length (row_text p n (q i)))))
            ∙ ap (lines_first (row_text p n a)) (rows_alike d e same turns p log (next_at log at) (n + 1) h.session h.reports room (filled + length (row_text p n a)))
            ∙ sym (rows_row e p log turns at n s reports room filled l f)
      ]
]
