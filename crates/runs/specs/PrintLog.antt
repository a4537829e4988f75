-- The whole log, printed part by part, prints what the program prints: the lines of the rows after its header.
-- Assumes nothing.
use Rattle.std.specs.Prelude.{ℕ, zero, suc, ◌≤◌, ◌≡◌, refl, List, [], ◌∷◌, ◌++◌, length, drop}
use Rattle.std.proofs.Common.{sym, ap, ◌∙◌, inl, inr, append-nil, arith, length-append}
use Rattle.document.specs.Declarations.{Declared}
use Rattle.document.specs.Property.{Property}
use Rattle.document.specs.Rows.{after_row, rows_within, rows}
use Rattle.document.specs.Session.{Session}
use Rattle.document.specs.Log.{next_at}
use Rattle.document.specs.Printing.{row_lines}
use Rattle.rows.specs.TextLaws.{after_within, drop-next, rows_over}
use Rattle.rows.specs.RunsOfRows.{passes_cut}
use Rattle.runs.specs.PrintPart.{print_from}
use Rattle.runs.specs.PrintLaws.{prints}

-- no text has more rows than bytes
rows_within_few : (n : ℕ) (t : List ℕ) → length (rows_within n t) ≤ n
unfolding rows_within
rows_within_few zero t = omega arith
rows_within_few (suc n) [] = omega arith
rows_within_few (suc n) (b ∷ t) = let k = rows_within_few n (after_row (b ∷ t)) in omega arith

pub rows_few : (t : List ℕ) → length (rows t) ≤ length t
unfolding rows
rows_few t = rows_within_few (length t) t

empty_of_lem : (l : List (List ℕ)) → length l ≤ 0 → l ≡ []
empty_of_lem [] h = refl
empty_of_lem (x ∷ l) h = absurd (omega arith)

-- where there are no more rows than may be printed, all are
pub print_rest : (d : Declared) (p : Property) (log : List ℕ) (budget at n : ℕ) (s : Session) (reports : List ℕ)
    → length (rows (drop at log)) ≤ budget
    → (print_from budget d p log at n s reports).lines ≡ row_lines d p n s reports (rows (drop at log))
print_rest d p log budget at n s reports h =
    let r = print_from budget d p log at n s reports in
    let x = prints d p log budget at n s reports in
    let cut : rows (drop at log) ≡ x.covered ++ rows (drop r.next log) = passes_cut x.passes in
    let none : rows (drop r.next log) ≡ [] = elim x.stops [
      | inl q ↦ empty_of_lem (rows (drop r.next log)) (let k = simp length-append at (ap length cut) in omega arith)
      | inr q ↦ rows_over log r.next q
    ] in
    x.lines ∙ ap (row_lines d p n s reports) (sym (append-nil x.covered) ∙ ap (λ l. x.covered ++ l) (sym none) ∙ sym cut)

-- the rows after the header, from row 1 on, with as many rows as the log has bytes
pub print_log : (d : Declared) (p : Property) (log : List ℕ) (budget : ℕ) (s : Session) (reports : List ℕ) → length log ≤ budget
    → (print_from budget d p log (next_at log 0) 1 s reports).lines ≡ row_lines d p 1 s reports (rows (after_row log))
print_log d p log budget s reports h =
    let e : drop (next_at log 0) log ≡ after_row log = drop-next log 0 (omega arith) in
    let k : length (rows (drop (next_at log 0) log)) ≤ budget =
    rw e (let i = rows_few (after_row log) in let j = after_within log in omega arith) in
    print_rest d p log budget (next_at log 0) 1 s reports k ∙ rw e
