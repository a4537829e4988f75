-- Printing composes: the lines of rows that follow others are printed after theirs, from what these left; parts of a log
-- printed one after another are the log printed at once.
-- Assumes nothing.
use Prim.Native.Nat.{ℕ, zero, suc, ◌+◌, ◌≤◌, ◌<◌}
use Rattle.std.specs.Prelude.{◌≡◌, ◌⊎◌, List, [], ◌∷◌, ◌++◌, length, leb}
use Rattle.std.proofs.Math.Path.{refl, sym, ap}
use Rattle.std.proofs.Common.{◌∙◌, append_assoc}
use Rattle.std.proofs.Math.Logic.{inl, inr}
use native.Mathlib.Omega.{arith}
use Rattle.std.proofs.Math.Nat.{zero-add}
use borrow.Author.Tests.{le-leb, lt-leb, leb-true, leb-false}
use Rattle.document.specs.Refusals.{Answer, taken, refused}
use Rattle.document.specs.Declarations.{Declared}
use Rattle.document.specs.Property.{Property}
use Rattle.document.specs.Session.{Session, Happened, leaves}
use Rattle.document.specs.Log.{step_row, row_at, next_at}
use Rattle.document.specs.Printing.{row_lines}
use Rattle.basics.specs.Tests.{decided}
use Rattle.rows.specs.RunsOfRows.{Passes, at_once, row_first}
use Rattle.runs.specs.PrintPart.{row_text, after_rows, PrintedTo, nothing_printed, lines_first, print_from}

-- Rows that follow others ----------------------------------------------------------------------------------------------

-- a row's lines come first, and the others are printed from what it leaves
pub lines_row : (d : Declared) (p : Property) (n : ℕ) (s : Session) (reports bytes : List ℕ) (more : List (List ℕ))
    → let a = step_row 0 d p s reports bytes in let h = leaves s reports a in
    row_lines d p n s reports (bytes ∷ more) ≡ row_text p n a ++ row_lines d p (n + 1) h.session h.reports more
unfolding row_lines leaves
lines_row d p n s reports bytes more = go (step_row 0 d p s reports bytes) refl
  where
    go : (a : Answer Happened) → step_row 0 d p s reports bytes ≡ a
        → let h = leaves s reports (step_row 0 d p s reports bytes) in
        row_lines d p n s reports (bytes ∷ more)
        ≡ row_text p n (step_row 0 d p s reports bytes) ++ row_lines d p (n + 1) h.session h.reports more
    go (taken h) e = rw (e, row_lines)
    go (refused r o) e = rw (e, row_lines)

pub lines_append : (d : Declared) (p : Property) (n : ℕ) (s : Session) (reports : List ℕ) (xs ys : List (List ℕ))
    → let x = after_rows d p s reports xs in
    row_lines d p n s reports (xs ++ ys) ≡ row_lines d p n s reports xs ++ row_lines d p (n + length xs) x.session x.reports ys
unfolding after_rows row_lines
lines_append d p n s reports [] ys = let z : n + 0 ≡ n = omega arith in rw z
lines_append d p n s reports (bytes ∷ xs) ys =
    let a = step_row 0 d p s reports bytes in
    let h = leaves s reports a in
    let x = after_rows d p h.session h.reports xs in
    let z : n + 1 + length xs ≡ n + suc (length xs) = omega arith in
    lines_row d p n s reports bytes (xs ++ ys)
    ∙ ap (λ l. row_text p n a ++ l) (lines_append d p (n + 1) h.session h.reports xs ys)
    ∙ sym (append_assoc (row_text p n a) (row_lines d p (n + 1) h.session h.reports xs)
    (row_lines d p (n + 1 + length xs) x.session x.reports ys))
    ∙ rw (lines_row d p n s reports bytes xs, z)

-- lines in front of others are their lines in front
lines_twice : (a b : List ℕ) (r : PrintedTo) → lines_first a (lines_first b r) ≡ lines_first (a ++ b) r
lines_twice a b r =
    λ i. record {
      lines = sym (append_assoc a b r.lines) i;
      next = r.next;
      number = r.number;
      session = r.session;
      reports = r.reports;
    }

-- Printing a part, turn by turn: no rows left to print, the log's end, a row ----------------------------------------------

module _ (d : Declared) (p : Property) (log : List ℕ) where
  pub print_ended : (budget at n : ℕ) (s : Session) (reports : List ℕ) → length log ≤ at
      → print_from budget d p log at n s reports ≡ nothing_printed at n s reports
  unfolding print_from
  print_ended zero at n s reports h = refl
  print_ended (suc budget) at n s reports h = rw (le-leb (length log) at h, print_from)

  pub print_row : (budget at n : ℕ) (s : Session) (reports : List ℕ) → at < length log
      → let a = step_row 0 d p s reports (row_at log at) in let h = leaves s reports a in
      print_from (suc budget) d p log at n s reports
      ≡ lines_first (row_text p n a) (print_from budget d p log (next_at log at) (n + 1) h.session h.reports)
  unfolding print_from
  print_row budget at n s reports h = rw (lt-leb (length log) at h, print_from)

  -- one part after another
  pub print_append : (m k at n : ℕ) (s : Session) (reports : List ℕ)
      → let r = print_from m d p log at n s reports in
      print_from (m + k) d p log at n s reports
      ≡ lines_first r.lines (print_from k d p log r.next r.number r.session r.reports)
  unfolding print_from
  print_append zero k at n s reports = rw zero-add
  print_append (suc m) k at n s reports = elim (decided (leb (length log) at)) [
    | inl e ↦
        let h = leb-true (length log) at e in
        rw (print_ended (suc m) at n s reports h) (print_ended (suc m + k) at n s reports h ∙ rw (print_ended k at n s reports h))
    | inr e ↦
        let l = leb-false (length log) at e in
        let a = step_row 0 d p s reports (row_at log at) in
        let h = leaves s reports a in
        let z : suc m + k ≡ suc (m + k) = omega arith in
        let r = print_from m d p log (next_at log at) (n + 1) h.session h.reports in
        rw (z, print_row m at n s reports l)
        (print_row (m + k) at n s reports l
        ∙ ap (lines_first (row_text p n a)) (print_append m k (next_at log at) (n + 1) h.session h.reports)
        ∙ lines_twice (row_text p n a) r.lines (print_from k d p log r.next r.number r.session r.reports))
  ]

  -- What is printed --------------------------------------------------------------------------------------------------------

  -- the rows between the two offsets, as the program prints rows
  pub record Prints (budget at n : ℕ) (s : Session) (lent : List ℕ) (r : PrintedTo) : Type 0 where
    pub covered : List (List ℕ)
    pub passes : Passes log at r.next covered
    pub lines : r.lines ≡ row_lines d p n s lent covered
    pub number : r.number ≡ n + length covered
    pub session : r.session ≡ (after_rows d p s lent covered).session
    pub reports : r.reports ≡ (after_rows d p s lent covered).reports
    pub stops : (length covered ≡ budget) ⊎ (length log ≤ r.next)

  pub prints : (budget at n : ℕ) (s : Session) (reports : List ℕ)
      → Prints budget at n s reports (print_from budget d p log at n s reports)
  unfolding print_from after_rows row_lines
  prints zero at n s reports = record {
    covered = [];
    passes = at_once;
    lines = refl;
    number = omega arith;
    session = refl;
    reports = refl;
    stops = inl refl;
  }
  prints (suc budget) at n s reports = elim (decided (leb (length log) at)) [
    | inl e ↦ let h = leb-true (length log) at e in rw (print_ended (suc budget) at n s reports h) (record {
      covered = [];
      passes = at_once;
      lines = refl;
      number = omega arith;
      session = refl;
      reports = refl;
      stops = inr h;
    })
    | inr e ↦
        let l = leb-false (length log) at e in
        let a = step_row 0 d p s reports (row_at log at) in
        let h = leaves s reports a in
        let x = prints budget (next_at log at) (n + 1) h.session h.reports in
        rw (print_row budget at n s reports l) (record {
          covered = row_at log at ∷ x.covered;
          passes = row_first l x.passes;
          lines = ap (λ t. row_text p n a ++ t) x.lines ∙ sym (lines_row d p n s reports (row_at log at) x.covered);
          number = let k = x.number in omega arith;
          session = x.session;
          reports = x.reports;
          stops = elim x.stops [ inl q ↦ inl (ap suc q) | inr q ↦ inr q ];
        })
  ]
