-- Rows on the way: the start, the turns and the returns of the loop over them.
-- Assumes nothing.
use Rattle.std.specs.Prelude.{ℕ, suc, ◌+◌, ◌-◌, ◌≤◌, ◌<◌, ◌≡◌, refl, Bool, true, false}
use Rattle.std.proofs.Common.{sym, ◌∙◌}
use Rattle.std.proofs.Math.Path.{ap, subst}
use mathlib.Core.List.{List, [], ◌++◌, append_assoc, append-nil}
use native.Mathlib.Omega.{arith}
use Rattle.std.proofs.Math.ListN.{length}
use Rattle.document.specs.Refusals.{Answer, taken, refused}
use Rattle.document.specs.Declarations.{Declared}
use Rattle.document.specs.Property.{Property, in_range}
use Rattle.document.specs.Session.{Session, Happened, sound, leaves}
use Rattle.document.specs.Log.{step_row, row_at, next_at, agrees}
use Rattle.rows.specs.TextLaws.{next-later}
use Rattle.judge.specs.Sound.{session_of}
use Rattle.decimals.specs.WrittenLaws.{written_none, written_then, written-length}
use Rattle.judging.specs.declared.Judged.{Judged}
use Rattle.runs.specs.PrintPart.{row_text, PrintedTo, nothing_printed, lines_first}
use Rattle.runs.specs.SoundRuns.{row-sound}
use Rattle.turns.specs.Stepping.{row_step_by, RowGoes, read_as, Sure}
use Rattle.turns.specs.SureLaws.{row_step_same, row_goes}
use Rattle.rowlines.specs.RowLines.{fits_row}
use Rattle.rowlines.specs.RowLinesLaws.{written_tight}
use Rattle.printrow.specs.declared.Printed.{Printed}
use Rattle.printing.specs.Printing.{print_rows}
use Rattle.printing.specs.Prints.{printed_of, PrintLeaves, OnTheWay}
use Rattle.printrow.specs.RowPrints.{row_text_by, RowPrinted}
use Rattle.printing.specs.PrintingLaws.{rows_ended, rows_full, rows_row}

-- Over declarations and a property ---------------------------------------------------------------------------------------

-- the two ways to say a row's lines are one
text_by : (p : Property) (n : ℕ) (a : Answer Happened) → row_text p n a ≡ row_text_by p.parameters n a
text_by p n (taken h) = refl
text_by p n (refused q o) = refl

-- a row leaves a sound session sound, taken or refused
leaves-sound : (d : Declared) (p : Property) → in_range p ≡ true → agrees d p ≡ true → (s : Session) (reports bytes : List ℕ)
    → sound p s ≡ true → sound p (leaves s reports (step_row 0 d p s reports bytes)).session ≡ true
unfolding leaves
leaves-sound d p range agree s reports bytes f = go (step_row 0 d p s reports bytes) refl
  where
    go : (a : Answer Happened) → step_row 0 d p s reports bytes ≡ a → sound p (leaves s reports a).session ≡ true
    go (taken h) e = row-sound d p range agree 0 s reports bytes h f e
    go (refused q o) e = f

pub way_start : (d : Declared) (p : Property) (log : List ℕ) (at number n m : ℕ) (seen kept reports text : List ℕ)
    → sound p (session_of n m seen kept) ≡ true
    → (r : Printed) → r ≡ record { refusal = 0; next = at; number = number; seen = n; kept = m; filled = 0 }
    → OnTheWay d p log (print_rows (length log) d p log at number (session_of n m seen kept) reports (length text) 0) text r seen kept reports text
way_start d p log at number n m seen kept reports text f r q = rw q (record {
  none = refl;
  sound = f;
  lines = [];
  written = written_none 0 text (omega arith);
  turns = length log;
  enough = omega arith;
  left = refl;
})

module _ (d : Declared) (p : Property) (log : List ℕ) (whole : PrintedTo) (text₀ : List ℕ) (r : Printed) (seen kept reports text : List ℕ)
    (g : OnTheWay d p log whole text₀ r seen kept reports text) where
  abbrev s₀ : Session
  s₀ = session_of r.seen r.kept seen kept

  -- nothing is left to do
  done : print_rows g.turns d p log r.next r.number s₀ reports (length text₀) r.filled ≡ nothing_printed r.next r.number s₀ reports
      → PrintLeaves 0 whole text₀ r seen kept reports text
  unfolding printed_of
  done q =
      let w = g.written in
      let e : lines_first g.lines (nothing_printed r.next r.number s₀ reports) ≡ whole = ap (lines_first g.lines) (sym q) ∙ g.left in
      let all : g.lines ++ [] ≡ g.lines = append-nil g.lines in
      let z : 0 + length g.lines ≡ length g.lines = omega arith in
      let f : r.filled ≡ length (g.lines ++ []) = rw all (w.ends ∙ z) in
      let none = g.none in
      subst (λ (x : PrintedTo). PrintLeaves 0 x text₀ r seen kept reports text) e (record {
        says = λ i. record { refusal = none i; next = r.next; number = r.number; seen = r.seen; kept = r.kept; filled = f i };
        seen_left = refl;
        kept_left = refl;
        reports_left = refl;
        text_left = rw (all, ← z) w.text;
        fits = rw (all, ← z) w.fits;
      })

  room_same : length text ≡ length text₀
  room_same = written-length 0 (length g.lines) g.lines text₀ text r.filled g.written

  pub way_ended : length log ≤ r.next → PrintLeaves 0 whole text₀ r seen kept reports text
  way_ended h = done (rows_ended d p log g.turns r.next r.number s₀ reports (length text₀) r.filled h)

  pub way_full : (f : Bool) → r.next < length log → f ≡ fits_row (length text) r.filled r.kept r.number → f ≡ false
      → PrintLeaves 0 whole text₀ r seen kept reports text
  way_full f h q z =
      done (rows_full d p log g.turns r.next r.number s₀ reports (length text₀) r.filled h (rw room_same at (sym q ∙ z)))

  module _ (range : in_range p ≡ true) (agree : agrees d p ≡ true) (l : r.next < length log)
      (f : fits_row (length text) r.filled r.kept r.number ≡ true) (r' : Printed) (seen' kept' reports' text' : List ℕ)
      (v : RowPrinted (step_row 0 d p s₀ reports (row_at log r.next)) p.parameters log seen kept reports text r r' seen' kept' reports' text') where
    way_turn : OnTheWay d p log whole text₀ r' seen' kept' reports' text'
    way_turn =
        let a = step_row 0 d p s₀ reports (row_at log r.next) in
        let h = leaves s₀ reports a in
        let x = row_text_by p.parameters r.number a in
        let room = length text₀ in
        let en = v.next in
        let later = next-later log r.next l in
        let many = g.enough in
        let t : g.turns ≡ suc (g.turns - 1) = omega arith in
        let es = v.session in
        let rest = print_rows (g.turns - 1) d p log (next_at log r.next) (r.number + 1) h.session h.reports room (r.filled + length x) in
        let here : print_rows (suc (g.turns - 1)) d p log r.next r.number s₀ reports room r.filled ≡ lines_first x rest =
        rw (text_by p r.number a) at (rows_row d p log (g.turns - 1) r.next r.number s₀ reports room r.filled l (rw room_same at f)) in
        let on : lines_first (g.lines ++ x) rest ≡ lines_first g.lines (lines_first x rest) =
        λ i. record {
          lines = append_assoc g.lines x rest.lines i;
          next = rest.next;
          number = rest.number;
          session = rest.session;
          reports = rest.reports;
        } in
        record {
          none = v.none;
          sound = subst (λ (s : Session). sound p s ≡ true) (sym es) (leaves-sound d p range agree s₀ reports (row_at log r.next) g.sound);
          lines = g.lines ++ x;
          written = written_tight 0 (length g.lines + length x) r'.filled (g.lines ++ x) text₀ text'
              (written_then 0 r.filled r'.filled (length g.lines) (length x) g.lines x text₀ text text' g.written v.written);
          turns = g.turns - 1;
          enough = omega arith;
          left =
              (λ i. lines_first (g.lines ++ x) (print_rows (g.turns - 1) d p log (en i) (v.number i) (es i) (v.reports_left i) room (v.written.ends i)))
              ∙ on ∙ ap (lines_first g.lines) (sym here) ∙ (rw t at g.left);
        }

-- Over what the call goes by ---------------------------------------------------------------------------------------------

module _ (p : Property) (c : Judged) (w : Sure p c) (log : List ℕ) (whole : PrintedTo) (lent₀ : List ℕ) (r : Printed) (seen kept reports lent : List ℕ)
    (g : OnTheWay (read_as c) p log whole lent₀ r seen kept reports lent) where
  pub way_goes : RowGoes c r.seen r.kept seen kept
  way_goes = row_goes p c w r.seen r.kept seen kept g.sound

  pub way_on : (f : Bool) → r.next < length log → f ≡ fits_row (length lent) r.filled r.kept r.number → f ≡ true
      → (r' : Printed) (seen' kept' reports' lent' : List ℕ)
      → RowPrinted (row_step_by c 0 (session_of r.seen r.kept seen kept) reports (row_at log r.next)) c.reading.parameters log seen kept reports lent r r' seen' kept' reports' lent'
      → OnTheWay (read_as c) p log whole lent₀ r' seen' kept' reports' lent'
  way_on f l q z r' seen' kept' reports' lent' v =
      way_turn (read_as c) p log whole lent₀ r seen kept reports lent g w.range w.agree l (sym q ∙ z) r' seen' kept' reports' lent'
      (subst (λ (m : ℕ). RowPrinted (step_row 0 (read_as c) p (session_of r.seen r.kept seen kept) reports (row_at log r.next)) m log seen kept reports lent r r' seen' kept' reports' lent') w.parameters
      (rw (row_step_same p c w r.seen r.kept seen kept reports (row_at log r.next) 0 g.sound) at v))

-- each row brings the offset on
pub way_less : (a : Answer Happened) (parameters : ℕ) (log seen kept reports text : List ℕ) (r r' : Printed) (seen' kept' reports' text' : List ℕ)
    → r.next < length log → RowPrinted a parameters log seen kept reports text r r' seen' kept' reports' text'
    → length log - r'.next < length log - r.next
way_less a parameters log seen kept reports text r r' seen' kept' reports' text' l v =
    let e = v.next in
    let h = next-later log r.next l in
    omega arith
