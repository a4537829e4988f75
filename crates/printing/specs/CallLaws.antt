-- The call: what is known once it has judged its inputs good, and its returns.
-- Assumes nothing.
use Rattle.std.specs.Prelude.{ℕ, ◌≤◌, ◌<◌, ◌≡◌, Ok, Err, List, length}
use Rattle.std.proofs.Math.Path.{refl, sym, ap}
use Rattle.std.proofs.Common.{◌∙◌, subst, arith}
use borrow.Author.Tests.{lt-ltb, le-ltb}
use Rattle.document.specs.Refusals.{Refusal, number, offsetPastLog, Answer, taken, refused, refusal_of}
use Rattle.refusals.specs.Named.{named}
use Rattle.refusals.specs.declared.Refusal.{Refusal as Code}
use Rattle.document.specs.Property.{Property}
use Rattle.document.specs.Session.{Session}
use Rattle.judge.specs.Sound.{session_of}
use Rattle.runs.specs.PrintPart.{PrintedTo}
use Rattle.judging.specs.declared.Judged.{Judged}
use Rattle.judging.specs.Judging.{Judges}
use Rattle.judging.specs.JudgingLaws.{judges_good, judges_bad}
use Rattle.turns.specs.Stepping.{read_as, Sure}
use Rattle.turns.specs.SureLaws.{read_same, good_sure}
use Rattle.printrow.specs.declared.Printed.{Printed}
use Rattle.printing.specs.Printing.{print_rows, print_call, prints_to}
use Rattle.printing.specs.Prints.{printed_of, PrintLeaves, OnTheWay}
use Rattle.printing.specs.RowsLaws.{way_start}
use Rattle.printing.specs.PrintingLaws.{rows_alike}

-- a call that was judged good is sure of what its rows need
pub call_sure : (text : List ℕ) (p : Property) (s : Session) (c : Judged) → Judges text p s (Ok c) → Sure p c
call_sure text p s c v =
    let w = judges_good text p s c v in
    good_sure text p s w.said c w.good

-- The returns of the call ------------------------------------------------------------------------------------------------

module _ (text : List ℕ) (p : Property) (n m : ℕ) (seen kept reports log : List ℕ) (at num : ℕ) (lent : List ℕ) where
  abbrev s₀ : Session
  s₀ = session_of n m seen kept

  abbrev answer : Answer PrintedTo
  answer = print_call text p s₀ reports log at num (length lent)

  nothing : (q : Refusal) (o k : ℕ) → answer ≡ refused q o → k ≡ number q
      → (r : Printed) → r ≡ record { refusal = k; next = at; number = num; seen = n; kept = m; filled = 0 }
      → PrintLeaves (refusal_of answer) (prints_to at num s₀ reports answer) lent r seen kept reports lent
  unfolding printed_of prints_to
  nothing q o k e f r y =
      rw (e, y) (record {
        says = λ i. record { refusal = f i; next = at; number = num; seen = n; kept = m; filled = 0 };
        seen_left = refl;
        kept_left = refl;
        reports_left = refl;
        text_left = refl;
        fits = omega arith;
      })

  pub call_refused : (e : Code) → Judges text p s₀ (Err e) → (k : ℕ) → k ≡ number (named e)
      → (r : Printed) → r ≡ record { refusal = k; next = at; number = num; seen = n; kept = m; filled = 0 }
      → PrintLeaves (refusal_of answer) (prints_to at num s₀ reports answer) lent r seen kept reports lent
  unfolding print_call
  call_refused e v k q r y =
      let w = judges_bad text p s₀ e v in
      nothing w.why w.at k (rw w.is) (q ∙ w.number) r y

  module _ (c : Judged) (v : Judges text p s₀ (Ok c)) where
    pub call_past : length log < at → (k : ℕ) → k ≡ 24 → (r : Printed) → r ≡ record { refusal = k; next = at; number = num; seen = n; kept = m; filled = 0 }
        → PrintLeaves (refusal_of answer) (prints_to at num s₀ reports answer) lent r seen kept reports lent
    unfolding print_call
    call_past h k q r y =
        let w = judges_good text p s₀ c v in
        nothing offsetPastLog 0 k (rw (w.is, lt-ltb (length log) at h)) q r y

    module _ (h : at ≤ length log) where
      answer_is : answer ≡ taken (print_rows (length log) (read_as c) p log at num s₀ reports (length lent) 0)
      unfolding print_call
      answer_is =
          let w = judges_good text p s₀ c v in
          rw (rows_alike (read_as c) w.said (read_same text p s₀ w.said c w.good) (length log) p log at num s₀ reports (length lent) 0, w.is, le-ltb (length log) at h)

      -- the rows are on the way to the call's answer, and where they end, it is given
      pub call_starts : (r : Printed) → r ≡ record { refusal = 0; next = at; number = num; seen = n; kept = m; filled = 0 }
          → OnTheWay (read_as c) p log (prints_to at num s₀ reports answer) lent r seen kept reports lent
      unfolding prints_to
      call_starts r y =
          rw answer_is (way_start (read_as c) p log at num n m seen kept reports lent (judges_good text p s₀ c v).good.sound r y)

      pub call_ends : (r : Printed) (seen' kept' reports' lent' : List ℕ)
          → PrintLeaves 0 (prints_to at num s₀ reports answer) lent r seen' kept' reports' lent'
          → PrintLeaves (refusal_of answer) (prints_to at num s₀ reports answer) lent r seen' kept' reports' lent'
      call_ends r seen' kept' reports' lent' x =
          subst (λ (q : ℕ). PrintLeaves q (prints_to at num s₀ reports answer) lent r seen' kept' reports' lent') (sym (ap refusal_of answer_is)) x
