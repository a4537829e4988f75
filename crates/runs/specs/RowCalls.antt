-- The call for one row: taken exactly when what it judges first is and the row brings a proper event that is taken; then the
-- session holds the history with that event.
-- Assumes nothing.
use Rattle.std.specs.Prelude.{ℕ, ◌≡◌, ◌↔◌, List}
use Rattle.document.specs.Refusals.{taken}
use Rattle.document.specs.Declarations.{Declared}
use Rattle.document.specs.Property.{Property}
use Rattle.document.specs.Histories.{Event}
use Rattle.document.specs.Session.{Session, Happened}
use Rattle.document.specs.Log.{step_row, judged, row}
use Rattle.document.specs.Demands.{Holds, extended, Reached}
use Rattle.basics.specs.Answers.{past_call}
use Rattle.runs.specs.Judged.{Judged, judged_of, of_judged}
use Rattle.runs.specs.RowEvents.{Brings, row_brings, row-holds}
use Rattle.runs.specs.RunReached.{row_reached}
use Rattle.std.proofs.Common.{arith}

pub record RowTaken (text : List ℕ) (p : Property) (s : Session) (reports bytes : List ℕ) (h : Happened) : Type 0 where
  pub declared : Declared
  pub judges : Judged text p s declared
  pub brings : Brings 0 declared p s reports bytes h

module _ (text : List ℕ) (p : Property) (s : Session) (reports bytes : List ℕ) (h : Happened) where
  pub row_taken : (row text p s reports bytes ≡ taken h) ↔ RowTaken text p s reports bytes h
  unfolding row
  row_taken = (
    (λ e.
        let c = past_call (judged text p s) (λ d. step_row 0 d p s reports bytes) h e in
        let j = judged_of text p s c.0 c.1 in
        record { declared = c.0; judges = j; brings = (row_brings 0 c.0 p s reports bytes h j.agree).0 c.2 }),
    (λ t.
        rw (of_judged text p s t.declared t.judges)
        ((row_brings 0 t.declared p s reports bytes h t.judges.agree).1 t.brings)),
  )

  pub row_taken_holds : (H : List Event) (n : ℕ) → Holds p H s → (t : RowTaken text p s reports bytes h)
      → Holds p (extended p H n t.brings.row.event t.brings.row.values) h.session
  row_taken_holds H n x t = row-holds 0 t.declared p H s reports bytes h n t.judges.range x t.brings

  pub row_taken_reached : (seen kept : List ℕ) (H : List Event) (n : ℕ) → Reached p seen kept H s
      → (t : RowTaken text p s reports bytes h)
      → Reached p seen kept (extended p H n t.brings.row.event t.brings.row.values) h.session
  row_taken_reached seen kept H n x t =
      row_reached t.declared p seen kept 0 H s reports bytes h n t.judges.range (omega arith) x t.brings
