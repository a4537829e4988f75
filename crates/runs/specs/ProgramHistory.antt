-- Demand 3 carried to the program: it skips rows that are refused, and the session that rows leave is reached by the events of
-- those that were taken, each with its row's number. So every report that it prints is one of demand 3's.
-- Assumes nothing.
use Rattle.std.specs.Prelude.{ℕ, ◌+◌, ◌*◌, ◌≡◌, true, replicate}
use Rattle.std.proofs.Math.Path.{refl, ap}
use mathlib.Core.List.{List, [], ◌∷◌, ◌++◌, append-nil, append_assoc}
use Rattle.std.proofs.Common.{arith}
use Rattle.document.specs.Limits.{most_seen, most_kept, seen_stride, kept_stride}
use Rattle.document.specs.Refusals.{Refusal, Answer, taken, refused}
use Rattle.document.specs.Declarations.{Declared}
use Rattle.document.specs.Property.{Property, in_range}
use Rattle.document.specs.Histories.{Event}
use Rattle.document.specs.Session.{Session, Happened, leaves}
use Rattle.document.specs.Log.{step_row, agrees}
use Rattle.document.specs.Printing.{program_session}
use Rattle.document.specs.Demands.{Holds, extended, Reached, fresh}
use Rattle.runs.specs.RowEvents.{Brings, row_brings, row-holds}
use Rattle.runs.specs.RunHistory.{history_of, history_one}
use Rattle.runs.specs.RunReached.{row_reached}
use Rattle.runs.specs.PrintPart.{after_rows}

-- the events of the rows that are taken, the first row numbered n, refused rows counted
unfoldable pub accepted_of : Declared → Property → ℕ → Session → List ℕ → List (List ℕ) → List Event
accepted_of d p n s reports [] = []
accepted_of d p n s reports (bytes ∷ more) = elim (step_row 0 d p s reports bytes) [
  | taken h ↦ history_of d n (bytes ∷ []) ++ accepted_of d p (n + 1) h.session h.reports more
  | refused r o ↦ accepted_of d p (n + 1) s reports more
]

-- by what happens to the first row
module _ (d : Declared) (p : Property) (n : ℕ) (s : Session) (reports bytes : List ℕ) (l : List (List ℕ)) where
  pub accepted_taken : (h : Happened) → step_row 0 d p s reports bytes ≡ taken h
      → accepted_of d p n s reports (bytes ∷ l) ≡ history_of d n (bytes ∷ []) ++ accepted_of d p (n + 1) h.session h.reports l
  unfolding accepted_of
  accepted_taken h e = rw (e, accepted_of)

  pub accepted_refused : (r : Refusal) (o : ℕ) → step_row 0 d p s reports bytes ≡ refused r o
      → accepted_of d p n s reports (bytes ∷ l) ≡ accepted_of d p (n + 1) s reports l
  unfolding accepted_of
  accepted_refused r o e = rw (e, accepted_of)

  pub after_taken : (h : Happened) → step_row 0 d p s reports bytes ≡ taken h
      → (after_rows d p s reports (bytes ∷ l)).session ≡ (after_rows d p h.session h.reports l).session
  unfolding after_rows leaves
  after_taken h e = ap (λ a. let x = leaves s reports a in (after_rows d p x.session x.reports l).session) e

  pub after_refused : (r : Refusal) (o : ℕ) → step_row 0 d p s reports bytes ≡ refused r o
      → (after_rows d p s reports (bytes ∷ l)).session ≡ (after_rows d p s reports l).session
  unfolding after_rows leaves
  after_refused r o e = ap (λ a. let x = leaves s reports a in (after_rows d p x.session x.reports l).session) e

-- what every row that is taken keeps up, all the rows do
module _ (d : Declared) (p : Property) (agree : agrees d p ≡ true) (P : List Event → Session → Type 0)
    (on : (H : List Event) (s : Session) (reports bytes : List ℕ) (h : Happened) (n : ℕ) → P H s → (b : Brings 0 d p s reports bytes h)
    → P (extended p H n b.row.event b.row.values) h.session) where
  rows-keep : (l : List (List ℕ)) (n : ℕ) (s : Session) (reports : List ℕ) (H : List Event) → P H s
      → P (H ++ accepted_of d p n s reports l) (after_rows d p s reports l).session
  unfolding accepted_of after_rows
  rows-keep [] n s reports H x = rw (append-nil H) x
  rows-keep (bytes ∷ l) n s reports H x = go (step_row 0 d p s reports bytes) refl (λ t u G. rows-keep l (n + 1) t u G)
    where
      go : (a : Answer Happened) → step_row 0 d p s reports bytes ≡ a
          → ((t : Session) (u : List ℕ) (G : List Event) → P G t
          → P (G ++ accepted_of d p (n + 1) t u l) (after_rows d p t u l).session)
          → P (H ++ accepted_of d p n s reports (bytes ∷ l)) (after_rows d p s reports (bytes ∷ l)).session
      go (refused r o) e f =
          rw (accepted_refused d p n s reports bytes l r o e, after_refused d p n s reports bytes l r o e) (f s reports H x)
      go (taken h) e f =
          let b = (row_brings 0 d p s reports bytes h agree).0 e in
          let this : Event = record { row = n; event = b.row.event; binding = b.row.values } in
          let q : history_of d n (bytes ∷ []) ≡ this ∷ [] = history_one d n bytes b.row b.reads in
          let rest = accepted_of d p (n + 1) h.session h.reports l in
          let held = f h.session h.reports (H ++ (this ∷ [])) (on H s reports bytes h n x b) in
          rw (accepted_taken d p n s reports bytes l h e, after_taken d p n s reports bytes l h e, q)
          (rw (append_assoc H (this ∷ []) rest) at held)

module _ (d : Declared) (p : Property) (range : in_range p ≡ true) (agree : agrees d p ≡ true) where
  pub rows_hold : (l : List (List ℕ)) (n : ℕ) (s : Session) (reports : List ℕ) (H : List Event) → Holds p H s
      → Holds p (H ++ accepted_of d p n s reports l) (after_rows d p s reports l).session
  rows_hold = rows-keep d p agree (Holds p) (λ H s reports bytes h n x b. row-holds 0 d p H s reports bytes h n range x b)

  pub rows_reached : (seen kept : List ℕ) (l : List (List ℕ)) (n : ℕ) (s : Session) (reports : List ℕ) (H : List Event)
      → Reached p seen kept H s
      → Reached p seen kept (H ++ accepted_of d p n s reports l) (after_rows d p s reports l).session
  rows_reached seen kept =
      rows-keep d p agree (λ H s. Reached p seen kept H s)
      (λ H s reports bytes h n x b. row_reached d p seen kept 0 H s reports bytes h n range (omega arith) x b)

-- from the program's start
pub program_reached : (d : Declared) (p : Property) (s : Session) (reports : List ℕ) (l : List (List ℕ)) (n : ℕ)
    → in_range p ≡ true → agrees d p ≡ true → program_session p ≡ taken s
    → Reached p (replicate (most_seen * seen_stride) 0) (replicate (most_kept * kept_stride) 0)
    (accepted_of d p n s reports l) (after_rows d p s reports l).session
unfolding program_session
program_reached d p s reports l n range agree q =
    rows_reached d p range agree (replicate (most_seen * seen_stride) 0) (replicate (most_kept * kept_stride) 0) l n s reports [] (fresh q)
