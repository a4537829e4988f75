-- Document 01, "One event", where the binding is empty or seen: no combination is created, so the rows that include the binding
-- move in place, and their reports stand in the order of the kept rows. What the functions that go through the rows once need
-- and leave. None of it speaks of the seen rows.
-- Assumes nothing.
use Rattle.std.specs.Prelude.{ℕ, ◌+◌, ◌*◌, ◌-◌, ◌<◌, ◌≤◌, ◌≡◌, List, ◌++◌, length, get_or, drop}
use mathlib.Core.List as list
use Rattle.document.specs.Lists.{In}
use Rattle.document.specs.Limits.{width, kept_stride}
use Rattle.document.specs.OneEvent.{Kept}
use Rattle.document.specs.Tables.{report_room}
use Rattle.slices.specs.OrderLaws.{Ascends, combinations}
use Rattle.tables.specs.Tables.{kept_from}
use Rattle.moves.specs.Steps.{step_of, state_in}
use Rattle.moves.specs.Ready.{Onward}
use Rattle.keeping.specs.Keeping.{sifted, Sifted}
use Rattle.keeping.specs.SiftLaws.{Sifting}
use Rattle.writing.specs.Writing.{report_of}
use Rattle.inplace.specs.InPlace.{told}
use Rattle.advance.specs.declared.Passed.{Passed}
use Rattle.advance.specs.declared.Advanced.{Advanced}

-- m kept rows in order, each in one of the states, and room for a report of each
pub record Advanceable (next : List ℕ) (states e m from : ℕ) (b kept reports : List ℕ) : Type 0 where
  pub moves : Onward next states e
  pub wide : length b ≡ width
  pub inside : m * kept_stride ≤ length kept
  pub order : Ascends (combinations (kept_from m kept 0))
  pub within : (k : Kept) → In k (kept_from m kept 0) → k.state < states
  pub room : m ≤ report_room (drop from reports)

-- there are r reports, those of i rows
pub record Tells (next verdicts : List ℕ) (asks e i from : ℕ) (b kept reports reports' : List ℕ) (r : ℕ) : Type 0 where
  pub rows : kept_from r reports' from ≡ list.map (report_of verdicts) (told (step_of next) e b (state_in asks) (kept_from i kept 0))
  pub low : (k : ℕ) → k < from → get_or reports' k 0 ≡ get_or reports k 0
  pub high : (k : ℕ) → from + r * kept_stride ≤ k → get_or reports' k 0 ≡ get_or reports k 0

-- the pass has come to row i, with o rows left of those before it and `count` reports
pub record Passing (next verdicts : List ℕ) (states hopes asks e m from i o count : ℕ) (b kept₀ kept reports₀ reports : List ℕ) : Type 0 where
  pub able : Advanceable next states e m from b kept₀ reports₀
  pub sifts : Sifting next states hopes e m i o b kept₀ kept
  pub same : length reports ≡ length reports₀
  pub tells : Tells next verdicts asks e i from b kept₀ reports₀ reports count
  pub few : count ≤ i
  pub above : (k : ℕ) → i ≤ k → k < m → get_or b 0 0 ≤ get_or kept₀ (k * kept_stride) 0

-- the rows before row `low` are done; `before` are the kept rows before the event
pub record Passable (next verdicts : List ℕ) (states hopes asks e m from : ℕ) (b kept reports : List ℕ) (low : ℕ) : Type 0 where
  pub before : List ℕ
  pub passing : Passing next verdicts states hopes asks e m from low low 0 b before kept reports reports

-- the pass stopped before a row from which on no row includes b
pub record Passes (next verdicts : List ℕ) (states hopes asks e m from : ℕ) (b kept kept' reports reports' : List ℕ) (r : Passed) : Type 0 where
  pub sifts : Sifting next states hopes e m r.row r.left b kept kept'
  pub rest : (seen : List (List ℕ)) → sifted (step_of next) e b seen (state_in hopes) (kept_from m kept 0)
      ≡ sifted (step_of next) e b seen (state_in hopes) (kept_from r.row kept 0) ++ kept_from (m - r.row) kept (r.row * kept_stride)
  pub tells : Tells next verdicts asks e m from b kept reports reports' r.reported

-- whatever the kept rows were before the event
pub record PassesOn (next verdicts : List ℕ) (states hopes asks e m from low : ℕ) (b kept kept' reports reports' : List ℕ) (r : Passed) : Type 0 where
  pub fewer : r.left ≤ r.row
  pub within : r.row ≤ m
  pub inside : m * kept_stride ≤ length kept'
  pub on : (before : List ℕ) → Passing next verdicts states hopes asks e m from low low 0 b before kept reports reports
      → Passes next verdicts states hopes asks e m from b before kept' reports reports' r

-- every row as it stays or moves, the dropped ones left out and 0 where rows stood before; and every report
pub record Advances (next verdicts : List ℕ) (hopes asks e m from : ℕ) (b kept kept' reports reports' : List ℕ) (r : Advanced) : Type 0 where
  pub sifts : Sifted next hopes e m b kept kept' r.kept
  pub zero : (k : ℕ) → r.kept * kept_stride ≤ k → k < m * kept_stride → get_or kept' k 0 ≡ 0
  pub tells : Tells next verdicts asks e m from b kept reports reports' r.reported

-- the same, whatever the kept rows were before the event
pub record AdvancesOn (next verdicts : List ℕ) (states hopes asks e m from low : ℕ) (b kept kept' reports reports' : List ℕ) (r : Advanced) : Type 0 where
  pub on : (before : List ℕ) → Passing next verdicts states hopes asks e m from low low 0 b before kept reports reports
      → Advances next verdicts hopes asks e m from b before kept' reports reports' r
