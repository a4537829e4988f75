-- The reports of an event in the order of combinations, and an outcome written down.
-- Assumes nothing.
use Rattle.std.specs.Prelude.{ℕ, ◌+◌, ◌*◌, ◌<◌, ◌≤◌, Bool, true, cond, ◌&&◌, List, [], ◌∷◌, ◌++◌, ◌≡◌, get_or, length, take, drop}
use mathlib.Core.List as list
use Rattle.document.specs.Lists.{joined_up}
use Rattle.document.specs.Limits.{width, kept_stride}
use Rattle.document.specs.OneEvent.{Kept, insert_kept, moves, moved_from, see, kept_after, reports_after}
use Rattle.document.specs.Session.{Outcome, Session, Happened, session_with}
use Rattle.document.specs.Tables.{seen_rows, kept_rows, seen_room, report_room, seen_table, kept_table}
use Rattle.slices.specs.OrderLaws.{Ascends, combinations}
use Rattle.slices.specs.TablesLaws.{kept_at}
use Rattle.tables.specs.Tables.{kept_from}
use Rattle.moves.specs.Steps.{step_of, state_in, outcome_by}
use Rattle.moves.specs.Ready.{Ready, RowReady}
use Rattle.foreseen.specs.declared.Foreseen.{Foreseen}
use Rattle.keeping.specs.Keeping.{Keepable}

-- the reports so far, with the one that k makes
module _ (step : ℕ → ℕ → ℕ) (e : ℕ) (b : List ℕ) (seen : List (List ℕ)) (reported : Kept → Bool) where
  unfoldable pub reported_by : Kept → List Kept → List Kept
  reported_by k l = cond (moves width step e b seen k && reported (moved_from width step e b seen k)) (insert_kept (moved_from width step e b seen k) l) l

-- a row that moved, as a report
unfoldable pub report_of : List ℕ → Kept → Kept
report_of verdicts k = record { combination = k.combination; state = get_or verdicts k.state 0 }

-- a report's numbers
unfoldable pub report_numbers_by : List ℕ → Kept → List ℕ
report_numbers_by verdicts k = k.combination ++ (get_or verdicts k.state 0 ∷ [])

unfoldable pub written_by : List ℕ → ℕ → Session → List ℕ → Outcome → Happened
written_by verdicts from s reports o =
    let numbers = joined_up (list.map (report_numbers_by verdicts) o.rows) in
    record {
      session = session_with s o.seen o.kept;
      reports = take from reports ++ numbers ++ drop (from + length numbers) reports;
      reported = length o.rows;
    }

-- Reports --------------------------------------------------------------------------------------------------------------

-- there are reports from a report number on, in order, and room for the one that row i may make
pub record ReportReady (next : List ℕ) (states asks e n i from count : ℕ) (b seen kept t : List ℕ) (fresh : Bool) : Type 0 where
  pub row : RowReady next states e n i b seen kept fresh
  pub inside : from + count * kept_stride ≤ length t
  pub order : Ascends (combinations (kept_from count t from))
  pub room : (moves width (step_of next) e b (seen_rows n seen) (kept_at width kept (i * kept_stride))
      && state_in asks (moved_from width (step_of next) e b (seen_rows n seen) (kept_at width kept (i * kept_stride)))) ≡ true → from + (count + 1) * kept_stride ≤ length t

pub record ReportedRow (next verdicts : List ℕ) (asks e n i from count : ℕ) (b seen kept t t' : List ℕ) (r : ℕ) : Type 0 where
  pub rows : (l : List Kept) → kept_from count t from ≡ list.map (report_of verdicts) l
      → kept_from r t' from ≡ list.map (report_of verdicts) (reported_by (step_of next) e b (seen_rows n seen) (state_in asks) (kept_at width kept (i * kept_stride)) l)
  pub low : (k : ℕ) → k < from → get_or t' k 0 ≡ get_or t k 0
  pub high : (k : ℕ) → from + r * kept_stride ≤ k → get_or t' k 0 ≡ get_or t k 0
  pub more : count ≤ r

-- all rows
pub record Reportable (next : List ℕ) (states asks e n m from : ℕ) (b seen kept t : List ℕ) (fresh : Bool) : Type 0 where
  pub ready : Ready next states e n m b seen kept fresh
  pub room : from + length (reports_after width (step_of next) e b (seen_rows n seen) (state_in asks) (kept_from m kept 0)) * kept_stride ≤ length t

pub record Reported (next verdicts : List ℕ) (asks e n m from : ℕ) (b seen kept t t' : List ℕ) (r : ℕ) : Type 0 where
  pub rows : kept_from r t' from ≡ list.map (report_of verdicts) (reports_after width (step_of next) e b (seen_rows n seen) (state_in asks) (kept_from m kept 0))
  pub low : (k : ℕ) → k < from → get_or t' k 0 ≡ get_or t k 0
  pub high : (k : ℕ) → from + r * kept_stride ≤ k → get_or t' k 0 ≡ get_or t k 0

-- An outcome -----------------------------------------------------------------------------------------------------------

-- there is room for an outcome
pub record Writable (next : List ℕ) (states hopes asks e n m from : ℕ) (b seen kept reports : List ℕ) (fresh : Bool) : Type 0 where
  pub keeps : Keepable next states hopes e n m b seen kept fresh
  pub sees : length (see width b (seen_rows n seen)) ≤ seen_room seen
  pub tells : length (reports_after width (step_of next) e b (seen_rows n seen) (state_in asks) (kept_rows m kept)) ≤ report_room (drop from reports)

-- an outcome that was foreseen, with room for it
pub record Tellable (next : List ℕ) (states hopes asks e n m from : ℕ) (b seen kept reports : List ℕ) (o : Foreseen) : Type 0 where
  pub writes : Writable next states hopes asks e n m from b seen kept reports o.fresh
  pub tells : o.reported ≡ length (reports_after width (step_of next) e b (seen_rows n seen) (state_in asks) (kept_rows m kept))

pub record Tells (next verdicts : List ℕ) (hopes asks e n m from : ℕ) (b seen kept reports reports' : List ℕ) : Type 0 where
  pub told : reports' ≡ (written_by verdicts from (record { seen_count = n; kept_count = m; seen = seen; kept = kept }) reports
      (outcome_by next hopes asks (seen_rows n seen) (kept_rows m kept) e b)).reports

-- and it is written down
pub record WrittenDown (next verdicts : List ℕ) (hopes asks e n m from : ℕ) (b seen kept reports seen' kept' reports' : List ℕ) : Type 0 where
  pub seen_to : seen' ≡ seen_table (see width b (seen_rows n seen)) seen
  pub kept_to : kept' ≡ kept_table (kept_after width (step_of next) e b (seen_rows n seen) (state_in hopes) (kept_rows m kept)) kept
  pub reports_to : reports' ≡ (written_by verdicts from (record { seen_count = n; kept_count = m; seen = seen; kept = kept }) reports
      (outcome_by next hopes asks (seen_rows n seen) (kept_rows m kept) e b)).reports
