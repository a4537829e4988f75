-- Document 01, "One event" and "Numbers of refusal": the calls of a session over lent tables: start, one event, lookup, and
-- the session check (refusal 12). Each answers for every input; on a refusal every lent number stays (`leaves`).
-- Values and combinations in these calls are four numbers of 32 bits: the calls' types say so, and no definition says it again.
-- Assumes nothing.
use Rattle.std.specs.Prelude.{ℕ, ◌+◌, ◌-◌, ◌*◌, Bool, true, false, not, cond, ◌&&◌, List, [], ◌∷◌, ◌++◌, length, take, drop, leb, ltb, eqb}
use mathlib.Core.List as list
use Rattle.document.specs.Lists.{every, equal, joined_up}
use Rattle.document.specs.Limits.{width, seen_stride, kept_stride}
use Rattle.document.specs.Refusals.{badProperty, badSession, noSuchEvent, wrongValues, noRoomForSeen, noRoomForKept, noRoomForReports, badLookup, Answer, taken, refused, refuse_if}
use Rattle.document.specs.Property.{Property, in_range, next_state, set_of, verdict, is_asked, hopeful}
use Rattle.document.specs.Combinations.{empty_of, precedes, binds_exactly, zero_past}
use Rattle.document.specs.OneEvent.{Kept, join_seen, see, kept_after, reports_after}
use Rattle.document.specs.Tables.{seen_room, kept_room, report_room, seen_rows, kept_rows, seen_table, kept_table}

-- what the caller lends: the two tables' numbers and how many of their rows count
pub record Session : Type 0 where
  pub seen_count : ℕ
  pub kept_count : ℕ
  pub seen : List ℕ
  pub kept : List ℕ

unfoldable pub seen_of : Session → List (List ℕ)
seen_of s = seen_rows s.seen_count s.seen

unfoldable pub kept_of : Session → List Kept
kept_of s = kept_rows s.kept_count s.kept

-- the same tables with these rows in them
unfoldable pub session_with : Session → List (List ℕ) → List Kept → Session
session_with s seen kept = record {
  seen_count = length seen;
  kept_count = length kept;
  seen = seen_table seen s.seen;
  kept = kept_table kept s.kept;
}

-- Refusal 12 -----------------------------------------------------------------------------------------------------------

-- each precedes the next
unfoldable pub ascending : List (List ℕ) → Bool
ascending [] = true
ascending (x ∷ []) = true
ascending (x ∷ y ∷ l) = precedes x y && ascending (y ∷ l)

-- "a row past the count not 0": the numbers from the count's end up to the room's are 0
unfoldable pub zero_between : ℕ → ℕ → List ℕ → Bool
zero_between from to t = every (λ x. eqb x 0) (take (to - from) (drop from t))

unfoldable pub kept_combinations : Session → List (List ℕ)
kept_combinations s = list.map (λ k. k.combination) (kept_of s)

-- "a kept state out of range or not hopeful, a kept row not the join of seen rows it includes"
unfoldable pub rightly_kept : Property → List (List ℕ) → Kept → Bool
rightly_kept p seen k =
    ltb k.state p.states && hopeful p k.state && equal (join_seen width k.combination seen) k.combination

-- refusal 12 is given where this does not hold; its clauses are in the document's order
unfoldable pub sound : Property → Session → Bool
sound p s =
    (leb s.seen_count (seen_room s.seen) && leb s.kept_count (kept_room s.kept))
    && (ascending (seen_of s) && ascending (kept_combinations s))
    && every (λ b. not (equal b (empty_of width))) (seen_of s)
    && (every (zero_past p.parameters) (seen_of s) && every (zero_past p.parameters) (kept_combinations s))
    && every (rightly_kept p (seen_of s)) (kept_of s)
    && (zero_between (s.seen_count * seen_stride) (seen_room s.seen * seen_stride) s.seen
    && zero_between (s.kept_count * kept_stride) (kept_room s.kept * kept_stride) s.kept)

-- Start ----------------------------------------------------------------------------------------------------------------

-- "Start clears both rooms and, if state 0 is hopeful, keeps the empty combination in it"
unfoldable pub first_kept : Property → List Kept
first_kept p = cond (hopeful p 0) (record { combination = empty_of width; state = 0 } ∷ []) []

unfoldable pub lent_tables : List ℕ → List ℕ → Session
lent_tables seen kept = record { seen_count = 0; kept_count = 0; seen = seen; kept = kept }

-- "or is refused 16 if the kept room is 0"
unfoldable pub start : Property → List ℕ → List ℕ → Answer Session
start p seen kept =
    refuse_if (not (in_range p)) badProperty
    (refuse_if (ltb (kept_room kept) (length (first_kept p))) noRoomForKept
    (taken (session_with (lent_tables seen kept) [] (first_kept p))))

-- One event ------------------------------------------------------------------------------------------------------------

-- what an accepted event leaves: the session, the reports in the lent report numbers, and how many there are
pub record Happened : Type 0 where
  pub session : Session
  pub reports : List ℕ
  pub reported : ℕ

-- "Reports are rows of 4 numbers and a verdict"
unfoldable pub report_numbers : Property → Kept → List ℕ
report_numbers p k = k.combination ++ (verdict p k.state ∷ [])

-- a moved combination is kept "if its new state is hopeful", reported "if its new verdict is asked for"
unfoldable pub keeps : Property → Kept → Bool
keeps p k = hopeful p k.state

unfoldable pub reported : Property → Kept → Bool
reported p k = is_asked p k.state

-- what an event comes to, before anything is written: the rows of both tables after it, and those that it reports
pub record Outcome : Type 0 where
  pub seen : List (List ℕ)
  pub kept : List Kept
  pub rows : List Kept

unfoldable pub outcome : Property → Session → ℕ → List ℕ → Outcome
outcome p s e b = record {
  seen = see width b (seen_of s);
  kept = kept_after width (next_state p) e b (seen_of s) (keeps p) (kept_of s);
  rows = reports_after width (next_state p) e b (seen_of s) (reported p) (kept_of s);
}

-- the outcome written down, its reports from report number `from` on
unfoldable pub written : ℕ → Property → Session → List ℕ → Outcome → Happened
written from p s reports o =
    let numbers = joined_up (list.map (report_numbers p) o.rows) in
    record {
      session = session_with s o.seen o.kept;
      reports = take from reports ++ numbers ++ drop (from + length numbers) reports;
      reported = length o.rows;
    }

-- "refused for room exactly when .. after it would exceed their room": 15, 16, 17
unfoldable pub within_rooms : ℕ → Property → Session → List ℕ → Outcome → Answer Happened
within_rooms from p s reports o =
    refuse_if (ltb (seen_room s.seen) (length o.seen)) noRoomForSeen
    (refuse_if (ltb (kept_room s.kept) (length o.kept)) noRoomForKept
    (refuse_if (ltb (report_room (drop from reports)) (length o.rows)) noRoomForReports
    (taken (written from p s reports o))))

-- the event e with binding b in a sound session
unfoldable pub step_from : ℕ → Property → Session → List ℕ → ℕ → List ℕ → Answer Happened
step_from from p s reports e b = within_rooms from p s reports (outcome p s e b)

-- the call for one event: 11, 12, 13, 14, then 15 to 17
unfoldable pub event : Property → Session → List ℕ → ℕ → List ℕ → Answer Happened
event p s reports e values =
    refuse_if (not (in_range p)) badProperty
    (refuse_if (not (sound p s)) badSession
    (refuse_if (leb p.events e) noSuchEvent
    (refuse_if (not (binds_exactly (set_of p e) values)) wrongValues
    (step_from 0 p s reports e values))))

-- what a call leaves: on a refusal "the session counts as given, and every lent number unaltered", and no report
unfoldable pub leaves : Session → List ℕ → Answer Happened → Happened
leaves s reports (taken h) = h
leaves s reports (refused r at) = record { session = s; reports = reports; reported = 0 }

unfoldable pub start_leaves : List ℕ → List ℕ → Answer Session → Session
start_leaves seen kept (taken s) = s
start_leaves seen kept (refused r at) = lent_tables seen kept

-- Lookup ---------------------------------------------------------------------------------------------------------------

pub data Found : Type 0 where
  -- the kept state and its verdict
  held : ℕ → ℕ → Found
  hopeless : Found

unfoldable pub find_kept : Property → List ℕ → List Kept → Found
find_kept p c [] = hopeless
find_kept p c (k ∷ kept) = elim (equal k.combination c) [ true ↦ held k.state (verdict p k.state) | false ↦ find_kept p c kept ]

-- "takes any combination and joins the seen bindings it includes. If that join is kept, it answers the kept state and its
-- verdict, else hopeless"
unfoldable pub lookup : Property → Session → List ℕ → Answer Found
lookup p s c =
    refuse_if (not (in_range p)) badProperty
    (refuse_if (not (sound p s)) badSession
    (refuse_if (not (zero_past p.parameters c)) badLookup
    (taken (find_kept p (join_seen width c (seen_of s)) (kept_of s)))))
