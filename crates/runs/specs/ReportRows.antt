-- The reports of an event: each is a whole row of the report numbers, and they are written inside the numbers lent, which stay
-- as many.
-- Assumes nothing.
use Rattle.std.specs.Prelude.{ℕ, ◌+◌, ◌-◌, ◌*◌, ◌/◌, ◌≤◌, ◌≡◌, List, length}
use mathlib.Core.List as list
use Rattle.std.proofs.Common.{arith, length-append, length-take, length-drop}
use Rattle.document.specs.Lists.{keep_if}
use Rattle.document.specs.Limits.{width, report_stride}
use Rattle.document.specs.Refusals.{taken}
use Rattle.document.specs.Property.{Property, next_state}
use Rattle.document.specs.OneEvent.{moves, moved_from, moved, reports_after}
use Rattle.document.specs.Tables.{report_room}
use Rattle.document.specs.Session.{Session, Happened, kept_of, seen_of, reported, outcome, written, step_from}
use Rattle.slices.specs.ListsLaws.{in_map, in_keep_if}
use Rattle.slices.specs.CombinationsLaws.{length-join}
use Rattle.slices.specs.OrderLaws.{in_in_order}
use Rattle.slices.specs.TablesLaws.{KeptWidth}
use Rattle.slices.specs.SessionBackLaws.{kept_of-width}
use Rattle.slices.specs.StepLaws.{length-reports, stepped}

-- each is of the width, whatever the session was
rows-width : (p : Property) (s : Session) (e : ℕ) (b : List ℕ) → length b ≡ width → KeptWidth width (outcome p s e b).rows
unfolding outcome reports_after moved moved_from
rows-width p s e b o k i =
    let test = moves width (next_state p) e b (seen_of s) in
    let to = moved_from width (next_state p) e b (seen_of s) in
    let l = keep_if test (kept_of s) in
    let j = (in_keep_if (reported p) (list.map to l) k).0 ((in_in_order (keep_if (reported p) (list.map to l)) k).0 i) in
    let m = (in_map to l k).0 j.0 in
    let q = (in_keep_if test (kept_of s) m.of).0 m.member in
    rw m.is (length-join width b m.of.combination o (kept_of-width s m.of q.0))

-- written whole, inside the numbers lent
pub record Reports (from : ℕ) (reports : List ℕ) (h : Happened) : Type 0 where
  pub same : length h.reports ≡ length reports
  pub inside : from + h.reported * report_stride ≤ length reports

pub step-reports : (from : ℕ) (p : Property) (s : Session) (reports : List ℕ) (e : ℕ) (b : List ℕ) (h : Happened) → length b ≡ width
    → from ≤ length reports → step_from from p s reports e b ≡ taken h → Reports from reports h
unfolding step_from written report_room
step-reports from p s reports e b h o l q =
    let out = outcome p s e b in
    let r = stepped from p s reports out h q in
    let n = length-reports p out.rows (rows-width p s e b o) in
    let f : length out.rows ≤ (length reports - from) / report_stride = rw length-drop at r.report_rows in
    let inside : from + length out.rows * report_stride ≤ length reports = omega arith in
    rw (← r.is) (record {
      same = simp (length-append, length-take, length-drop) (omega arith);
      inside = inside;
    })
