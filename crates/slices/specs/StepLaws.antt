-- A step that is taken has passed each test: it found room for what the event comes to, and wrote that down. The tables stay as
-- long as they were, and so do the report numbers.
-- Assumes nothing.
use Rattle.std.specs.Prelude.{ℕ, ◌*◌, ◌≤◌, ◌≡◌, List, ltb, length, drop}
use Rattle.std.proofs.Common.{◌∙◌, arith, ltb-false, length-append, length-take, length-drop}
use mathlib.Core.List as list
use Rattle.std.proofs.lemmas.List.{length-map}
use Rattle.document.specs.Lists.{joined_up}
use Rattle.document.specs.Limits.{width, report_stride}
use Rattle.document.specs.Refusals.{noRoomForSeen, noRoomForKept, noRoomForReports, taken, refuse_if}
use Rattle.document.specs.OneEvent.{Kept}
use Rattle.document.specs.Property.{Property, next_state}
use Rattle.document.specs.Tables.{seen_room, kept_room, report_room}
use Rattle.document.specs.Session.{Session, seen_of, kept_of, Happened, report_numbers, reported, Outcome, outcome, written, within_rooms}
use Rattle.basics.specs.Answers.{past_test, taken_one}
use Rattle.slices.specs.ListsLaws.{in_map}
use Rattle.slices.specs.MovesLaws.{length-reports_after}
use Rattle.slices.specs.TablesLaws.{KeptWidth, length-joined_up}

-- what a step that is taken found and left
pub record Stepped (from : ℕ) (p : Property) (s : Session) (reports : List ℕ) (o : Outcome) (h : Happened) : Type 0 where
  pub seen_rows : length o.seen ≤ seen_room s.seen
  pub kept_rows : length o.kept ≤ kept_room s.kept
  pub report_rows : length o.rows ≤ report_room (drop from reports)
  pub is : written from p s reports o ≡ h

pub stepped : (from : ℕ) (p : Property) (s : Session) (reports : List ℕ) (o : Outcome) (h : Happened)
    → within_rooms from p s reports o ≡ taken h → Stepped from p s reports o h
unfolding within_rooms
stepped from p s reports o h q =
    let left = written from p s reports o in
    let fullSeen = ltb (seen_room s.seen) (length o.seen) in
    let fullKept = ltb (kept_room s.kept) (length o.kept) in
    let fullReports = ltb (report_room (drop from reports)) (length o.rows) in
    let from-reports = refuse_if fullReports noRoomForReports (taken left) in
    let h₁ = past_test fullSeen noRoomForSeen (refuse_if fullKept noRoomForKept from-reports) h q in
    let h₂ = past_test fullKept noRoomForKept from-reports h h₁.1 in
    let h₃ = past_test fullReports noRoomForReports (taken left) h h₂.1 in
    record {
      seen_rows = ltb-false (seen_room s.seen) (length o.seen) h₁.0;
      kept_rows = ltb-false (kept_room s.kept) (length o.kept) h₂.0;
      report_rows = ltb-false (report_room (drop from reports)) (length o.rows) h₃.0;
      is = taken_one h₃.1;
    }

-- an event reports no more rows than were kept, in any session
pub length-rows : (p : Property) (s : Session) (e : ℕ) (b : List ℕ) → length (outcome p s e b).rows ≤ length (kept_of s)
unfolding outcome
length-rows p s e b = length-reports_after width (next_state p) e b (seen_of s) (kept_of s) (reported p)

-- The report numbers ---------------------------------------------------------------------------------------------------

length-report_numbers : (p : Property) (k : Kept) → length k.combination ≡ width → length (report_numbers p k) ≡ report_stride
unfolding report_numbers
length-report_numbers p k o = simp length-append (omega arith)

pub length-reports : (p : Property) (rows : List Kept) → KeptWidth width rows
    → length (joined_up (list.map (report_numbers p) rows)) ≡ length rows * report_stride
length-reports p rows o =
    length-joined_up report_stride (list.map (report_numbers p) rows) (λ x i.
    let m = (in_map (report_numbers p) rows x).0 i in
    rw m.is (length-report_numbers p m.of (o m.of m.member)))
    ∙ rw (length-map rows (report_numbers p))

-- wherever the reports begin, past the end too
pub written-length : (from : ℕ) (p : Property) (s : Session) (reports : List ℕ) (o : Outcome) → KeptWidth width o.rows
    → length o.rows ≤ report_room (drop from reports) → length (written from p s reports o).reports ≡ length reports
unfolding written report_room
written-length from p s reports o w h =
    let numbers = joined_up (list.map (report_numbers p) o.rows) in
    let n = length-reports p o.rows w in
    let room : length o.rows * report_stride ≤ length (drop from reports) = omega arith in
    let left = length-drop from reports in
    simp (length-append, length-take, length-drop) (omega arith)
