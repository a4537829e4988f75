-- What the written report numbers come to, and the outcome as a whole.
-- Assumes nothing.
use Rattle.std.specs.Prelude.{ℕ, ◌+◌, ◌-◌, ◌*◌, ◌/◌, ◌≤◌, ◌≡◌, ◌⊎◌, Bool, get_or, take, drop}
use Rattle.std.proofs.Math.Path.{refl, sym, ap}
use Rattle.std.proofs.Common.{◌∙◌, length-take, take-append-drop}
use Rattle.std.proofs.Math.Logic.{inl, inr}
use mathlib.Core.List.{List, [], ◌∷◌, ◌++◌, append_assoc}
use mathlib.Core.List as list
use native.Mathlib.Omega.{arith}
use Rattle.std.proofs.Math.Decide.{dec_lt}
use Rattle.std.proofs.Math.ListN.{length, length-drop, length-map}
use Rattle.document.specs.Lists.{joined_up}
use Rattle.document.specs.Limits.{width, kept_stride, report_stride}
use Rattle.document.specs.OneEvent.{Kept, reports_after}
use Rattle.document.specs.Tables.{seen_rows, kept_rows, kept_numbers, report_room}
use Rattle.tables.specs.Tables.{kept_from}
use Rattle.tables.specs.TablesLaws.{length-kept_from, kept_rows_lem}
use Rattle.tables.specs.WholeLaws.{kept_numbers_lem, report_table}
use Rattle.moves.specs.Steps.{step_of, state_in, outcome_by}
use Rattle.moves.specs.Ready.{Ready}
use Rattle.foreseen.specs.declared.Foreseen.{Foreseen}
use Rattle.writing.specs.Writing.{report_of, report_numbers_by, written_by, Reportable, Reported, Writable, Tellable, Tells}

report_numbers_lem : (verdicts : List ℕ) (l : List Kept) → joined_up (list.map kept_numbers (list.map (report_of verdicts) l)) ≡ joined_up (list.map (report_numbers_by verdicts) l)
unfolding joined_up kept_numbers report_of report_numbers_by
report_numbers_lem verdicts [] = refl
report_numbers_lem verdicts (k ∷ l) = ap (λ (x : List ℕ). (k.combination ++ (get_or verdicts k.state 0 ∷ [])) ++ x) (report_numbers_lem verdicts l)

report_length : (verdicts : List ℕ) (n : ℕ) (t : List ℕ) (at : ℕ) (l : List Kept) → kept_from n t at ≡ list.map (report_of verdicts) l
    → at + n * kept_stride ≤ length t → length (joined_up (list.map (report_numbers_by verdicts) l)) ≡ n * kept_stride
report_length verdicts n t at l e h =
    ap length (sym (report_numbers_lem verdicts l) ∙ ap (λ (x : List Kept). joined_up (list.map kept_numbers x)) (sym e) ∙ kept_numbers_lem n t at h)
    ∙ rw (length-take, length-drop) (omega arith)

module _ (next verdicts : List ℕ) (states hopes asks e n m from : ℕ) (b seen kept reports : List ℕ) (fresh : Bool)
    (u : Writable next states hopes asks e n m from b seen kept reports fresh) where
  abbrev told : List Kept
  told = reports_after width (step_of next) e b (seen_rows n seen) (state_in asks) (kept_rows m kept)

  told_is : reports_after width (step_of next) e b (seen_rows n seen) (state_in asks) (kept_from m kept 0) ≡ told
  told_is = ap (reports_after width (step_of next) e b (seen_rows n seen) (state_in asks)) (kept_rows_lem m kept)

  -- reports fit, unless there are none
  told_fits : (from + length told * kept_stride ≤ length reports) ⊎ (length told ≡ 0)
  unfolding report_room
  told_fits =
      let r = u.tells in
      let d : length (drop from reports) ≡ length reports - from = length-drop from reports in
      let q : length told ≤ (length reports - from) / report_stride = rw d at r in
      elim (dec_lt from (length reports)) [ yes h ↦ inl (omega arith) | no h ↦ inr (omega arith) ]

  pub write_ready : Ready next states e n m b seen kept fresh
  write_ready = record {
    moves = u.keeps.steady.moves;
    binds = record { table = u.keeps.steady.table; wide = u.keeps.wide; new = u.keeps.new };
    rows = u.keeps.steady.rows;
  }

  pub reports-written : (t' : List ℕ) (r : ℕ) → from + length told * kept_stride ≤ length reports → length t' ≡ length reports → Reported next verdicts asks e n m from b seen kept reports t' r
      → t' ≡ (written_by verdicts from (record { seen_count = n; kept_count = m; seen = seen; kept = kept }) reports (outcome_by next hopes asks (seen_rows n seen) (kept_rows m kept) e b)).reports
  unfolding written_by outcome_by
  reports-written t' r h l v =
      let rows : kept_from r t' from ≡ list.map (report_of verdicts) told = v.rows ∙ ap (list.map (report_of verdicts)) told_is in
      let c : r ≡ length told = sym (length-kept_from r t' from) ∙ ap length rows ∙ length-map told (report_of verdicts) in
      let i : from + r * kept_stride ≤ length t' = omega arith in
      let k = report_length verdicts r t' from told rows i in
      report_table from r reports t' (list.map (report_of verdicts) told) (omega arith) l rows v.low v.high
      ∙ rw (report_numbers_lem verdicts told, k, append_assoc (take from reports) (joined_up (list.map (report_numbers_by verdicts) told)) (drop (from + r * kept_stride) reports))

  pub reports_none : length told ≡ 0
      → reports ≡ (written_by verdicts from (record { seen_count = n; kept_count = m; seen = seen; kept = kept }) reports (outcome_by next hopes asks (seen_rows n seen) (kept_rows m kept) e b)).reports
  unfolding written_by outcome_by joined_up
  reports_none h =
      let q : told ≡ [] = empty told h in
      let z : from + 0 ≡ from = omega arith in
      rw (q, z, list.append-nil) (sym (take-append-drop from reports))
    where
      empty : (l : List Kept) → length l ≡ 0 → l ≡ []
      empty [] e = refl
      empty (x ∷ l) e = absurd (omega arith)

-- The outcome written down ---------------------------------------------------------------------------------------------

module _ (next verdicts : List ℕ) (states hopes asks e n m from : ℕ) (b seen kept reports : List ℕ) (o : Foreseen)
    (u : Tellable next states hopes asks e n m from b seen kept reports o) where
  pub tells_none : o.reported ≡ 0 → Tells next verdicts hopes asks e n m from b seen kept reports reports
  tells_none h = record { told = reports_none next verdicts states hopes asks e n m from b seen kept reports o.fresh u.writes (sym u.tells ∙ h) }

  some_room : (o.reported ≡ 0 → ⊥) → from + length (told next verdicts states hopes asks e n m from b seen kept reports o.fresh u.writes) * kept_stride ≤ length reports
  some_room h = elim (told_fits next verdicts states hopes asks e n m from b seen kept reports o.fresh u.writes) [
    | inl q ↦ q
    | inr q ↦ absurd (h (u.tells ∙ q))
  ]

  pub tells_reportable : (o.reported ≡ 0 → ⊥) → Reportable next states asks e n m from b seen kept reports o.fresh
  tells_reportable h = record {
    ready = write_ready next verdicts states hopes asks e n m from b seen kept reports o.fresh u.writes;
    room =
        let q = ap length (told_is next verdicts states hopes asks e n m from b seen kept reports o.fresh u.writes) in
        let r = some_room h in
        omega arith;
  }

  pub tells-some : (t' : List ℕ) (r : ℕ) → (o.reported ≡ 0 → ⊥) → length t' ≡ length reports → Reported next verdicts asks e n m from b seen kept reports t' r
      → Tells next verdicts hopes asks e n m from b seen kept reports t'
  tells-some t' r h l v = record { told = reports-written next verdicts states hopes asks e n m from b seen kept reports o.fresh u.writes t' r (some_room h) l v }
