-- Kept rows that are each the join of the seen bindings they include, and one event: where a row can move, and that what is kept
-- after the event is again such rows. No history is spoken of. Any width w, transitions and tests.
-- Assumes nothing.
use Rattle.std.specs.Prelude.{ℕ, ◌≡◌, Bool, List}
use Rattle.std.proofs.Common.{sym, ◌∙◌, inl, inr}
use Rattle.std.proofs.Math.Path.{ap}
use Rattle.std.proofs.Math.Bool.{true}
use Rattle.std.proofs.Math.ListN.{length}
use Rattle.document.specs.Lists.{In}
use Rattle.document.specs.Combinations.{includes, join}
use Rattle.document.specs.OneEvent.{Kept, join_seen, see, moved_from, moved, kept_after, reports_after}
use Rattle.slices.specs.TestsLaws.{true_of}
use Rattle.slices.specs.CombinationsLaws.{join_includes_left, length-join}
use Rattle.slices.specs.JoinSeenLaws.{OfWidth, length-join_seen}
use Rattle.slices.specs.SeeLaws.{join_seen-see_in, join_seen-see_out}
use Rattle.slices.specs.MovesLaws.{moves_of, in_moved, reports_after_members, kept_after_members}
use Rattle.slices.specs.TablesLaws.{KeptWidth}

-- each row is the join of the seen bindings that it includes
abbrev pub Joins : ℕ → List (List ℕ) → List Kept → Type 0
Joins w seen kept = (k : Kept) → In k kept → join_seen w k.combination seen ≡ k.combination

-- so it has their width
pub joins_width : (w : ℕ) (seen : List (List ℕ)) (kept : List Kept) → OfWidth w seen → Joins w seen kept → KeptWidth w kept
joins_width w seen kept o j k i = ap length (sym (j k i)) ∙ length-join_seen w k.combination seen o

module _ (w : ℕ) (step : ℕ → ℕ → ℕ) (e : ℕ) (b : List ℕ) (seen : List (List ℕ)) (kept : List Kept)
    (width : length b ≡ w) (widths : OfWidth w seen) (joins : Joins w seen kept) where
  pub moved-width : KeptWidth w (moved w step e b seen kept)
  unfolding moved_from
  moved-width r i =
      let c = (in_moved w step e b seen kept r).0 i in
      rw c.is (length-join w b c.row.combination width (joins_width w seen kept widths joins c.row c.member))

  pub reports_after-width : (reported : Kept → Bool) → KeptWidth w (reports_after w step e b seen reported kept)
  reports_after-width reported r i = moved-width r ((reports_after_members w step e b seen kept reported r).0 i).0

  pub kept_after-width : (keeps : Kept → Bool) → KeptWidth w (kept_after w step e b seen keeps kept)
  kept_after-width keeps r i =
      elim ((kept_after_members w step e b seen kept keeps r).0 i) [
        | inl f ↦ moved-width r f.0
        | inr f ↦ joins_width w seen kept widths joins r f.0
      ]

  -- a row that moved to c came from the join of the seen bindings that c includes, so with b seen that join is c
  pub moved_joins : Joins w (see w b seen) (moved w step e b seen kept)
  unfolding moved_from
  moved_joins r i =
      let m = (in_moved w step e b seen kept r).0 i in
      let k = m.row.combination in
      let c = join b k in
      let f = moves_of w step e b seen m.row m.moves in
      let oc : length c ≡ w = length-join w b k width (joins_width w seen kept widths joins m.row m.member) in
      let t : includes c b ≡ true = true_of (includes c b) (join_includes_left b k f.0) in
      rw m.is (join_seen-see_in w b seen width widths c oc t ∙ ap (join b) f.1)

  pub kept_after_joins : (keeps : Kept → Bool) → Joins w (see w b seen) (kept_after w step e b seen keeps kept)
  kept_after_joins keeps r i =
      elim ((kept_after_members w step e b seen kept keeps r).0 i) [
        | inl f ↦ moved_joins r f.0
        | inr f ↦
            join_seen-see_out w b seen width widths r.combination (joins_width w seen kept widths joins r f.0) f.1
            ∙ joins r f.0
      ]
