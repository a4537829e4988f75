-- Lent tables whose counts are within their rooms and whose rooms are 0 past their rows are those rows put into them.
-- Assumes nothing.
use Rattle.std.specs.Prelude.{ℕ, ◌*◌, ◌≤◌, ◌≡◌, true, length}
use Rattle.std.proofs.Math.Path.{sym, ap}
use Rattle.std.proofs.Common.{◌∙◌, arith}
use mathlib.Core.List.{List}
use Rattle.document.specs.Limits.{width, seen_stride, kept_stride}
use Rattle.document.specs.Tables.{numbers_at, seen_room, kept_room, seen_rows, kept_rows, seen_table, kept_table, filled}
use Rattle.document.specs.Session.{Session, seen_of, kept_of, session_with, zero_between}
use Rattle.basics.specs.Lists.{length-tabulate}
use Rattle.slices.specs.ListsLaws.{tabulate_all}
use Rattle.slices.specs.JoinSeenLaws.{OfWidth}
use Rattle.slices.specs.TablesLaws.{kept_at, KeptWidth}
use Rattle.slices.specs.TablesBackLaws.{length-numbers_at, joined_up-rows, joined_up_kept, filled_back}
use Rattle.slices.specs.SessionLaws.{Fits, seen_room-holds, kept_room-holds}

-- as many rows as are counted, each of the width
pub length-seen_of : (s : Session) → length (seen_of s) ≡ s.seen_count
unfolding seen_of seen_rows
length-seen_of s = length-tabulate s.seen_count (λ i. numbers_at width s.seen (i * seen_stride))

pub length-kept_of : (s : Session) → length (kept_of s) ≡ s.kept_count
unfolding kept_of kept_rows
length-kept_of s = length-tabulate s.kept_count (λ i. kept_at width s.kept (i * kept_stride))

pub seen_of-width : (s : Session) → OfWidth width (seen_of s)
unfolding seen_of seen_rows
seen_of-width s =
    tabulate_all s.seen_count (λ i. numbers_at width s.seen (i * seen_stride)) (λ b. length b ≡ width)
    (λ i. length-numbers_at width s.seen (i * seen_stride))

pub kept_of-width : (s : Session) → KeptWidth width (kept_of s)
unfolding kept_of kept_rows
kept_of-width s =
    tabulate_all s.kept_count (λ i. kept_at width s.kept (i * kept_stride)) (λ k. length k.combination ≡ width)
    (λ i. length-numbers_at width s.kept (i * kept_stride))

-- counts within their rooms, and nothing in the rooms past the rows
pub record Bounded (s : Session) : Type 0 where
  pub seen_count : s.seen_count ≤ seen_room s.seen
  pub kept_count : s.kept_count ≤ kept_room s.kept
  pub seen_zero : zero_between (s.seen_count * seen_stride) (seen_room s.seen * seen_stride) s.seen ≡ true
  pub kept_zero : zero_between (s.kept_count * kept_stride) (kept_room s.kept * kept_stride) s.kept ≡ true

module _ (s : Session) (h : Bounded s) where
  pub fits_back : Fits s (seen_of s) (kept_of s)
  fits_back = record {
    seen_width = seen_of-width s;
    kept_width = kept_of-width s;
    seen_rows = rw (length-seen_of s) h.seen_count;
    kept_rows = rw (length-kept_of s) h.kept_count;
  }

  seen_back : seen_table (seen_of s) s.seen ≡ s.seen
  unfolding seen_table seen_of seen_rows
  seen_back =
      let size = seen_room s.seen * seen_stride in
      let held = seen_room-holds s.seen in
      let count = h.seen_count in
      ap (λ (l : List ℕ). filled size l s.seen) (joined_up-rows width s.seen_count s.seen (omega arith))
      ∙ filled_back size (s.seen_count * seen_stride) s.seen (omega arith) held h.seen_zero

  kept_back : kept_table (kept_of s) s.kept ≡ s.kept
  unfolding kept_table kept_of kept_rows
  kept_back =
      let size = kept_room s.kept * kept_stride in
      let held = kept_room-holds s.kept in
      let count = h.kept_count in
      ap (λ (l : List ℕ). filled size l s.kept) (joined_up_kept width s.kept_count s.kept (omega arith))
      ∙ filled_back size (s.kept_count * kept_stride) s.kept (omega arith) held h.kept_zero

  pub tables_back : s ≡ session_with s (seen_of s) (kept_of s)
  unfolding session_with
  tables_back = λ i. record {
    seen_count = sym (length-seen_of s) i;
    kept_count = sym (length-kept_of s) i;
    seen = sym seen_back i;
    kept = sym kept_back i;
  }
