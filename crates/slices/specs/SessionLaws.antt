-- The lent tables with rows in them: their rows are those rows, their rooms are as before, the room past the rows is 0, and
-- rows put in later are put in as if they had come first.
-- Assumes nothing.
use Rattle.std.specs.Prelude.{ℕ, ◌-◌, ◌*◌, ◌≤◌, ◌≡◌, true}
use Rattle.std.proofs.Math.Path.{ap}
use Rattle.std.proofs.Common.{◌∙◌, arith}
use mathlib.Core.List.{List, ◌++◌}
use mathlib.Core.List as list
use Rattle.std.proofs.Math.ListN.{length, drop}
use Rattle.std.proofs.lemmas.List.{length-map}
use Rattle.document.specs.Lists.{tabulate, joined_up}
use Rattle.document.specs.Limits.{width, seen_stride, kept_stride}
use Rattle.document.specs.OneEvent.{Kept}
use Rattle.document.specs.Tables.{numbers_at, seen_room, kept_room, seen_rows, kept_rows, kept_numbers, seen_table, kept_table}
use Rattle.document.specs.Session.{Session, seen_of, kept_of, session_with, zero_between}
use Rattle.slices.specs.ListsLaws.{in_map}
use Rattle.slices.specs.JoinSeenLaws.{OfWidth}
use Rattle.slices.specs.TablesLaws.{zeros, rows_back, kept_at, KeptWidth, length-kept_numbers, kept_back, length-joined_up, length-filled, filled_front, filled_again, zero_between-filled}

-- rows of the width, and no more than there is room for
pub record Fits (s : Session) (seen : List (List ℕ)) (kept : List Kept) : Type 0 where
  pub seen_width : OfWidth width seen
  pub kept_width : KeptWidth width kept
  pub seen_rows : length seen ≤ seen_room s.seen
  pub kept_rows : length kept ≤ kept_room s.kept

-- a table holds its room
pub seen_room-holds : (t : List ℕ) → seen_room t * seen_stride ≤ length t
unfolding seen_room
seen_room-holds t = omega arith

pub kept_room-holds : (t : List ℕ) → kept_room t * kept_stride ≤ length t
unfolding kept_room
kept_room-holds t = omega arith

seen_room_same : (t u : List ℕ) → length t ≡ length u → seen_room t ≡ seen_room u
unfolding seen_room
seen_room_same t u e = rw e

kept_room_same : (t u : List ℕ) → length t ≡ length u → kept_room t ≡ kept_room u
unfolding kept_room
kept_room_same t u e = rw e

-- a kept row's numbers
abbrev kept_row_numbers : List Kept → List ℕ
kept_row_numbers kept = joined_up (list.map kept_numbers kept)

length-kept_row_numbers : (kept : List Kept) → KeptWidth width kept → length (kept_row_numbers kept) ≡ length kept * kept_stride
length-kept_row_numbers kept o =
    length-joined_up kept_stride (list.map kept_numbers kept) (λ x i.
    let m = (in_map kept_numbers kept x).0 i in
    rw m.is (length-kept_numbers width m.of (o m.of m.member)))
    ∙ rw (length-map kept kept_numbers)

module _ (s : Session) (seen : List (List ℕ)) (kept : List Kept) (f : Fits s seen kept) where
  -- the numbers of each room
  abbrev seen_size : ℕ
  seen_size = seen_room s.seen * seen_stride

  abbrev kept_size : ℕ
  kept_size = kept_room s.kept * kept_stride

  -- the same tables with the rows in them
  abbrev table : Session
  table = session_with s seen kept

  seen_fit : length (joined_up seen) ≤ seen_size
  seen_fit = let q = length-joined_up width seen f.seen_width in let h = f.seen_rows in omega arith

  kept_fit : length (kept_row_numbers kept) ≤ kept_size
  kept_fit = let q = length-kept_row_numbers kept f.kept_width in let h = f.kept_rows in omega arith

  pub seen_of_with : seen_of table ≡ seen
  unfolding seen_of session_with seen_rows seen_table
  seen_of_with =
      ap (λ (t : List ℕ). tabulate (length seen) (λ i. numbers_at width t (i * seen_stride)))
      (filled_front seen_size (joined_up seen) s.seen)
      ∙ rows_back width seen (zeros (seen_size - length (joined_up seen)) ++ drop seen_size s.seen) f.seen_width

  pub kept_of_with : kept_of table ≡ kept
  unfolding kept_of session_with kept_rows kept_table
  kept_of_with =
      ap (λ (t : List ℕ). tabulate (length kept) (λ i. kept_at width t (i * kept_stride)))
      (filled_front kept_size (kept_row_numbers kept) s.kept)
      ∙ kept_back width kept (zeros (kept_size - length (kept_row_numbers kept)) ++ drop kept_size s.kept) f.kept_width

  pub seen_room_with : seen_room table.seen ≡ seen_room s.seen
  unfolding session_with seen_table
  seen_room_with =
      seen_room_same (seen_table seen s.seen) s.seen
      (length-filled seen_size (joined_up seen) s.seen seen_fit (seen_room-holds s.seen))

  pub kept_room_with : kept_room table.kept ≡ kept_room s.kept
  unfolding session_with kept_table
  kept_room_with =
      kept_room_same (kept_table kept s.kept) s.kept
      (length-filled kept_size (kept_row_numbers kept) s.kept kept_fit (kept_room-holds s.kept))

  -- the tables stay as long as they were
  pub seen_length_with : length table.seen ≡ length s.seen
  unfolding session_with seen_table
  seen_length_with = length-filled seen_size (joined_up seen) s.seen seen_fit (seen_room-holds s.seen)

  pub kept_length_with : length table.kept ≡ length s.kept
  unfolding session_with kept_table
  kept_length_with = length-filled kept_size (kept_row_numbers kept) s.kept kept_fit (kept_room-holds s.kept)

  -- rows put in later
  pub with_again : (seen' : List (List ℕ)) (kept' : List Kept) → session_with table seen' kept' ≡ session_with s seen' kept'
  unfolding session_with seen_table kept_table
  with_again seen' kept' =
      let a : seen_table seen' (seen_table seen s.seen) ≡ seen_table seen' s.seen =
      rw seen_room_with (filled_again seen_size (joined_up seen) s.seen seen_fit (seen_room-holds s.seen) (joined_up seen')) in
      let b : kept_table kept' (kept_table kept s.kept) ≡ kept_table kept' s.kept =
      rw kept_room_with
      (filled_again kept_size (kept_row_numbers kept) s.kept kept_fit (kept_room-holds s.kept) (kept_row_numbers kept')) in
      λ i. record { seen_count = length seen'; kept_count = length kept'; seen = a i; kept = b i }

  pub seen_zero_lem : zero_between (table.seen_count * seen_stride) (seen_room table.seen * seen_stride) table.seen ≡ true
  unfolding session_with seen_table
  seen_zero_lem =
      rw (seen_room_with, ← length-joined_up width seen f.seen_width)
      (zero_between-filled seen_size (joined_up seen) s.seen seen_fit (seen_room-holds s.seen))

  pub kept_zero_lem : zero_between (table.kept_count * kept_stride) (kept_room table.kept * kept_stride) table.kept ≡ true
  unfolding session_with kept_table
  kept_zero_lem =
      rw (kept_room_with, ← length-kept_row_numbers kept f.kept_width)
      (zero_between-filled kept_size (kept_row_numbers kept) s.kept kept_fit (kept_room-holds s.kept))
