-- The room of a table, by which of the two is smaller.
-- Assumes nothing.
use Rattle.std.specs.Prelude.{ℕ, ◌/◌, ◌<◌, ◌≤◌, ◌≡◌, List, length}
use Rattle.std.proofs.Common.{sym, arith}
use Rattle.std.proofs.Math.Nat.{min-eq_left, min-eq_right}
use Rattle.document.specs.Limits.{most_seen, most_kept, seen_stride, kept_stride}
use Rattle.document.specs.Tables.{seen_room, kept_room}

pub seen_room_limit : (t : List ℕ) → most_seen ≤ length t / seen_stride → most_seen ≡ seen_room t
unfolding seen_room
seen_room_limit t h = sym (min-eq_left h)

pub seen_room_lent : (t : List ℕ) → length t / seen_stride < most_seen → length t / seen_stride ≡ seen_room t
unfolding seen_room
seen_room_lent t h = sym (min-eq_right (omega arith))

pub kept_room_limit : (t : List ℕ) → most_kept ≤ length t / kept_stride → most_kept ≡ kept_room t
unfolding kept_room
kept_room_limit t h = sym (min-eq_left h)

pub kept_room_lent : (t : List ℕ) → length t / kept_stride < most_kept → length t / kept_stride ≡ kept_room t
unfolding kept_room
kept_room_lent t h = sym (min-eq_right (omega arith))
