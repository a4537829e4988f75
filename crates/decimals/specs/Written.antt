-- What writing bytes into a lent text leaves.
-- Assumes nothing.
use Rattle.std.specs.Prelude.{ℕ, ◌+◌, ◌≤◌, ◌≡◌, List, ◌++◌, length, take, drop}

-- the bytes stand in the text from a place on, and all else is as it was; the next byte goes where they end. They are not
-- more than `most`, so that one who knows only that knows what room they ask.
pub record Written (at most : ℕ) (bytes before after : List ℕ) (next : ℕ) : Type 0 where
  pub text : after ≡ take at before ++ bytes ++ drop (at + length bytes) before
  pub ends : next ≡ at + length bytes
  pub fits : at + length bytes ≤ length before
  pub few : length bytes ≤ most
