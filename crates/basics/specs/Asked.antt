-- Document 01, "The pattern text": what a text asks for is match, fail or both: 1, 2 or 3.
-- Assumes nothing.
use Rattle.std.specs.Prelude.{ℕ, ◌≤◌, List}
use Rattle.std.proofs.Common.{arith}
use Rattle.document.specs.Tokens.{Token}
use Rattle.document.specs.Grammar.{Asks, just_match, just_fail, match-fail, fail-match}

pub asks_some : {ts : List Token} {a : ℕ} → Asks ts a → 1 ≤ a
asks_some just_match = omega arith
asks_some just_fail = omega arith
asks_some match-fail = omega arith
asks_some fail-match = omega arith

pub asks_few : {ts : List Token} {a : ℕ} → Asks ts a → a ≤ 3
asks_few just_match = omega arith
asks_few just_fail = omega arith
asks_few match-fail = omega arith
asks_few fail-match = omega arith
