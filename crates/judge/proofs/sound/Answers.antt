-- `judge::sound` meets its contract: the two tables by themselves, then each kept row against the seen rows.
-- Assumes nothing.
use Rattle.judge.specs.SoundLaws.{seen_in_order, kept_inside, sound_seen, sound_kept, sound-rows}
use borrow.Author.Rules.{rules}
use Rattle.judge.proofs.sound.Goals as goal

pub returns-then-not-seen_stands : goal.returns-then-not-seen_stands
returns-then-not-seen_stands c = search (rules, sound_seen)

pub invariant_of-seen : goal.invariant_of-seen
invariant_of-seen c = search (rules, seen_in_order)

pub rows_rightly_kept-requires : goal.rows_rightly_kept-requires
rows_rightly_kept-requires c = search (rules, kept_inside)

pub returns-then-kept_stands : goal.returns-then-kept_stands
returns-then-kept_stands c = search (rules, sound-rows)

pub returns-else-kept_stands : goal.returns-else-kept_stands
returns-else-kept_stands c = search (rules, sound_kept)
