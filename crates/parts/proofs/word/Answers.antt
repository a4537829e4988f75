-- `parts::word` meets its contract: `epsilon`, an undeclared name, one too many, a name.
-- Assumes nothing.
use Rattle.parts.specs.Parts.{events_of}
use Rattle.parts.specs.AtomsLaws.{events_length, word_epsilon, word_undeclared, word_many, word_taken}
use Rattle.parts.proofs.word.Goals as goal

pub returns-then-eq : goal.returns-then-eq
returns-then-eq c = λ depth.
    word_epsilon (events_of c.args.source.now) _ _ _ depth c.requires.0 _ c.requires.1.0 c.requires.1.1 _ c.eq.ensures _ c.if-eq.true c.empty.ensures

pub returns-in_default : goal.returns-in_default
returns-in_default c = λ depth.
    word_undeclared (events_of c.args.source.now) _ _ _ depth c.requires.0 _ c.requires.1.0 c.requires.1.1 _ c.eq.ensures c.if-eq.false _ (events_length c.args.source.now)
    _ c.in_default.ensures c.refused_at.ensures

pub returns-then-names-ge-MOST_NAMES : goal.returns-then-names-ge-MOST_NAMES
returns-then-names-ge-MOST_NAMES c = λ depth.
    word_many (events_of c.args.source.now) _ _ _ depth c.requires.0 _ c.requires.1.0 c.requires.1.1 _ c.eq.ensures c.if-eq.false _ (events_length c.args.source.now)
    _ c.in-Some.ensures _ c.if-names-ge-MOST_NAMES.true c.refused_at-then-names-ge-MOST_NAMES.ensures

pub returns : goal.returns
returns c = λ depth.
    word_taken (events_of c.args.source.now) _ _ _ depth c.requires.0 _ c.requires.1.0 c.requires.1.1 _ c.eq.ensures c.if-eq.false _ (events_length c.args.source.now)
    _ c.in-Some.ensures _ c.if-names-ge-MOST_NAMES.false c.leaf.ensures
