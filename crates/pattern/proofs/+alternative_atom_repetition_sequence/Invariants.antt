-- What falls as the four readers call each other: four times what is left of the text and the reader's kind, an alternative 3, a
-- sequence 2, a repetition 1, an atom 0.
use Rattle.std.proofs.Common.{◌+◌, ◌-◌, ◌*◌, length}
use Rattle.pattern.proofs.+alternative_atom_repetition_sequence.Given as goal

abbrev pub decreases-alternative : goal.decreases-alternative
decreases-alternative l = (length l.source.now.text.now - l.at) * 4 + 3

abbrev pub decreases-atom : goal.decreases-atom
decreases-atom l = (length l.source.now.text.now - l.at) * 4

abbrev pub decreases-repetition : goal.decreases-repetition
decreases-repetition l = (length l.source.now.text.now - l.at) * 4 + 1

abbrev pub decreases-sequence : goal.decreases-sequence
decreases-sequence l = (length l.source.now.text.now - l.at) * 4 + 2
