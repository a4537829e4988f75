-- `classes::class_of` meets its contract: the rule by ranges is a test at each entry of the table, which antt computes.
-- Assumes nothing.
use mathlib.Core.List.{List, [], ◌∷◌}
use mathlib.Core.Bool.{Bool}
use mathlib.Core.Path.{◌≡◌}
use Prim.Native.Nat.{ℕ, ◌<◌}
use lib.Dec.{eqb, eqb→eq}
use lib.ListN.{get_or}
use Rattle.document.specs.Classes.{class_of}
use Rattle.classes.specs.declared.Class.{Class}
use Rattle.classes.specs.declared.Class.TheVariants.{Letter, Digit, Underscore, Blank, Opening, Closing, Colon, Bar, Star, Plus, AtSign, Other}
use Rattle.classes.specs.Numbers.{number}
use Rattle.classes.proofs.Table.{at}
use Rattle.classes.proofs.class_of.Goals as goal

classes : List Class
classes = Other ∷ Other ∷ Other ∷ Other ∷ Other ∷ Other ∷ Other ∷ Other ∷ Other ∷ Blank ∷ Blank ∷ Other ∷ Other ∷ Blank ∷ Other ∷ Other ∷ Other ∷ Other ∷ Other ∷ Other ∷ Other ∷ Other ∷ Other ∷ Other ∷ Other ∷ Other ∷ Other ∷ Other ∷ Other ∷ Other ∷ Other ∷ Other ∷ Blank ∷ Other ∷ Other ∷ Other ∷ Other ∷ Other ∷ Other ∷ Other ∷ Opening ∷ Closing ∷ Star ∷ Plus ∷ Other ∷ Other ∷ Other ∷ Other ∷ Digit ∷ Digit ∷ Digit ∷ Digit ∷ Digit ∷ Digit ∷ Digit ∷ Digit ∷ Digit ∷ Digit ∷ Colon ∷ Other ∷ Other ∷ Other ∷ Other ∷ Other ∷ AtSign ∷ Letter ∷ Letter ∷ Letter ∷ Letter ∷ Letter ∷ Letter ∷ Letter ∷ Letter ∷ Letter ∷ Letter ∷ Letter ∷ Letter ∷ Letter ∷ Letter ∷ Letter ∷ Letter ∷ Letter ∷ Letter ∷ Letter ∷ Letter ∷ Letter ∷ Letter ∷ Letter ∷ Letter ∷ Letter ∷ Letter ∷ Other ∷ Other ∷ Other ∷ Other ∷ Underscore ∷ Other ∷ Letter ∷ Letter ∷ Letter ∷ Letter ∷ Letter ∷ Letter ∷ Letter ∷ Letter ∷ Letter ∷ Letter ∷ Letter ∷ Letter ∷ Letter ∷ Letter ∷ Letter ∷ Letter ∷ Letter ∷ Letter ∷ Letter ∷ Letter ∷ Letter ∷ Letter ∷ Letter ∷ Letter ∷ Letter ∷ Letter ∷ Other ∷ Bar ∷ Other ∷ Other ∷ Other ∷ Other ∷ Other ∷ Other ∷ Other ∷ Other ∷ Other ∷ Other ∷ Other ∷ Other ∷ Other ∷ Other ∷ Other ∷ Other ∷ Other ∷ Other ∷ Other ∷ Other ∷ Other ∷ Other ∷ Other ∷ Other ∷ Other ∷ Other ∷ Other ∷ Other ∷ Other ∷ Other ∷ Other ∷ Other ∷ Other ∷ Other ∷ Other ∷ Other ∷ Other ∷ Other ∷ Other ∷ Other ∷ Other ∷ Other ∷ Other ∷ Other ∷ Other ∷ Other ∷ Other ∷ Other ∷ Other ∷ Other ∷ Other ∷ Other ∷ Other ∷ Other ∷ Other ∷ Other ∷ Other ∷ Other ∷ Other ∷ Other ∷ Other ∷ Other ∷ Other ∷ Other ∷ Other ∷ Other ∷ Other ∷ Other ∷ Other ∷ Other ∷ Other ∷ Other ∷ Other ∷ Other ∷ Other ∷ Other ∷ Other ∷ Other ∷ Other ∷ Other ∷ Other ∷ Other ∷ Other ∷ Other ∷ Other ∷ Other ∷ Other ∷ Other ∷ Other ∷ Other ∷ Other ∷ Other ∷ Other ∷ Other ∷ Other ∷ Other ∷ Other ∷ Other ∷ Other ∷ Other ∷ Other ∷ Other ∷ Other ∷ Other ∷ Other ∷ Other ∷ Other ∷ Other ∷ Other ∷ Other ∷ Other ∷ Other ∷ Other ∷ Other ∷ Other ∷ Other ∷ Other ∷ Other ∷ Other ∷ Other ∷ Other ∷ Other ∷ Other ∷ Other ∷ Other ∷ Other ∷ Other ∷ Other ∷ Other ∷ Other ∷ Other ∷ []

right : ℕ → Class → Bool
right k x = eqb (number x) (class_of k)

entry : (k : ℕ) → k < 256 → number (get_or classes k Letter) ≡ class_of k
unfolding classes right class_of
entry k h = eqb→eq (number (get_or classes k Letter)) (class_of k) (at right classes Letter tt k h)

pub returns : goal.returns
unfolding classes
returns c = rw c.from.ensures (entry c.args.b c.ranges.b.fits)
