-- Document 01, "The table": the verdicts of the states, and the table as the code holds it.
-- Assumes nothing.
use Rattle.std.specs.Prelude.{ℕ, ◌≡◌, Bool, cond, not, ◌&&◌, ◌||◌, List, length, get_or, eqb, ltb, Option, None, Some}
use mathlib.Core.List as list
use Rattle.std.specs.Int.Bits.{bit_and}
use Rattle.document.specs.Lists.{tabulate}
use Rattle.document.specs.Limits.{most_states}
use Rattle.document.specs.Patterns.{Pattern, match, fail, undecided}
use Rattle.document.specs.Positions.{holds, verdict_of}
use Rattle.document.specs.States.{Found, states_of}
use Rattle.sets.specs.declared.Shape.{Shape}
use Rattle.sets.specs.Shapes.{shape_of}
use Rattle.states.specs.declared.Table.{Table}
use Rattle.growing.specs.Growing.{transitions}

-- a reading that ends a word can have stopped at a number of the set s
abbrev pub ends_from : Bool → ℕ → ℕ → Bool
ends_from null last s = (holds s 0 && null) || not (eqb (bit_and s last) 0)

-- the verdict of the set s
unfoldable pub verdict_from : Bool → ℕ → ℕ → ℕ
verdict_from null last s = cond (ends_from null last s) match (cond (eqb s 0) fail undecided)

unfoldable pub verdicts_from : Bool → ℕ → ℕ → List ℕ → List ℕ
verdicts_from null last n sets = tabulate most_states (λ s. cond (ltb s n) (verdict_from null last (get_or sets s 0)) 0)

-- the table of the states found, as the property table has it; none if they are too many
unfoldable pub table_of : Pattern → Found → Option Table
table_of p g = cond (ltb most_states (length g.sets)) None (Some (record {
  states = length g.sets;
  next = transitions g;
  verdicts = tabulate most_states (λ s. get_or (list.map (verdict_of p) g.sets) s 0);
}))

-- the answer is the table of any pattern that has the shape
pub record Tabled (shape : Shape) (m base : ℕ) (r : Option Table) : Type 0 where
  pub says : (p : Pattern) (anew : Bool) → shape ≡ shape_of p → base ≡ cond anew 1 0 → r ≡ table_of p (states_of anew p m)
