-- Document 01, "One event": the step over seen and kept, without rooms. Tables are lists of rows here.
-- Which moved combinations are kept and which are reported are tests that the caller of these definitions gives.
-- Assumes nothing.
use Rattle.std.specs.Prelude.{ℕ, Bool, true, false, not, cond, ◌&&◌, ◌||◌, List, [], ◌∷◌, ◌++◌}
use mathlib.Core.List as list
use Rattle.document.specs.Lists.{keep_if, equal, among}
use Rattle.document.specs.Combinations.{empty_of, includes, compatible, join, precedes}

-- a combination and its state
pub record Kept : Type 0 where
  pub combination : List ℕ
  pub state : ℕ

-- "the join of all seen bindings that c includes", of width w
unfoldable pub join_seen : ℕ → List ℕ → List (List ℕ) → List ℕ
join_seen w c [] = empty_of w
join_seen w c (b ∷ seen) = let rest = join_seen w c seen in cond (includes c b) (join b rest) rest

-- rows in the order of combinations, and bindings likewise: one more, put where it belongs
unfoldable pub insert_kept : Kept → List Kept → List Kept
insert_kept r [] = r ∷ []
insert_kept r (x ∷ l) = elim (precedes x.combination r.combination) [ true ↦ x ∷ insert_kept r l | false ↦ r ∷ x ∷ l ]

unfoldable pub in_order : List Kept → List Kept
in_order [] = []
in_order (r ∷ l) = insert_kept r (in_order l)

unfoldable pub insert_seen : List ℕ → List (List ℕ) → List (List ℕ)
insert_seen b [] = b ∷ []
insert_seen b (x ∷ l) = elim (precedes x b) [ true ↦ x ∷ insert_seen b l | false ↦ b ∷ x ∷ l ]

-- "Then b is seen", in order; "the empty binding is not held", and none twice
unfoldable pub see : ℕ → List ℕ → List (List ℕ) → List (List ℕ)
see w b seen = cond (equal b (empty_of w) || among b seen) seen (insert_seen b seen)

-- w the width, step the transitions, e the event and b its binding, seen and kept before the event
module _ (w : ℕ) (step : ℕ → ℕ → ℕ) (e : ℕ) (b : List ℕ) (seen : List (List ℕ)) where
  -- "consider each kept k compatible with b, and c, the join of b and k. If the join of all seen bindings that c includes,
  -- before this event, is exactly k, then c moves"
  unfoldable pub moves : Kept → Bool
  moves k = compatible b k.combination && equal (join_seen w (join b k.combination) seen) k.combination

  -- "c moves from k's state by the event"
  unfoldable pub moved_from : Kept → Kept
  moved_from k = record { combination = join b k.combination; state = step k.state e }

  unfoldable pub moved : List Kept → List Kept
  moved kept = list.map moved_from (keep_if moves kept)

  -- "Only such a c is .. kept if its new state is hopeful. Kept rows that don't include b stay."
  unfoldable pub kept_after : (Kept → Bool) → List Kept → List Kept
  kept_after keeps kept = in_order (keep_if keeps (moved kept) ++ keep_if (λ k. not (includes k.combination b)) kept)

  -- "Only such a c is reported if its new verdict is asked for", "in order"
  unfoldable pub reports_after : (Kept → Bool) → List Kept → List Kept
  reports_after reported kept = in_order (keep_if reported (moved kept))
