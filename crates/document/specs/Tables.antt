-- Document 01, "One event": the lent tables as numbers. Rows stand one after another; room is whole rows, and never more
-- than the limit.
-- Assumes nothing.
use Rattle.std.specs.Prelude.{ℕ, zero, suc, ◌+◌, ◌-◌, ◌*◌, ◌/◌, min, List, [], ◌∷◌, ◌++◌, length, get_or, drop, replicate}
use mathlib.Core.List as list
use Rattle.document.specs.Lists.{tabulate, joined_up}
use Rattle.document.specs.Limits.{width, most_seen, most_kept, seen_stride, kept_stride, report_stride}
use Rattle.document.specs.OneEvent.{Kept}

-- n numbers of a table from a place on; 0 past its end
unfoldable pub numbers_at : ℕ → List ℕ → ℕ → List ℕ
numbers_at zero t at = []
numbers_at (suc n) t at = get_or t at 0 ∷ numbers_at n t (at + 1)

-- "Room is the smaller of that limit and the whole rows lent; for reports, the whole rows lent"
unfoldable pub seen_room : List ℕ → ℕ
seen_room t = min most_seen (length t / seen_stride)

unfoldable pub kept_room : List ℕ → ℕ
kept_room t = min most_kept (length t / kept_stride)

unfoldable pub report_room : List ℕ → ℕ
report_room t = length t / report_stride

-- the first n rows
unfoldable pub seen_rows : ℕ → List ℕ → List (List ℕ)
seen_rows n t = tabulate n (λ i. numbers_at width t (i * seen_stride))

unfoldable pub kept_rows : ℕ → List ℕ → List Kept
kept_rows n t = tabulate n (λ i. record { combination = numbers_at width t (i * kept_stride); state = get_or t (i * kept_stride + width) 0 })

-- a row's numbers
unfoldable pub kept_numbers : Kept → List ℕ
kept_numbers k = k.combination ++ (k.state ∷ [])

-- a table that held `old`, with these numbers at its start, 0 after them up to its room of `size` numbers, and what lies
-- past the room as it was
unfoldable pub filled : ℕ → List ℕ → List ℕ → List ℕ
filled size numbers old = numbers ++ replicate (size - length numbers) 0 ++ drop size old

unfoldable pub seen_table : List (List ℕ) → List ℕ → List ℕ
seen_table rows old = filled (seen_room old * seen_stride) (joined_up rows) old

unfoldable pub kept_table : List Kept → List ℕ → List ℕ
kept_table rows old = filled (kept_room old * kept_stride) (joined_up (list.map kept_numbers rows)) old
