-- Document 01, "One event", as the kept rows are written: rows that include the binding move in place or are dropped, upwards;
-- then the combinations that a new binding creates are put in, downwards. Over the transitions, the test of what is kept, and
-- the rows of both tables.
-- Assumes nothing.
use Rattle.std.specs.Prelude.{ℕ, ◌+◌, ◌*◌, ◌-◌, ◌<◌, ◌≤◌, Bool, true, false, cond, ◌&&◌, List, [], ◌∷◌, ◌++◌, ◌≡◌, get_or, length}
use Rattle.document.specs.Lists.{cons_if, In}
use Rattle.document.specs.Limits.{width, kept_stride, seen_stride}
use Rattle.document.specs.OneEvent.{Kept, insert_kept, moves, moved_from, see, kept_after}
use Rattle.document.specs.Tables.{seen_rows, kept_rows, kept_room, seen_room}
use Rattle.slices.specs.OrderLaws.{Ascends, combinations}
use Rattle.slices.specs.TablesLaws.{kept_at}
use Rattle.ordered.specs.Rows.{SeenInOrder}
use Rattle.tables.specs.Tables.{kept_from}
use Rattle.moves.specs.Steps.{is_new, in_place, step_of, state_in}
use Rattle.moves.specs.Ready.{Right, Onward, Binds, Ready, Steady}

module _ (step : ℕ → ℕ → ℕ) (e : ℕ) (b : List ℕ) (seen : List (List ℕ)) where
  -- the row of a combination that does not include b may create one
  unfoldable pub creates : Kept → Bool
  creates k = cond (in_place step e b seen k) false (moves width step e b seen k)

  unfoldable pub settled : Kept → Kept
  settled k = cond (in_place step e b seen k) (moved_from width step e b seen k) k

  module _ (keeps : Kept → Bool) where
    unfoldable pub settles : Kept → Bool
    settles k = cond (in_place step e b seen k) (keeps (moved_from width step e b seen k)) true

    unfoldable pub sifted : List Kept → List Kept
    sifted [] = []
    sifted (k ∷ l) = cons_if (settles k) (settled k) (sifted l)

    unfoldable pub grows : Kept → Bool
    grows k = creates k && keeps (moved_from width step e b seen k)

    -- the rows above k, with the one that k creates
    unfoldable pub grown_by : Kept → List Kept → List Kept
    grown_by k l = cond (grows k) (insert_kept (moved_from width step e b seen k) l) l

    unfoldable pub grown : List Kept → List Kept
    grown [] = []
    grown (k ∷ l) = k ∷ grown_by k (grown l)

-- Rows in place --------------------------------------------------------------------------------------------------------

-- row i is read, and o rows before it are written
pub record SettleReady (next : List ℕ) (states e i o : ℕ) (b t : List ℕ) : Type 0 where
  pub moves : Onward next states e
  pub wide : length b ≡ width
  pub before : o ≤ i
  pub inside : (i + 1) * kept_stride ≤ length t
  pub within : get_or t (i * kept_stride + width) 0 < states

-- it is written after them as it stays or moves, or it is dropped; there are r rows then
pub record SettledRow (next : List ℕ) (hopes e i o : ℕ) (b t t' : List ℕ) (r : ℕ) : Type 0 where
  pub rows : (seen : List (List ℕ)) → kept_from r t' 0
      ≡ kept_from o t 0 ++ cons_if (settles (step_of next) e b seen (state_in hopes) (kept_at width t (i * kept_stride))) (settled (step_of next) e b seen (kept_at width t (i * kept_stride))) []
  pub rest : (k : ℕ) → (i + 1) * kept_stride ≤ k → get_or t' k 0 ≡ get_or t k 0
  pub fewer : r ≤ i + 1

-- all rows
pub record Siftable (next : List ℕ) (states e m : ℕ) (b t : List ℕ) : Type 0 where
  pub moves : Onward next states e
  pub wide : length b ≡ width
  pub inside : m * kept_stride ≤ length t
  pub within : (k : Kept) → In k (kept_from m t 0) → k.state < states

pub record Sifted (next : List ℕ) (hopes e m : ℕ) (b t t' : List ℕ) (r : ℕ) : Type 0 where
  pub rows : (seen : List (List ℕ)) → kept_from r t' 0 ≡ sifted (step_of next) e b seen (state_in hopes) (kept_from m t 0)
  pub rest : (k : ℕ) → m * kept_stride ≤ k → get_or t' k 0 ≡ get_or t k 0
  pub fewer : r ≤ m

-- Rows created ---------------------------------------------------------------------------------------------------------

-- the rows above row i of m are written, and there is room for the one that it may create
pub record GrowReady (next : List ℕ) (states hopes e n i m : ℕ) (b seen t : List ℕ) (fresh : Bool) : Type 0 where
  pub moves : Onward next states e
  pub binds : Binds n seen b fresh
  pub below : i < m
  pub inside : m * kept_stride ≤ length t
  pub right : Right (seen_rows n seen) (kept_at width t (i * kept_stride))
  pub within : get_or t (i * kept_stride + width) 0 < states
  pub order : Ascends (combinations (kept_from (m - i - 1) t (i * kept_stride + kept_stride)))
  pub room : grows (step_of next) e b (seen_rows n seen) (state_in hopes) (kept_at width t (i * kept_stride)) ≡ true → (m + 1) * kept_stride ≤ length t

pub record GrownRow (next : List ℕ) (hopes e n i m : ℕ) (b seen t t' : List ℕ) (r : ℕ) : Type 0 where
  pub rows : kept_from (r - i) t' (i * kept_stride)
      ≡ kept_at width t (i * kept_stride) ∷ grown_by (step_of next) e b (seen_rows n seen) (state_in hopes) (kept_at width t (i * kept_stride)) (kept_from (m - i - 1) t (i * kept_stride + kept_stride))
  pub low : (k : ℕ) → k < i * kept_stride → get_or t' k 0 ≡ get_or t k 0
  pub high : (k : ℕ) → r * kept_stride ≤ k → get_or t' k 0 ≡ get_or t k 0
  pub more : m ≤ r

-- all rows
pub record Growable (next : List ℕ) (states hopes e n m : ℕ) (b seen t : List ℕ) (fresh : Bool) : Type 0 where
  pub ready : Ready next states e n m b seen t fresh
  pub room : length (grown (step_of next) e b (seen_rows n seen) (state_in hopes) (kept_from m t 0)) * kept_stride ≤ length t

pub record Grown (next : List ℕ) (hopes e n m : ℕ) (b seen t t' : List ℕ) (r : ℕ) : Type 0 where
  pub rows : kept_from r t' 0 ≡ grown (step_of next) e b (seen_rows n seen) (state_in hopes) (kept_from m t 0)
  pub high : (k : ℕ) → r * kept_stride ≤ k → get_or t' k 0 ≡ get_or t k 0
  pub fits : r * kept_stride ≤ length t

-- Both tables ----------------------------------------------------------------------------------------------------------

-- there is room for the kept rows after the event
pub record Keepable (next : List ℕ) (states hopes e n m : ℕ) (b seen kept : List ℕ) (fresh : Bool) : Type 0 where
  pub steady : Steady next states e n m seen kept
  pub wide : length b ≡ width
  pub new : fresh ≡ is_new b (seen_rows n seen)
  pub room : length (kept_after width (step_of next) e b (seen_rows n seen) (state_in hopes) (kept_rows m kept)) ≤ kept_room kept

-- and for the binding as seen
pub record Seeable (n : ℕ) (b seen : List ℕ) (fresh : Bool) : Type 0 where
  pub table : SeenInOrder n seen
  pub wide : length b ≡ width
  pub new : fresh ≡ is_new b (seen_rows n seen)
  pub fits : n ≤ seen_room seen
  pub zero : (k : ℕ) → n * seen_stride ≤ k → k < seen_room seen * seen_stride → get_or seen k 0 ≡ 0
  pub room : length (see width b (seen_rows n seen)) ≤ seen_room seen
