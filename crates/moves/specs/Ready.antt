-- What is known of a session that was found sound, as the functions that work an event out and write it down need it.
-- Assumes nothing.
use Rattle.std.specs.Prelude.{ℕ, ◌+◌, ◌*◌, ◌<◌, ◌≤◌, ◌≡◌, Bool, List, length, get_or}
use Rattle.document.specs.Lists.{In}
use Rattle.document.specs.Limits.{width, seen_stride, kept_stride, most_events, most_states}
use Rattle.document.specs.OneEvent.{Kept, join_seen}
use Rattle.document.specs.Tables.{seen_rows, seen_room, kept_room}
use Rattle.slices.specs.OrderLaws.{Ascends, combinations}
use Rattle.slices.specs.TablesLaws.{kept_at}
use Rattle.ordered.specs.Rows.{SeenInOrder}
use Rattle.tables.specs.Tables.{kept_from}
use Rattle.moves.specs.Steps.{is_new, step_of}

-- each row's combination has the width and is the join of the seen rows that it includes
pub record Right (seen : List (List ℕ)) (k : Kept) : Type 0 where
  pub wide : length k.combination ≡ width
  pub joins : join_seen width k.combination seen ≡ k.combination

-- the transitions of an event from every state
pub record Onward (next : List ℕ) (states e : ℕ) : Type 0 where
  pub few : states ≤ most_states
  pub event : e < most_events
  pub onward : (s : ℕ) → s < states → step_of next s e < states

-- the seen rows are in order, and whether the binding is new is known
pub record Binds (n : ℕ) (seen b : List ℕ) (fresh : Bool) : Type 0 where
  pub table : SeenInOrder n seen
  pub wide : length b ≡ width
  pub new : fresh ≡ is_new b (seen_rows n seen)

-- a combination is the join of the seen rows that it includes
pub record Joint (n : ℕ) (seen k : List ℕ) : Type 0 where
  pub wide : length k ≡ width
  pub joins : join_seen width k (seen_rows n seen) ≡ k

-- the first m kept rows: in order, each the join of the seen rows that it includes, each in one of the states
pub record Keeps (states n m : ℕ) (seen kept : List ℕ) : Type 0 where
  pub inside : m * kept_stride ≤ length kept
  pub order : Ascends (combinations (kept_from m kept 0))
  pub right : (k : Kept) → In k (kept_from m kept 0) → Right (seen_rows n seen) k
  pub within : (k : Kept) → In k (kept_from m kept 0) → k.state < states

pub record Ready (next : List ℕ) (states e n m : ℕ) (b seen kept : List ℕ) (fresh : Bool) : Type 0 where
  pub moves : Onward next states e
  pub binds : Binds n seen b fresh
  pub rows : Keeps states n m seen kept

-- row i alone
pub record RowReady (next : List ℕ) (states e n i : ℕ) (b seen kept : List ℕ) (fresh : Bool) : Type 0 where
  pub moves : Onward next states e
  pub binds : Binds n seen b fresh
  pub inside : (i + 1) * kept_stride ≤ length kept
  pub right : Right (seen_rows n seen) (kept_at width kept (i * kept_stride))
  pub within : get_or kept (i * kept_stride + width) 0 < states

-- The whole: the tables lie within their rooms, which hold 0 past them ---------------------------------------------------

pub record Steady (next : List ℕ) (states e n m : ℕ) (seen kept : List ℕ) : Type 0 where
  pub moves : Onward next states e
  pub table : SeenInOrder n seen
  pub rows : Keeps states n m seen kept
  pub seen_fits : n ≤ seen_room seen
  pub kept_fits : m ≤ kept_room kept
  pub seen_zero : (k : ℕ) → n * seen_stride ≤ k → k < seen_room seen * seen_stride → get_or seen k 0 ≡ 0
  pub kept_zero : (k : ℕ) → m * kept_stride ≤ k → k < kept_room kept * kept_stride → get_or kept k 0 ≡ 0
