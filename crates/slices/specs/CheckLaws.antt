-- What the session check (refusal 12) says: the facts about the rows of both tables that it stands for, for every session that
-- passes it, whether it stands for a history or not; and rows with these facts, put into tables with room for them, pass it.
-- Assumes nothing.
use Rattle.std.specs.Prelude.{ℕ, ◌*◌, ◌<◌, ◌≡◌, true, not, ◌&&◌, List, T, leb, length}
use Rattle.std.proofs.Common.{sym, subst, leb→le, ltb→lt, le→leb, lt→ltb}
use Rattle.std.proofs.Math.Dec.{ltb}
use Rattle.document.specs.Lists.{In, every, equal}
use Rattle.document.specs.Limits.{width, seen_stride, kept_stride}
use Rattle.document.specs.Combinations.{empty_of, zero_past}
use Rattle.document.specs.OneEvent.{Kept, join_seen}
use Rattle.document.specs.Property.{Property, hopeful}
use Rattle.document.specs.Tables.{seen_room, kept_room}
use Rattle.document.specs.Session.{Session, seen_of, kept_of, session_with, ascending, zero_between, kept_combinations, rightly_kept, sound}
use Rattle.basics.specs.Tests.{both}
use Rattle.slices.specs.TestsLaws.{so, not_so, true_of, not_of, of_not, and_of, of_and, every_of, of_every, equal_of, of_equal}
use Rattle.slices.specs.ListsLaws.{in_map, map_in}
use Rattle.slices.specs.OrderLaws.{Ascends, ascending_of, of_ascending, combinations}
use Rattle.slices.specs.SessionLaws.{Fits, seen_of_with, kept_of_with, seen_room_with, kept_room_with, seen_zero_lem, kept_zero_lem}
use Rattle.slices.specs.SessionBackLaws.{Bounded, fits_back, tables_back}

-- what is asked of the rows, wherever they stand
pub record SoundRows (p : Property) (seen : List (List ℕ)) (kept : List Kept) : Type 0 where
  -- "rows not strictly ascending"
  pub seen_order : Ascends seen
  pub kept_order : Ascends (combinations kept)
  -- "an empty seen row"
  pub seen_bound : (b : List ℕ) → In b seen → b ≡ empty_of width → ⊥
  -- "a number past the parameters not 0"
  pub seen_past : (b : List ℕ) → In b seen → T (zero_past p.parameters b)
  pub kept_past : (k : Kept) → In k kept → T (zero_past p.parameters k.combination)
  -- "a kept state out of range or not hopeful"
  pub range : (k : Kept) → In k kept → k.state < p.states
  pub hope : (k : Kept) → In k kept → T (hopeful p k.state)
  -- "a kept row not the join of seen rows it includes"
  pub joins : (k : Kept) → In k kept → join_seen width k.combination seen ≡ k.combination

-- what is asked of the tables: their rows, "a count over the room" and "a row past the count not 0"; so they are their rows,
-- zeros up to the room, and what lies past it
pub record Sounds (p : Property) (s : Session) : Type 0 where
  pub rows : SoundRows p (seen_of s) (kept_of s)
  pub bounded : Bounded s
  pub fits : Fits s (seen_of s) (kept_of s)
  pub tables : s ≡ session_with s (seen_of s) (kept_of s)

-- The check is passed -------------------------------------------------------------------------------------------------

-- its clauses, one by one
record Clauses (p : Property) (s : Session) : Type 0 where
  seen_count : leb s.seen_count (seen_room s.seen) ≡ true
  kept_count : leb s.kept_count (kept_room s.kept) ≡ true
  seen_order : ascending (seen_of s) ≡ true
  kept_order : ascending (combinations (kept_of s)) ≡ true
  seen_bound : every (λ b. not (equal b (empty_of width))) (seen_of s) ≡ true
  seen_past : every (zero_past p.parameters) (seen_of s) ≡ true
  kept_past : every (zero_past p.parameters) (combinations (kept_of s)) ≡ true
  rightly : every (rightly_kept p (seen_of s)) (kept_of s) ≡ true
  seen_zero : zero_between (s.seen_count * seen_stride) (seen_room s.seen * seen_stride) s.seen ≡ true
  kept_zero : zero_between (s.kept_count * kept_stride) (kept_room s.kept * kept_stride) s.kept ≡ true

clauses : (p : Property) (s : Session) → sound p s ≡ true → Clauses p s
unfolding sound kept_combinations
clauses p s e =
    let f₁ = both _ _ e in
    let f₂ = both _ _ f₁.0 in
    let f₃ = both _ _ f₂.0 in
    let f₄ = both _ _ f₃.0 in
    let f₅ = both _ _ f₄.0 in
    let counts = both _ _ f₅.0 in
    let order = both _ _ f₅.1 in
    let past = both _ _ f₃.1 in
    let zeros = both _ _ f₁.1 in
    record {
      seen_count = counts.0;
      kept_count = counts.1;
      seen_order = order.0;
      kept_order = order.1;
      seen_bound = f₄.1;
      seen_past = past.0;
      kept_past = past.1;
      rightly = f₂.1;
      seen_zero = zeros.0;
      kept_zero = zeros.1;
    }

-- a kept row that passes
rightly_of : (p : Property) (seen : List (List ℕ)) (k : Kept) → T (rightly_kept p seen k)
    → (k.state < p.states) × T (hopeful p k.state) × (join_seen width k.combination seen ≡ k.combination)
unfolding rightly_kept
rightly_of p seen k t =
    let join = join_seen width k.combination seen in
    let range = ltb k.state p.states in
    let h = and_of (range && hopeful p k.state) (equal join k.combination) t in
    let f = and_of range (hopeful p k.state) h.0 in
    (ltb→lt k.state p.states f.0, f.1, equal_of join k.combination h.1)

pub sounds : (p : Property) (s : Session) → sound p s ≡ true → Sounds p s
sounds p s e =
    let seen = seen_of s in
    let kept = kept_of s in
    let c = clauses p s e in
    let rightly : (k : Kept) → In k kept → T (rightly_kept p seen k) = every_of (rightly_kept p seen) kept (so c.rightly) in
    let bounded : Bounded s = record {
      seen_count = leb→le s.seen_count (seen_room s.seen) (so c.seen_count);
      kept_count = leb→le s.kept_count (kept_room s.kept) (so c.kept_count);
      seen_zero = c.seen_zero;
      kept_zero = c.kept_zero;
    } in
    record {
      rows = record {
        seen_order = ascending_of seen c.seen_order;
        kept_order = ascending_of (combinations kept) c.kept_order;
        seen_bound = λ b i q.
            not_so (not_of (equal b (empty_of width)) (every_of (λ x. not (equal x (empty_of width))) seen (so c.seen_bound) b i))
            (of_equal b (empty_of width) q);
        seen_past = λ b i. every_of (zero_past p.parameters) seen (so c.seen_past) b i;
        kept_past = λ k i.
            every_of (zero_past p.parameters) (combinations kept) (so c.kept_past) k.combination
            (map_in (λ (x : Kept). x.combination) kept k i);
        range = λ k i. (rightly_of p seen k (rightly k i)).0;
        hope = λ k i. (rightly_of p seen k (rightly k i)).1;
        joins = λ k i. (rightly_of p seen k (rightly k i)).2;
      };
      bounded = bounded;
      fits = fits_back s bounded;
      tables = tables_back s bounded;
    }

-- Rows that pass it ----------------------------------------------------------------------------------------------------

module _ (p : Property) (s : Session) (seen : List (List ℕ)) (kept : List Kept) (h : SoundRows p seen kept) (fits : Fits s seen kept) where
  abbrev table : Session
  table = session_with s seen kept

  seen_room_lem : leb table.seen_count (seen_room table.seen) ≡ true
  unfolding session_with
  seen_room_lem =
      rw (seen_room_with s seen kept fits)
      (true_of (leb (length seen) (seen_room s.seen)) (le→leb (length seen) (seen_room s.seen) fits.seen_rows))

  kept_room_lem : leb table.kept_count (kept_room table.kept) ≡ true
  unfolding session_with
  kept_room_lem =
      rw (kept_room_with s seen kept fits)
      (true_of (leb (length kept) (kept_room s.kept)) (le→leb (length kept) (kept_room s.kept) fits.kept_rows))

  seen_bound_lem : every (λ b. not (equal b (empty_of width))) seen ≡ true
  seen_bound_lem =
      true_of (every (λ b. not (equal b (empty_of width))) seen) (of_every (λ b. not (equal b (empty_of width))) seen (λ b i.
      of_not (equal b (empty_of width)) (λ t. h.seen_bound b i (equal_of b (empty_of width) t))))

  seen_past_lem : every (zero_past p.parameters) seen ≡ true
  seen_past_lem = true_of (every (zero_past p.parameters) seen) (of_every (zero_past p.parameters) seen h.seen_past)

  kept_past_lem : every (zero_past p.parameters) (combinations kept) ≡ true
  kept_past_lem =
      true_of (every (zero_past p.parameters) (combinations kept)) (of_every (zero_past p.parameters) (combinations kept) (λ c i.
      let m = (in_map (λ (k : Kept). k.combination) kept c).0 i in
      rw m.is (h.kept_past m.of m.member)))

  kept_rightly : every (rightly_kept p seen) kept ≡ true
  unfolding rightly_kept
  kept_rightly =
      true_of (every (rightly_kept p seen) kept) (of_every (rightly_kept p seen) kept (λ k i.
      let join = join_seen width k.combination seen in
      let range = ltb k.state p.states in
      of_and (range && hopeful p k.state) (equal join k.combination)
      (of_and range (hopeful p k.state) (lt→ltb k.state p.states (h.range k i)) (h.hope k i))
      (of_equal join k.combination (h.joins k i))))

  pub of_sounds : sound p (session_with s seen kept) ≡ true
  unfolding sound kept_combinations
  of_sounds =
      rw (
        seen_of_with s seen kept fits,
        kept_of_with s seen kept fits,
        seen_room_lem,
        kept_room_lem,
        of_ascending seen h.seen_order,
        of_ascending (combinations kept) h.kept_order,
        seen_bound_lem,
        seen_past_lem,
        kept_past_lem,
        kept_rightly,
        seen_zero_lem s seen kept fits,
        kept_zero_lem s seen kept fits,
      )

pub sound_of : (p : Property) (s : Session) → Sounds p s → sound p s ≡ true
sound_of p s h =
    subst (λ (t : Session). sound p t ≡ true) (sym h.tables) (of_sounds p s (seen_of s) (kept_of s) h.rows h.fits)
