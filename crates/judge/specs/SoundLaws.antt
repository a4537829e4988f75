-- The clauses of the session check: each alone, the check in the parts in which the code judges it, and the returns of those.
-- Assumes nothing.
use Rattle.std.specs.Prelude.{ℕ, ◌+◌, ◌*◌, ◌<◌, ◌≤◌, ◌≡◌, refl, Bool, true, false, not, ◌&&◌, List, leb, length, get_or}
use Rattle.std.proofs.Math.Path.{sym}
use Rattle.std.proofs.Math.Bool.{and-false, and-true}
use Rattle.std.proofs.Common.{◌∙◌, ap, arith}
use borrow.Author.Tests.{le-leb, lt-leb, leb-true, lt-ltb, le-ltb, not-true, not-false}
use Rattle.document.specs.Lists.{every, equal}
use Rattle.document.specs.Limits.{width, seen_stride, kept_stride}
use Rattle.document.specs.Combinations.{zero_past}
use Rattle.document.specs.OneEvent.{Kept, join_seen}
use Rattle.document.specs.Tables.{numbers_at, seen_room, kept_room, seen_rows, kept_rows}
use Rattle.document.specs.Session.{Session, seen_of, kept_of, ascending, zero_between, kept_combinations}
use Rattle.basics.specs.Tests.{both}
use Rattle.slices.specs.TestsLaws.{so, true_of, same_test}
use Rattle.slices.specs.SessionLaws.{seen_room-holds, kept_room-holds}
use Rattle.slices.specs.ListsLaws.{map_tabulate}
use Rattle.slices.specs.TablesLaws.{kept_at}
use Rattle.ordered.specs.Rows.{SeenInOrder}
use Rattle.judge.specs.Sound.{rightly_kept_by, sound_by, session_of}
use Rattle.std.specs.List.{list_all, range_with_len}
use Rattle.clauses.specs.LibraryLaws.{all_tabulate}
use Rattle.clauses.specs.Rows.{rows_of, Rows}
use Rattle.clauses.specs.RowsLaws.{not_empty, Passed, passed_stops, passed_turn, passed_ends}

-- Kept rows ------------------------------------------------------------------------------------------------------------

module _ (c : List ℕ) (state states hopes : ℕ) (hope : ℕ → Bool) (seen : List (List ℕ)) where
  abbrev row : Kept
  row = record { combination = c; state = state }

  pub rightly_range : states ≤ state → false ≡ rightly_kept_by states hope seen row
  unfolding rightly_kept_by
  rightly_range h = rw (le-ltb state states h)

  pub rightly_hope : (f : Bool) → state < states → f ≡ hope state → not f ≡ true → false ≡ rightly_kept_by states hope seen row
  unfolding rightly_kept_by
  rightly_hope f h e z = rw (lt-ltb state states h, sym e ∙ not-true f z)

  pub rightly_join : (f g : Bool) (j : List ℕ) → state < states → f ≡ hope state → not f ≡ false → j ≡ join_seen width c seen → g ≡ equal j c
      → g ≡ rightly_kept_by states hope seen row
  unfolding rightly_kept_by
  rightly_join f g j h e z q r = rw (lt-ltb state states h, sym e ∙ not-false f z, ← q) r

-- the kept row of a number
abbrev pub kept_of_row : List ℕ → ℕ → Kept
kept_of_row t i = kept_at width t (i * kept_stride)

module _ (p : Kept → Bool) (m i : ℕ) (t c : List ℕ) (s : ℕ) (f : Bool) where
  row_same : c ≡ numbers_at width t (i * kept_stride) → s ≡ get_or t (i * kept_stride + width) 0 → f ≡ p (record { combination = c; state = s }) → p (kept_of_row t i) ≡ f
  row_same e q r = rw (← e, ← q) (sym r)

  pub kept_stops : i < m → c ≡ numbers_at width t (i * kept_stride) → s ≡ get_or t (i * kept_stride + width) 0
      → f ≡ p (record { combination = c; state = s }) → not f ≡ true → false ≡ every p (kept_rows m t)
  unfolding kept_rows
  kept_stops h e q r z = passed_stops p m (kept_of_row t) i h (row_same e q r ∙ not-true f z)

  pub kept_turn : Passed p m (kept_of_row t) i → c ≡ numbers_at width t (i * kept_stride) → s ≡ get_or t (i * kept_stride + width) 0
      → f ≡ p (record { combination = c; state = s }) → not f ≡ false → Passed p m (kept_of_row t) (i + 1)
  kept_turn u e q r z = passed_turn p m (kept_of_row t) i u (row_same e q r ∙ not-false f z)

pub kept_ends : (p : Kept → Bool) (m i : ℕ) (t : List ℕ) → Passed p m (kept_of_row t) i → m ≤ i → true ≡ every p (kept_rows m t)
unfolding kept_rows
kept_ends p m i t u h = passed_ends p m (kept_of_row t) i u h

pub all_kept_rows : (p : Kept → Bool) (m : ℕ) (t : List ℕ) → list_all (λ i. p (kept_of_row t i)) (range_with_len 0 m) ≡ every p (kept_rows m t)
unfolding kept_rows
all_kept_rows p m t = all_tabulate p m (kept_of_row t)

-- The check in parts ---------------------------------------------------------------------------------------------------

-- the seen table alone, the kept table alone
unfoldable pub seen_stands : ℕ → ℕ → List ℕ → Bool
seen_stands parameters n t =
    leb n (seen_room t) && (ascending (rows_of seen_stride n t) && (every not_empty (rows_of seen_stride n t)
    && (every (zero_past parameters) (rows_of seen_stride n t) && zero_between (n * seen_stride) (seen_room t * seen_stride) t)))

unfoldable pub kept_stands : ℕ → ℕ → List ℕ → Bool
kept_stands parameters m t =
    leb m (kept_room t) && (ascending (rows_of kept_stride m t)
    && (every (zero_past parameters) (rows_of kept_stride m t) && zero_between (m * kept_stride) (kept_room t * kept_stride) t))

-- what both tables are asked: n rows of so many numbers each in a room
unfoldable pub rows_stand : ℕ → ℕ → ℕ → ℕ → List ℕ → Bool
rows_stand stride room parameters n t =
    ((leb n room && ascending (rows_of stride n t))
    && every (zero_past parameters) (rows_of stride n t)) && zero_between (n * stride) (room * stride) t

-- the same in two parts: in order, before what else a table is asked; and the rest
unfoldable pub rows_ordered : ℕ → ℕ → ℕ → List ℕ → Bool
rows_ordered stride room n t = leb n room && ascending (rows_of stride n t)

unfoldable pub rows_clean : ℕ → ℕ → ℕ → ℕ → List ℕ → Bool
rows_clean stride room parameters n t = every (zero_past parameters) (rows_of stride n t) && zero_between (n * stride) (room * stride) t

-- a test that was made after one that holds, or left out after one that does not
pub and_after : (v a b : Bool) → v ≡ a → v ≡ true → b ≡ (a && b)
and_after v a b e h = rw (sym e ∙ h)

pub and_left : (v a b : Bool) → v ≡ a → v ≡ false → v ≡ (a && b)
and_left v a b e h = rw (sym e ∙ h) h

and_in : (a b d e : Bool) → (((a && b) && d) && e) ≡ (a && (b && (d && e)))
and_in false b d e = refl
and_in true false d e = refl
and_in true true d e = refl

and_third : (a b c d e : Bool) → ((((a && b) && d) && e) && c) ≡ (a && (b && (c && (d && e))))
and_third false b c d e = refl
and_third true false c d e = refl
and_third true true false d e = and-false (d && e)
and_third true true true d e = and-true (d && e)

pub kept_in_rows : (parameters m : ℕ) (t : List ℕ) → rows_stand kept_stride (kept_room t) parameters m t ≡ kept_stands parameters m t
unfolding rows_stand kept_stands
kept_in_rows parameters m t =
    and_in (leb m (kept_room t)) (ascending (rows_of kept_stride m t)) (every (zero_past parameters) (rows_of kept_stride m t))
    (zero_between (m * kept_stride) (kept_room t * kept_stride) t)

pub seen_in_rows : (parameters n : ℕ) (t : List ℕ)
    → (rows_stand seen_stride (seen_room t) parameters n t && every not_empty (rows_of seen_stride n t)) ≡ seen_stands parameters n t
unfolding rows_stand seen_stands
seen_in_rows parameters n t =
    and_third (leb n (seen_room t)) (ascending (rows_of seen_stride n t)) (every not_empty (rows_of seen_stride n t))
    (every (zero_past parameters) (rows_of seen_stride n t)) (zero_between (n * seen_stride) (seen_room t * seen_stride) t)

module _ (parameters n room : ℕ) (t : List ℕ) (e : room ≡ seen_room t) where
  pub seen_over : room < n → false ≡ seen_stands parameters n t
  unfolding seen_stands
  seen_over h = rw (← e, lt-leb n room h)

  module _ (h : n ≤ room) (a : Bool) (qa : a ≡ ascending (rows_of seen_stride n t)) where
    pub seen_disordered : not a ≡ true → false ≡ seen_stands parameters n t
    unfolding seen_stands
    seen_disordered z = rw (← e, le-leb n room h, sym qa ∙ not-true a z)

    module _ (za : not a ≡ false) (b : Bool) (qb : b ≡ every not_empty (rows_of seen_stride n t)) where
      pub seen_empty : not b ≡ true → false ≡ seen_stands parameters n t
      unfolding seen_stands
      seen_empty z = rw (← e, le-leb n room h, sym qa ∙ not-false a za, sym qb ∙ not-true b z)

      module _ (zb : not b ≡ false) (d : Bool) (qd : d ≡ every (zero_past parameters) (rows_of seen_stride n t)) where
        pub seen_past_lem : not d ≡ true → false ≡ seen_stands parameters n t
        unfolding seen_stands
        seen_past_lem z = rw (← e, le-leb n room h, sym qa ∙ not-false a za, sym qb ∙ not-false b zb, sym qd ∙ not-true d z)

        pub seen_stands_lem : not d ≡ false → (r : Bool) → r ≡ zero_between (n * seen_stride) (room * seen_stride) t → r ≡ seen_stands parameters n t
        unfolding seen_stands
        seen_stands_lem zd r q = rw (← e, le-leb n room h, sym qa ∙ not-false a za, sym qb ∙ not-false b zb, sym qd ∙ not-false d zd) q

module _ (parameters m room : ℕ) (t : List ℕ) (e : room ≡ kept_room t) where
  pub kept_over : room < m → false ≡ kept_stands parameters m t
  unfolding kept_stands
  kept_over h = rw (← e, lt-leb m room h)

  module _ (h : m ≤ room) (a : Bool) (qa : a ≡ ascending (rows_of kept_stride m t)) where
    pub kept_disordered : not a ≡ true → false ≡ kept_stands parameters m t
    unfolding kept_stands
    kept_disordered z = rw (← e, le-leb m room h, sym qa ∙ not-true a z)

    module _ (za : not a ≡ false) (d : Bool) (qd : d ≡ every (zero_past parameters) (rows_of kept_stride m t)) where
      pub kept_past_lem : not d ≡ true → false ≡ kept_stands parameters m t
      unfolding kept_stands
      kept_past_lem z = rw (← e, le-leb m room h, sym qa ∙ not-false a za, sym qd ∙ not-true d z)

      pub kept_stands_lem : not d ≡ false → (r : Bool) → r ≡ zero_between (m * kept_stride) (room * kept_stride) t → r ≡ kept_stands parameters m t
      unfolding kept_stands
      kept_stands_lem zd r q = rw (← e, le-leb m room h, sym qa ∙ not-false a za, sym qd ∙ not-false d zd) q

-- the combinations of the kept rows
pub kept_combinations_lem : (n m : ℕ) (seen kept : List ℕ) → kept_combinations (session_of n m seen kept) ≡ rows_of kept_stride m kept
unfolding kept_combinations kept_of kept_rows rows_of
kept_combinations_lem n m seen kept = map_tabulate (λ (k : Kept). k.combination) m (kept_of_row kept)

-- every clause holds
pub record Clauses (parameters states : ℕ) (hope : ℕ → Bool) (s : Session) : Type 0 where
  pub seen_fits : s.seen_count ≤ seen_room s.seen
  pub kept_fits : s.kept_count ≤ kept_room s.kept
  pub seen_order : ascending (seen_of s) ≡ true
  pub kept_order : ascending (kept_combinations s) ≡ true
  pub seen_bound : every not_empty (seen_of s) ≡ true
  pub seen_past : every (zero_past parameters) (seen_of s) ≡ true
  pub kept_past : every (zero_past parameters) (kept_combinations s) ≡ true
  pub rightly : every (rightly_kept_by states hope (seen_of s)) (kept_of s) ≡ true
  pub seen_zero : zero_between (s.seen_count * seen_stride) (seen_room s.seen * seen_stride) s.seen ≡ true
  pub kept_zero : zero_between (s.kept_count * kept_stride) (kept_room s.kept * kept_stride) s.kept ≡ true

pub clauses_of : (parameters states : ℕ) (hope : ℕ → Bool) (s : Session) → sound_by parameters states hope s ≡ true → Clauses parameters states hope s
unfolding sound_by
clauses_of parameters states hope s e =
    let f = both _ _ e in
    let g = both _ _ f.0 in
    let h = both _ _ g.0 in
    let i = both _ _ h.0 in
    let j = both _ _ i.0 in
    let fits = both _ _ j.0 in
    let order = both _ _ j.1 in
    let past = both _ _ h.1 in
    let zeros = both _ _ f.1 in
    record {
      seen_fits = leb-true s.seen_count (seen_room s.seen) fits.0;
      kept_fits = leb-true s.kept_count (kept_room s.kept) fits.1;
      seen_order = order.0;
      kept_order = order.1;
      seen_bound = i.1;
      seen_past = past.0;
      kept_past = past.1;
      rightly = g.1;
      seen_zero = zeros.0;
      kept_zero = zeros.1;
    }

pub of_clauses : (parameters states : ℕ) (hope : ℕ → Bool) (s : Session) → Clauses parameters states hope s → sound_by parameters states hope s ≡ true
unfolding sound_by
of_clauses parameters states hope s c =
    rw (
      le-leb s.seen_count (seen_room s.seen) c.seen_fits,
      le-leb s.kept_count (kept_room s.kept) c.kept_fits,
      c.seen_order,
      c.kept_order,
      c.seen_bound,
      c.seen_past,
      c.kept_past,
      c.rightly,
      c.seen_zero,
      c.kept_zero,
    )

-- the check is its parts
pub sound-parts : (parameters states : ℕ) (hope : ℕ → Bool) (n m : ℕ) (seen kept : List ℕ)
    → sound_by parameters states hope (session_of n m seen kept)
    ≡ (seen_stands parameters n seen && (kept_stands parameters m kept && every (rightly_kept_by states hope (seen_rows n seen)) (kept_rows m kept)))
unfolding seen_stands kept_stands rows_of seen_of kept_of seen_rows
sound-parts parameters states hope n m seen kept =
    same_test (sound_by parameters states hope s) (seen_stands parameters n seen && (kept_stands parameters m kept && every (rightly_kept_by states hope (seen_rows n seen)) (kept_rows m kept)))
    (λ t.
    let c = clauses_of parameters states hope s (true_of (sound_by parameters states hope s) t) in
    let order : ascending (rows_of kept_stride m kept) ≡ true = rw (kept_combinations_lem n m seen kept) at c.kept_order in
    let past : every (zero_past parameters) (rows_of kept_stride m kept) ≡ true = rw (kept_combinations_lem n m seen kept) at c.kept_past in
    let e : (seen_stands parameters n seen && (kept_stands parameters m kept && every (rightly_kept_by states hope (seen_rows n seen)) (kept_rows m kept))) ≡ true = rw (
      le-leb n (seen_room seen) c.seen_fits,
      le-leb m (kept_room kept) c.kept_fits,
      c.seen_order,
      order,
      c.seen_bound,
      c.seen_past,
      past,
      c.rightly,
      c.seen_zero,
      c.kept_zero,
    ) in so e)
    (λ t.
    let a = both _ _ (true_of _ t) in
    let b = both _ _ a.1 in
    let f = both _ _ a.0 in
    let g = both _ _ f.1 in
    let h = both _ _ g.1 in
    let i = both _ _ h.1 in
    let k = both _ _ b.0 in
    let l = both _ _ k.1 in
    let z = both _ _ l.1 in
    so (of_clauses parameters states hope s (record {
      seen_fits = leb-true n (seen_room seen) f.0;
      kept_fits = leb-true m (kept_room kept) k.0;
      seen_order = g.0;
      kept_order = rw (kept_combinations_lem n m seen kept) l.0;
      seen_bound = h.0;
      seen_past = i.0;
      kept_past = rw (kept_combinations_lem n m seen kept) z.0;
      rightly = b.1;
      seen_zero = i.1;
      kept_zero = z.1;
    })))
  where
    s : Session
    s = session_of n m seen kept

pub rows_stand_kept : (parameters m room : ℕ) (t : List ℕ) (f : Bool) → room ≡ kept_room t → f ≡ rows_stand kept_stride room parameters m t → f ≡ kept_stands parameters m t
rows_stand_kept parameters m room t f e q = q ∙ ap (λ r. rows_stand kept_stride r parameters m t) e ∙ kept_in_rows parameters m t

module _ (parameters n room : ℕ) (t : List ℕ) (f : Bool) (e : room ≡ seen_room t) (q : f ≡ rows_stand seen_stride room parameters n t) where
  rows_stand_seen : f ≡ rows_stand seen_stride (seen_room t) parameters n t
  rows_stand_seen = q ∙ ap (λ r. rows_stand seen_stride r parameters n t) e

  pub seen_inside : f ≡ true → n * seen_stride ≤ length t
  unfolding rows_stand
  seen_inside h =
      let a = both _ _ (sym q ∙ h) in
      let b = both _ _ a.0 in
      let d = both _ _ b.0 in
      let l = leb-true n room d.0 in
      let i = seen_room-holds t in
      omega arith

  pub seen_after : f ≡ true → (g : Bool) → g ≡ every not_empty (rows_of seen_stride n t) → g ≡ seen_stands parameters n t
  seen_after h g z = z ∙ and_after f _ _ rows_stand_seen h ∙ seen_in_rows parameters n t

  pub seen_left : f ≡ false → f ≡ seen_stands parameters n t
  seen_left h = and_left f _ _ rows_stand_seen h ∙ seen_in_rows parameters n t

-- The tests of a table, in the order in which they are made ------------------------------------------------------------

and_assoc : (a b d : Bool) → ((a && b) && d) ≡ (a && (b && d))
and_assoc false b d = refl
and_assoc true b d = refl

module _ (n room stride : ℕ) (t : List ℕ) (f : Bool) (q : f ≡ rows_ordered stride room n t) where
  pub ordered_fits : f ≡ true → n ≤ room
  unfolding rows_ordered
  ordered_fits h = let a = both _ _ (sym q ∙ h) in leb-true n room a.0

module _ (parameters n room : ℕ) (t : List ℕ) (f : Bool) (e : room ≡ seen_room t) (q : f ≡ rows_ordered seen_stride room n t) where
  in_room : f ≡ rows_ordered seen_stride (seen_room t) n t
  in_room = q ∙ ap (λ r. rows_ordered seen_stride r n t) e

  seen_split : rows_ordered seen_stride (seen_room t) n t && (every not_empty (rows_of seen_stride n t) && rows_clean seen_stride (seen_room t) parameters n t)
      ≡ seen_stands parameters n t
  unfolding rows_ordered rows_clean seen_stands
  seen_split = and_assoc (leb n (seen_room t)) (ascending (rows_of seen_stride n t))
      (every not_empty (rows_of seen_stride n t) && (every (zero_past parameters) (rows_of seen_stride n t) && zero_between (n * seen_stride) (seen_room t * seen_stride) t))

  pub ordered_inside : f ≡ true → n * seen_stride ≤ length t
  ordered_inside h = let l = ordered_fits n room seen_stride t f q h in let i = seen_room-holds t in omega arith

  pub seen_unordered : f ≡ false → f ≡ seen_stands parameters n t
  seen_unordered h = and_left f _ _ in_room h ∙ seen_split

  module _ (h : f ≡ true) (g : Bool) (p : g ≡ every not_empty (rows_of seen_stride n t)) where
    pub seen_unbound : g ≡ false → g ≡ seen_stands parameters n t
    seen_unbound z = and_left g _ _ p z ∙ and_after f _ _ in_room h ∙ seen_split

    pub seen_clean : g ≡ true → (r : Bool) → r ≡ rows_clean seen_stride room parameters n t → r ≡ seen_stands parameters n t
    seen_clean z r w =
        w ∙ ap (λ x. rows_clean seen_stride x parameters n t) e ∙ and_after g _ _ p z ∙ and_after f _ _ in_room h ∙ seen_split

module _ (parameters m room : ℕ) (t : List ℕ) (f : Bool) (e : room ≡ kept_room t) (q : f ≡ rows_ordered kept_stride room m t) where
  kept_split : rows_ordered kept_stride (kept_room t) m t && rows_clean kept_stride (kept_room t) parameters m t ≡ kept_stands parameters m t
  unfolding rows_ordered rows_clean kept_stands
  kept_split = and_assoc (leb m (kept_room t)) (ascending (rows_of kept_stride m t))
      (every (zero_past parameters) (rows_of kept_stride m t) && zero_between (m * kept_stride) (kept_room t * kept_stride) t)

  pub kept_unordered : f ≡ false → f ≡ kept_stands parameters m t
  kept_unordered h = and_left f _ _ (q ∙ ap (λ r. rows_ordered kept_stride r m t) e) h ∙ kept_split

  pub kept_clean : f ≡ true → (r : Bool) → r ≡ rows_clean kept_stride room parameters m t → r ≡ kept_stands parameters m t
  kept_clean h r w =
      w ∙ ap (λ x. rows_clean kept_stride x parameters m t) e ∙ and_after f _ _ (q ∙ ap (λ r. rows_ordered kept_stride r m t) e) h ∙ kept_split

-- What the parts need, and the returns of the check --------------------------------------------------------------------

pub seen_rows_lem : (n room : ℕ) (t : List ℕ) → room ≡ seen_room t → n ≤ room → Rows seen_stride n t
seen_rows_lem n room t e h = record { inside = let i = seen_room-holds t in omega arith; wide = omega arith }

pub kept_rows_lem : (m room : ℕ) (t : List ℕ) → room ≡ kept_room t → m ≤ room → Rows kept_stride m t
kept_rows_lem m room t e h = record { inside = let i = kept_room-holds t in omega arith; wide = omega arith }

pub seen_in_order : (parameters n : ℕ) (t : List ℕ) (f : Bool) → f ≡ seen_stands parameters n t → not f ≡ false → SeenInOrder n t
unfolding seen_stands rows_of seen_rows
seen_in_order parameters n t f e z =
    let a = both _ _ (sym e ∙ not-false f z) in
    let b = both _ _ a.1 in
    record { inside = let h = leb-true n (seen_room t) a.0 in let i = seen_room-holds t in omega arith; order = b.0 }

pub kept_inside : (parameters m : ℕ) (t : List ℕ) (f : Bool) → f ≡ kept_stands parameters m t → not f ≡ false → m * kept_stride ≤ length t
unfolding kept_stands
kept_inside parameters m t f e z =
    let a = both _ _ (sym e ∙ not-false f z) in
    let h = leb-true m (kept_room t) a.0 in let i = kept_room-holds t in omega arith

module _ (parameters states n m : ℕ) (hope : ℕ → Bool) (seen kept : List ℕ) (f : Bool) (e : f ≡ seen_stands parameters n seen) where
  pub sound_seen : not f ≡ true → false ≡ sound_by parameters states hope (session_of n m seen kept)
  sound_seen z = sym (sound-parts parameters states hope n m seen kept ∙ rw (sym e ∙ not-true f z))

  module _ (z : not f ≡ false) (g : Bool) (q : g ≡ kept_stands parameters m kept) where
    pub sound_kept : not g ≡ true → false ≡ sound_by parameters states hope (session_of n m seen kept)
    sound_kept y = sym (sound-parts parameters states hope n m seen kept ∙ rw (sym e ∙ not-false f z, sym q ∙ not-true g y))

    pub sound-rows : not g ≡ false → (r : Bool) → r ≡ every (rightly_kept_by states hope (seen_rows n seen)) (kept_rows m kept)
        → r ≡ sound_by parameters states hope (session_of n m seen kept)
    sound-rows y r p = p ∙ sym (sound-parts parameters states hope n m seen kept ∙ rw (sym e ∙ not-false f z, sym q ∙ not-false g y))
