-- The laws of one kept row, and of the binding, as the functions that work an event out meet them.
-- Assumes nothing.
use Rattle.std.specs.Prelude.{ℕ, suc, ◌+◌, ◌*◌, ◌<◌, ◌≤◌, ◌≡◌, Bool, true, false, not, ◌||◌, List, [], ◌∷◌, length, get_or}
use Rattle.std.proofs.Math.Path.{refl}
use Rattle.std.proofs.Common.{sym, ap, subst, ◌∙◌, arith, zero-add}
use Rattle.std.proofs.Math.Logic.{inl, inr}
use borrow.Author.Tests.{not-true, not-false}
use mir.Val.{bool_byte}
use Rattle.document.specs.Lists.{In, equal, among}
use Rattle.document.specs.Limits.{width, kept_stride, most_states}
use Rattle.document.specs.Combinations.{empty_of, includes, compatible, join, precedes}
use Rattle.document.specs.OneEvent.{Kept, join_seen, moves, insert_seen, see}
use Rattle.document.specs.Tables.{numbers_at, seen_rows}
use Rattle.basics.specs.Tests.{decided}
use Rattle.basics.specs.Lists.{length-tabulate}
use Rattle.slices.specs.TestsLaws.{so, true_of}
use Rattle.slices.specs.CombinationsLaws.{join_includes_right, length-join}
use Rattle.slices.specs.OrderLaws.{insert_seen-after, insert_seen_here}
use Rattle.slices.specs.TablesLaws.{kept_at}
use Rattle.joins.specs.JoinLaws.{Joins}
use Rattle.tables.specs.Tables.{kept_from}
use Rattle.tables.specs.TablesLaws.{row_in}
use Rattle.moves.specs.Steps.{one, is_new, step_of, moves_at}
use Rattle.moves.specs.Ready.{Binds, Joint, Ready, RowReady}
use Rattle.moves.specs.MovesLaws.{in_place_moves, old-moves}

-- Whether the binding is new -------------------------------------------------------------------------------------------

pub new_empty : (b : List ℕ) (seen : List (List ℕ)) (f : Bool) → f ≡ equal b (empty_of width) → not f ≡ false → not f ≡ is_new b seen
unfolding is_new
new_empty b seen f e z = let q = not-false f z in rw (q, sym e ∙ q)

pub new_seen : (b : List ℕ) (seen : List (List ℕ)) (f g : Bool) → f ≡ equal b (empty_of width) → not f ≡ true → g ≡ among b seen → not g ≡ is_new b seen
unfolding is_new
new_seen b seen f g e z q = rw (sym e ∙ not-true f z, q)

-- Whether a row moves --------------------------------------------------------------------------------------------------

pub moves_at_lem : (step : ℕ → ℕ → ℕ) (e : ℕ) (b : List ℕ) (seen : List (List ℕ)) (k : Kept) → moves width step e b seen k ≡ moves_at b seen k.combination
unfolding moves moves_at
moves_at_lem step e b seen k = refl

abbrev any_row : List ℕ → Kept
any_row k = record { combination = k; state = 0 }

module _ (n : ℕ) (seen b k : List ℕ) (fresh : Bool) (u : Binds n seen b fresh) (j : Joint n seen k) where
  pub creates-old : includes k b ≡ false → fresh ≡ false → false ≡ moves_at b (seen_rows n seen) k
  creates-old h z =
      sym (sym (moves_at_lem (λ s e. 0) 0 b (seen_rows n seen) (any_row k))
      ∙ old-moves (λ s e. 0) 0 b (seen_rows n seen) u.wide (any_row k) j.wide (sym u.new ∙ z) h)

  pub creates_apart : compatible b k ≡ false → false ≡ moves_at b (seen_rows n seen) k
  unfolding moves_at
  creates_apart z = rw z

  pub creates_joins : (c : List ℕ) → compatible b k ≡ true → c ≡ join b k → Joins n seen c k
  creates_joins c z q = rw q (record {
    wide = length-join width b k u.wide j.wide;
    same = j.wide;
    more = true_of (includes (join b k) k) (join_includes_right b k (so z));
    itself = j.joins;
  })

  pub creates-is : (g : Bool) (c : List ℕ) → compatible b k ≡ true → c ≡ join b k → g ≡ equal (join_seen width c (seen_rows n seen)) k
      → g ≡ moves_at b (seen_rows n seen) k
  unfolding moves_at
  creates-is g c z q r = rw (z, ← q) r

  pub moves_in_place : (f : Bool) → f ≡ includes k b → f ≡ true → f ≡ moves_at b (seen_rows n seen) k
  moves_in_place f e z =
      z ∙ sym (sym (moves_at_lem (λ s e. 0) 0 b (seen_rows n seen) (any_row k))
      ∙ in_place_moves (λ s e. 0) 0 b (seen_rows n seen) u.wide (any_row k) (record { wide = j.wide; joins = j.joins }) (sym e ∙ z))

-- `usize::from` of a test
pub one_from : (b : Bool) → bool_byte b ≡ one b
one_from true = refl
one_from false = refl

pub one_small : (b : Bool) → one b ≤ 1
one_small true = omega arith
one_small false = omega arith

-- One row, and all -----------------------------------------------------------------------------------------------------

module _ (next : List ℕ) (states e n i : ℕ) (b seen kept : List ℕ) (fresh : Bool) (u : RowReady next states e n i b seen kept fresh) where
  pub row_joint : (k : List ℕ) → k ≡ numbers_at width kept (i * kept_stride) → Joint n seen k
  row_joint k q = rw q (record { wide = u.right.wide; joins = u.right.joins })

  pub row_onward : (to : ℕ) → to ≡ step_of next (get_or kept (i * kept_stride + width) 0) e → to < most_states
  row_onward to q =
      let o = u.moves.onward (get_or kept (i * kept_stride + width) 0) u.within in
      let f = u.moves.few in
      rw q (omega arith)

module _ (next : List ℕ) (states e n m : ℕ) (b seen kept : List ℕ) (fresh : Bool) where
  pub ready_row : (i : ℕ) → Ready next states e n m b seen kept fresh → i < m → RowReady next states e n i b seen kept fresh
  ready_row i u h =
      let z : 0 + i * kept_stride ≡ i * kept_stride = zero-add (i * kept_stride) in
      let r : In (kept_at width kept (i * kept_stride)) (kept_from m kept 0) = subst (λ (k : ℕ). In (kept_at width kept k) (kept_from m kept 0)) z (row_in m kept 0 i h) in
      record {
        moves = u.moves;
        binds = u.binds;
        inside = let j = u.rows.inside in omega arith;
        right = u.rows.right (kept_at width kept (i * kept_stride)) r;
        within = u.rows.within (kept_at width kept (i * kept_stride)) r;
      }

-- Then b is seen -------------------------------------------------------------------------------------------------------

pub length-insert_seen : (b : List ℕ) (l : List (List ℕ)) → length (insert_seen b l) ≡ suc (length l)
length-insert_seen b [] = unfold insert_seen in refl
length-insert_seen b (x ∷ l) = elim (decided (precedes x b)) [
  | inl e ↦ rw (insert_seen-after b x l e) (ap suc (length-insert_seen b l))
  | inr e ↦ rw (insert_seen_here b x l e)
]

pub see_new : (b : List ℕ) (seen : List (List ℕ)) → is_new b seen ≡ true → see width b seen ≡ insert_seen b seen
unfolding see is_new
see_new b seen h = elim (decided (equal b (empty_of width) || among b seen)) [
  | inl e ↦ absurd (so (rw e at h))
  | inr e ↦ rw e
]

pub see-old : (b : List ℕ) (seen : List (List ℕ)) → is_new b seen ≡ false → see width b seen ≡ seen
unfolding see is_new
see-old b seen h = elim (decided (equal b (empty_of width) || among b seen)) [
  | inl e ↦ rw e
  | inr e ↦ absurd (so (sym (rw e at h)))
]

pub length-see : (b : List ℕ) (n : ℕ) (seen : List ℕ) → length (see width b (seen_rows n seen)) ≡ n + one (is_new b (seen_rows n seen))
length-see b n seen =
    let l : length (seen_rows n seen) ≡ n = unfold seen_rows in length-tabulate n _ in
    elim (decided (is_new b (seen_rows n seen))) [
      | inl e ↦ rw (see_new b (seen_rows n seen) e, e, length-insert_seen b (seen_rows n seen), l) (omega arith)
      | inr e ↦ rw (see-old b (seen_rows n seen) e, e, l) (omega arith)
    ]
