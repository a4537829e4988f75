-- The turns of the loop that puts created combinations in, downwards.
-- Assumes nothing.
use Prim.Native.Nat.{ℕ, suc, ◌+◌, ◌-◌, ◌*◌, ◌<◌, ◌≤◌}
use Rattle.std.specs.Prelude.{◌≡◌, refl, Bool, get_or}
use Rattle.std.proofs.Math.Path.{sym, ap, ap₂}
use Rattle.std.proofs.Common.{subst, ◌∙◌, zero-add}
use Rattle.std.proofs.Math.Logic.{inl, inr}
use Rattle.std.proofs.Math.Bool.{true}
use mathlib.Core.List.{List, [], ◌∷◌, ◌++◌}
use native.Mathlib.Omega.{arith}
use Rattle.std.proofs.Math.ListN.{length}
use Rattle.document.specs.Lists.{In}
use Rattle.document.specs.Limits.{width, kept_stride}
use Rattle.document.specs.OneEvent.{Kept, moved_from}
use Rattle.document.specs.Tables.{seen_rows}
use Rattle.basics.specs.Tests.{decided}
use Rattle.basics.specs.Lists.{in_append}
use Rattle.slices.specs.ListsLaws.{map_append}
use Rattle.slices.specs.OrderLaws.{Ascends, combinations}
use Rattle.slices.specs.AscendingLaws.{length-insert_kept}
use Rattle.slices.specs.TablesLaws.{kept_at}
use Rattle.tables.specs.Tables.{kept_from}
use Rattle.tables.specs.OrderLaws.{ascends_back}
use Rattle.tables.specs.TablesLaws.{row_move, length-kept_from, row_in, kept_two}
use Rattle.moves.specs.Steps.{step_of, state_in}
use Rattle.moves.specs.Ready.{Right}
use Rattle.keeping.specs.Keeping.{grows, grown_by, grown, GrowReady, GrownRow, Growable, Grown}
use Rattle.keeping.specs.GrownLaws.{grown_ascends}

module _ (step : ℕ → ℕ → ℕ) (e : ℕ) (b : List ℕ) (seen : List (List ℕ)) (keeps : Kept → Bool) where
  grown_longer : (k : Kept) (l : List Kept) → length l ≤ length (grown_by step e b seen keeps k l)
  unfolding grown_by
  grown_longer k l = elim (decided (grows step e b seen keeps k)) [
    | inl h ↦ rw h (let q = length-insert_kept (moved_from width step e b seen k) l in omega arith)
    | inr h ↦ rw h (omega arith)
  ]

  -- growing the rest takes no more room than growing all
  grown-rest : (l m : List Kept) → length l + length (grown step e b seen keeps m) ≤ length (grown step e b seen keeps (l ++ m))
  unfolding grown
  grown-rest [] m = omega arith
  grown-rest (k ∷ l) m = let r = grown-rest l m in let g = grown_longer k (grown step e b seen keeps (l ++ m)) in omega arith

pub record Growing (next : List ℕ) (states hopes e n m i count : ℕ) (b seen t₀ t : List ℕ) (fresh : Bool) : Type 0 where
  pub able : Growable next states hopes e n m b seen t₀ fresh
  pub same : length t ≡ length t₀
  pub within : i ≤ m
  pub more : m ≤ count
  pub rows : kept_from (count - i) t (i * kept_stride) ≡ grown (step_of next) e b (seen_rows n seen) (state_in hopes) (kept_from (m - i) t₀ (i * kept_stride))
  pub low : (k : ℕ) → k < i * kept_stride → get_or t k 0 ≡ get_or t₀ k 0
  pub high : (k : ℕ) → count * kept_stride ≤ k → get_or t k 0 ≡ get_or t₀ k 0

pub growing_begins : (next : List ℕ) (states hopes e n m : ℕ) (b seen t : List ℕ) (fresh : Bool) → Growable next states hopes e n m b seen t fresh
    → Growing next states hopes e n m m m b seen t t fresh
unfolding grown kept_from
growing_begins next states hopes e n m b seen t fresh u = record {
  able = u;
  same = refl;
  within = omega arith;
  more = omega arith;
  rows = let q : m - m ≡ 0 = omega arith in rw q;
  low = λ k h. refl;
  high = λ k h. refl;
}

module _ (next : List ℕ) (states hopes e n m i count : ℕ) (b seen t₀ t : List ℕ) (fresh : Bool) (u : Growing next states hopes e n m i count b seen t₀ t fresh) (pos : 0 < i) where
  abbrev step : ℕ → ℕ → ℕ
  step = step_of next

  abbrev R : List (List ℕ)
  R = seen_rows n seen

  row_same : kept_at width t ((i - 1) * kept_stride) ≡ kept_at width t₀ ((i - 1) * kept_stride)
  row_same = row_move t₀ t ((i - 1) * kept_stride) ((i - 1) * kept_stride) (λ k h. u.low ((i - 1) * kept_stride + k) (omega arith))

  -- the rows from i - 1 on: that row, and those from i on
  rest-rows : kept_from (m - (i - 1)) t₀ ((i - 1) * kept_stride) ≡ kept_at width t₀ ((i - 1) * kept_stride) ∷ kept_from (m - i) t₀ (i * kept_stride)
  unfolding kept_from
  rest-rows =
      let w = u.within in
      let q : m - (i - 1) ≡ suc (m - i) = omega arith in
      let z : (i - 1) * kept_stride + kept_stride ≡ i * kept_stride = omega arith in
      rw (q, z)

  -- the rows above row i - 1, as it meets them
  above : kept_from (count - (i - 1) - 1) t ((i - 1) * kept_stride + kept_stride) ≡ grown step e b R (state_in hopes) (kept_from (m - i) t₀ (i * kept_stride))
  above =
      let w = u.within in
      let v = u.more in
      let q : count - (i - 1) - 1 ≡ count - i = omega arith in
      let z : (i - 1) * kept_stride + kept_stride ≡ i * kept_stride = omega arith in
      ap₂ (λ (x y : ℕ). kept_from x t y) q z ∙ u.rows

  suffix_in : (k : Kept) → In k (kept_from (m - i) t₀ (i * kept_stride)) → In k (kept_from m t₀ 0)
  suffix_in k j = rw (kept_two i m t₀ u.within) ((in_append k (kept_from i t₀ 0) (kept_from (m - i) t₀ (i * kept_stride))).1 (inr j))

  suffix_ascends : Ascends (combinations (kept_from (m - i) t₀ (i * kept_stride)))
  suffix_ascends =
      ascends_back (combinations (kept_from i t₀ 0)) (combinations (kept_from (m - i) t₀ (i * kept_stride)))
      (subst (λ (l : List (List ℕ)). Ascends l) (ap combinations (kept_two i m t₀ u.within) ∙ map_append (λ (k : Kept). k.combination) (kept_from i t₀ 0) (kept_from (m - i) t₀ (i * kept_stride))) u.able.ready.rows.order)

  this_in : In (kept_at width t₀ ((i - 1) * kept_stride)) (kept_from m t₀ 0)
  this_in = subst (λ (k : ℕ). In (kept_at width t₀ k) (kept_from m t₀ 0)) (zero-add ((i - 1) * kept_stride)) (row_in m t₀ 0 (i - 1) (let w = u.within in omega arith))

  -- what all rows will take
  fits : (i - 1) + length (grown step e b R (state_in hopes) (kept_from (m - (i - 1)) t₀ ((i - 1) * kept_stride))) ≤ length (grown step e b R (state_in hopes) (kept_from m t₀ 0))
  fits =
      let r = grown-rest step e b R (state_in hopes) (kept_from (i - 1) t₀ 0) (kept_from (m - (i - 1)) t₀ ((i - 1) * kept_stride)) in
      let w = u.within in
      let q = kept_two (i - 1) m t₀ (omega arith) in
      let l = length-kept_from (i - 1) t₀ 0 in
      rw q (omega arith)

  count_is : length (grown step e b R (state_in hopes) (kept_from (m - i) t₀ (i * kept_stride))) ≡ count - i
  count_is = ap length (sym u.rows) ∙ length-kept_from (count - i) t (i * kept_stride)

  room : grows step e b R (state_in hopes) (kept_at width t ((i - 1) * kept_stride)) ≡ true → (count + 1) * kept_stride ≤ length t
  unfolding grown grown_by
  room g =
      let g₀ : grows step e b R (state_in hopes) (kept_at width t₀ ((i - 1) * kept_stride)) ≡ true = ap (grows step e b R (state_in hopes)) (sym row_same) ∙ g in
      let old = grown step e b R (state_in hopes) (kept_from (m - i) t₀ (i * kept_stride)) in
      let a : length (grown step e b R (state_in hopes) (kept_from (m - (i - 1)) t₀ ((i - 1) * kept_stride))) ≡ suc (suc (length old)) =
      ap (λ (l : List Kept). length (grown step e b R (state_in hopes) l)) rest-rows
      ∙ rw g₀ (ap suc (length-insert_kept (moved_from width step e b R (kept_at width t₀ ((i - 1) * kept_stride))) old)) in
      let f = fits in
      let c = count_is in
      let r = u.able.room in
      let s = u.same in
      let w = u.within in
      let v = u.more in
      omega arith

  pub growing_ready : GrowReady next states hopes e n (i - 1) count b seen t fresh
  growing_ready = record {
    moves = u.able.ready.moves;
    binds = u.able.ready.binds;
    below = let w = u.within in let v = u.more in omega arith;
    inside =
        let c = count_is in
        let f = fits in
        let r = u.able.room in
        let s = u.same in
        let w = u.within in
        let v = u.more in
        let g = ap (λ (l : List Kept). length (grown step e b R (state_in hopes) l)) rest-rows in
        let k = longer in
        omega arith;
    right = subst (λ (k : Kept). Right (seen_rows n seen) k) (sym row_same) (u.able.ready.rows.right (kept_at width t₀ ((i - 1) * kept_stride)) this_in);
    within = subst (λ (k : Kept). k.state < states) (sym row_same) (u.able.ready.rows.within (kept_at width t₀ ((i - 1) * kept_stride)) this_in);
    order = subst (λ (l : List Kept). Ascends (combinations l)) (sym above)
        (grown_ascends step e b R u.able.ready.binds.wide (state_in hopes) (kept_from (m - i) t₀ (i * kept_stride)) (λ k j. u.able.ready.rows.right k (suffix_in k j)) suffix_ascends);
    room = room;
  }
    where
      longer : suc (length (grown step e b R (state_in hopes) (kept_from (m - i) t₀ (i * kept_stride))))
          ≤ length (grown step e b R (state_in hopes) (kept_at width t₀ ((i - 1) * kept_stride) ∷ kept_from (m - i) t₀ (i * kept_stride)))
      longer = unfold grown in (let g = grown_longer step e b R (state_in hopes) (kept_at width t₀ ((i - 1) * kept_stride)) (grown step e b R (state_in hopes) (kept_from (m - i) t₀ (i * kept_stride))) in omega arith)

  pub growing_turn : (t' : List ℕ) (r : ℕ) → length t' ≡ length t → GrownRow next hopes e n (i - 1) count b seen t t' r → Growing next states hopes e n m (i - 1) r b seen t₀ t' fresh
  unfolding grown
  growing_turn t' r l v = record {
    able = u.able;
    same = l ∙ u.same;
    within = let w = u.within in omega arith;
    more = let x = u.more in let y = v.more in omega arith;
    rows = v.rows
        ∙ ap₂ (λ (k : Kept) (x : List Kept). k ∷ grown_by step e b R (state_in hopes) k x) row_same above
        ∙ sym (ap (grown step e b R (state_in hopes)) rest-rows);
    low = λ k h. v.low k h ∙ u.low k (omega arith);
    high = λ k h. v.high k h ∙ u.high k (let x = v.more in omega arith);
  }

pub growing_ends : (next : List ℕ) (states hopes e n m i count : ℕ) (b seen t₀ t : List ℕ) (fresh : Bool) → Growing next states hopes e n m i count b seen t₀ t fresh
    → i ≤ 0 → Grown next hopes e n m b seen t₀ t count
growing_ends next states hopes e n m i count b seen t₀ t fresh u h =
    let q : i ≡ 0 = omega arith in
    let a : count - 0 ≡ count = omega arith in
    let c : m - 0 ≡ m = omega arith in
    let r : kept_from (count - 0) t (0 * kept_stride) ≡ grown (step_of next) e b (seen_rows n seen) (state_in hopes) (kept_from (m - 0) t₀ (0 * kept_stride)) =
    subst (λ (x : ℕ). kept_from (count - x) t (x * kept_stride) ≡ grown (step_of next) e b (seen_rows n seen) (state_in hopes) (kept_from (m - x) t₀ (x * kept_stride))) q u.rows in
    let rows : kept_from count t 0 ≡ grown (step_of next) e b (seen_rows n seen) (state_in hopes) (kept_from m t₀ 0) = rw (a, c) at r in
    let l : length (grown (step_of next) e b (seen_rows n seen) (state_in hopes) (kept_from m t₀ 0)) ≡ count = ap length (sym rows) ∙ length-kept_from count t 0 in
    record { rows = rows; high = u.high; fits = let f = u.able.room in omega arith }
