-- Laws of the states' growth: the lists of a pattern give the definition's moves, one state more is one turn of the
-- definition, and all states gone through are the definition's.
-- Assumes nothing.
use Rattle.std.specs.Prelude.{ℕ, zero, suc, ◌+◌, ◌-◌, ◌*◌, ◌/◌, ◌%◌, ◌≤◌, ◌<◌, ◌≡◌, refl, ◌⊎◌, Bool, cond, length, take, set, replicate, ltb}
use native.Mathlib.Omega.{arith}
use Rattle.std.proofs.Common.{mod-lt, div-add-mod', zero-lt-suc, ap, ◌∙◌, length-take-le, lt-ltb, le-ltb, ltb-true, ltb-false}
use Rattle.std.proofs.Math.Path.{sym, ap₂}
use Rattle.std.proofs.Math.Logic.{inl, inr}
use mathlib.Core.List.{List, [], ◌∷◌, ◌++◌}
use Rattle.std.proofs.Math.ListN.{get_or}
use Rattle.std.proofs.Math.Seq.{get_or-take}
use Rattle.std.specs.Int.Bits.{bit_or, bit_and}
use Rattle.document.specs.Lists.{tabulate}
use Rattle.document.specs.Limits.{most_events, most_states}
use Rattle.document.specs.Patterns.{Pattern}
use Rattle.document.specs.Positions as positions
use Rattle.document.specs.Positions.{holds, move, start_set}
use Rattle.document.specs.States.{Found, state_of, find, find_all, row_of, go_through, states_of}
use Rattle.basics.specs.Tests.{decided}
use Rattle.basics.specs.Lists.{tabulate_at, tabulate-past, tabulate_same, tabulate-next, zero_at}
use Rattle.sets.specs.ShapesLaws.{tabulate-is}
use Rattle.nexts.specs.Nexts.{nexts_of, move_of, moves_of}
use Rattle.growing.specs.declared.Grown.{Grown}
use Rattle.growing.specs.Growing.{met_all, Row, Reads, AllStates, TooMany, transitions}
use Rattle.growing.specs.RowLaws.{find_longer}

-- The definition's moves ------------------------------------------------------------------------------------------------

next-is : (p : Pattern) (anew : Bool) (after named : List ℕ) (base s n : ℕ) → Reads p anew after named base → n ≤ 32
    → nexts_of after s n ≡ positions.nexts p s n
unfolding nexts_of positions.nexts
next-is p anew after named base s zero r h = refl
next-is p anew after named base s (suc n) r h =
    ap₂ bit_or (next-is p anew after named base s n r (omega arith)) (ap (λ (x : ℕ). cond (holds s n) x 0) (r.nexts n (omega arith)))

move-is : (p : Pattern) (anew : Bool) (after named : List ℕ) (base s e : ℕ) → Reads p anew after named base → e < most_events
    → get_or (moves_of after named base s) e 0 ≡ move anew p s e
unfolding moves_of move
move-is p anew after named base s e r h =
    tabulate_at most_events (move_of after named base s) e 0 h
    ∙ ap₂ bit_or (ap₂ bit_and (next-is p anew after named base s 32 r (omega arith)) (r.names e h)) r.starts

found-is : (p : Pattern) (anew : Bool) (after named : List ℕ) (base s e n : ℕ) (found : List ℕ) → Reads p anew after named base → e + n ≤ most_events
    → met_all (moves_of after named base s) e n found ≡ find_all anew p s e n found
unfolding met_all find_all
found-is p anew after named base s e zero found r h = refl
found-is p anew after named base s e (suc n) found r h =
    rw (move-is p anew after named base s e r (omega arith))
    (found-is p anew after named base s (suc e) n (find (move anew p s e) found) r (omega arith))

row_long : (p : Pattern) (anew : Bool) (s e n : ℕ) (found : List ℕ) → length (row_of anew p s e n found) ≡ n
unfolding row_of
row_long p anew s e zero found = refl
row_long p anew s e (suc n) found = ap suc (row_long p anew s (suc e) n found)

row_at : (p : Pattern) (anew : Bool) (s e n k : ℕ) (found : List ℕ) → k < n → get_or (row_of anew p s e n found) k 0 ≡ state_of (move anew p s (e + k)) found
unfolding row_of
row_at p anew s e zero k found h = absurd (omega arith)
row_at p anew s e (suc n) zero found h = let z : e + 0 ≡ e = omega arith in rw z
row_at p anew s e (suc n) (suc k) found h =
    let z : e + suc k ≡ suc e + k = omega arith in
    rw z (row_at p anew s (suc e) n k found (omega arith))

-- The definition's turns ------------------------------------------------------------------------------------------------

-- the state after one turn at the state i
abbrev pub turned : Bool → Pattern → ℕ → ℕ → Found → Found
turned anew p m i g = record {
  sets = find_all anew p (get_or g.sets i 0) 0 m g.sets;
  table = g.table ++ (row_of anew p (get_or g.sets i 0) 0 m (find_all anew p (get_or g.sets i 0) 0 m g.sets) ∷ []);
}

go_on : (anew : Bool) (p : Pattern) (m i k : ℕ) (g : Found) → i < length g.sets
    → go_through anew p m i (suc k) g ≡ go_through anew p m (suc i) k (turned anew p m i g)
unfolding go_through
go_on anew p m i k g h = rw (lt-ltb i (length g.sets) h, go_through)

go_stop : (anew : Bool) (p : Pattern) (m i k : ℕ) (g : Found) → length g.sets ≤ i → go_through anew p m i (suc k) g ≡ g
unfolding go_through
go_stop anew p m i k g h = rw (le-ltb i (length g.sets) h, go_through)

go_none : (anew : Bool) (p : Pattern) (m i : ℕ) (g : Found) → go_through anew p m i 0 g ≡ g
unfolding go_through
go_none anew p m i g = refl

find_all_longer : (anew : Bool) (p : Pattern) (s e n : ℕ) (found : List ℕ) → length found ≤ length (find_all anew p s e n found)
unfolding find_all
find_all_longer anew p s e zero found = omega arith
find_all_longer anew p s e (suc n) found =
    let a = find_longer (move anew p s e) found in
    let b = find_all_longer anew p s (suc e) n (find (move anew p s e) found) in
    omega arith

-- no state is lost
go_longer : (anew : Bool) (p : Pattern) (m i k : ℕ) (g : Found) → length g.sets ≤ length (go_through anew p m i k g).sets
go_longer anew p m i zero g = rw (go_none anew p m i g) (omega arith)
go_longer anew p m i (suc k) g = elim (decided (ltb i (length g.sets))) [
  | inl e ↦
      let a = find_all_longer anew p (get_or g.sets i 0) 0 m g.sets in
      let b = go_longer anew p m (suc i) k (turned anew p m i g) in
      rw (go_on anew p m i k g (ltb-true _ _ e)) (omega arith)
  | inr e ↦ rw (go_stop anew p m i k g (ltb-false _ _ e)) (omega arith)
]

-- One state more --------------------------------------------------------------------------------------------------------

-- the rows of the first i states, as the places of the transitions have them
unfoldable pub rows_of : ℕ → ℕ → List ℕ → List (List ℕ)
rows_of i m next = tabulate i (λ k. tabulate m (λ e. get_or next (k * most_events + e) 0))

-- so many states were gone through, and those left add what the definition's turns add; places of no row are 0
pub record Growing (after named : List ℕ) (base m : ℕ) (sets next : List ℕ) (n i : ℕ) : Type 0 where
  pub events : m ≤ most_events
  pub few : n ≤ most_states
  pub inside : i ≤ most_states
  pub long_sets : length sets ≡ most_states
  pub long_next : length next ≡ most_states * most_events
  pub left : (p : Pattern) (anew : Bool) → Reads p anew after named base
      → go_through anew p m i (suc most_states - i) (record { sets = take n sets; table = rows_of i m next }) ≡ states_of anew p m
  pub blank : (k e : ℕ) → e < most_events → (i ≤ k) ⊎ (m ≤ e) → get_or next (k * most_events + e) 0 ≡ 0

pub growing_begin : (after named : List ℕ) (base m : ℕ) → m ≤ most_events
    → Growing after named base m (set (replicate 64 0) 0 start_set) (replicate 1024 0) 1 0
unfolding states_of rows_of tabulate
growing_begin after named base m h = record {
  events = h;
  few = omega arith;
  inside = omega arith;
  long_sets = refl;
  long_next = refl;
  left = λ p anew r. refl;
  blank = λ k e l b. zero_at 1024 (k * most_events + e);
}

module _ (after named : List ℕ) (base m : ℕ) (sets next : List ℕ) (n i : ℕ) (g : Growing after named base m sets next n i) where
  first : length (take n sets) ≡ n
  first = let l = g.long_sets in let f = g.few in length-take-le n sets (omega arith)

  -- the definition's next turn
  on : i < n → (p : Pattern) (anew : Bool) → Reads p anew after named base
      → go_through anew p m (i + 1) (suc most_states - (i + 1)) (turned anew p m i (record { sets = take n sets; table = rows_of i m next })) ≡ states_of anew p m
  on h p anew r =
      let f = g.few in
      let w = first in
      let z : suc most_states - i ≡ suc (suc most_states - (i + 1)) = omega arith in
      let y : suc i ≡ i + 1 = omega arith in
      rw y at (sym (go_on anew p m i (suc most_states - (i + 1)) (record { sets = take n sets; table = rows_of i m next }) (omega arith)) ∙ (rw z at (g.left p anew r)))

  met_is : i < n → (p : Pattern) (anew : Bool) → Reads p anew after named base → (s : ℕ) → s ≡ get_or sets i 0
      → met_all (moves_of after named base s) 0 m (take n sets) ≡ find_all anew p (get_or (take n sets) i 0) 0 m (take n sets)
  met_is h p anew r s q =
      let ev = g.events in
      rw (q, get_or-take n sets i 0 h) (found-is p anew after named base (get_or sets i 0) 0 m (take n sets) r (omega arith))

  -- more than 64 states
  pub growing_over : (to : List ℕ) → i < n → to ≡ moves_of after named base (get_or sets i 0)
      → most_states < length (met_all to 0 m (take n sets)) → TooMany after named base m
  growing_over to h q b = record {
    over = λ p anew r.
        let d = rw (q, met_is h p anew r (get_or sets i 0) refl) at b in
        let a = go_longer anew p m (i + 1) (suc most_states - (i + 1)) (turned anew p m i (record { sets = take n sets; table = rows_of i m next })) in
        let c = rw (on h p anew r) at a in
        omega arith;
  }

  -- the rows with the one just gone through
  rows_more : (to : List ℕ) (g' : Grown) → i < n → to ≡ moves_of after named base (get_or sets i 0)
      → Row to m i (record { count = n; sets = sets; next = next }) g' → (p : Pattern) (anew : Bool) → Reads p anew after named base
      → rows_of (i + 1) m g'.next
      ≡ rows_of i m next ++ (row_of anew p (get_or (take n sets) i 0) 0 m (find_all anew p (get_or (take n sets) i 0) 0 m (take n sets)) ∷ [])
  unfolding rows_of
  rows_more to g' h q row p anew r =
      let ev = g.events in
      let s = get_or (take n sets) i 0 in
      let found = find_all anew p s 0 m (take n sets) in
      let old : tabulate i (λ k. tabulate m (λ e. get_or g'.next (k * most_events + e) 0)) ≡ tabulate i (λ k. tabulate m (λ e. get_or next (k * most_events + e) 0)) =
      tabulate_same i _ _ (λ k l. tabulate_same m _ _ (λ e d. row.other (k * most_events + e) (λ a x (y : k * most_events + e ≡ i * most_events + a). omega arith))) in
      let new : row_of anew p s 0 m found ≡ tabulate m (λ e. get_or g'.next (i * most_events + e) 0) =
      tabulate-is m (λ e. get_or g'.next (i * most_events + e) 0) (row_of anew p s 0 m found) (row_long p anew s 0 m found) (λ k d.
      row_at p anew s 0 m k found d ∙ sym (row.entry k d ∙ ap₂ state_of (there k d) (rw q (met_is h p anew r (get_or sets i 0) refl)))) in
      tabulate-next i (λ k. tabulate m (λ e. get_or g'.next (k * most_events + e) 0)) ∙ ap₂ (λ (x : List (List ℕ)) (y : List ℕ). x ++ (y ∷ [])) old (sym new)
    where
      there : (k : ℕ) → k < m → get_or to k 0 ≡ move anew p (get_or (take n sets) i 0) (0 + k)
      there k d =
          let ev = g.events in
          let z : 0 + k ≡ k = omega arith in
          rw (q, z, get_or-take n sets i 0 h) (move-is p anew after named base (get_or sets i 0) k r (omega arith))

  pub growing_turn : (to : List ℕ) (g' : Grown) → i < n → to ≡ moves_of after named base (get_or sets i 0)
      → Row to m i (record { count = n; sets = sets; next = next }) g' → Growing after named base m g'.sets g'.next g'.count (i + 1)
  growing_turn to g' h q row =
      let ev = g.events in
      let few = g.few in
      record {
        events = ev;
        few = row.few;
        inside = omega arith;
        long_sets = row.long_sets;
        long_next = row.long_next;
        left = λ p anew r.
            let f : take g'.count g'.sets ≡ find_all anew p (get_or (take n sets) i 0) 0 m (take n sets) = rw (q, met_is h p anew r (get_or sets i 0) refl) at row.found in
            rw (f, rows_more to g' h q row p anew r) (on h p anew r);
        blank = λ k e l d. row.other (k * most_events + e) (λ a x y. apart k e a l x y d) ∙ g.blank k e l (before k e d);
      }
    where
      apart : (k e a : ℕ) → e < most_events → a < m → k * most_events + e ≡ i * most_events + a → (i + 1 ≤ k) ⊎ (m ≤ e) → ⊥
      apart k e a l x y (inl d) = let ev = g.events in omega arith
      apart k e a l x y (inr d) = let ev = g.events in omega arith

      before : (k e : ℕ) → (i + 1 ≤ k) ⊎ (m ≤ e) → (i ≤ k) ⊎ (m ≤ e)
      before k e (inl d) = inl (omega arith)
      before k e (inr d) = inr d

  -- all states gone through
  stops : n ≤ i → (p : Pattern) (anew : Bool) → Reads p anew after named base
      → record { sets = take n sets; table = rows_of i m next } ≡ states_of anew p m
  stops h p anew r =
      let w = first in
      let x = g.inside in
      let z : suc most_states - i ≡ suc (most_states - i) = omega arith in
      sym (go_stop anew p m i (most_states - i) (record { sets = take n sets; table = rows_of i m next }) (omega arith)) ∙ (rw z at (g.left p anew r))

  place_is : (k e : ℕ) → e < most_events → get_or next (k * most_events + e) 0 ≡ get_or (get_or (rows_of i m next) k []) e 0
  unfolding rows_of
  place_is k e h = elim (decided (ltb k i)) [
    | inl l ↦ rw (tabulate_at i (λ k. tabulate m (λ e. get_or next (k * most_events + e) 0)) k [] (ltb-true k i l)) (elim (decided (ltb e m)) [
      | inl d ↦ sym (tabulate_at m (λ e. get_or next (k * most_events + e) 0) e 0 (ltb-true e m d))
      | inr d ↦ g.blank k e h (inr (ltb-false e m d)) ∙ sym (tabulate-past m (λ e. get_or next (k * most_events + e) 0) e 0 (ltb-false e m d))
    ])
    | inr l ↦ rw (tabulate-past i (λ k. tabulate m (λ e. get_or next (k * most_events + e) 0)) k [] (ltb-false k i l)) (g.blank k e h (inl (ltb-false k i l)))
  ]

  pub growing_end : n ≤ i → AllStates after named base m (record { count = n; sets = sets; next = next })
  growing_end h = record {
    few = g.few;
    long = g.long_sets;
    sets = λ p anew r. ap (λ (f : Found). f.sets) (stops h p anew r);
    next = λ p anew r. whole ∙ ap transitions (stops h p anew r);
  }
    where
      whole : next ≡ transitions (record { sets = take n sets; table = rows_of i m next })
      whole = tabulate-is (most_states * most_events) _ next g.long_next (λ k d.
          let z : k ≡ k / most_events * most_events + k % most_events = sym (div-add-mod' k most_events) in
          ap (λ (j : ℕ). get_or next j 0) z ∙ place_is (k / most_events) (k % most_events) (mod-lt k (zero-lt-suc 15)))
