-- Laws of combinations number by number, as a loop over two combinations meets them: what is left from a number on, by what
-- that number says.
-- Assumes nothing.
use Rattle.std.specs.Prelude.{ℕ, zero, suc, ◌+◌, ◌≤◌, ◌<◌, ◌≡◌, refl, Bool, true, false, not, cond, ◌||◌, List, [], ◌∷◌, length, get_or, set, drop, eqb}
use Rattle.std.proofs.Common.{sym, ap, ◌∙◌, drop_of_length-le, length-set, drop-cons, get_or-set_same, get_or-set_other, ext_get_or, arith, add-one, eq-eqb, ne_eqb, lt-ltb, le-ltb}
use Rattle.std.proofs.Math.Decide.{ℕ_discrete}
use Rattle.std.proofs.lemmas.Bool.{not-true, not-false}
use Rattle.document.specs.Lists.{equal}
use Rattle.document.specs.Limits.{width}
use Rattle.document.specs.Positions.{holds}
use Rattle.document.specs.Combinations.{includes, compatible, join, precedes, binds_from, binds_exactly, zero_past}
use Rattle.document.specs.Tables.{numbers_at}
use Rattle.slices.specs.CombinationsLaws.{length-join}
use Rattle.slices.specs.TablesBackLaws.{length-numbers_at}

-- what is left from a number on is that number and what is left after it
drop_here : (c : List ℕ) (j : ℕ) → length c ≡ width → j < width → drop j c ≡ get_or c j 0 ∷ drop (j + 1) c
drop_here c j o h = rw (add-one, drop-cons c j 0 (omega arith))

drop-end : (c : List ℕ) (j : ℕ) → length c ≡ width → width ≤ j → drop j c ≡ []
drop-end c j o h = drop_of_length-le c {i = j} (omega arith)

-- Includes, compatible, equal ------------------------------------------------------------------------------------------

pub record Included (c b : List ℕ) (j : ℕ) : Type 0 where
  pub first : length c ≡ width
  pub second : length b ≡ width
  pub rest : includes (drop j c) (drop j b) ≡ includes c b

pub included_begins : (c b : List ℕ) → length c ≡ width → length b ≡ width → Included c b 0
included_begins c b p q = record { first = p; second = q; rest = refl }

pub included_stops : (c b : List ℕ) (j : ℕ) (f : Bool) → Included c b j → j < width → f ≡ (eqb (get_or b j 0) 0 || eqb (get_or c j 0) (get_or b j 0))
    → not f ≡ true → false ≡ includes c b
unfolding includes
included_stops c b j f i h e n =
    rw (drop_here c j i.first h, drop_here b j i.second h, sym e ∙ not-true f n) at i.rest

pub included_turn : (c b : List ℕ) (j : ℕ) (f : Bool) → Included c b j → j < width → f ≡ (eqb (get_or b j 0) 0 || eqb (get_or c j 0) (get_or b j 0))
    → not f ≡ false → Included c b (j + 1)
unfolding includes
included_turn c b j f i h e n = record {
  first = i.first;
  second = i.second;
  rest = rw (drop_here c j i.first h, drop_here b j i.second h, sym e ∙ not-false f n) at i.rest;
}

pub included_ends : (c b : List ℕ) (j : ℕ) → Included c b j → width ≤ j → true ≡ includes c b
unfolding includes
included_ends c b j i h = rw (drop-end c j i.first h, drop-end b j i.second h) at i.rest

pub record Suited (c b : List ℕ) (j : ℕ) : Type 0 where
  pub first : length c ≡ width
  pub second : length b ≡ width
  pub rest : compatible (drop j c) (drop j b) ≡ compatible c b

pub suited_begins : (c b : List ℕ) → length c ≡ width → length b ≡ width → Suited c b 0
suited_begins c b p q = record { first = p; second = q; rest = refl }

pub suited_stops : (c b : List ℕ) (j : ℕ) (f : Bool) → Suited c b j → j < width → f ≡ (eqb (get_or c j 0) 0 || eqb (get_or b j 0) 0 || eqb (get_or c j 0) (get_or b j 0))
    → not f ≡ true → false ≡ compatible c b
unfolding compatible
suited_stops c b j f i h e n =
    rw (drop_here c j i.first h, drop_here b j i.second h, sym e ∙ not-true f n) at i.rest

pub suited_turn : (c b : List ℕ) (j : ℕ) (f : Bool) → Suited c b j → j < width → f ≡ (eqb (get_or c j 0) 0 || eqb (get_or b j 0) 0 || eqb (get_or c j 0) (get_or b j 0))
    → not f ≡ false → Suited c b (j + 1)
unfolding compatible
suited_turn c b j f i h e n = record {
  first = i.first;
  second = i.second;
  rest = rw (drop_here c j i.first h, drop_here b j i.second h, sym e ∙ not-false f n) at i.rest;
}

pub suited_ends : (c b : List ℕ) (j : ℕ) → Suited c b j → width ≤ j → true ≡ compatible c b
unfolding compatible
suited_ends c b j i h = rw (drop-end c j i.first h, drop-end b j i.second h) at i.rest

pub record Same (c b : List ℕ) (j : ℕ) : Type 0 where
  pub first : length c ≡ width
  pub second : length b ≡ width
  pub rest : equal (drop j c) (drop j b) ≡ equal c b

pub same_begins : (c b : List ℕ) → length c ≡ width → length b ≡ width → Same c b 0
same_begins c b p q = record { first = p; second = q; rest = refl }

pub same_stops : (c b : List ℕ) (j : ℕ) → Same c b j → j < width → (get_or c j 0 ≡ get_or b j 0 → ⊥) → false ≡ equal c b
unfolding equal
same_stops c b j i h n =
    rw (drop_here c j i.first h, drop_here b j i.second h, ne_eqb (get_or c j 0) (get_or b j 0) n) at i.rest

pub same_turn : (c b : List ℕ) (j : ℕ) → Same c b j → j < width → get_or c j 0 ≡ get_or b j 0 → Same c b (j + 1)
unfolding equal
same_turn c b j i h e = record {
  first = i.first;
  second = i.second;
  rest = rw (drop_here c j i.first h, drop_here b j i.second h, eq-eqb (get_or c j 0) (get_or b j 0) e) at i.rest;
}

pub same_ends : (c b : List ℕ) (j : ℕ) → Same c b j → width ≤ j → true ≡ equal c b
unfolding equal
same_ends c b j i h = rw (drop-end c j i.first h, drop-end b j i.second h) at i.rest

-- Order ----------------------------------------------------------------------------------------------------------------

pub record Ordered (c b : List ℕ) (j : ℕ) : Type 0 where
  pub first : length c ≡ width
  pub second : length b ≡ width
  pub rest : precedes (drop j c) (drop j b) ≡ precedes c b

pub ordered_begins : (c b : List ℕ) → length c ≡ width → length b ≡ width → Ordered c b 0
ordered_begins c b p q = record { first = p; second = q; rest = refl }

pub ordered_less : (c b : List ℕ) (j : ℕ) → Ordered c b j → j < width → get_or c j 0 < get_or b j 0 → true ≡ precedes c b
unfolding precedes
ordered_less c b j i h l =
    rw (drop_here c j i.first h, drop_here b j i.second h, lt-ltb (get_or c j 0) (get_or b j 0) l) at i.rest

pub ordered_more : (c b : List ℕ) (j : ℕ) → Ordered c b j → j < width → get_or b j 0 < get_or c j 0 → false ≡ precedes c b
unfolding precedes
ordered_more c b j i h l =
    rw (
      drop_here c j i.first h,
      drop_here b j i.second h,
      le-ltb (get_or c j 0) (get_or b j 0) (omega arith),
      ne_eqb (get_or c j 0) (get_or b j 0) (λ q. omega arith),
    ) at i.rest

pub ordered_turn : (c b : List ℕ) (j : ℕ) → Ordered c b j → j < width → get_or b j 0 ≤ get_or c j 0 → get_or c j 0 ≤ get_or b j 0 → Ordered c b (j + 1)
unfolding precedes
ordered_turn c b j i h l m = record {
  first = i.first;
  second = i.second;
  rest = rw (
    drop_here c j i.first h,
    drop_here b j i.second h,
    le-ltb (get_or c j 0) (get_or b j 0) l,
    eq-eqb (get_or c j 0) (get_or b j 0) (omega arith),
  ) at i.rest;
}

pub ordered_ends : (c b : List ℕ) (j : ℕ) → Ordered c b j → width ≤ j → false ≡ precedes c b
unfolding precedes
ordered_ends c b j i h = rw (drop-end c j i.first h, drop-end b j i.second h) at i.rest

-- Sets of parameters ---------------------------------------------------------------------------------------------------

pub record Bound (s : ℕ) (c : List ℕ) (j : ℕ) : Type 0 where
  pub wide : length c ≡ width
  pub rest : binds_from j s (drop j c) ≡ binds_exactly s c

pub bound_begins : (s : ℕ) (c : List ℕ) → length c ≡ width → Bound s c 0
unfolding binds_exactly
bound_begins s c p = record { wide = p; rest = refl }

pub bound_stops : (s : ℕ) (c : List ℕ) (j : ℕ) (f : Bool) → Bound s c j → j < width
    → f ≡ cond (holds s j) (not (eqb (get_or c j 0) 0)) (eqb (get_or c j 0) 0) → not f ≡ true → false ≡ binds_exactly s c
unfolding binds_from
bound_stops s c j f i h e n = rw (drop_here c j i.wide h, binds_from, sym e ∙ not-true f n) at i.rest

pub bound_turn : (s : ℕ) (c : List ℕ) (j : ℕ) (f : Bool) → Bound s c j → j < width
    → f ≡ cond (holds s j) (not (eqb (get_or c j 0) 0)) (eqb (get_or c j 0) 0) → not f ≡ false → Bound s c (j + 1)
unfolding binds_from
bound_turn s c j f i h e n = record {
  wide = i.wide;
  rest =
      ap (λ k. binds_from k s (drop (j + 1) c)) (add-one j)
      ∙ rw (drop_here c j i.wide h, binds_from, sym e ∙ not-false f n) at i.rest;
}

pub bound_ends : (s : ℕ) (c : List ℕ) (j : ℕ) → Bound s c j → width ≤ j → true ≡ binds_exactly s c
unfolding binds_from
bound_ends s c j i h = rw (drop-end c j i.wide h) at i.rest

-- Numbers past the parameters ------------------------------------------------------------------------------------------

zero_past-drop : (n : ℕ) (c : List ℕ) → zero_past 0 (drop n c) ≡ zero_past n c
unfolding zero_past
zero_past-drop zero c = refl
zero_past-drop (suc n) [] = refl
zero_past-drop (suc n) (x ∷ c) = zero_past-drop n c

pub record Cleared (n : ℕ) (c : List ℕ) (j : ℕ) : Type 0 where
  pub wide : length c ≡ width
  pub rest : zero_past 0 (drop j c) ≡ zero_past n c

pub cleared_begins : (n : ℕ) (c : List ℕ) → length c ≡ width → Cleared n c n
cleared_begins n c p = record { wide = p; rest = zero_past-drop n c }

pub cleared_stops : (n : ℕ) (c : List ℕ) (j : ℕ) → Cleared n c j → j < width → (get_or c j 0 ≡ 0 → ⊥) → false ≡ zero_past n c
unfolding zero_past
cleared_stops n c j i h z = rw (drop_here c j i.wide h, ne_eqb (get_or c j 0) 0 z) at i.rest

pub cleared_turn : (n : ℕ) (c : List ℕ) (j : ℕ) → Cleared n c j → j < width → get_or c j 0 ≡ 0 → Cleared n c (j + 1)
unfolding zero_past
cleared_turn n c j i h z = record { wide = i.wide; rest = rw (drop_here c j i.wide h, eq-eqb (get_or c j 0) 0 z) at i.rest }

pub cleared_ends : (n : ℕ) (c : List ℕ) (j : ℕ) → Cleared n c j → width ≤ j → true ≡ zero_past n c
unfolding zero_past
cleared_ends n c j i h = rw (drop-end c j i.wide h) at i.rest

-- A combination written number by number -------------------------------------------------------------------------------

pub record Written (new out : List ℕ) (j : ℕ) : Type 0 where
  pub made : length out ≡ width
  pub wide : length new ≡ width
  pub below : (k : ℕ) → k < j → get_or out k 0 ≡ get_or new k 0

pub written_none : (new out : List ℕ) → length out ≡ width → length new ≡ width → Written new out 0
written_none new out p q = record { made = p; wide = q; below = λ k h. absurd (omega arith) }

pub written-more : (new out : List ℕ) (j v : ℕ) → Written new out j → j < width → v ≡ get_or new j 0 → Written new (set out j v) (j + 1)
written-more new out j v w h e = record {
  made = length-set out j v ∙ w.made;
  wide = w.wide;
  below = λ k g. elim (ℕ_discrete k j) [
    | yes q ↦ rw q (get_or-set_same out j v 0 (let l = w.made in omega arith) ∙ e)
    | no n ↦ get_or-set_other out j k v 0 n ∙ w.below k (omega arith)
  ];
}

pub written_all : (new out : List ℕ) (j : ℕ) → Written new out j → width ≤ j → out ≡ new
written_all new out j w h =
    ext_get_or 0 out new (w.made ∙ sym w.wide) (λ i g. w.below i (let l = w.made in omega arith))

-- the join, written
pub get_or_join : (c b : List ℕ) (k : ℕ) → length c ≡ length b → get_or (join c b) k 0 ≡ cond (eqb (get_or c k 0) 0) (get_or b k 0) (get_or c k 0)
unfolding join
get_or_join [] [] k e = refl
get_or_join [] (y ∷ b) k e = absurd (omega arith)
get_or_join (x ∷ c) [] k e = absurd (omega arith)
get_or_join (x ∷ c) (y ∷ b) zero e = refl
get_or_join (x ∷ c) (y ∷ b) (suc k) e = get_or_join c b k (omega arith)

pub record Joined (c b out : List ℕ) (j : ℕ) : Type 0 where
  pub first : length c ≡ width
  pub second : length b ≡ width
  pub writes : Written (join c b) out j

pub joined_begins : (c b : List ℕ) → length c ≡ width → length b ≡ width → Joined c b c 0
joined_begins c b p q = record { first = p; second = q; writes = written_none (join c b) c p (length-join width c b p q) }

pub joined-turn : (c b out : List ℕ) (j v : ℕ) → Joined c b out j → j < width → v ≡ cond (eqb (get_or c j 0) 0) (get_or b j 0) (get_or c j 0)
    → Joined c b (set out j v) (j + 1)
joined-turn c b out j v i h e = record {
  first = i.first;
  second = i.second;
  writes = written-more (join c b) out j v i.writes h (e ∙ sym (get_or_join c b j (i.first ∙ sym i.second)));
}

pub joined_ends : (c b out : List ℕ) (j : ℕ) → Joined c b out j → width ≤ j → out ≡ join c b
joined_ends c b out j i h = written_all (join c b) out j i.writes h

-- a row of a table, written
pub get_or_numbers_at : (n : ℕ) (t : List ℕ) (at k : ℕ) → k < n → get_or (numbers_at n t at) k 0 ≡ get_or t (at + k) 0
unfolding numbers_at
get_or_numbers_at zero t at k h = absurd (omega arith)
get_or_numbers_at (suc n) t at zero h = ap (λ i. get_or t i 0) (omega arith)
get_or_numbers_at (suc n) t at (suc k) h = get_or_numbers_at n t (at + 1) k (omega arith) ∙ ap (λ i. get_or t i 0) (omega arith)

pub row_begins : (t : List ℕ) (at : ℕ) (out : List ℕ) → length out ≡ width → Written (numbers_at width t at) out 0
row_begins t at out p = written_none (numbers_at width t at) out p (length-numbers_at width t at)

pub row-turn : (t : List ℕ) (at : ℕ) (out : List ℕ) (j : ℕ) → Written (numbers_at width t at) out j → j < width
    → Written (numbers_at width t at) (set out j (get_or t (at + j) 0)) (j + 1)
row-turn t at out j w h = written-more (numbers_at width t at) out j (get_or t (at + j) 0) w h (sym (get_or_numbers_at width t at j h))

pub row_ends : (t : List ℕ) (at : ℕ) (out : List ℕ) (j : ℕ) → Written (numbers_at width t at) out j → width ≤ j → out ≡ numbers_at width t at
row_ends t at out j w h = written_all (numbers_at width t at) out j w h
