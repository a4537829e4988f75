-- The join of the seen rows that a combination includes, found by looking its restrictions up: at most one search for each set
-- of parameters, largest set first, and none for a restriction that the join so far includes.
-- Assumes nothing.
use Rattle.std.specs.Prelude.{ℕ, ◌+◌, ◌-◌, ◌*◌, ◌^◌, ◌<◌, ◌≤◌, ◌≡◌, refl, ◌⊎◌, Bool, not, cond, ◌&&◌, length, Option, Some, None}
use Rattle.std.specs.Option.{is_some}
use Rattle.std.proofs.Math.Path.{sym, ap}
use Rattle.std.proofs.Common.{subst, ◌∙◌, arith}
use Rattle.std.proofs.Math.Logic.{inl, inr}
use Rattle.std.proofs.Math.Bool.{true, false}
use mathlib.Core.List.{List}
use Rattle.std.proofs.Math.Decide.{dec_lt}
use Rattle.std.proofs.Math.Dec.{T}
use borrow.Author.Tests.{not-true, not-false}
use Rattle.document.specs.Lists.{In, equal, among}
use Rattle.document.specs.Limits.{width, seen_stride}
use Rattle.document.specs.Combinations.{empty_of, includes, join, binds_exactly}
use Rattle.document.specs.OneEvent.{join_seen}
use Rattle.document.specs.Tables.{numbers_at, seen_rows}
use Rattle.basics.specs.Tests.{decided}
use Rattle.slices.specs.TestsLaws.{so, not_so, true_of, false_of, of_equal, equal_of, among_of}
use Rattle.slices.specs.CombinationsLaws.{includes_trans, includes_antisym, includes_empty, includes-join, join_includes_left, join_includes_right, included_compatible, length_empty, length-join}
use Rattle.slices.specs.JoinSeenLaws.{OfWidth, length-join_seen, join_seen-includes, join_seen_least}
use Rattle.slices.specs.TablesBackLaws.{length-numbers_at}
use Rattle.bound.specs.Restrictions.{restricted}
use Rattle.bound.specs.RestrictionsLaws.{bound_of, restricted_bound, binds_bound, bound_less, includes-restricted, length-restricted}
use Rattle.ordered.specs.RowsLaws.{tabulate_in}

pub seen_width_lem : (n : ℕ) (t : List ℕ) → OfWidth width (seen_rows n t)
unfolding seen_rows
seen_width_lem n t b i =
    let r = tabulate_in n (λ k. numbers_at width t (k * seen_stride)) b i in
    rw r.is (length-numbers_at width t (r.at * seen_stride))

-- the join so far, with the restriction to one set more if that is seen
unfoldable pub gathered : ℕ → List ℕ → List (List ℕ) → List ℕ → List ℕ
gathered set c seen acc =
    cond (binds_exactly set (restricted set c) && (not (includes acc (restricted set c)) && among (restricted set c) seen))
    (join acc (restricted set c)) acc

module _ (set : ℕ) (c acc part : List ℕ) (seen : List (List ℕ)) (e : part ≡ restricted set c) where
  pub gather_unbound : (f : Bool) → f ≡ binds_exactly set part → not f ≡ true → acc ≡ gathered set c seen acc
  unfolding gathered
  gather_unbound f q z = rw (← e, sym q ∙ not-true f z)

  module _ (f g : Bool) (qf : f ≡ binds_exactly set part) (zf : not f ≡ false) (qg : g ≡ includes acc part) where
    pub gather_covered : g ≡ true → acc ≡ gathered set c seen acc
    unfolding gathered
    gather_covered zg = rw (← e, sym qf ∙ not-false f zf, sym qg ∙ zg)

    pub gather_unseen : g ≡ false → (h : Bool) → h ≡ among part seen → not h ≡ true → acc ≡ gathered set c seen acc
    unfolding gathered
    gather_unseen zg h qh zh = rw (← e, sym qf ∙ not-false f zf, sym qg ∙ zg, sym qh ∙ not-true h zh)

    pub gather_joins : g ≡ false → (h : Bool) → h ≡ among part seen → not h ≡ false → (r : List ℕ) → r ≡ join acc part → r ≡ gathered set c seen acc
    unfolding gathered
    gather_joins zg h qh zh r q = rw (← e, sym qf ∙ not-false f zf, sym qg ∙ zg, sym qh ∙ not-false h zh) q

-- the restriction to a set, if it binds the set, k does not include it, and it is seen
unfoldable pub missing : ℕ → List ℕ → List ℕ → List (List ℕ) → Option (List ℕ)
missing set c k seen =
    cond ((binds_exactly set (restricted set c) && not (includes k (restricted set c))) && among (restricted set c) seen)
    (Some (restricted set c)) None

in_some : (a b d : Bool) (r acc part : List ℕ) → cond ((a && b) && d) (Some r) None ≡ Some part → join acc part ≡ cond (a && (b && d)) (join acc r) acc
in_some true true true r acc part e = let q : r ≡ part = cc in ap (join acc) (sym q)
in_some true true false r acc part e = absurd (cc)
in_some true false d r acc part e = absurd (cc)
in_some false b d r acc part e = absurd (cc)

in_none : (a b d : Bool) (r acc : List ℕ) → cond ((a && b) && d) (Some r) None ≡ None → acc ≡ cond (a && (b && d)) (join acc r) acc
in_none true true true r acc e = absurd (cc)
in_none true true false r acc e = refl
in_none true false d r acc e = refl
in_none false b d r acc e = refl

module _ (set : ℕ) (c acc : List ℕ) (seen : List (List ℕ)) (o : Option (List ℕ)) (e : o ≡ missing set c acc seen) where
  pub missing_joins : (part : List ℕ) → o ≡ Some part → join acc part ≡ gathered set c seen acc
  unfolding missing gathered
  missing_joins part q =
      in_some (binds_exactly set (restricted set c)) (not (includes acc (restricted set c))) (among (restricted set c) seen) (restricted set c)
      acc part (sym e ∙ q)

  pub missing_none : o ≡ None → acc ≡ gathered set c seen acc
  unfolding missing gathered
  missing_none q =
      in_none (binds_exactly set (restricted set c)) (not (includes acc (restricted set c))) (among (restricted set c) seen) (restricted set c)
      acc (sym e ∙ q)

-- The join -------------------------------------------------------------------------------------------------------------

-- the sets from one on are looked up
pub record Gathered (n : ℕ) (t c acc : List ℕ) (set : ℕ) : Type 0 where
  pub wide : length c ≡ width
  pub made : length acc ≡ width
  pub below : T (includes c acc)
  pub least : T (includes (join_seen width c (seen_rows n t)) acc)
  pub has : (x : List ℕ) → In x (seen_rows n t) → T (includes c x) → set ≤ bound_of x → T (includes acc x)

pub gathered_begins : (n : ℕ) (t c acc : List ℕ) → length c ≡ width → acc ≡ empty_of width → Gathered n t c acc (2 ^ width)
gathered_begins n t c acc o e = rw e (record {
  wide = o;
  made = length_empty width;
  below = includes_empty width c o;
  least = includes_empty width (join_seen width c (seen_rows n t)) (length-join_seen width c (seen_rows n t) (seen_width_lem n t));
  has = λ x i u h. absurd (let b = bound_less x in let w = seen_width_lem n t x i in let z : 2 ^ length x ≡ 2 ^ width = rw w refl in omega arith);
})

gathered-one : (n : ℕ) (t c acc : List ℕ) (set : ℕ) → Gathered n t c acc (set + 1) → Gathered n t c (gathered set c (seen_rows n t) acc) set
gathered-one n t c acc set u =
    elim (decided (binds_exactly set part)) [
      | inr e ↦ stay (skip e) (λ x i h q. absurd (not_so e (so (q' x h q))))
      | inl e ↦ elim (decided (includes acc part)) [
        | inl g ↦ stay (covered e g) (λ x i h q. rw (x_is x h q) (so g))
        | inr g ↦ elim (decided (among part (seen_rows n t))) [
          | inr z ↦ stay (unseen e g z) (λ x i h q. absurd (not_so z ((among_of part (seen_rows n t)).1 (rw (x_is x h q) at i))))
          | inl z ↦ rw (joins e g z) (grow ((among_of part (seen_rows n t)).0 (so z)))
        ]
      ]
    ]
  where
    part : List ℕ
    part = restricted set c

    x_is : (x : List ℕ) → T (includes c x) → bound_of x ≡ set → x ≡ part
    x_is x h q = sym (restricted_bound c x h) ∙ ap (λ k. restricted k c) q

    q' : (x : List ℕ) → T (includes c x) → bound_of x ≡ set → binds_exactly set part ≡ true
    q' x h q = ap (λ y. binds_exactly set y) (sym (x_is x h q)) ∙ ap (λ k. binds_exactly k x) (sym q) ∙ binds_bound x

    skip : binds_exactly set part ≡ false → gathered set c (seen_rows n t) acc ≡ acc
    skip e = sym (gather_unbound set c acc part (seen_rows n t) refl false (sym e) refl)

    covered : binds_exactly set part ≡ true → includes acc part ≡ true → gathered set c (seen_rows n t) acc ≡ acc
    covered e g = sym (gather_covered set c acc part (seen_rows n t) refl true true (sym e) refl (sym g) refl)

    unseen : binds_exactly set part ≡ true → includes acc part ≡ false → among part (seen_rows n t) ≡ false → gathered set c (seen_rows n t) acc ≡ acc
    unseen e g z = sym (gather_unseen set c acc part (seen_rows n t) refl true false (sym e) refl (sym g) refl false (sym z) refl)

    joins : binds_exactly set part ≡ true → includes acc part ≡ false → among part (seen_rows n t) ≡ true → gathered set c (seen_rows n t) acc ≡ join acc part
    joins e g z = sym (gather_joins set c acc part (seen_rows n t) refl true false (sym e) refl (sym g) refl true (sym z) refl (join acc part) refl)

    at_set : (x : List ℕ) → set ≤ bound_of x → (bound_of x ≡ set) ⊎ (set + 1 ≤ bound_of x)
    at_set x h = elim (dec_lt set (bound_of x)) [ yes l ↦ inr (omega arith) | no l ↦ inl (omega arith) ]

    stay : gathered set c (seen_rows n t) acc ≡ acc → ((x : List ℕ) → In x (seen_rows n t) → T (includes c x) → bound_of x ≡ set → T (includes acc x))
        → Gathered n t c (gathered set c (seen_rows n t) acc) set
    stay e f = rw e (record {
      wide = u.wide;
      made = u.made;
      below = u.below;
      least = u.least;
      has = λ x i h l. elim (at_set x l) [ inl q ↦ f x i h q | inr g ↦ u.has x i h g ];
    })

    grow : In part (seen_rows n t) → Gathered n t c (join acc part) set
    grow i =
        let pc = includes-restricted set c in
        let cm = included_compatible c acc part u.below pc in
        record {
          wide = u.wide;
          made = length-join width acc part u.made (length-restricted set c ∙ u.wide);
          below = includes-join c acc part u.below pc;
          least = includes-join (join_seen width c (seen_rows n t)) acc part u.least (join_seen-includes width c (seen_rows n t) u.wide part i pc);
          has = λ x j h l. elim (at_set x l) [
            | inl q ↦ rw (x_is x h q) (join_includes_right acc part cm)
            | inr g ↦ includes_trans (join acc part) acc x (join_includes_left acc part cm) (u.has x j h g)
          ];
        }

pub gathered-turn : (n : ℕ) (t c acc acc' : List ℕ) (set : ℕ) → Gathered n t c acc set → 0 < set → acc' ≡ gathered (set - 1) c (seen_rows n t) acc
    → Gathered n t c acc' (set - 1)
gathered-turn n t c acc acc' set u h e =
    let q : set ≡ set - 1 + 1 = omega arith in
    rw e (gathered-one n t c acc (set - 1) (subst (λ (x : ℕ). Gathered n t c acc x) q u))

pub gathered_ends : (n : ℕ) (t c acc : List ℕ) (set : ℕ) → Gathered n t c acc set → set ≤ 0 → acc ≡ join_seen width c (seen_rows n t)
gathered_ends n t c acc set u h =
    includes_antisym acc (join_seen width c (seen_rows n t))
    (join_seen_least width c acc (seen_rows n t) u.made (λ x i g. u.has x i g (omega arith)))
    u.least

-- Whether the join is a combination that is itself a join of seen rows ---------------------------------------------------

-- k is the join of the seen rows that it includes, and c includes k
pub record Joins (n : ℕ) (t c k : List ℕ) : Type 0 where
  pub wide : length c ≡ width
  pub same : length k ≡ width
  pub more : includes c k ≡ true
  pub itself : join_seen width k (seen_rows n t) ≡ k

-- the seen restrictions of c to the sets from one on are included in k
pub record Covered (n : ℕ) (t c k : List ℕ) (set : ℕ) : Type 0 where
  pub joins : Joins n t c k
  pub has : (x : List ℕ) → In x (seen_rows n t) → T (includes c x) → set ≤ bound_of x → T (includes k x)

pub covered_begins : (n : ℕ) (t c k : List ℕ) → Joins n t c k → Covered n t c k (2 ^ width)
covered_begins n t c k j = record {
  joins = j;
  has = λ x i u h. absurd (let b = bound_less x in let w = seen_width_lem n t x i in let z : 2 ^ length x ≡ 2 ^ width = rw w refl in omega arith);
}

-- the restriction to a set is covered: it is none of that set, or k includes it, or it is not seen
unfoldable pub covers_at : ℕ → List ℕ → List ℕ → List (List ℕ) → Bool
covers_at set c k seen = cond (binds_exactly set (restricted set c)) (cond (includes k (restricted set c)) true (not (among (restricted set c) seen))) true

module _ (set : ℕ) (c k part : List ℕ) (seen : List (List ℕ)) (e : part ≡ restricted set c) where
  pub covers_unbound : (f : Bool) → f ≡ binds_exactly set part → not f ≡ true → true ≡ covers_at set c k seen
  unfolding covers_at
  covers_unbound f q z = rw (← e, sym q ∙ not-true f z)

  module _ (f g : Bool) (qf : f ≡ binds_exactly set part) (zf : not f ≡ false) (qg : g ≡ includes k part) where
    pub covers_included : g ≡ true → true ≡ covers_at set c k seen
    unfolding covers_at
    covers_included zg = rw (← e, sym qf ∙ not-false f zf, sym qg ∙ zg)

    pub covers_unseen : g ≡ false → (h : Bool) → h ≡ among part seen → not h ≡ covers_at set c k seen
    unfolding covers_at
    covers_unseen zg h qh = rw (← e, sym qf ∙ not-false f zf, sym qg ∙ zg, qh)

some_not : (a b d : Bool) (r : List ℕ) → not (is_some (cond ((a && not b) && d) (Some r) None)) ≡ cond a (cond b true (not d)) true
some_not true true d r = refl
some_not true false true r = refl
some_not true false false r = refl
some_not false b d r = refl

-- a set is covered where nothing of it is missing
pub covers_missing : (set : ℕ) (c k : List ℕ) (seen : List (List ℕ)) (o : Option (List ℕ)) → o ≡ missing set c k seen → not (is_some o) ≡ covers_at set c k seen
unfolding missing covers_at
covers_missing set c k seen o e = ap (λ x. not (is_some x)) e ∙ some_not _ _ _ _

module _ (n : ℕ) (t c k : List ℕ) (set : ℕ) (f : Bool) where
  abbrev part : List ℕ
  part = restricted (set - 1) c

  covered_set : Covered n t c k set → 0 < set → covers_at (set - 1) c k (seen_rows n t) ≡ true
      → (x : List ℕ) → In x (seen_rows n t) → T (includes c x) → bound_of x ≡ set - 1 → T (includes k x)
  unfolding covers_at
  covered_set u h z x i g q =
      let e : x ≡ part = sym (restricted_bound c x g) ∙ ap (λ s. restricted s c) q in
      let b : binds_exactly (set - 1) part ≡ true = ap (binds_exactly (set - 1)) (sym e) ∙ ap (λ s. binds_exactly s x) (sym q) ∙ binds_bound x in
      let a : among part (seen_rows n t) ≡ true = true_of (among part (seen_rows n t)) ((among_of part (seen_rows n t)).1 (rw e at i)) in
      elim (decided (includes k part)) [
        | inl y ↦ rw e (so y)
        | inr y ↦ absurd (so (rw (b, y, a) at z))
      ]

  pub covered_turn : Covered n t c k set → 0 < set → f ≡ covers_at (set - 1) c k (seen_rows n t) → not f ≡ false → Covered n t c k (set - 1)
  covered_turn u h q z = record {
    joins = u.joins;
    has = λ x i g l. elim (dec_lt (set - 1) (bound_of x)) [
      | yes y ↦ u.has x i g (omega arith)
      | no y ↦ covered_set u h (sym q ∙ not-false f z) x i g (omega arith)
    ];
  }

  pub covered_stops : Covered n t c k set → f ≡ covers_at (set - 1) c k (seen_rows n t) → not f ≡ true → false ≡ equal (join_seen width c (seen_rows n t)) k
  unfolding covers_at
  covered_stops u q z =
      sym (false_of (equal (join_seen width c (seen_rows n t)) k) (λ y.
      let e : join_seen width c (seen_rows n t) ≡ k = equal_of (join_seen width c (seen_rows n t)) k y in
      let w : covers_at (set - 1) c k (seen_rows n t) ≡ false = sym q ∙ not-true f z in
      elim (decided (binds_exactly (set - 1) part)) [
        | inr b ↦ so (sym (rw b at w))
        | inl b ↦ elim (decided (includes k part)) [
          | inl g ↦ so (sym (rw (b, g) at w))
          | inr g ↦ elim (decided (among part (seen_rows n t))) [
            | inr a ↦ so (sym (rw (b, g, a) at w))
            | inl a ↦ not_so g (subst (λ (l : List ℕ). T (includes l part)) e
                (join_seen-includes width c (seen_rows n t) u.joins.wide part ((among_of part (seen_rows n t)).0 (so a)) (includes-restricted (set - 1) c)))
          ]
        ]
      ]))

pub covered_ends : (n : ℕ) (t c k : List ℕ) (set : ℕ) → Covered n t c k set → set ≤ 0 → true ≡ equal (join_seen width c (seen_rows n t)) k
covered_ends n t c k set u h =
    let j = join_seen width c (seen_rows n t) in
    let jw = length-join_seen width c (seen_rows n t) (seen_width_lem n t) in
    let up : T (includes k j) = join_seen_least width c k (seen_rows n t) u.joins.same (λ x i g. u.has x i g (omega arith)) in
    let low : T (includes j (join_seen width k (seen_rows n t))) = join_seen_least width k j (seen_rows n t) jw (λ x i g.
    join_seen-includes width c (seen_rows n t) u.joins.wide x i (includes_trans c k x (so u.joins.more) g)) in
    sym (true_of (equal j k) (of_equal j k (includes_antisym j k (rw u.joins.itself at low) up)))

module _ (n : ℕ) (t c k : List ℕ) (set : ℕ) (o : Option (List ℕ)) (f : Bool) (u : Covered n t c k set) (e : o ≡ missing (set - 1) c k (seen_rows n t)) (q : f ≡ is_some o) where
  pub covered_missing : f ≡ true → false ≡ equal (join_seen width c (seen_rows n t)) k
  covered_missing z = covered_stops n t c k set (not f) u (ap not q ∙ covers_missing (set - 1) c k (seen_rows n t) o e) (ap (λ x. not (not x)) z)

  pub covered_more : 0 < set → f ≡ false → Covered n t c k (set - 1)
  covered_more h z = covered_turn n t c k set (not f) u h (ap not q ∙ covers_missing (set - 1) c k (seen_rows n t) o e) (ap (λ x. not (not x)) z)
