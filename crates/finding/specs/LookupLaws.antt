-- The returns of lookup.
-- Assumes nothing.
use Rattle.std.specs.Prelude.{ℕ, ◌+◌, ◌*◌, ◌<◌, ◌≤◌, ◌≡◌, refl, Bool, true, false, List, [], ◌∷◌, T, get_or, Option, None, Some, Ok, Err}
use Rattle.std.proofs.Math.Path.{sym}
use Rattle.std.proofs.Common.{ap, subst, ◌∙◌, inl, inr, arith, zero-add}
use Rattle.std.proofs.Math.Decide.{dec_lt, ℕ_discrete}
use Rattle.document.specs.Lists.{In, equal}
use Rattle.document.specs.Limits.{width, kept_stride, most_states}
use Rattle.document.specs.Refusals.{taken}
use Rattle.document.specs.Combinations.{precedes, zero_past}
use Rattle.document.specs.OneEvent.{Kept, join_seen}
use Rattle.document.specs.Property.{Property, in_range, verdict}
use Rattle.document.specs.Tables.{numbers_at, seen_rows, kept_rows}
use Rattle.document.specs.Session.{seen_of, kept_of, sound, find_kept, lookup}
use Rattle.basics.specs.Tests.{decided}
use Rattle.words.specs.Range.{in_range_range}
use Rattle.slices.specs.TestsLaws.{so, not_so, true_of, equal_of, of_equal}
use Rattle.slices.specs.ListsLaws.{map_in}
use Rattle.slices.specs.OrderLaws.{precedes_irrefl, Ascends, combinations}
use Rattle.slices.specs.TablesLaws.{kept_at}
use Rattle.ordered.specs.Rows.{SeenInOrder, Searchable, Parted}
use Rattle.ordered.specs.RowsLaws.{ascends_at, tabulate_in}
use Rattle.judge.specs.Sound.{session_of}
use Rattle.tables.specs.Tables.{kept_from}
use Rattle.tables.specs.TablesLaws.{kept_tabulated, kept_rows_lem, row_in, combinations_tabulated}
use Rattle.moves.specs.Ready.{Steady}
use Rattle.moves.specs.declared.Known.{Known}
use Rattle.known.specs.Knowing.{KnownOf}
use Rattle.finding.specs.Finds.{looked_up, looked_by, Findable, found_by}
use Rattle.refusals.specs.declared.Refusal.{Refusal}
use Rattle.refusals.specs.declared.Refusal.TheVariants.{BadProperty, BadSession, BadLookup}
use Rattle.steps.specs.SteadyLaws.{sound_steady}

-- A search of the kept rows --------------------------------------------------------------------------------------------

pub findable_searchable : (m : ℕ) (kept : List ℕ) → Findable m kept → Searchable 0 kept_stride m kept
findable_searchable m kept u = record {
  inside = let i = u.inside in omega arith;
  wide = omega arith;
  order = λ i j h g. true_of _ (ascends_at m (λ k. numbers_at width kept (0 + k * kept_stride))
      (subst (λ (l : List (List ℕ)). Ascends l) (ap combinations (kept_tabulated m kept 0) ∙ combinations_tabulated m (λ k. kept_at width kept (0 + k * kept_stride))) u.order) i j h g);
}

found_none : (verdicts c : List ℕ) (l : List Kept) → ((k : Kept) → In k l → k.combination ≡ c → ⊥) → found_by verdicts c l ≡ None
unfolding found_by
found_none verdicts c [] f = refl
found_none verdicts c (k ∷ l) f = elim (decided (equal k.combination c)) [
  | inl e ↦ absurd (f k (inl refl) (equal_of k.combination c (so e)))
  | inr e ↦ rw (found_by, e) (found_none verdicts c l (λ x i. f x (inr i)))
]

found_first : (verdicts c : List ℕ) (l : List Kept) (k : Kept) → equal k.combination c ≡ true → found_by verdicts c (k ∷ l) ≡ Some (k.state, get_or verdicts k.state 0)
unfolding found_by
found_first verdicts c l k e = rw (found_by, e)

found_some : (verdicts c : List ℕ) (l : List Kept) (k : Kept) → Ascends (combinations l) → In k l → k.combination ≡ c
    → found_by verdicts c l ≡ Some (k.state, get_or verdicts k.state 0)
unfolding found_by
found_some verdicts c [] k a i q = absurd i
found_some verdicts c (y ∷ l) k a (inl e) q =
    ap (λ (x : Kept). found_by verdicts c (x ∷ l)) (sym e) ∙ found_first verdicts c l k (true_of (equal k.combination c) (of_equal k.combination c q))
found_some verdicts c (y ∷ l) k a (inr i) q = elim (decided (equal y.combination c)) [
  | inl e ↦ absurd (precedes_irrefl c (subst (λ (z : List ℕ). T (precedes z c)) (equal_of y.combination c (so e))
      (subst (λ (z : List ℕ). T (precedes y.combination z)) q (a.0 k.combination (map_in (λ (r : Kept). r.combination) l k i)))))
  | inr e ↦ rw (found_by, e) (found_some verdicts c l k a.1 i q)
]

module _ (verdicts : List ℕ) (m at : ℕ) (kept c : List ℕ) (u : Findable m kept) (p : Parted 0 kept_stride m kept c at) where
  low_differs : (j : ℕ) → j < at → numbers_at width kept (0 + j * kept_stride) ≡ c → ⊥
  low_differs j h q = precedes_irrefl c (so (ap (λ (z : List ℕ). precedes z c) (sym q) ∙ p.low j h))

  pub find_none : m ≤ at → None ≡ found_by verdicts c (kept_rows m kept)
  find_none h = sym (ap (found_by verdicts c) (sym (kept_rows_lem m kept)) ∙ found_none verdicts c (kept_from m kept 0) (λ k i e.
      let t = tabulate_in m (λ j. kept_at width kept (0 + j * kept_stride)) k (rw (kept_tabulated m kept 0) at i) in
      let b = t.below in
      low_differs t.at (omega arith) (ap (λ (x : Kept). x.combination) (sym t.is) ∙ e)))

  module _ (row : List ℕ) (f : Bool) (l : at < m) (qr : row ≡ numbers_at width kept (at * kept_stride)) (qf : f ≡ equal row c) where
    z₀ : 0 + at * kept_stride ≡ at * kept_stride
    z₀ = zero-add (at * kept_stride)

    pub find_differs : f ≡ false → None ≡ found_by verdicts c (kept_rows m kept)
    find_differs z = sym (ap (found_by verdicts c) (sym (kept_rows_lem m kept)) ∙ found_none verdicts c (kept_from m kept 0) (λ k i e.
        let t = tabulate_in m (λ j. kept_at width kept (0 + j * kept_stride)) k (rw (kept_tabulated m kept 0) at i) in
        let b = t.below in
        let w : numbers_at width kept (0 + t.at * kept_stride) ≡ c = ap (λ (x : Kept). x.combination) (sym t.is) ∙ e in
        elim (dec_lt t.at at) [
          | yes y ↦ low_differs t.at y w
          | no y ↦ elim (ℕ_discrete t.at at) [
            | yes x ↦ not_so (sym qf ∙ z) (of_equal row c (qr ∙ ap (λ (j : ℕ). numbers_at width kept j) (sym z₀ ∙ ap (λ (j : ℕ). 0 + j * kept_stride) (sym x)) ∙ w))
            | no x ↦ not_so (p.high at (omega arith) l) (so (ap (precedes (numbers_at width kept (0 + at * kept_stride))) (sym w)
                ∙ (findable_searchable m kept u).order at t.at (omega arith) b))
          ]
        ]))

    pub find_here : f ≡ true → (s v : ℕ) → s ≡ get_or kept (at * kept_stride + width) 0 → v ≡ get_or verdicts s 0 → Some (s, v) ≡ found_by verdicts c (kept_rows m kept)
    find_here z s v qs qv =
        let k : Kept = kept_at width kept (at * kept_stride) in
        let i : In k (kept_from m kept 0) = subst (λ (j : ℕ). In (kept_at width kept j) (kept_from m kept 0)) z₀ (row_in m kept 0 at l) in
        let e : k.combination ≡ c = sym qr ∙ equal_of row c (so (sym qf ∙ z)) in
        (λ j. Some (qs j, (qv ∙ ap (λ (x : ℕ). get_or verdicts x 0) qs) j))
        ∙ sym (ap (found_by verdicts c) (sym (kept_rows_lem m kept)) ∙ found_some verdicts c (kept_from m kept 0) k u.order i e)

  pub find_state : at < m → get_or kept (at * kept_stride + width) 0 < most_states
  find_state l = u.within (kept_at width kept (at * kept_stride)) (subst (λ (j : ℕ). In (kept_at width kept j) (kept_from m kept 0)) (zero-add (at * kept_stride)) (row_in m kept 0 at l))

-- Lookup ---------------------------------------------------------------------------------------------------------------

found_same : (p : Property) (c : List ℕ) (l : List Kept) → looked_by (Ok (found_by p.verdicts c l)) ≡ looked_up (taken (find_kept p c l))
unfolding found_by find_kept looked_up verdict
found_same p c [] = refl
found_same p c (k ∷ l) = elim (decided (equal k.combination c)) [
  | inl e ↦ rw (found_by, find_kept, e)
  | inr e ↦ rw (found_by, find_kept, e) (found_same p c l)
]

module _ (p : Property) (n m : ℕ) (seen kept c : List ℕ) where
  pub lookup_property : in_range p ≡ false → (e : Refusal) → e ≡ BadProperty → looked_by (Err e) ≡ looked_up (lookup p (session_of n m seen kept) c)
  unfolding lookup looked_up
  lookup_property z e b = rw (z, b)

  module _ (range : in_range p ≡ true) where
    pub lookup_session : sound p (session_of n m seen kept) ≡ false → (e : Refusal) → e ≡ BadSession → looked_by (Err e) ≡ looked_up (lookup p (session_of n m seen kept) c)
    unfolding lookup looked_up
    lookup_session z e b = rw (range, z, b)

    module _ (right : sound p (session_of n m seen kept) ≡ true) (h : Bool) (qh : h ≡ zero_past p.parameters c) where
      pub lookup-past : h ≡ false → looked_by (Err BadLookup) ≡ looked_up (lookup p (session_of n m seen kept) c)
      unfolding lookup looked_up
      lookup-past z = rw (range, right, sym qh ∙ z)

      pub lookup-found : h ≡ true → (k : Known) → KnownOf p k → (j : List ℕ) → j ≡ join_seen width c (seen_rows n seen) → (r : Option (ℕ × ℕ)) → r ≡ found_by k.verdicts j (kept_rows m kept)
          → looked_by (Ok r) ≡ looked_up (lookup p (session_of n m seen kept) c)
      unfolding lookup seen_of kept_of
      lookup-found z k u j qj r q =
          let e : r ≡ found_by p.verdicts j (kept_rows m kept) = q ∙ ap (λ (v : List ℕ). found_by v j (kept_rows m kept)) u.verdicts in
          rw (range, right, sym qh ∙ z, ← qj, e) (found_same p j (kept_rows m kept))

-- what the calls beneath need
module _ (p : Property) (n m : ℕ) (seen kept : List ℕ) (range : in_range p ≡ true) (right : sound p (session_of n m seen kept) ≡ true) where
  steady : Steady p.next p.states 0 n m seen kept
  steady = sound_steady p range n m seen kept right 0 (in_range_range p range).some_event

  pub lookup_seen : SeenInOrder n seen
  lookup_seen = steady.table

  pub lookup_kept : Findable m kept
  lookup_kept = record {
    inside = steady.rows.inside;
    order = steady.rows.order;
    within = λ x i. let a = steady.rows.within x i in let b = steady.moves.few in omega arith;
  }
