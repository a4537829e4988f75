-- Where the rows stand that may include the binding: the turns of the search, and what its two answers say.
-- Assumes nothing.
use Rattle.std.specs.Prelude.{ℕ, zero, suc, ◌+◌, ◌*◌, ◌<◌, ◌≤◌, ◌≡◌, Bool, true, false, ltb, List, [], T, length, get_or, take, drop}
use Rattle.std.specs.Simd.{first_chunks}
use Rattle.std.specs.List.Sorted.{IsPartitionedBy, IsPartitionPoint}
use Rattle.std.proofs.Common.{sym, ap, subst, ◌∙◌, inl, inr, arith, zero-add}
use Rattle.std.proofs.lemmas.Bool.{lt-ltb, ltb-true, ltb-false}
use Rattle.std.proofs.lemmas.List.{get_or-take, get_or-drop}
use Rattle.std.proofs.Math.Decide.{dec_lt, ℕ_discrete}
use Rattle.document.specs.Limits.{width, kept_stride}
use Rattle.document.specs.Combinations.{precedes}
use Rattle.document.specs.Tables.{numbers_at}
use Rattle.slices.specs.OrderLaws.{precedes_of, Ascends, combinations}
use Rattle.slices.specs.TablesLaws.{kept_at}
use Rattle.tables.specs.TablesLaws.{kept_tabulated, combinations_tabulated}
use Rattle.ordered.specs.RowsLaws.{ascends_at}
use Rattle.spans.specs.Spans.{Rising, Begins, Ends, Spans, Movable}
use Rattle.spans.specs.AgreeLaws.{apart}

-- of two combinations in order, the first begins with no greater number
precedes_first : (t : List ℕ) (a b : ℕ) → T (precedes (numbers_at width t a) (numbers_at width t b)) → get_or t a 0 ≤ get_or t b 0
unfolding numbers_at
precedes_first t a b h = elim (precedes_of (get_or t a 0) (get_or t b 0) _ _ h) [ inl l ↦ omega arith | inr e ↦ let q = e.0 in omega arith ]

pub rising_of : (next : List ℕ) (states e m : ℕ) (b kept : List ℕ) → Movable next states e m b kept → Rising m kept
rising_of next states e m b kept u = record {
  inside = u.inside;
  rise = λ i j h g.
      precedes_first kept (i * kept_stride) (j * kept_stride)
      (subst (λ (x : ℕ). T (precedes (numbers_at width kept x) (numbers_at width kept (j * kept_stride)))) (zero-add (i * kept_stride))
      (subst (λ (x : ℕ). T (precedes (numbers_at width kept (0 + i * kept_stride)) (numbers_at width kept x))) (zero-add (j * kept_stride))
      (ascends_at m (λ k. numbers_at width kept (0 + k * kept_stride))
      (subst (λ (l : List (List ℕ)). Ascends l) (ap combinations (kept_tabulated m kept 0) ∙ combinations_tabulated m (λ k. kept_at width kept (0 + k * kept_stride))) u.order) i j h g)));
}

-- The search -----------------------------------------------------------------------------------------------------------

-- the numbers of a table in rows: number j of row i
number_in_row : (n k : ℕ) (t : List ℕ) (i j : ℕ) (d : List ℕ) → i < k → j < n → get_or (get_or (first_chunks n k t) i d) j 0 ≡ get_or t (i * n + j) 0
number_in_row n zero t i j d h g = absurd (omega arith)
number_in_row n (suc k) t zero j d h g = let e : j ≡ 0 * n + j = omega arith in get_or-take n t j 0 g ∙ ap (λ (x : ℕ). get_or t x 0) e
number_in_row n (suc k) t (suc i) j d h g =
    let e : n + (i * n + j) ≡ suc i * n + j = omega arith in
    number_in_row n k (drop n t) i j d (omega arith) g ∙ get_or-drop n t (i * n + j) 0 ∙ ap (λ (x : ℕ). get_or t x 0) e

first_in_row : (m k : ℕ) (t : List ℕ) (rows : List (List ℕ)) → rows ≡ first_chunks kept_stride k t → (i : ℕ) (d : List ℕ) → m ≤ k → i < m
    → get_or (get_or (take m rows) i d) 0 0 ≡ get_or t (i * kept_stride) 0
first_in_row m k t rows q i d h g =
    let e : i * kept_stride + 0 ≡ i * kept_stride = omega arith in
    ap (λ (x : List ℕ). get_or x 0 0) (get_or-take m rows i d g ∙ ap (λ (x : List (List ℕ)). get_or x i d) q)
    ∙ number_in_row kept_stride k t i 0 d (omega arith) (omega arith)
    ∙ ap (λ (x : ℕ). get_or t x 0) e

-- whether a row begins with a number below this one
abbrev pub Below : ℕ → List ℕ → Bool
Below least row = ltb (get_or row 0 0) least

module _ (m k : ℕ) (t : List ℕ) (least : ℕ) (rows : List (List ℕ)) (e : rows ≡ first_chunks kept_stride k t) (h : m ≤ k) (o : length (take m rows) ≡ m) where
  pub rows_part : Rising m t → IsPartitionedBy (Below least) (take m rows)
  rows_part u i j d g l q =
      let a = first_in_row m k t rows e i d h (omega arith) in
      let b = first_in_row m k t rows e j d h (omega arith) in
      let z = ltb-true (get_or t (j * kept_stride) 0) least (rw b at q) in
      elim (ℕ_discrete i j) [
        | yes y ↦ rw y q
        | no n ↦ let r = u.rise i j (omega arith) (omega arith) in rw a (lt-ltb (get_or t (i * kept_stride) 0) least (omega arith))
      ]

  pub begins_of : (r : ℕ) → r ≤ length (take m rows) → IsPartitionPoint (λ y. Below least y ≡ true) (λ y. Below least y ≡ false) (take m rows) r → Begins m t least r
  begins_of r g p = record {
    within = omega arith;
    low = λ i l. let q = p.0 i [] (omega arith) l in ltb-true (get_or t (i * kept_stride) 0) least (rw (first_in_row m k t rows e i [] h (omega arith)) at q);
    high = λ i l n. let q = p.1 i [] l (omega arith) in ltb-false (get_or t (i * kept_stride) 0) least (rw (first_in_row m k t rows e i [] h n) at q);
  }

-- where the binding does not bind the first parameter
pub begins_unbound : (m : ℕ) (t : List ℕ) (first : ℕ) → first ≡ 0 → Begins m t first 0
begins_unbound m t first q = record { within = omega arith; low = λ k h. absurd (omega arith); high = λ k h g. omega arith }

-- Its two answers ------------------------------------------------------------------------------------------------------

-- where the binding does not bind the first parameter, after all rows
pub ends_unbound : (m : ℕ) (t : List ℕ) (first : ℕ) → first ≡ 0 → Ends m t first m
ends_unbound m t first q = record { within = omega arith; low = λ z. absurd (z q); high = λ k h g. absurd (omega arith) }

pub ends_of : (m : ℕ) (t : List ℕ) (first wide r : ℕ) → (first ≡ 0 → ⊥) → wide ≡ first → Begins m t (wide + 1) r → Ends m t first r
ends_of m t first wide r z q u = record {
  within = u.within;
  low = λ y k h. let l = u.low k h in omega arith;
  high = λ k h g. (z, let l = u.high k h g in omega arith);
}

pub spans_of : (m : ℕ) (b t : List ℕ) (first wide low end : ℕ) → length b ≡ width → first ≡ get_or b 0 0 → wide ≡ first → Begins m t wide low → Ends m t first end → Spans m b t low end
spans_of m b t first wide low end o p q u v = record {
  up = up;
  within = v.within;
  below = λ k h. let l = u.low k h in apart t (k * kept_stride) b o (λ z. omega arith) (λ z. omega arith);
  first = λ k h g. elim (ℕ_discrete first 0) [
    | yes z ↦ inl (sym p ∙ z)
    | no z ↦ let w = v.within in let l = u.high k h (omega arith) in let n = v.low z k g in let e : k * kept_stride + 0 ≡ k * kept_stride = omega arith in inr (ap (λ (x : ℕ). get_or t x 0) e ∙ omega arith)
  ];
  above = λ k h g. let l = u.high k h g in omega arith;
  past = λ k h g. let l = v.high k h g in let n = l.1 in apart t (k * kept_stride) b o (λ z. l.0 (p ∙ z)) (λ z. omega arith);
}
  where
    up : low ≤ end
    up = elim (dec_lt end low) [
      | no h ↦ omega arith
      | yes h ↦
          let w = u.within in
          let l = u.low end h in
          let n = (v.high end (omega arith) (omega arith)).1 in
          absurd (omega arith)
    ]
