-- Whether a row includes the binding, parameter by parameter.
-- Assumes nothing.
use Rattle.std.specs.Prelude.{ℕ, zero, suc, ◌+◌, ◌-◌, ◌*◌, ◌<◌, ◌≤◌, ◌≡◌, refl, ◌⊎◌, Bool, true, false, ◌||◌, List, [], ◌∷◌, T, eqb, length, get_or}
use Rattle.std.proofs.Common.{sym, ap, subst, ◌∙◌, inl, inr, arith, eqb→eq, eq-eqb, ne_eqb}
use Rattle.std.proofs.Math.Decide.{ℕ_discrete, dec_lt}
use Rattle.std.specs.Bool.{MatchBool}
use Rattle.std.specs.List.{range_with_len, AllWithin, HoldsAt}
use Rattle.std.proofs.lemmas.List.FromFn.{length-range_with_len, get_or-range_with_len}
use Rattle.document.specs.Lists.{In}
use Rattle.document.specs.Limits.{width, kept_stride}
use Rattle.document.specs.Combinations.{includes}
use Rattle.document.specs.OneEvent.{Kept}
use Rattle.document.specs.Tables.{numbers_at}
use Rattle.slices.specs.TestsLaws.{false_of, and_of, or_of}
use Rattle.slices.specs.TablesBackLaws.{length-numbers_at}
use Rattle.slices.specs.TablesLaws.{kept_at}
use Rattle.slices.specs.NumbersLaws.{get_or_numbers_at, Included, included_begins, included_turn, included_ends}
use Rattle.ordered.specs.RowsLaws.{tabulate_in}
use Rattle.tables.specs.Tables.{kept_from}
use Rattle.tables.specs.TablesLaws.{kept_tabulated}
use Rattle.spans.specs.Spans.{Agree, Agrees, LastBound}

-- A row that agrees everywhere, and one that does not ------------------------------------------------------------------

-- what includes b agrees with it everywhere
includes_at : (c b : List ℕ) → T (includes c b) → (j : ℕ) → (get_or b j 0 ≡ 0) ⊎ (get_or c j 0 ≡ get_or b j 0)
unfolding includes
includes_at [] [] h j = inl refl
includes_at [] (y ∷ b) h j = absurd h
includes_at (x ∷ c) [] h j = absurd h
includes_at (x ∷ c) (y ∷ b) h zero = elim (or_of (eqb y 0) (eqb x y) (and_of (eqb y 0 || eqb x y) (includes c b) h).0) [
  | inl q ↦ inl (eqb→eq y 0 q)
  | inr q ↦ inr (eqb→eq x y q)
]
includes_at (x ∷ c) (y ∷ b) h (suc j) = includes_at c b (and_of (eqb y 0 || eqb x y) (includes c b) h).1 j

module _ (t : List ℕ) (at : ℕ) (b : List ℕ) where
  -- a row that has another number than one that is bound
  pub differs : (j : ℕ) → j < width → (get_or b j 0 ≡ 0 → ⊥) → (get_or t (at + j) 0 ≡ get_or b j 0 → ⊥) → includes (numbers_at width t at) b ≡ false
  differs j h z n = false_of (includes (numbers_at width t at) b) (λ i. elim (includes_at (numbers_at width t at) b i j) [
    | inl q ↦ z q
    | inr q ↦ n (sym (get_or_numbers_at width t at j h) ∙ q)
  ])

  -- a row that begins with another number than a binding that binds the first parameter
  pub apart : length b ≡ width → (get_or b 0 0 ≡ 0 → ⊥) → (get_or t at 0 ≡ get_or b 0 0 → ⊥) → includes (numbers_at width t at) b ≡ false
  apart o z n = differs 0 (omega arith) z (λ q. n (ap (λ (k : ℕ). get_or t k 0) (omega arith) ∙ q))

  agree_up : length b ≡ width → ((j : ℕ) → j < width → Agree t at b j) → (j : ℕ) → j ≤ width → Included (numbers_at width t at) b j
  agree_up o f zero h = included_begins (numbers_at width t at) b (length-numbers_at width t at) o
  agree_up o f (suc j) h =
      let q : j + 1 ≡ suc j = omega arith in
      subst (λ (x : ℕ). Included (numbers_at width t at) b x) q
      (included_turn (numbers_at width t at) b j true (agree_up o f j (omega arith)) (omega arith) (elim (f j (omega arith)) [
        | inl q ↦ rw (eq-eqb (get_or b j 0) 0 q)
        | inr q ↦ elim (ℕ_discrete (get_or b j 0) 0) [
          | yes z ↦ rw (eq-eqb (get_or b j 0) 0 z)
          | no z ↦ rw (ne_eqb (get_or b j 0) 0 z, get_or_numbers_at width t at j (omega arith), eq-eqb (get_or t (at + j) 0) (get_or b j 0) q)
        ]
      ]) refl)

  pub agree_all : length b ≡ width → ((j : ℕ) → j < width → Agree t at b j) → includes (numbers_at width t at) b ≡ true
  agree_all o f = sym (included_ends (numbers_at width t at) b width (agree_up o f width (omega arith)) (omega arith))

  -- a row that agrees at the first parameter, at the last that is bound, and between them
  pub agree_bound : (last number : ℕ) → length b ≡ width → LastBound b last → number ≡ get_or b last 0 → Agree t at b 0 → get_or t (at + last) 0 ≡ number → (r : Bool)
      → Agrees t at b 1 last r → r ≡ true → includes (numbers_at width t at) b ≡ true
  agree_bound last number o l q a e r u z = agree_all o go
    where
      go : (j : ℕ) → j < width → Agree t at b j
      go j h = elim (ℕ_discrete j 0) [
        | yes x ↦ rw x a
        | no x ↦ elim (ℕ_discrete j last) [
          | yes y ↦ rw y (inr (e ∙ q))
          | no y ↦ elim (dec_lt j last) [ yes k ↦ u.yes z j (omega arith) k | no k ↦ inl (l.past j (omega arith) h) ]
        ]
      ]

-- The search for a parameter that differs ------------------------------------------------------------------------------

module _ (t : List ℕ) (at : ℕ) (b : List ℕ) where
  -- b is bound at parameter j, and the row has another number there
  abbrev pub Differ : ℕ → Type 0
  Differ j = (get_or b j 0 ≡ 0 → ⊥) × (get_or t (at + j) 0 ≡ get_or b j 0 → ⊥)

  pub agrees_of : (from to : ℕ) (r : Bool) → to ≤ width
      → MatchBool r (AllWithin (Agree t at b) (range_with_len from (to - from)) 0 (length (range_with_len from (to - from))))
      ((k : ℕ) × (k < length (range_with_len from (to - from))) × HoldsAt Differ (range_with_len from (to - from)) k) → Agrees t at b from to r
  agrees_of from to true h f = record {
    yes = λ q j x y.
        let long = length-range_with_len from (to - from) in
        let e : from + (j - from) ≡ j = omega arith in
        subst (λ (z : ℕ). Agree t at b z) (get_or-range_with_len from (to - from) (j - from) 0 (omega arith) ∙ e) (f (j - from) 0 (omega arith) (omega arith));
    no = λ q. absurd (subst T q tt);
  }
  agrees_of from to false h f = record {
    yes = λ q. absurd (subst T (sym q) tt);
    no = λ q.
        let long = length-range_with_len from (to - from) in
        let k : ℕ = f.0 in
        let l : k < length (range_with_len from (to - from)) = f.1 in
        let n = subst Differ (get_or-range_with_len from (to - from) k 0 (omega arith)) (f.2 0) in
        differs t at b (from + k) (omega arith) n.0 n.1;
  }

-- at all parameters: the row includes b
pub agrees_everywhere : (t : List ℕ) (at : ℕ) (b : List ℕ) (r : Bool) → length b ≡ width → Agrees t at b 0 width r → r ≡ includes (numbers_at width t at) b
agrees_everywhere t at b true o u = sym (agree_all t at b o (λ j h. u.yes refl j (omega arith) h))
agrees_everywhere t at b false o u = sym (u.no refl)

-- n rows from row i on, by what holds of each
pub rows_in_lem : (i n : ℕ) (t b : List ℕ) → ((k : ℕ) → i ≤ k → k < i + n → includes (numbers_at width t (k * kept_stride)) b ≡ false)
    → (x : Kept) → In x (kept_from n t (i * kept_stride)) → includes x.combination b ≡ false
rows_in_lem i n t b f x j =
    let r = tabulate_in n (λ k. kept_at width t (i * kept_stride + k * kept_stride)) x (rw (kept_tabulated n t (i * kept_stride)) at j) in
    let l = r.below in
    let e : i * kept_stride + r.at * kept_stride ≡ (i + r.at) * kept_stride = omega arith in
    ap (λ (y : Kept). includes y.combination b) r.is ∙ ap (λ (y : ℕ). includes (numbers_at width t y) b) e ∙ f (i + r.at) (omega arith) (omega arith)
