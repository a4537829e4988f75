-- The turns of a binary search, and what it finds in the seen rows.
-- Assumes nothing.
use Rattle.std.specs.Prelude.{ℕ, zero, suc, ◌+◌, ◌-◌, ◌*◌, ◌/◌, ◌<◌, ◌≤◌, ◌≡◌, refl, Bool, true, false, List, T, length}
use Rattle.std.proofs.Common.{sym, ap, ◌∙◌, inl, inr, arith, mul-le-mul_right, zero-add}
use Rattle.std.proofs.Math.Decide.{dec_lt, ℕ_discrete}
use Rattle.document.specs.Lists.{In, equal, among, tabulate}
use Rattle.document.specs.Limits.{width, seen_stride}
use Rattle.document.specs.Combinations.{precedes}
use Rattle.document.specs.Tables.{numbers_at, seen_rows}
use Rattle.document.specs.Session.{ascending}
use Rattle.slices.specs.TestsLaws.{so, not_so, true_of, false_of, equal_of, of_equal, among_of, same_test}
use Rattle.slices.specs.OrderLaws.{precedes_irrefl, precedes_trans, Ascends, ascending_of}
use Rattle.ordered.specs.Rows.{Searchable, Parted, SeenInOrder}

-- a row's numbers lie in the table
pub row_inside : (base stride n m : ℕ) (t : List ℕ) → Searchable base stride n t → m < n → base + m * stride + width ≤ length t
row_inside base stride n m t s h =
    let i = s.inside in
    let w = s.wide in
    let g : (m + 1) * stride ≤ n * stride = mul-le-mul_right stride (omega arith) in
    let e : (m + 1) * stride ≡ m * stride + stride = omega arith in
    omega arith

-- The search -----------------------------------------------------------------------------------------------------------

pub record Searching (base stride n : ℕ) (t c : List ℕ) (low high : ℕ) : Type 0 where
  pub table : Searchable base stride n t
  pub between : low ≤ high
  pub within : high ≤ n
  pub below : (k : ℕ) → k < low → precedes (numbers_at width t (base + k * stride)) c ≡ true
  pub above : (k : ℕ) → high ≤ k → k < n → precedes (numbers_at width t (base + k * stride)) c ≡ false

pub searching_begins : (base stride n : ℕ) (t c : List ℕ) → Searchable base stride n t → Searching base stride n t c 0 n
searching_begins base stride n t c s = record {
  table = s;
  between = omega arith;
  within = omega arith;
  below = λ k h. absurd (omega arith);
  above = λ k h g. absurd (omega arith);
}

module _ (base stride n : ℕ) (t c : List ℕ) (low high m : ℕ) (row : List ℕ) (f : Bool) where
  pub searching_up : Searching base stride n t c low high → low ≤ m → m < high
      → row ≡ numbers_at width t (base + m * stride) → f ≡ precedes row c → f ≡ true → Searching base stride n t c (m + 1) high
  searching_up s l h e q p = record {
    table = s.table;
    between = omega arith;
    within = s.within;
    below = λ k g. elim (ℕ_discrete k m) [
      | yes z ↦ rw z here
      | no z ↦ true_of (precedes (numbers_at width t (base + k * stride)) c) (precedes_trans
          (numbers_at width t (base + k * stride)) (numbers_at width t (base + m * stride)) c
          (so (s.table.order k m (omega arith) (let w = s.within in omega arith))) (so here))
    ];
    above = s.above;
  }
    where
      here : precedes (numbers_at width t (base + m * stride)) c ≡ true
      here = ap (λ r. precedes r c) (sym e) ∙ sym q ∙ p

  pub searching_down : Searching base stride n t c low high → low ≤ m → m < high
      → row ≡ numbers_at width t (base + m * stride) → f ≡ precedes row c → f ≡ false → Searching base stride n t c low m
  searching_down s l h e q p = record {
    table = s.table;
    between = l;
    within = let w = s.within in omega arith;
    below = s.below;
    above = λ k g i. elim (ℕ_discrete k m) [
      | yes z ↦ rw z here
      | no z ↦ false_of (precedes (numbers_at width t (base + k * stride)) c) (λ x. not_so here (precedes_trans
          (numbers_at width t (base + m * stride)) (numbers_at width t (base + k * stride)) c
          (so (s.table.order m k (omega arith) i)) x))
    ];
  }
    where
      here : precedes (numbers_at width t (base + m * stride)) c ≡ false
      here = ap (λ r. precedes r c) (sym e) ∙ sym q ∙ p

-- the middle row lies in the table
pub middle_inside : (base stride n : ℕ) (t c : List ℕ) (low high : ℕ) → Searching base stride n t c low high → low < high
    → base + (low + (high - low) / 2) * stride + width ≤ length t
middle_inside base stride n t c low high s h =
    row_inside base stride n (low + (high - low) / 2) t s.table (let w = s.within in omega arith)

pub searching_ends : (base stride n : ℕ) (t c : List ℕ) (low high : ℕ) → Searching base stride n t c low high → high ≤ low
    → Parted base stride n t c low
searching_ends base stride n t c low high s h = record {
  within = let b = s.between in let w = s.within in omega arith;
  low = s.below;
  high = λ k g i. s.above k (omega arith) i;
}

-- The seen rows --------------------------------------------------------------------------------------------------------

pub in_tabulate : {A : Type 0} (n : ℕ) (f : ℕ → A) (k : ℕ) → k < n → In (f k) (tabulate n f)
unfolding tabulate
in_tabulate zero f k h = absurd (omega arith)
in_tabulate (suc n) f zero h = inl refl
in_tabulate (suc n) f (suc k) h = inr (in_tabulate n (λ i. f (suc i)) k (omega arith))

-- a member of a tabulated list, with its place
pub record Placed {A : Type 0} (n : ℕ) (f : ℕ → A) (x : A) : Type 0 where
  pub at : ℕ
  pub below : at < n
  pub is : x ≡ f at

pub tabulate_in : {A : Type 0} (n : ℕ) (f : ℕ → A) (x : A) → In x (tabulate n f) → Placed n f x
unfolding tabulate
tabulate_in zero f x i = absurd i
tabulate_in (suc n) f x (inl q) = record { at = 0; below = omega arith; is = q }
tabulate_in (suc n) f x (inr i) =
    let r = tabulate_in n (λ k. f (suc k)) x i in
    let b = r.below in
    record { at = suc r.at; below = omega arith; is = r.is }

-- rows tabulated in order are in order by their places
pub ascends_at : (n : ℕ) (f : ℕ → List ℕ) → Ascends (tabulate n f) → (i j : ℕ) → i < j → j < n → T (precedes (f i) (f j))
unfolding tabulate
ascends_at zero f a i j h g = absurd (omega arith)
ascends_at (suc n) f a i zero h g = absurd (omega arith)
ascends_at (suc n) f a zero (suc j) h g = a.0 (f (suc j)) (in_tabulate n (λ k. f (suc k)) j (omega arith))
ascends_at (suc n) f a (suc i) (suc j) h g = ascends_at n (λ k. f (suc k)) a.1 i j (omega arith) (omega arith)

seen_order_lem : (n : ℕ) (seen : List ℕ) → ascending (seen_rows n seen) ≡ true → (i j : ℕ) → i < j → j < n
    → precedes (numbers_at width seen (0 + i * seen_stride)) (numbers_at width seen (0 + j * seen_stride)) ≡ true
unfolding seen_rows
seen_order_lem n seen a i j h g =
    rw (zero-add, zero-add (j * seen_stride))
    (true_of (precedes (numbers_at width seen (i * seen_stride)) (numbers_at width seen (j * seen_stride)))
    (ascends_at n (λ k. numbers_at width seen (k * seen_stride)) (ascending_of (tabulate n (λ k. numbers_at width seen (k * seen_stride))) a) i j h g))

pub seen_searchable : (n : ℕ) (seen : List ℕ) → SeenInOrder n seen → Searchable 0 seen_stride n seen
seen_searchable n seen s = record { inside = let i = s.inside in omega arith; wide = omega arith; order = seen_order_lem n seen s.order }

-- a combination that stands among the seen rows stands where the search ends
seen_place : (n at : ℕ) (seen c : List ℕ) → SeenInOrder n seen → Parted 0 seen_stride n seen c at → In c (seen_rows n seen)
    → (at < n) × (c ≡ numbers_at width seen (at * seen_stride))
unfolding seen_rows
seen_place n at seen c s p i =
    let r = tabulate_in n (λ k. numbers_at width seen (k * seen_stride)) c i in
    let z : (k : ℕ) → 0 + k * seen_stride ≡ k * seen_stride = λ k. zero-add (k * seen_stride) in
    let b = r.below in
    elim (dec_lt r.at at) [
      | yes h ↦ absurd (precedes_irrefl c (so (ap (λ x. precedes x c) (r.is ∙ ap (numbers_at width seen) (sym (z r.at))) ∙ p.low r.at h)))
      | no h ↦ elim (ℕ_discrete r.at at) [
        | yes e ↦ (omega arith, r.is ∙ ap (λ k. numbers_at width seen (k * seen_stride)) e)
        | no e ↦ absurd (not_so (p.high at (omega arith) (omega arith)) (so (
            ap (λ x. precedes (numbers_at width seen (0 + at * seen_stride)) x) (r.is ∙ ap (numbers_at width seen) (sym (z r.at)))
            ∙ seen_order_lem n seen s.order at r.at (omega arith) b)))
      ]
    ]

pub seen_absent : (n at : ℕ) (seen c : List ℕ) → SeenInOrder n seen → Parted 0 seen_stride n seen c at → n ≤ at → false ≡ among c (seen_rows n seen)
seen_absent n at seen c s p h =
    sym (false_of (among c (seen_rows n seen)) (λ t. let q = (seen_place n at seen c s p ((among_of c (seen_rows n seen)).0 t)).0 in omega arith))

pub seen_found : (n at : ℕ) (seen c row : List ℕ) (f : Bool) → SeenInOrder n seen → Parted 0 seen_stride n seen c at → at < n
    → row ≡ numbers_at width seen (at * seen_stride) → f ≡ equal c row → f ≡ among c (seen_rows n seen)
unfolding seen_rows
seen_found n at seen c row f s p h e q =
    q ∙ ap (equal c) e ∙ same_test (equal c here) (among c (seen_rows n seen))
    (λ t. (among_of c (seen_rows n seen)).1 (rw (equal_of c here t) (in_tabulate n (λ k. numbers_at width seen (k * seen_stride)) at h)))
    (λ t. of_equal c here (seen_place n at seen c s p ((among_of c (seen_rows n seen)).0 t)).1)
  where
    here : List ℕ
    here = numbers_at width seen (at * seen_stride)
