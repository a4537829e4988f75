-- A row put in at the place where a search ends is put in in order.
-- Assumes nothing.
use Rattle.std.specs.Prelude.{ℕ, zero, suc, ◌+◌, ◌-◌, ◌*◌, ◌<◌, ◌≡◌, refl, true, false, List, ◌∷◌, length, get_or}
use Rattle.std.proofs.Common.{sym, ap, ap₂, subst, ◌∙◌, arith, zero-add, suc-add}
use Rattle.document.specs.Limits.{width, seen_stride, kept_stride}
use Rattle.document.specs.Combinations.{precedes}
use Rattle.document.specs.OneEvent.{Kept, insert_kept, insert_seen}
use Rattle.document.specs.Tables.{numbers_at}
use Rattle.slices.specs.TestsLaws.{true_of}
use Rattle.slices.specs.OrderLaws.{Ascends, combinations, insert_kept-after, insert_kept_here, insert_seen-after, insert_seen_here}
use Rattle.slices.specs.TablesLaws.{kept_at}
use Rattle.ordered.specs.Rows.{Searchable, Parted}
use Rattle.ordered.specs.RowsLaws.{ascends_at}
use Rattle.ordered.specs.Writes.{SeenInserted, Inserted}
use Rattle.tables.specs.Tables.{kept_from, seen_from, Enterable, Entered}
use Rattle.tables.specs.TablesLaws.{numbers_move, row_move, row_is, kept_move, seen_move, kept_tabulated, combinations_tabulated}

-- A row put in order ---------------------------------------------------------------------------------------------------

pub enterable_searchable : (base n : ℕ) (t : List ℕ) → Enterable base n t → Searchable base kept_stride n t
enterable_searchable base n t u = record {
  inside = let i = u.inside in omega arith;
  wide = omega arith;
  order = λ i j h g. true_of _ (ascends_at n (λ k. numbers_at width t (base + k * kept_stride))
      (subst (λ (l : List (List ℕ)). Ascends l) (ap combinations (kept_tabulated n t base) ∙ combinations_tabulated n (λ k. kept_at width t (base + k * kept_stride))) u.order) i j h g);
}

put_in : (d l at a n : ℕ) (c : List ℕ) (v : ℕ) (t t' : List ℕ) → length c ≡ width → a ≡ at + d * kept_stride → n ≡ at + (d + l) * kept_stride
    → ((k : ℕ) → k < d → precedes (numbers_at width t (at + k * kept_stride)) c ≡ true) → (0 < l → precedes (numbers_at width t a) c ≡ false)
    → Inserted a n c v t t' → kept_from (suc (d + l)) t' at ≡ insert_kept (record { combination = c; state = v }) (kept_from (d + l) t at)
unfolding kept_from insert_kept
put_in zero zero at a n c v t t' o ea en low high u =
    let q : a ≡ at = omega arith in
    ap₂ ◌∷◌ (rw (← q) (row_is c v t' a o u.row u.last)) refl
put_in zero (suc l) at a n c v t t' o ea en low high u =
    let q : a ≡ at = omega arith in
    let r : Kept = record { combination = c; state = v } in
    rw (zero-add, ← q) (ap₂ ◌∷◌ (row_is c v t' a o u.row u.last)
    (kept_move (suc l) t t' a (a + kept_stride) (λ k h. ap (λ (x : ℕ). get_or t' x 0) (omega arith) ∙ u.mid (a + k) (omega arith) (omega arith)))
    ∙ sym (insert_kept_here r (kept_at width t a) (kept_from l t (a + kept_stride)) (high (omega arith))))
put_in (suc d) l at a n c v t t' o ea en low high u =
    let z : at + 0 * kept_stride ≡ at = omega arith in
    let r : Kept = record { combination = c; state = v } in
    let first : precedes (numbers_at width t at) c ≡ true = ap (λ (k : ℕ). precedes (numbers_at width t k) c) (sym z) ∙ low 0 (omega arith) in
    rw suc-add (ap₂ ◌∷◌
    (row_move t t' at at (λ k h. u.low (at + k) (omega arith)))
    (put_in d l (at + kept_stride) a n c v t t' o (omega arith) (omega arith)
    (λ k h. let e : at + kept_stride + k * kept_stride ≡ at + suc k * kept_stride = omega arith in rw e (low (suc k) (omega arith)))
    high u)
    ∙ sym (insert_kept-after r (kept_at width t at) (kept_from (d + l) t (at + kept_stride)) first))

pub entered_of : (base n at : ℕ) (c : List ℕ) (s : ℕ) (t t' : List ℕ) → length c ≡ width → Parted base kept_stride n t c at
    → Inserted (base + at * kept_stride) (base + n * kept_stride) c s t t' → Entered base n c s t t'
entered_of base n at c s t t' o p u =
    let w = p.within in
    let e : at + (n - at) ≡ n = omega arith in
    let q : n + 1 ≡ suc (at + (n - at)) = omega arith in
    record {
      rows = rw q (put_in at (n - at) base (base + at * kept_stride) (base + n * kept_stride) c s t t' o refl (rw e refl) p.low (λ h. p.high at (omega arith) (omega arith)) u ∙ rw e refl);
      low = λ k h. u.low k (omega arith);
      high = λ k h. u.high k (omega arith);
    }

-- A binding put in order -----------------------------------------------------------------------------------------------

see_in : (d l at a n : ℕ) (c : List ℕ) (t t' : List ℕ) → length c ≡ width → a ≡ at + d * seen_stride → n ≡ at + (d + l) * seen_stride
    → ((k : ℕ) → k < d → precedes (numbers_at width t (at + k * seen_stride)) c ≡ true) → (0 < l → precedes (numbers_at width t a) c ≡ false)
    → SeenInserted a n c t t' → seen_from (suc (d + l)) t' at ≡ insert_seen c (seen_from (d + l) t at)
unfolding seen_from insert_seen
see_in zero zero at a n c t t' o ea en low high u =
    let q : a ≡ at = omega arith in
    ap₂ ◌∷◌ (rw (← q) (ap (λ (k : Kept). k.combination) (row_is c (get_or t' (a + width) 0) t' a o u.row refl))) refl
see_in zero (suc l) at a n c t t' o ea en low high u =
    let q : a ≡ at = omega arith in
    rw (zero-add, ← q) (ap₂ ◌∷◌ (ap (λ (k : Kept). k.combination) (row_is c (get_or t' (a + width) 0) t' a o u.row refl))
    (seen_move (suc l) t t' a (a + seen_stride) (λ k h. ap (λ (x : ℕ). get_or t' x 0) (omega arith) ∙ u.mid (a + k) (omega arith) (omega arith)))
    ∙ sym (insert_seen_here c (numbers_at width t a) (seen_from l t (a + seen_stride)) (high (omega arith))))
see_in (suc d) l at a n c t t' o ea en low high u =
    let z : at + 0 * seen_stride ≡ at = omega arith in
    let first : precedes (numbers_at width t at) c ≡ true = ap (λ (k : ℕ). precedes (numbers_at width t k) c) (sym z) ∙ low 0 (omega arith) in
    rw suc-add (ap₂ ◌∷◌
    (numbers_move width t t' at at (λ k h. u.low (at + k) (omega arith)))
    (see_in d l (at + seen_stride) a n c t t' o (omega arith) (omega arith)
    (λ k h. let e : at + seen_stride + k * seen_stride ≡ at + suc k * seen_stride = omega arith in rw e (low (suc k) (omega arith)))
    high u)
    ∙ sym (insert_seen-after c (numbers_at width t at) (seen_from (d + l) t (at + seen_stride)) first))

pub seen_entered : (n at : ℕ) (c t t' : List ℕ) → length c ≡ width → Parted 0 seen_stride n t c at → SeenInserted (at * seen_stride) (n * seen_stride) c t t'
    → seen_from (n + 1) t' 0 ≡ insert_seen c (seen_from n t 0)
seen_entered n at c t t' o p u =
    let w = p.within in
    let e : at + (n - at) ≡ n = omega arith in
    let q : n + 1 ≡ suc (at + (n - at)) = omega arith in
    rw q (see_in at (n - at) 0 (at * seen_stride) (n * seen_stride) c t t' o (omega arith) (rw e (omega arith)) p.low
    (λ h. ap (λ (k : ℕ). precedes (numbers_at width t k) c) (sym (zero-add (at * seen_stride))) ∙ p.high at (omega arith) (omega arith)) u ∙ rw e refl)
