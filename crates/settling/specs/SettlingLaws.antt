-- One row: its report, and where it is written; and the numbers after the last row moved down.
-- Assumes nothing.
use Rattle.std.specs.Prelude.{ℕ, ◌+◌, ◌*◌, ◌-◌, ◌≤◌, ◌≡◌, refl, Bool, true, false, not, List, [], ◌∷◌, ◌++◌, length, get_or, set}
use Rattle.std.proofs.Common.{sym, ap, ap₂, ◌∙◌, inl, inr, arith, get_or-set_same, get_or-set_other}
use mathlib.Core.List as list
use Rattle.std.proofs.lemmas.Bool.{not-true, not-false}
use Rattle.std.specs.List.{CopiedTo, SameBelow, SameFrom}
use Rattle.document.specs.Limits.{width, kept_stride}
use Rattle.document.specs.Positions.{holds}
use Rattle.document.specs.OneEvent.{Kept}
use Rattle.document.specs.Tables.{numbers_at}
use Rattle.basics.specs.Tests.{decided}
use Rattle.slices.specs.TestsLaws.{so, not_so}
use Rattle.slices.specs.TablesBackLaws.{length-numbers_at}
use Rattle.slices.specs.NumbersLaws.{get_or_numbers_at}
use Rattle.ordered.specs.Writes.{Put}
use Rattle.tables.specs.TablesLaws.{row_is, kept_move, kept_more}
use Rattle.settling.specs.Settling.{ToldRow, MovedRow, Lowered}

-- Its report -----------------------------------------------------------------------------------------------------------

module _ (verdicts : List ℕ) (asks to from count : ℕ) (kept : List ℕ) (at : ℕ) (t : List ℕ) (f : Bool) (q : f ≡ holds asks to) where
  pub tell_none : not f ≡ true → ToldRow verdicts asks to from count (numbers_at width kept at) t t count
  tell_none z = record {
    rows = sym (rw (sym q ∙ not-true f z, list.append-nil));
    low = λ k h. refl;
    high = λ k h. refl;
    more = omega arith;
    few = omega arith;
  }

  pub tell_one : not f ≡ false → (s v : ℕ) (c t' : List ℕ) → s ≡ to → v ≡ get_or verdicts s 0 → c ≡ numbers_at width kept at → Put (from + count * kept_stride) c v t t'
      → ToldRow verdicts asks to from count (numbers_at width kept at) t t' (count + 1)
  tell_one z s v c t' p r e w = record {
    rows = kept_more count t' from
        ∙ ap₂ (λ (l : List Kept) (k : Kept). l ++ (k ∷ [])) (kept_move count t t' from from (λ k h. w.low (from + k) (omega arith)))
        (row_is (numbers_at width kept at) (get_or verdicts to 0) t' (from + count * kept_stride) (length-numbers_at width kept at)
        (λ k h. w.row k h ∙ ap (λ (x : List ℕ). get_or x k 0) e) (w.last ∙ r ∙ ap (λ (x : ℕ). get_or verdicts x 0) p))
        ∙ sym (rw (sym q ∙ not-false f z));
    low = λ k h. w.low k (omega arith);
    high = λ k h. w.high k (omega arith);
    more = omega arith;
    few = omega arith;
  }

-- Where it is written --------------------------------------------------------------------------------------------------

module _ (hopes to i o : ℕ) (t : List ℕ) (f : Bool) (q : f ≡ holds hopes to) where
  pub row_drops : not f ≡ true → MovedRow hopes to i o t t o
  row_drops z = record {
    goes = λ y. absurd (not_so (sym q ∙ not-true f z) (so y));
    drops = λ y. (refl, refl);
  }

  -- the row moved down with its state, and then the new state written
  pub row_goes : not f ≡ false → (i + 1) * kept_stride ≤ length t → o ≤ i → (t' : List ℕ) → length t' ≡ length t
      → Put (o * kept_stride) (numbers_at width t (i * kept_stride)) (get_or t (i * kept_stride + width) 0) t t' → MovedRow hopes to i o t (set t' (o * kept_stride + width) to) (o + 1)
  row_goes z h g t' l p = record {
    goes = λ y. (
      refl,
      record {
        row = λ k x. get_or-set_other t' (o * kept_stride + width) (o * kept_stride + k) to 0 (λ c. omega arith) ∙ p.row k x;
        last = get_or-set_same t' (o * kept_stride + width) to 0 (omega arith);
        low = λ k x. get_or-set_other t' (o * kept_stride + width) k to 0 (λ c. omega arith) ∙ p.low k x;
        high = λ k x. get_or-set_other t' (o * kept_stride + width) k to 0 (λ c. omega arith) ∙ p.high k x;
      },
    );
    drops = λ y. absurd (not_so y (so (sym q ∙ not-false f z)));
  }

pub moved_before : (hopes to i o : ℕ) (t t' : List ℕ) (r : ℕ) → MovedRow hopes to i o t t' r → o ≤ i → r ≤ i + 1
moved_before hopes to i o t t' r v h = elim (decided (holds hopes to)) [
  | inl y ↦ let q = (v.goes y).0 in omega arith
  | inr y ↦ let q = (v.drops y).0 in omega arith
]

-- a row copied down
pub row_stays : (i o n : ℕ) (t t' : List ℕ) → n ≡ kept_stride → CopiedTo t t' (i * kept_stride) (o * kept_stride) n × SameBelow t t' (o * kept_stride) × SameFrom t t' (o * kept_stride + n)
    → Put (o * kept_stride) (numbers_at width t (i * kept_stride)) (get_or t (i * kept_stride + width) 0) t t'
row_stays i o n t t' q c = record {
  row = λ k h.
      let e : i * kept_stride + (o * kept_stride + k - o * kept_stride) ≡ i * kept_stride + k = omega arith in
      c.0 (o * kept_stride + k) 0 (omega arith) (omega arith) ∙ ap (λ (x : ℕ). get_or t x 0) e ∙ sym (get_or_numbers_at width t (i * kept_stride) k h);
  last =
      let e : i * kept_stride + (o * kept_stride + width - o * kept_stride) ≡ i * kept_stride + width = omega arith in
      c.0 (o * kept_stride + width) 0 (omega arith) (omega arith) ∙ ap (λ (x : ℕ). get_or t x 0) e;
  low = λ k h. c.1 k 0 h;
  high = λ k h. c.2 k 0 (omega arith);
}

-- The numbers after the last row, moved down ---------------------------------------------------------------------------

pub lowered_of : (from to end : ℕ) (t t' : List ℕ) → to ≤ from → from ≤ end → CopiedTo t t' from to (end - from) × SameBelow t t' to × SameFrom t t' (to + (end - from))
    → Lowered from to end t t' (to + (end - from))
lowered_of from to end t t' h g c = record {
  stops = refl;
  low = λ k x. c.1 k 0 x;
  mid = λ k x y. let e : from + (k - to) ≡ k + (from - to) = omega arith in c.0 k 0 x y ∙ ap (λ (n : ℕ). get_or t n 0) e;
  high = λ k x. c.2 k 0 x;
}
