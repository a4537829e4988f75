-- The turns of the loops that write: one number more.
-- Assumes nothing.
use Rattle.std.specs.Prelude.{ℕ, ◌+◌, ◌-◌, ◌*◌, ◌<◌, ◌≤◌, ◌≡◌, refl, ◌⊎◌, List, length, get_or, set}
use Rattle.std.proofs.Common.{sym, subst, ◌∙◌, inl, inr, arith, get_or-set_same, get_or-set_other}
use Rattle.std.proofs.Math.Decide.{dec_lt, ℕ_discrete}
use Rattle.document.specs.Limits.{width, seen_stride, kept_stride}
use Rattle.document.specs.Tables.{numbers_at}
use Rattle.ordered.specs.Writes.{Raised, Pasted, SeenInserted, Put, Inserted, ZeroIn}
use Rattle.slices.specs.NumbersLaws.{get_or_numbers_at}

pub raised_begins : (by n : ℕ) (t : List ℕ) → Raised by n n t t
raised_begins by n t = record { low = λ k h. refl; mid = λ k h g. absurd (omega arith); high = λ k h. refl }

raised_more : (by a n : ℕ) (t t' : List ℕ) → 0 < by → a < n → n + by ≤ length t' → Raised by (a + 1) n t t'
    → Raised by a n t (set t' (a + by) (get_or t' a 0))
raised_more by a n t t' z h f u = record {
  low = λ k g. get_or-set_other t' (a + by) k (get_or t' a 0) 0 (λ q. omega arith) ∙ u.low k (omega arith);
  mid = λ k g i. elim (ℕ_discrete k a) [
    | yes q ↦ rw q (get_or-set_same t' (a + by) (get_or t' a 0) 0 (omega arith) ∙ u.low a (omega arith))
    | no m ↦ get_or-set_other t' (a + by) (k + by) (get_or t' a 0) 0 (λ q. omega arith) ∙ u.mid k (omega arith) i
  ];
  high = λ k g. get_or-set_other t' (a + by) k (get_or t' a 0) 0 (λ q. omega arith) ∙ u.high k g;
}

pub raised_turn : (by p n : ℕ) (t t' : List ℕ) → 0 < by → 0 < p → p ≤ n → n + by ≤ length t' → Raised by p n t t'
    → Raised by (p - 1) n t (set t' (p - 1 + by) (get_or t' (p - 1) 0))
raised_turn by p n t t' z h l f u =
    raised_more by (p - 1) n t t' z (omega arith) f (let e : p ≡ p - 1 + 1 = omega arith in subst (λ (x : ℕ). Raised by x n t t') e u)

pub raised_ends : (by a p n : ℕ) (t t' : List ℕ) → a ≤ p → p ≤ a → Raised by p n t t' → Raised by a n t t'
raised_ends by a p n t t' h g u = let e : p ≡ a = omega arith in subst (λ (x : ℕ). Raised by x n t t') e u

pub pasted_begins : (a : ℕ) (c t : List ℕ) → Pasted 0 a c t t
pasted_begins a c t = record { inside = λ k h. absurd (omega arith); low = λ k h. refl; high = λ k h. refl }

pub pasted_turn : (j a : ℕ) (c t t' : List ℕ) → a + width ≤ length t' → j < width → Pasted j a c t t'
    → Pasted (j + 1) a c t (set t' (a + j) (get_or c j 0))
pasted_turn j a c t t' l h u = record {
  inside = λ k g. elim (ℕ_discrete k j) [
    | yes q ↦ rw q (get_or-set_same t' (a + j) (get_or c j 0) 0 (omega arith))
    | no m ↦ get_or-set_other t' (a + j) (a + k) (get_or c j 0) 0 (λ q. m (omega arith)) ∙ u.inside k (omega arith)
  ];
  low = λ k g. get_or-set_other t' (a + j) k (get_or c j 0) 0 (λ q. omega arith) ∙ u.low k g;
  high = λ k g. get_or-set_other t' (a + j) k (get_or c j 0) 0 (λ q. omega arith) ∙ u.high k (omega arith);
}

pub pasted_ends : (j a : ℕ) (c t t' : List ℕ) → j ≤ width → width ≤ j → Pasted j a c t t' → Pasted width a c t t'
pasted_ends j a c t t' h g u = let e : j ≡ width = omega arith in subst (λ (x : ℕ). Pasted x a c t t') e u

pub seen_inserted : (a n : ℕ) (c t t' t'' : List ℕ) → a ≤ n → Raised seen_stride a n t t' → Pasted width a c t' t'' → SeenInserted a n c t t''
seen_inserted a n c t t' t'' h r p = record {
  row = p.inside;
  low = λ k g. p.low k g ∙ r.low k (omega arith);
  mid = λ k g i. p.high (k + seen_stride) (omega arith) ∙ r.mid k g i;
  high = λ k g. p.high k (omega arith) ∙ r.high k g;
}

pub put_of : (a : ℕ) (c : List ℕ) (s : ℕ) (t t' : List ℕ) → a + kept_stride ≤ length t' → Pasted width a c t t' → Put a c s t (set t' (a + width) s)
put_of a c s t t' h u = record {
  row = λ k g. get_or-set_other t' (a + width) (a + k) s 0 (λ q. omega arith) ∙ u.inside k g;
  last = get_or-set_same t' (a + width) s 0 (omega arith);
  low = λ k g. get_or-set_other t' (a + width) k s 0 (λ q. omega arith) ∙ u.low k g;
  high = λ k g. get_or-set_other t' (a + width) k s 0 (λ q. omega arith) ∙ u.high k (omega arith);
}

pub inserted_of : (a n : ℕ) (c : List ℕ) (s : ℕ) (t t' t'' : List ℕ) → a ≤ n → Raised kept_stride a n t t' → Put a c s t' t'' → Inserted a n c s t t''
inserted_of a n c s t t' t'' h r p = record {
  row = p.row;
  last = p.last;
  low = λ k g. p.low k g ∙ r.low k (omega arith);
  mid = λ k g i. p.high (k + kept_stride) (omega arith) ∙ r.mid k g i;
  high = λ k g. p.high k (omega arith) ∙ r.high k g;
}

-- from a place up to another, or nothing where that does not lie past it
pub record Clears (from p to : ℕ) (t t' : List ℕ) : Type 0 where
  pub past : from ≤ p
  pub stops : (p ≡ from) ⊎ (p ≤ to)
  pub zero : (k : ℕ) → from ≤ k → k < p → get_or t' k 0 ≡ 0
  pub low : (k : ℕ) → k < from → get_or t' k 0 ≡ get_or t k 0
  pub high : (k : ℕ) → p ≤ k → get_or t' k 0 ≡ get_or t k 0

pub clears_begins : (from to : ℕ) (t : List ℕ) → Clears from from to t t
clears_begins from to t = record {
  past = omega arith;
  stops = inl refl;
  zero = λ k h g. absurd (omega arith);
  low = λ k h. refl;
  high = λ k h. refl;
}

pub clears_turn : (from p to : ℕ) (t t' : List ℕ) → to ≤ length t' → p < to → Clears from p to t t' → Clears from (p + 1) to t (set t' p 0)
clears_turn from p to t t' l h u = record {
  past = let z = u.past in omega arith;
  stops = inr (omega arith);
  zero = λ k f g. elim (ℕ_discrete k p) [
    | yes q ↦ rw q (get_or-set_same t' p 0 0 (omega arith))
    | no m ↦ get_or-set_other t' p k 0 0 m ∙ u.zero k f (omega arith)
  ];
  low = λ k g. get_or-set_other t' p k 0 0 (λ q. let z = u.past in omega arith) ∙ u.low k g;
  high = λ k g. get_or-set_other t' p k 0 0 (λ q. omega arith) ∙ u.high k (omega arith);
}

pub clears_ends : (from p to : ℕ) (t t' : List ℕ) → to ≤ p → Clears from p to t t' → ZeroIn from to t t'
clears_ends from p to t t' h u = record {
  zero = λ k f l. u.zero k f (omega arith);
  low = u.low;
  high = λ k l. elim (dec_lt k p) [
    | yes g ↦ elim u.stops [ inl e ↦ u.low k (omega arith) | inr e ↦ absurd (omega arith) ]
    | no g ↦ u.high k (omega arith)
  ];
}

-- a kept row written where it stands, and one whose state alone is written
pub stays_put : (i o : ℕ) (t : List ℕ) → o ≡ i → Put (o * kept_stride) (numbers_at width t (i * kept_stride)) (get_or t (i * kept_stride + width) 0) t t
stays_put i o t q = rw q (record {
  row = λ k h. sym (get_or_numbers_at width t (i * kept_stride) k h);
  last = refl;
  low = λ k h. refl;
  high = λ k h. refl;
})

pub state_put : (at s : ℕ) (t : List ℕ) → at + kept_stride ≤ length t → Put at (numbers_at width t at) s t (set t (at + width) s)
state_put at s t h = record {
  row = λ k g. get_or-set_other t (at + width) (at + k) s 0 (λ q. omega arith) ∙ sym (get_or_numbers_at width t at k g);
  last = get_or-set_same t (at + width) s 0 (omega arith);
  low = λ k g. get_or-set_other t (at + width) k s 0 (λ q. omega arith);
  high = λ k g. get_or-set_other t (at + width) k s 0 (λ q. omega arith);
}
