-- The shapes of patterns made of others are made of their shapes; and the laws of a loop that fills an array by a rule.
-- Assumes nothing.
use Rattle.std.specs.Prelude.{ℕ, zero, suc, ◌+◌, ◌*◌, ◌%◌, ◌≤◌, ◌<◌, ◌^◌, ◌≡◌, refl, Bool, true, false, cond, List, [], ◌∷◌, length, get_or, set, replicate, eqb}
use Rattle.std.proofs.Common.{sym, ap, ap₂, ◌∙◌, length-set, get_or-set_same, get_or-set_other, arith, one-mul, mod-eq_of_lt, below_more, eqb-true}
use Rattle.std.proofs.lemmas.List.{get_or-replicate}
use Rattle.std.specs.Int.Bits.{bit_or}
use Rattle.std.proofs.Math.Pow.{pow-lt}
use Rattle.std.proofs.lemmas.Bool.{eqb-false}
use Rattle.document.specs.Lists.{tabulate}
use Rattle.document.specs.Patterns.{Pattern, name, alternative, sequence, star, plus}
use Rattle.document.specs.Positions.{holds, nullable, firsts, lasts, follows, named}
use Rattle.basics.specs.Lists.{tabulate_at, tabulate_same}
use Rattle.sets.specs.Shapes.{shape_of, merge_of, link_of, either_shape, then_shape, star_shape, plus_shape}

-- a list of n numbers that follow a rule is the rule's list
pub tabulate-is : (n : ℕ) (g : ℕ → ℕ) (r : List ℕ) → length r ≡ n → ((k : ℕ) → k < n → get_or r k 0 ≡ g k) → r ≡ tabulate n g
unfolding tabulate
tabulate-is zero g [] e h = refl
tabulate-is zero g (x ∷ r) e h = absurd (omega arith)
tabulate-is (suc n) g [] e h = absurd (omega arith)
tabulate-is (suc n) g (x ∷ r) e h = ap₂ ◌∷◌ (h 0 (omega arith)) (tabulate-is n (λ k. g (suc k)) r (omega arith) (λ k l. h (suc k) (omega arith)))

-- r has n entries, and its first i are the rule's
pub record Filled (n : ℕ) (g : ℕ → ℕ) (r : List ℕ) (i : ℕ) : Type 0 where
  pub below : i ≤ n
  pub long : length r ≡ n
  pub entry : (k : ℕ) → k < i → get_or r k 0 ≡ g k

pub filled_none : {n : ℕ} {g : ℕ → ℕ} {r : List ℕ} → length r ≡ n → Filled n g r 0
filled_none e = record { below = omega arith; long = e; entry = λ k l. absurd (omega arith) }

pub filled_more : {n : ℕ} {g : ℕ → ℕ} {r : List ℕ} {i v : ℕ} → Filled n g r i → i < n → v ≡ g i → Filled n g (set r i v) (i + 1)
filled_more {n} {g} {r} {i} {v} h l e = record {
  below = omega arith;
  long = length-set r i v ∙ h.long;
  entry = below_more (λ (k : ℕ). get_or (set r i v) k 0 ≡ g k) i
      (λ k m. get_or-set_other r i k v 0 (λ (q : k ≡ i). omega arith) ∙ h.entry k m)
      (get_or-set_same r i v 0 (omega arith) ∙ e);
}

pub filled_all : {n : ℕ} {g : ℕ → ℕ} {r : List ℕ} {i : ℕ} → Filled n g r i → n ≤ i → r ≡ tabulate n g
filled_all {n} {g} {r} h l = tabulate-is n g r h.long (λ k m. h.entry k (omega arith))

-- the same of a list that is r from i on yet
pub record Filling (n : ℕ) (g : ℕ → ℕ) (a r : List ℕ) (i : ℕ) : Type 0 where
  pub filled : Filled n g r i
  pub left : (k : ℕ) → i ≤ k → get_or r k 0 ≡ get_or a k 0

pub filling_none : (n : ℕ) (g : ℕ → ℕ) (a : List ℕ) → length a ≡ n → Filling n g a a 0
filling_none n g a e = record { filled = filled_none e; left = λ k l. refl }

pub filling_more : (n : ℕ) (g : ℕ → ℕ) (a r : List ℕ) (i v : ℕ) → Filling n g a r i → i < n → (get_or r i 0 ≡ get_or a i 0 → v ≡ g i)
    → Filling n g a (set r i v) (i + 1)
filling_more n g a r i v h l e = record {
  filled = filled_more h.filled l (e (h.left i (omega arith)));
  left = λ k m. get_or-set_other r i k v 0 (λ (q : k ≡ i). omega arith) ∙ h.left k (omega arith);
}

pub filling_same : (n : ℕ) (g : ℕ → ℕ) (a r : List ℕ) (i : ℕ) → Filling n g a r i → i < n → get_or a i 0 ≡ g i → Filling n g a r (i + 1)
filling_same n g a r i h l e = record {
  filled = record {
    below = omega arith;
    long = h.filled.long;
    entry = below_more (λ (k : ℕ). get_or r k 0 ≡ g k) i h.filled.entry (h.left i (omega arith) ∙ e);
  };
  left = λ k m. h.left k (omega arith);
}

pub filling_all : (n : ℕ) (g : ℕ → ℕ) (a r : List ℕ) (i : ℕ) → Filling n g a r i → n ≤ i → r ≡ tabulate n g
filling_all n g a r i h l = filled_all h.filled l

-- Merging and linking rules ---------------------------------------------------------------------------------------------

merge_rules : (n : ℕ) (f g : ℕ → ℕ) → merge_of n (tabulate n f) (tabulate n g) ≡ tabulate n (λ k. bit_or (f k) (g k))
unfolding merge_of
merge_rules n f g = tabulate_same n _ _ (λ k h. ap₂ bit_or (tabulate_at n f k 0 h) (tabulate_at n g k 0 h))

link_rule : (f : ℕ → ℕ) (last first : ℕ) → link_of (tabulate 32 f) last first ≡ tabulate 32 (λ k. bit_or (f k) (cond (holds last k) first 0))
unfolding link_of
link_rule f last first = tabulate_same 32 _ _ (λ k h. ap (λ x. bit_or x (cond (holds last k) first 0)) (tabulate_at 32 f k 0 h))

-- The shapes ------------------------------------------------------------------------------------------------------------

pub either_shape_lem : (x y : Pattern) → either_shape (shape_of x) (shape_of y) ≡ shape_of (alternative x y)
unfolding either_shape shape_of nullable firsts lasts follows named
either_shape_lem x y = rw (merge_rules 32 (follows x) (follows y), merge_rules 16 (named x) (named y))

pub then_shape_lem : (x y : Pattern) → then_shape (shape_of x) (shape_of y) ≡ shape_of (sequence x y)
unfolding then_shape shape_of nullable firsts lasts follows named
then_shape_lem x y = rw (merge_rules 32 (follows x) (follows y), merge_rules 16 (named x) (named y), link_rule (λ k. bit_or (follows x k) (follows y k)) (lasts x) (firsts y))

pub star_shape_lem : (x : Pattern) → star_shape (shape_of x) ≡ shape_of (star x)
unfolding star_shape shape_of nullable firsts lasts follows named
star_shape_lem x = rw (link_rule (follows x) (lasts x) (firsts x))

pub plus_shape_lem : (x : Pattern) → plus_shape (shape_of x) ≡ shape_of (plus x)
unfolding plus_shape shape_of nullable firsts lasts follows named
plus_shape_lem x = rw (link_rule (follows x) (lasts x) (firsts x))

-- the one event that a name names
leaf_named : (n e : ℕ) → e < 16 → set (replicate 16 0) e (2 ^ n) ≡ tabulate 16 (named (name n e))
unfolding named
leaf_named n e h = tabulate-is 16 (named (name n e)) (set (replicate 16 0) e (2 ^ n)) (length-set (replicate 16 0) e (2 ^ n)) at
  where
    at : (k : ℕ) → k < 16 → get_or (set (replicate 16 0) e (2 ^ n)) k 0 ≡ cond (eqb e k) (2 ^ n) 0
    at k l = go (eqb e k) refl
      where
        go : (t : Bool) → eqb e k ≡ t → get_or (set (replicate 16 0) e (2 ^ n)) k 0 ≡ cond (eqb e k) (2 ^ n) 0
        go true q = rw (q, ← eqb-true e k q) (get_or-set_same (replicate 16 0) e (2 ^ n) 0 h)
        go false q =
            rw q (get_or-set_other (replicate 16 0) e k (2 ^ n) 0 (λ (z : k ≡ e). eqb-false e k q (sym z)) ∙ get_or-replicate 16 k 0 0 l)

-- a one shifted by at most 31 places stays in 32 bits
shifted : (n : ℕ) → n ≤ 31 → 1 * 2 ^ n % 4294967296 ≡ 2 ^ n
shifted n h = simp one-mul (mod-eq_of_lt (pow-lt {i = n} {j = 32} (omega arith)))

pub leaf_shape : (n e : ℕ) → n ≤ 31 → e < 16
    → record {
      null = false;
      first = 1 * 2 ^ n % 4294967296;
      last = 1 * 2 ^ n % 4294967296;
      follow = replicate 32 0;
      named = set (replicate 16 0) e (1 * 2 ^ n % 4294967296);
    } ≡ shape_of (name n e)
unfolding shape_of nullable firsts lasts follows tabulate
leaf_shape n e h l = rw (shifted n h, leaf_named n e l)
