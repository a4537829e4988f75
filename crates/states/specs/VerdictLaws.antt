-- Laws of the verdict of a set, and of the loop over all sets.
-- Assumes nothing.
use Rattle.std.specs.Prelude.{ℕ, ◌+◌, ◌≤◌, ◌<◌, ◌≡◌, refl, Bool, true, false, cond, List, length, get_or, set, replicate, ltb}
use Rattle.std.proofs.Common.{arith, sym, ap, ◌∙◌, length-set, get_or-set_same, get_or-set_other, lt-ltb, le-ltb, ltb-true, ltb-false}
use Rattle.std.proofs.Math.Decide.{ℕ_discrete}
use Rattle.std.proofs.lemmas.List.{get_or-replicate}
use Rattle.document.specs.Limits.{most_states}
use Rattle.sets.specs.ShapesLaws.{tabulate-is}
use Rattle.states.specs.Tabling.{verdict_from, verdicts_from}

-- The verdicts, one state more.
pub record Judged (null : Bool) (last : ℕ) (sets : List ℕ) (n : ℕ) (r : List ℕ) : Type 0 where
  pub few : n ≤ most_states
  pub long : length r ≡ most_states
  pub entry : (k : ℕ) → k < most_states → get_or r k 0 ≡ cond (ltb k n) (verdict_from null last (get_or sets k 0)) 0

pub judged_none : (null : Bool) (last : ℕ) (sets : List ℕ) → Judged null last sets 0 (replicate 64 0)
judged_none null last sets = record {
  few = omega arith;
  long = refl;
  entry = λ k h. rw (le-ltb k 0 (omega arith)) (get_or-replicate 64 k 0 0 h);
}

pub judged-more : (null : Bool) (last : ℕ) (sets : List ℕ) (n m v : ℕ) (r : List ℕ) → Judged null last sets n r → n < m → m ≤ most_states
    → v ≡ verdict_from null last (get_or sets n 0) → Judged null last sets (n + 1) (set r n v)
judged-more null last sets n m v r g h f e =
    let l = g.long in
    record {
      few = omega arith;
      long = length-set r n v ∙ l;
      entry = λ k b. elim (ℕ_discrete k n) [
        | yes q ↦ rw (q, lt-ltb n (n + 1) (omega arith)) (get_or-set_same r n v 0 (omega arith) ∙ e)
        | no q ↦ get_or-set_other r n k v 0 q ∙ g.entry k b ∙ ap (λ (t : Bool). cond t (verdict_from null last (get_or sets k 0)) 0) (same k n q)
      ];
    }
  where
    same : (k n : ℕ) → (k ≡ n → ⊥) → ltb k n ≡ ltb k (n + 1)
    same k n q = go (ltb k n) refl
      where
        go : (t : Bool) → ltb k n ≡ t → ltb k n ≡ ltb k (n + 1)
        go true e = e ∙ sym (lt-ltb k (n + 1) (omega (arith, ltb-true k n e)))
        go false e = e ∙ sym (le-ltb k (n + 1) (omega (arith, ltb-false k n e)))

pub judged_all : (null : Bool) (last : ℕ) (sets : List ℕ) (n m : ℕ) (r : List ℕ) → Judged null last sets n r → n ≤ m → m ≤ n → r ≡ verdicts_from null last m sets
unfolding verdicts_from
judged_all null last sets n m r g h l =
    let z : n ≡ m = omega arith in
    tabulate-is most_states (λ s. cond (ltb s m) (verdict_from null last (get_or sets s 0)) 0) r g.long (rw z at g.entry)
