-- Document 01, "The table": what a set holds after one event more, whether or not sets start anew at each event; and the set
-- after two sequences, one after the other.
-- Assumes nothing.
use Rattle.std.specs.Prelude.{ℕ, zero, suc, ◌<◌, ◌≡◌, ◌⊎◌, Bool, true, false, cond, eqb}
use Rattle.std.proofs.Common.{arith, inl, inr, ⊎_elim, eqb-true}
use Rattle.std.proofs.Math.Path.{refl}
use mathlib.Core.List.{List, [], ◌∷◌, ◌++◌}
use Rattle.std.specs.Int.Bits.{bit_or, bit_and}
use Rattle.std.proofs.lemmas.Bool.{eqb-false}
use Rattle.document.specs.Limits.{most_names}
use Rattle.document.specs.Patterns.{Pattern}
use Rattle.document.specs.Positions.{holds, next, nexts, named, move, set_from, set_after, start_set}
use Rattle.words.specs.Sets.{Has, none_has, or_has, has_or_left, has_or_right, and_has, has_and, guarded_has, has_guarded, start_has}

-- q can come next after a number of s below n
pub record Nexts (r : Pattern) (s n q : ℕ) : Type 0 where
  pub from : ℕ
  pub below : from < n
  pub held : Has s from
  pub comes : Has (next r from) q

pub nexts_has : (r : Pattern) (s n q : ℕ) → Has (nexts r s n) q → Nexts r s n q
unfolding nexts
nexts_has r s zero q h = absurd (none_has q h)
nexts_has r s (suc n) q h = ⊎_elim
    (λ x. let g = nexts_has r s n q x in record { from = g.from; below = let l = g.below in omega arith; held = g.held; comes = g.comes })
    (λ x. let y = guarded_has (holds s n) (next r n) q x in record { from = n; below = omega arith; held = y.0; comes = y.1 })
    (or_has (nexts r s n) (cond (holds s n) (next r n) 0) q h)

pub has_nexts : (r : Pattern) (s n q : ℕ) → Nexts r s n q → Has (nexts r s n) q
unfolding nexts
has_nexts r s zero q g = let l = g.below in absurd (omega arith)
has_nexts r s (suc n) q g = go (eqb g.from n) refl (has_nexts r s n q)
  where
    go : (t : Bool) → eqb g.from n ≡ t → (Nexts r s n q → Has (nexts r s n) q) → Has (bit_or (nexts r s n) (cond (holds s n) (next r n) 0)) q
    go true e ih =
        let same : g.from ≡ n = eqb-true g.from n e in
        has_or_right (nexts r s n) (cond (holds s n) (next r n) 0) q (has_guarded (holds s n) (next r n) q (rw same at g.held) (rw same at g.comes))
    go false e ih =
        let other : (g.from ≡ n → ⊥) = eqb-false g.from n e in
        let l = g.below in
        has_or_left (nexts r s n) (cond (holds s n) (next r n) 0) q (ih (record { from = g.from; below = omega arith; held = g.held; comes = g.comes }))

-- q names e and can come next after a number of s
pub record Moves (r : Pattern) (s e q : ℕ) : Type 0 where
  pub next : Nexts r s (suc most_names) q
  pub names : Has (named r e) q

pub move_has : (anew : Bool) (r : Pattern) (s e q : ℕ) → Has (move anew r s e) q → Moves r s e q ⊎ ((anew ≡ true) × (q ≡ 0))
unfolding move
move_has anew r s e q h = ⊎_elim
    (λ x. let y = and_has (nexts r s (suc most_names)) (named r e) q x in inl (record { next = nexts_has r s (suc most_names) q y.0; names = y.1 }))
    (λ x. let y = guarded_has anew 1 q x in inr (y.0, start_has q y.1))
    (or_has (bit_and (nexts r s (suc most_names)) (named r e)) (cond anew 1 0) q h)

pub has_move : (anew : Bool) (r : Pattern) (s e q : ℕ) → Moves r s e q → Has (move anew r s e) q
unfolding move
has_move anew r s e q m =
    has_or_left (bit_and (nexts r s (suc most_names)) (named r e)) (cond anew 1 0) q
    (has_and (nexts r s (suc most_names)) (named r e) q (has_nexts r s (suc most_names) q m.next) m.names)

-- ---- the set after a sequence
module _ (anew : Bool) (r : Pattern) where
  pub set_from_append : (s : ℕ) (u v : List ℕ) → set_from anew r s (u ++ v) ≡ set_from anew r (set_from anew r s u) v
  unfolding set_from
  set_from_append s [] v = refl
  set_from_append s (e ∷ u) v = set_from_append (move anew r s e) u v

  pub set_after_empty : set_after anew r [] ≡ start_set
  unfolding set_from set_after
  set_after_empty = refl

  pub set-after-event : (w : List ℕ) (e : ℕ) → set_after anew r (w ++ (e ∷ [])) ≡ move anew r (set_after anew r w) e
  unfolding set_from set_after
  set-after-event w e = set_from_append start_set w (e ∷ [])
