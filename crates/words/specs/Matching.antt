-- Document 01, "The table": in total matching the set of a sequence holds the numbers at which a reading of it can have
-- stopped, and its verdict is the total-matching verdict: the sequence is a word exactly where the verdict is match, and
-- begins none exactly where its set is empty.
-- Assumes nothing.
use Prim.Native.Nat.{ℕ, zero, suc, ◌≤◌}
use Rattle.std.proofs.Common.{arith, sym, ap, ◌∙◌, true≢false, ne_eqb, eqb-true}
use Rattle.std.proofs.Math.Path.{◌≡◌, refl}
use Rattle.std.proofs.Math.Logic.{⊎_elim}
use Rattle.std.specs.Prelude.{◌↔◌, Bool, cond, ◌||◌, ◌&&◌}
use Rattle.std.proofs.Math.Bool.{true, false, not}
use mathlib.Core.List.{List, [], ◌∷◌, ◌++◌, append-nil, append_assoc}
use Rattle.std.proofs.Math.Dec.{eqb}
use Rattle.std.specs.Int.Bits.{bit_and}
use Rattle.std.proofs.lemmas.Bool.{eqb-false, not-true}
use Rattle.document.specs.Limits.{most_names}
use Rattle.document.specs.Patterns.{Pattern, Word, Begins, TotalMatching, match, fail, undecided}
use Rattle.document.specs.Positions.{Stops, StopsAt, holds, nullable, lasts, next, named, move, start_set, set_from, set_after, verdict_of}
use Rattle.basics.specs.Tests.{and_left, and_right}
use Rattle.words.specs.Sets.{Has, none_has, has_and, and_has, member, empty, start_has, has_start, or_cases, or_left, or_right, and_both}
use Rattle.words.specs.Numbers.{Numbered, stops_lie, lasts_lie}
use Rattle.words.specs.Parts.{clash, right_nil}
use Rattle.words.specs.Readings.{nullable_word, Ends, nowhere, word_ends, Stopped, unread, begins_stopped, begins_empty, stops_begins}
use Rattle.words.specs.Readings as readings
use Rattle.words.specs.Steps.{stops_nonempty, Came, begins, goes_on_lem, stops_steps}
use Rattle.words.specs.StepsBack.{begins_stops, stops_word, goes_on_stops}
use Rattle.words.specs.Moves.{Moves, move_has, has_move}

-- "its set holds the numbers at which a reading of that sequence can have stopped"
pub record IsSetOf (r : Pattern) (w : List ℕ) (s : ℕ) : Type 0 where
  pub sound : (p : ℕ) → Has s p → StopsAt r p w
  pub full : (p : ℕ) → StopsAt r p w → Has s p

-- the test of the verdict match
accepts : Pattern → ℕ → Bool
accepts r s = (holds s 0 && nullable r) || not (eqb (bit_and s (lasts r)) 0)

module _ (r : Pattern) (hi : ℕ) (n : Numbered r 0 hi) where
  stops_stops_at : (p : ℕ) (w : List ℕ) → Stops r p w → StopsAt r p w
  stops_stops_at zero w h = let l = stops_lie r 0 hi n zero w h in absurd (omega arith)
  stops_stops_at (suc p) w h = h

  -- one event more
  stops_at_next : (p q e : ℕ) (w : List ℕ) → StopsAt r p w → Has (next r p) q → Has (named r e) q → StopsAt r q (w ++ (e ∷ []))
  stops_at_next zero q e w h f k = stops_stops_at q (w ++ (e ∷ [])) (rw h (begins_stops r 0 hi n q e f k))
  stops_at_next (suc p) q e w h f k = stops_stops_at q (w ++ (e ∷ [])) (goes_on_stops r 0 hi n (suc p) q e w h f k)

  pub start_set_of : IsSetOf r [] start_set
  start_set_of = record { sound = λ p h. sound p (start_has p h); full = full }
    where
      sound : (p : ℕ) → p ≡ 0 → StopsAt r p []
      sound zero h = refl
      sound (suc p) h = absurd (omega arith)

      full : (p : ℕ) → StopsAt r p [] → Has start_set p
      full zero h = has_start
      full (suc p) h = absurd (stops_nonempty r (suc p) h)

  pub move_set_of : hi ≤ most_names → (w : List ℕ) (s e : ℕ) → IsSetOf r w s → IsSetOf r (w ++ (e ∷ [])) (move false r s e)
  move_set_of few w s e is = record { sound = sound; full = full }
    where
      sound : (q : ℕ) → Has (move false r s e) q → StopsAt r q (w ++ (e ∷ []))
      sound q h = ⊎_elim
          (λ m. stops_at_next m.next.from q e w (is.sound m.next.from m.next.held) m.next.comes m.names)
          (λ x. absurd (true≢false (sym x.0))) (move_has false r s e q h)

      from : (q : ℕ) → Came r w q → Has (named r e) q → Moves r s e q
      from q (begins i f) k = record { next = record { from = 0; below = omega arith; held = is.full 0 i; comes = f }; names = k }
      from q (goes_on_lem zero t f) k = let l = stops_lie r 0 hi n zero w t in absurd (omega arith)
      from q (goes_on_lem (suc p) t f) k =
          let l = stops_lie r 0 hi n (suc p) w t in
          record { next = record { from = suc p; below = omega arith; held = is.full (suc p) t; comes = f }; names = k }

      full : (q : ℕ) → StopsAt r q (w ++ (e ∷ [])) → Has (move false r s e) q
      full zero h = absurd (clash (sym (right_nil w (e ∷ []) (sym h))))
      full (suc q) h =
          let g = stops_steps r (suc q) e (w ++ (e ∷ [])) w h refl in
          has_move false r s e (suc q) (from (suc q) g.came g.names)

  set_from_of : hi ≤ most_names → (u : List ℕ) (s : ℕ) (w : List ℕ) → IsSetOf r u s → IsSetOf r (u ++ w) (set_from false r s w)
  unfolding set_from
  set_from_of few u s [] is = rw append-nil is
  set_from_of few u s (e ∷ w) is =
      let z : (u ++ (e ∷ [])) ++ w ≡ u ++ (e ∷ w) = append_assoc u (e ∷ []) w in
      rw (sym z) (set_from_of few (u ++ (e ∷ [])) (move false r s e) w (move_set_of few u s e is))

  pub set_after_of : hi ≤ most_names → (w : List ℕ) → IsSetOf r w (set_after false r w)
  unfolding set_after
  set_after_of few w = set_from_of few [] start_set w start_set_of

  -- ---- what a sequence's set says of words
  module _ (w : List ℕ) (s : ℕ) (is : IsSetOf r w s) where
    pub begins_set : Begins r w → s ≡ 0 → ⊥
    begins_set b z = go (begins_stopped r w b)
      where
        go : Stopped r w → ⊥
        go (unread i) = none_has 0 (rw z at (is.full 0 i))
        go (readings.at p t) = none_has p (rw z at (is.full p (stops_stops_at p w t)))

    held_begins : (p : ℕ) → StopsAt r p w → Begins r w
    held_begins zero h = rw h (begins_empty r)
    held_begins (suc p) h = stops_begins r (suc p) w h

    pub set_begins : (Begins r w → ⊥) → s ≡ 0
    set_begins b = empty s (λ p h. b (held_begins p (is.sound p h)))

    accepts_word : accepts r s ≡ true → Word r w
    unfolding accepts
    accepts_word h = ⊎_elim
        (λ x. let i : w ≡ [] = is.sound 0 (and_left (holds s 0) (nullable r) x) in rw i (nullable_word r (and_right (holds s 0) (nullable r) x)))
        (λ x.
        let g = member (bit_and s (lasts r)) (eqb-false (bit_and s (lasts r)) 0 (not-true (eqb (bit_and s (lasts r)) 0) x)) in
        let b = and_has s (lasts r) g.0 g.1 in
        stopped g.0 (is.sound g.0 b.0) b.1)
        (or_cases (holds s 0 && nullable r) (not (eqb (bit_and s (lasts r)) 0)) h)
      where
        stopped : (p : ℕ) → StopsAt r p w → Has (lasts r) p → Word r w
        stopped zero h l = let x = lasts_lie r 0 hi n zero l in absurd (omega arith)
        stopped (suc p) h l = stops_word r 0 hi n (suc p) w h l

    word_accepts : Word r w → accepts r s ≡ true
    unfolding accepts
    word_accepts x = go (word_ends r w x)
      where
        go : Ends r w → (holds s 0 && nullable r) || not (eqb (bit_and s (lasts r)) 0) ≡ true
        go (nowhere i j) = or_left (holds s 0 && nullable r) (not (eqb (bit_and s (lasts r)) 0)) (and_both (holds s 0) (nullable r) (is.full 0 i) j)
        go (readings.at p t l) =
            or_right (holds s 0 && nullable r) (not (eqb (bit_and s (lasts r)) 0))
            (ap not (ne_eqb (bit_and s (lasts r)) 0 (λ z. none_has p (rw z at (has_and s (lasts r) p (is.full p (stops_stops_at p w t)) l)))))

    pub verdict_total : TotalMatching r w (verdict_of r s)
    unfolding verdict_of accepts
    verdict_total = go (accepts r s) refl (eqb s 0) refl
      where
        go : (t : Bool) → accepts r s ≡ t → (u : Bool) → eqb s 0 ≡ u → TotalMatching r w (cond t match (cond u fail undecided))
        go true e u f = record {
          verdict = omega arith;
          matches = (λ z. accepts_word e, λ x. refl);
          fails = (λ (z : ◌≡◌ {A = ℕ} 1 2). absurd (omega arith), λ b. absurd (b (record { rest = []; whole = rw append-nil (accepts_word e) })));
        }
        go false e true f = record {
          verdict = omega arith;
          matches = (λ (z : ◌≡◌ {A = ℕ} 2 1). absurd (omega arith), λ x. absurd (true≢false (sym (word_accepts x) ∙ e)));
          fails = (λ z b. begins_set b (eqb-true s 0 f), λ b. refl);
        }
        go false e false f = record {
          verdict = omega arith;
          matches = (λ (z : ◌≡◌ {A = ℕ} 0 1). absurd (omega arith), λ x. absurd (true≢false (sym (word_accepts x) ∙ e)));
          fails = (λ (z : ◌≡◌ {A = ℕ} 0 2). absurd (omega arith), λ b. absurd (eqb-false s 0 f (set_begins b)));
        }

  -- ---- the same, of the set that is worked out
  module _ (few : hi ≤ most_names) (w : List ℕ) where
    pub set-after-holds : (p : ℕ) → (holds (set_after false r w) p ≡ true) ↔ StopsAt r p w
    set-after-holds p = ((set_after_of few w).sound p, (set_after_of few w).full p)

    pub verdict_after_total : TotalMatching r w (verdict_of r (set_after false r w))
    verdict_after_total = verdict_total w (set_after false r w) (set_after_of few w)
