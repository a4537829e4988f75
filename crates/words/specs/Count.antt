-- Document 01, "Numbers of refusal", 10: going through the states finds more than 64 sets exactly where more than 64 sequences
-- of declared events lead to different sets.
-- Assumes nothing.
use Rattle.std.specs.Prelude.{ℕ, zero, suc, ◌<◌, ◌≤◌, ◌≡◌, refl, ◌↔◌, Bool, true, false, List, [], ◌∷◌, length, take, ltb}
use Rattle.std.proofs.Common.{arith, sym, ap, ◌∙◌, inl, inr, ⊎_elim, length-take-le, ltb-true, ltb-false}
use mathlib.Core.List as list
use Rattle.std.proofs.lemmas.List.{length-map}
use Rattle.document.specs.Lists.{In}
use Rattle.document.specs.Limits.{most_states}
use Rattle.document.specs.Patterns.{Pattern, Among}
use Rattle.document.specs.Positions.{set_after}
use Rattle.document.specs.States.{Found, states_of, Apart, MoreStates}
use Rattle.basics.specs.Lists.{Distinct}
use Rattle.words.specs.Places.{distinct_length}
use Rattle.words.specs.Closed.{Reached, Through, Ended, states_ended, states_closed}
use Rattle.words.specs.Walks.{set_after_in}

-- ---- the first members of a list
take_in : (n : ℕ) (l : List ℕ) (x : ℕ) → In x (take n l) → In x l
take_in zero l x h = absurd h
take_in (suc n) [] x h = absurd h
take_in (suc n) (y ∷ l) x h = ⊎_elim inl (λ i. inr (take_in n l x i)) h

take_distinct : (n : ℕ) (l : List ℕ) → Distinct l → Distinct (take n l)
take_distinct zero l d = tt
take_distinct (suc n) [] d = tt
take_distinct (suc n) (x ∷ l) d = (λ i. d.0 (take_in n l x i), take_distinct n l d.1)

module _ (anew : Bool) (r : Pattern) (m : ℕ) where
  -- ---- a sequence for each of some distinct sets
  record Sequences (l : List ℕ) : Type 0 where
    sequences : List (List ℕ)
    many : length sequences ≡ length l
    declared : (w : List ℕ) → In w sequences → Among m w
    apart : Apart anew r sequences
    lead : (w : List ℕ) → In w sequences → In (set_after anew r w) l

  sequences_for : (l : List ℕ) → Distinct l → ((x : ℕ) → In x l → Reached anew r m x) → Sequences l
  sequences_for [] d h = record { sequences = []; many = refl; declared = λ w i. absurd i; apart = tt; lead = λ w i. i }
  sequences_for (x ∷ l) d h =
      let one = h x (inl refl) in
      let rest = sequences_for l d.1 (λ y i. h y (inr i)) in
      record {
        sequences = one.sequence ∷ rest.sequences;
        many = ap suc rest.many;
        declared = λ w i. ⊎_elim (λ (j : w ≡ one.sequence). rw j one.declared) (rest.declared w) i;
        apart = (λ u i e. d.0 (rw (sym one.is ∙ e) (rest.lead u i)), rest.apart);
        lead = λ w i. ⊎_elim (λ (j : w ≡ one.sequence). inl (ap (set_after anew r) j ∙ one.is)) (λ j. inr (rest.lead w j)) i;
      }

  -- more sets than n give more than n sequences apart
  pub states_more : (n i : ℕ) (g : Found) → Through anew r m i g → n < length g.sets → MoreStates anew r m n
  states_more n i g t l =
      let first : List ℕ = take (suc n) g.sets in
      let x = sequences_for first (take_distinct (suc n) g.sets t.distinct) (λ y k. t.reached y (take_in (suc n) g.sets y k)) in
      record {
        sequences = x.sequences;
        many = x.many ∙ length-take-le (suc n) g.sets l;
        declared = x.declared;
        apart = x.apart;
      }

  -- ---- sequences apart lead to as many sets
  map_in : (ws : List (List ℕ)) (x : ℕ) → In x (list.map (set_after anew r) ws) → (u : List ℕ) × In u ws × (x ≡ set_after anew r u)
  map_in [] x h = absurd h
  map_in (w ∷ ws) x h = ⊎_elim (λ i. (w, inl refl, i)) (λ i. let g = map_in ws x i in (g.0, inr g.1, g.2)) h

  apart_distinct : (ws : List (List ℕ)) → Apart anew r ws → Distinct (list.map (set_after anew r) ws)
  apart_distinct [] a = tt
  apart_distinct (w ∷ ws) a = (λ i. let g = map_in ws (set_after anew r w) i in a.0 g.0 g.1 g.2, apart_distinct ws a.1)

  pub more_states_length : (n : ℕ) (g : Found) → Through anew r m (length g.sets) g → MoreStates anew r m n → n < length g.sets
  more_states_length n g t x =
      let sets : List ℕ = list.map (set_after anew r) x.sequences in
      let l : length sets ≤ length g.sets = distinct_length sets g.sets (apart_distinct x.sequences x.apart) λ y i.
      let u = map_in x.sequences y i in rw u.2 (set_after_in anew r m g t u.0 (x.declared u.0 u.1)) in
      let k : length sets ≡ suc n = length-map x.sequences (set_after anew r) ∙ x.many in
      omega arith

  pub more_states : (ltb most_states (length (states_of anew r m).sets) ≡ true) ↔ MoreStates anew r m most_states
  more_states = (
    λ h. states_more most_states ended.at (states_of anew r m) ended.through (ltb-true most_states (length (states_of anew r m).sets) h),
    λ x. go x (ltb most_states (length (states_of anew r m).sets)) refl,
  )
    where
      ended : Ended anew r m 0 (suc most_states) (states_of anew r m)
      ended = states_ended anew r m

      go : MoreStates anew r m most_states → (u : Bool) → ltb most_states (length (states_of anew r m).sets) ≡ u → u ≡ true
      go x true e = refl
      go x false e =
          let few = ltb-false most_states (length (states_of anew r m).sets) e in
          let l = more_states_length most_states (states_of anew r m) (states_closed anew r m few) x in
          absurd (omega arith)
