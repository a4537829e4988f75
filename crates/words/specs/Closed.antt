-- Document 01, "The table": going through the states finds distinct sets, each the set of some sequence, and writes for each
-- state gone through the numbers of the sets that the events lead to. It ends where all states are gone through, or after 65.
-- It is so for total matching and where sets start anew.
-- Assumes nothing.
use Prim.Native.Nat.{ℕ, zero, suc, ◌+◌, ◌<◌, ◌≤◌}
use native.Mathlib.Omega.{arith}
use Rattle.std.specs.Prelude.{◌≡◌, ◌⊎◌, Bool, length, eqb}
use Rattle.std.proofs.Math.Path.{refl}
use Rattle.std.proofs.Common.{ap, ◌∙◌}
use Rattle.std.proofs.Math.Logic.{inl, inr, ⊎_elim}
use Rattle.std.proofs.Math.Bool.{true, false}
use mathlib.Core.List.{List, [], ◌∷◌, ◌++◌}
use Rattle.std.proofs.Math.ListN.{get_or, length-append, get_or-append}
use Rattle.std.proofs.Math.Seq.{get_or-append_seam}
use Rattle.std.proofs.Math.Dec.{ltb}
use borrow.Author.Tests.{eqb-true, eqb-false, ltb-true, ltb-false}
use Rattle.document.specs.Lists.{In}
use Rattle.document.specs.Limits.{most_states}
use Rattle.document.specs.Patterns.{Pattern, Among}
use Rattle.document.specs.Positions.{move, start_set, set_after}
use Rattle.document.specs.States.{Found, state_of, find, find_all, row_of, go_through, states_of}
use Rattle.basics.specs.Lists.{Distinct, in_append}
use Rattle.words.specs.Moves.{set_after_empty, set-after-event}
use Rattle.words.specs.Places.{state_at, in_state, at_in, Extends, extends_itself, extends_twice, extends_length, extends_at, extends_in, Finds, find_finds}

-- the table's entry for state k and event e
abbrev pub entry_of : Found → ℕ → ℕ → ℕ
entry_of g k e = get_or (get_or g.table k []) e 0

module _ (anew : Bool) (r : Pattern) (m : ℕ) where
  -- x is the set of a sequence of the first m events
  pub record Reached (x : ℕ) : Type 0 where
    pub sequence : List ℕ
    pub declared : Among m sequence
    pub is : set_after anew r sequence ≡ x

  pub reached_start : Reached start_set
  reached_start = record { sequence = []; declared = λ e i. absurd i; is = set_after_empty anew r }

  pub reached_move : (x e : ℕ) → Reached x → e < m → Reached (move anew r x e)
  reached_move x e h l = record {
    sequence = h.sequence ++ (e ∷ []);
    declared = λ f i. ⊎_elim (h.declared f) (⊎_elim (λ (j : f ≡ e). omega arith) (λ j. absurd j)) ((in_append f h.sequence (e ∷ [])).0 i);
    is = set-after-event anew r h.sequence e ∙ ap (λ (s : ℕ). move anew r s e) h.is;
  }

  -- ---- the events at one state: n of them, from e on
  pub record FindsAll (s e n : ℕ) (found new : List ℕ) : Type 0 where
    pub extends : Extends found new
    pub distinct : Distinct new
    pub reached : (x : ℕ) → In x new → Reached x
    pub has : (f : ℕ) → f < n → In (move anew r s (e + f)) new

  find-more : (s e n : ℕ) (found one new : List ℕ) → Finds (move anew r s e) found one → FindsAll s (suc e) n one new
      → FindsAll s e (suc n) found new
  find-more s e n found one new g h = record {
    extends = extends_twice found one new g.extends h.extends;
    distinct = h.distinct;
    reached = h.reached;
    has = has;
  }
    where
      has : (f : ℕ) → f < suc n → In (move anew r s (e + f)) new
      has zero k = let z : e + 0 ≡ e = omega arith in rw z (extends_in one new h.extends (move anew r s e) g.has)
      has (suc f) k = let z : e + suc f ≡ suc e + f = omega arith in rw z (h.has f (omega arith))

  pub find_all_lem : (s e n : ℕ) (found : List ℕ) → e + n ≤ m → Reached s → Distinct found → ((x : ℕ) → In x found → Reached x)
      → FindsAll s e n found (find_all anew r s e n found)
  unfolding find_all
  find_all_lem s e zero found l h d all = record { extends = extends_itself found; distinct = d; reached = all; has = λ f k. absurd (omega arith) }
  find_all_lem s e (suc n) found l h d all =
      let one : List ℕ = find (move anew r s e) found in
      let g : Finds (move anew r s e) found one = find_finds (move anew r s e) found d in
      let moved : Reached (move anew r s e) = reached_move s e h (omega arith) in
      let all' : ((x : ℕ) → In x one → Reached x) = λ x i. ⊎_elim (all x) (λ (j : x ≡ move anew r s e). rw j moved) (g.only x i) in
      find-more s e n found one (find_all anew r s (suc e) n one) g (find_all_lem s (suc e) n one (omega arith) h g.distinct all')

  pub row_at : (s e n : ℕ) (found : List ℕ) (f : ℕ) → f < n → get_or (row_of anew r s e n found) f 0 ≡ state_of (move anew r s (e + f)) found
  unfolding row_of
  row_at s e zero found f l = absurd (omega arith)
  row_at s e (suc n) found zero l = let z : e + 0 ≡ e = omega arith in rw z refl
  row_at s e (suc n) found (suc f) l = let z : e + suc f ≡ suc e + f = omega arith in rw z (row_at s (suc e) n found f (omega arith))

  -- ---- going through the states
  -- an entry is the number of the set that its event leads to
  pub record Entry (g : Found) (k e : ℕ) : Type 0 where
    pub below : entry_of g k e < length g.sets
    pub is : get_or g.sets (entry_of g k e) 0 ≡ move anew r (get_or g.sets k 0) e

  -- the states below i are gone through
  pub record Through (i : ℕ) (g : Found) : Type 0 where
    pub starts : Extends (start_set ∷ []) g.sets
    pub distinct : Distinct g.sets
    pub reached : (x : ℕ) → In x g.sets → Reached x
    pub rows : length g.table ≡ i
    pub gone : i ≤ length g.sets
    pub entry : (k : ℕ) → k < i → (e : ℕ) → e < m → Entry g k e

  -- an entry stays as sets and rows are added
  entry_stays : (g h : Found) (row : List ℕ) → h.table ≡ g.table ++ (row ∷ []) → Extends g.sets h.sets
      → (k e : ℕ) → k < length g.table → k < length g.sets → Entry g k e → Entry h k e
  entry_stays g h row i x k e a b old =
      let there : get_or h.table k [] ≡ get_or g.table k [] = rw i (get_or-append g.table (row ∷ []) [] k a) in
      let same : entry_of h k e ≡ entry_of g k e = ap (λ (l : List ℕ). get_or l e 0) there in
      let p = old.below in
      let q = extends_length g.sets h.sets x in
      record {
        below = rw same (omega arith);
        is = rw (same, extends_at g.sets h.sets x (entry_of g k e) p, extends_at g.sets h.sets x k b) old.is;
      }

  -- the states after going through state i
  gone_through : ℕ → Found → Found
  gone_through i g = record {
    sets = find_all anew r (get_or g.sets i 0) 0 m g.sets;
    table = g.table ++ (row_of anew r (get_or g.sets i 0) 0 m (find_all anew r (get_or g.sets i 0) 0 m g.sets) ∷ []);
  }

  through_next : (i : ℕ) (g : Found) → Through i g → i < length g.sets → Through (suc i) (gone_through i g)
  unfolding gone_through
  through_next i g t l = record {
    starts = extends_twice (start_set ∷ []) g.sets found t.starts all.extends;
    distinct = all.distinct;
    reached = all.reached;
    rows = length-append g.table (row ∷ []) ∙ (let z = t.rows in omega arith);
    gone = omega (arith, longer);
    entry = λ k h e b. entry k e b (eqb k i) refl h;
  }
    where
      s : ℕ
      s = get_or g.sets i 0

      found : List ℕ
      found = find_all anew r s 0 m g.sets

      row : List ℕ
      row = row_of anew r s 0 m found

      all : FindsAll s 0 m g.sets found
      all = find_all_lem s 0 m g.sets (omega arith) (t.reached s (at_in g.sets i l)) t.distinct t.reached

      longer : length g.sets ≤ length found
      longer = extends_length g.sets found all.extends

      entry_new : (e : ℕ) → e < m → Entry (gone_through i g) i e
      entry_new e b =
          let here : get_or (g.table ++ (row ∷ [])) i [] ≡ row = rw t.rows at (get_or-append_seam g.table row [] []) in
          let z : 0 + e ≡ e = omega arith in
          let entry : get_or row e 0 ≡ state_of (move anew r s e) found = rw z at (row_at s 0 m found e b) in
          let same : get_or (get_or (g.table ++ (row ∷ [])) i []) e 0 ≡ state_of (move anew r s e) found = ap (λ (k : List ℕ). get_or k e 0) here ∙ entry in
          let known : In (move anew r s e) found = rw z at (all.has e b) in
          let below = in_state (move anew r s e) found known in
          record {
            below = rw same below;
            is = rw (same, extends_at g.sets found all.extends i l) (state_at (move anew r s e) found below);
          }

      entry : (k e : ℕ) → e < m → (u : Bool) → eqb k i ≡ u → k < suc i → Entry (gone_through i g) k e
      entry k e b true u h = rw (eqb-true k i u) (entry_new e b)
      entry k e b false u h =
          let other : (k ≡ i → ⊥) = eqb-false k i u in
          let z = t.rows in
          entry_stays g (gone_through i g) row refl all.extends k e (omega arith) (omega arith) (t.entry k (omega arith) e b)

  -- how it ends: all states are gone through, or as many as it was to go through
  pub record Ended (i n : ℕ) (g : Found) : Type 0 where
    pub at : ℕ
    pub through : Through at g
    pub why : (at ≡ length g.sets) ⊎ (at ≡ i + n)

  pub go_through_lem : (n i : ℕ) (g : Found) → Through i g → Ended i n (go_through anew r m i n g)
  unfolding go_through gone_through
  go_through_lem zero i g t = record { at = i; through = t; why = inr (omega arith) }
  go_through_lem (suc n) i g t = go (ltb i (length g.sets)) refl (go_through_lem n (suc i) (gone_through i g))
    where
      go : (u : Bool) → ltb i (length g.sets) ≡ u
          → (Through (suc i) (gone_through i g) → Ended (suc i) n (go_through anew r m (suc i) n (gone_through i g)))
          → Ended i (suc n) (elim u [ false ↦ g | true ↦ go_through anew r m (suc i) n (gone_through i g) ])
      go false u ih = let l = ltb-false i (length g.sets) u in let k = t.gone in record { at = i; through = t; why = inl (omega arith) }
      go true u ih =
          let x = ih (through_next i g t (ltb-true i (length g.sets) u)) in
          record { at = x.at; through = x.through; why = ⊎_elim inl (λ (k : x.at ≡ suc i + n). inr (omega arith)) x.why }

  pub states_ended : Ended 0 (suc most_states) (states_of anew r m)
  unfolding states_of
  states_ended = go_through_lem (suc most_states) 0 (record { sets = start_set ∷ []; table = [] }) (record {
    starts = extends_itself (start_set ∷ []);
    distinct = (λ i. i, tt);
    reached = λ x i. ⊎_elim (λ (j : x ≡ start_set). rw j reached_start) (λ j. absurd j) i;
    rows = refl;
    gone = omega arith;
    entry = λ k h e b. absurd (omega arith);
  })

  -- where they are at most 64, all are gone through: the table is closed
  pub states_closed : length (states_of anew r m).sets ≤ most_states → Through (length (states_of anew r m).sets) (states_of anew r m)
  states_closed few =
      let x = states_ended in
      let l = x.through.gone in
      let z : x.at ≡ length (states_of anew r m).sets = ⊎_elim (λ k. k) (λ (k : x.at ≡ suc most_states). absurd (omega arith)) x.why in
      rw z at x.through
