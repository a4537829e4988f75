-- The hopeful states as worked out in rounds are those that are meant: `leads` holds exactly where a sequence of one or more
-- allowed events leads to a marked state. Each round finds all that the one before found. After a round
-- that finds nothing new none does, and every other puts a flag more up: so after as many rounds as there are states, none does.
-- Assumes nothing.
use Prim.Native.Nat.{ℕ, zero, suc, ◌+◌, ◌<◌, ◌≤◌}
use Rattle.std.specs.Prelude.{◌≡◌, refl, ◌⊎◌, ◌↔◌, true, ◌&&◌, ◌||◌, length, replicate}
use Rattle.std.proofs.Common.{ap, arith}
use Rattle.std.proofs.Math.Logic.{inl, inr}
use Rattle.std.proofs.Math.Bool.{Bool, false}
use mathlib.Core.List.{List, [], ◌∷◌}
use Rattle.std.proofs.Math.Decide.{dec_lt}
use Rattle.std.proofs.Math.Dec.{T}
use Rattle.std.proofs.Math.ListN.{get_or, get_or-eq_default}
use Rattle.document.specs.Lists.{In, tabulate}
use Rattle.document.specs.Patterns.{Among}
use Rattle.document.specs.Property.{Property, next_state, in_range, state_from, is_asked, Leads, leads_in, leads_after, leads, every_event, hopeful}
use Rattle.basics.specs.Lists.{length-tabulate, tabulate_at}
use Rattle.slices.specs.TestsLaws.{and_of, of_and, or_of, of_or, some_below_of, of_some_below}
use Rattle.slices.specs.PropertyLaws.{Ranges, ranges}

-- Flags that only go up ------------------------------------------------------------------------------------------------

-- how many flags are down
abbrev down : List Bool → ℕ
down [] = 0
down (true ∷ l) = down l
down (false ∷ l) = suc (down l)

-- each flag that is up in l is up in m
abbrev Within : List Bool → List Bool → Type 0
Within [] [] = Unit {0}
Within [] (y ∷ m) = ⊥
Within (x ∷ l) [] = ⊥
Within (x ∷ l) (y ∷ m) = (T x → T y) × Within l m

same_or_fewer : (l m : List Bool) → Within l m → (m ≡ l) ⊎ (down m < down l)
same_or_fewer [] [] h = inl refl
same_or_fewer [] (y ∷ m) h = absurd h
same_or_fewer (x ∷ l) [] h = absurd h
same_or_fewer (true ∷ l) (true ∷ m) h = elim (same_or_fewer l m h.1) [ inl e ↦ inl (rw e) | inr d ↦ inr d ]
same_or_fewer (true ∷ l) (false ∷ m) h = absurd (h.0 tt)
same_or_fewer (false ∷ l) (true ∷ m) h =
    elim (same_or_fewer l m h.1) [ inl e ↦ inr (let q = ap down e in omega arith) | inr d ↦ inr (omega arith) ]
same_or_fewer (false ∷ l) (false ∷ m) h = elim (same_or_fewer l m h.1) [ inl e ↦ inl (rw e) | inr d ↦ inr (omega arith) ]

within_get_or : (l m : List Bool) → Within l m → (k : ℕ) → T (get_or l k false) → T (get_or m k false)
within_get_or [] [] h k t = t
within_get_or [] (y ∷ m) h k t = absurd h
within_get_or (x ∷ l) [] h k t = absurd h
within_get_or (x ∷ l) (y ∷ m) h zero t = h.0 t
within_get_or (x ∷ l) (y ∷ m) h (suc k) t = within_get_or l m h.1 k t

down-replicate : (n : ℕ) → down (replicate n false) ≡ n
down-replicate zero = refl
down-replicate (suc n) = ap suc (down-replicate n)

within_tabulate : (n : ℕ) (f g : ℕ → Bool) → ((k : ℕ) → T (f k) → T (g k)) → Within (tabulate n f) (tabulate n g)
unfolding tabulate
within_tabulate zero f g h = tt
within_tabulate (suc n) f g h = (h 0, within_tabulate n (λ k. f (suc k)) (λ k. g (suc k)) (λ k. h (suc k)))

within_first : (n : ℕ) (g : ℕ → Bool) → Within (replicate n false) (tabulate n g)
unfolding tabulate
within_first zero g = tt
within_first (suc n) g = ((λ t. absurd t), within_first n (λ k. g (suc k)))

-- The rounds -----------------------------------------------------------------------------------------------------------

module _ (p : Property) (marked allowed : ℕ → Bool) where
  abbrev round : List Bool → List Bool
  round found = tabulate p.states (leads_in p marked allowed found)

  abbrev found : ℕ → List Bool
  found n = leads_after p marked allowed n

  -- what an event allowed leads to, marked or found
  pub record Step (flags : List Bool) (s : ℕ) : Type 0 where
    pub event : ℕ
    pub declared : event < p.events
    pub permitted : T (allowed event)
    pub arrives : T (marked (next_state p s event)) ⊎ T (get_or flags (next_state p s event) false)

  leads_in_of : (flags : List Bool) (s : ℕ) → T (leads_in p marked allowed flags s) → Step flags s
  unfolding leads_in
  leads_in_of flags s t =
      let goes : ℕ → Bool = λ e. marked (next_state p s e) || get_or flags (next_state p s e) false in
      let k = some_below_of p.events (λ e. allowed e && goes e) t in
      let h = and_of (allowed k.0) (goes k.0) k.2 in
      record {
        event = k.0;
        declared = k.1;
        permitted = h.0;
        arrives = or_of (marked (next_state p s k.0)) (get_or flags (next_state p s k.0) false) h.1;
      }

  of_leads_in : (flags : List Bool) (s : ℕ) → Step flags s → T (leads_in p marked allowed flags s)
  unfolding leads_in
  of_leads_in flags s h =
      let e = h.event in
      let goes : ℕ → Bool = λ e. marked (next_state p s e) || get_or flags (next_state p s e) false in
      of_some_below p.events (λ e. allowed e && goes e) e h.declared
      (of_and (allowed e) (goes e) h.permitted (of_or (marked (next_state p s e)) (get_or flags (next_state p s e) false) h.arrives))

  round_within : (l m : List Bool) → Within l m → Within (round l) (round m)
  round_within l m w =
      within_tabulate p.states (leads_in p marked allowed l) (leads_in p marked allowed m) (λ s t.
      let h = leads_in_of l s t in
      of_leads_in m s (record {
        event = h.event;
        declared = h.declared;
        permitted = h.permitted;
        arrives = elim h.arrives [ inl a ↦ inl a | inr a ↦ inr (within_get_or l m w (next_state p s h.event) a) ];
      }))

  found_within : (n : ℕ) → Within (found n) (found (suc n))
  unfolding leads_after
  found_within zero = within_first p.states (leads_in p marked allowed (replicate p.states false))
  found_within (suc n) = round_within (found n) (found (suc n)) (found_within n)

  -- the next round finds nothing new, or at least as many flags are up as there were rounds
  settles : (n : ℕ) → (found (suc n) ≡ found n) ⊎ (down (found n) + n ≤ p.states)
  unfolding leads_after
  settles zero = inr (let q = down-replicate p.states in omega arith)
  settles (suc n) =
      elim (settles n) [
        | inl e ↦ inl (ap round e)
        | inr h ↦ elim (same_or_fewer (found n) (found (suc n)) (found_within n)) [
          | inl e ↦ inl (ap round e)
          | inr d ↦ inr (omega arith)
        ]
      ]

  settled : found (suc p.states) ≡ found p.states
  settled =
      elim (settles p.states) [
        | inl e ↦ e
        | inr h ↦ elim (same_or_fewer (found p.states) (found (suc p.states)) (found_within p.states)) [
          | inl e ↦ e
          | inr d ↦ absurd (omega arith)
        ]
      ]

  -- What is found is meant ---------------------------------------------------------------------------------------------

  get_or_round : (flags : List Bool) (s : ℕ) → T (get_or (round flags) s false) → T (leads_in p marked allowed flags s)
  get_or_round flags s t = go (dec_lt s p.states)
    where
      go : Dec (s < p.states) → T (leads_in p marked allowed flags s)
      go (yes h) = rw (tabulate_at p.states (leads_in p marked allowed flags) s false h) at t
      go (no h) =
          let out : length (round flags) ≤ s = simp length-tabulate (omega arith) in
          absurd (rw (get_or-eq_default (round flags) false out) at t)

  pub step-leads : (s e : ℕ) → e < p.events → T (allowed e)
      → T (marked (next_state p s e)) ⊎ Leads p marked allowed (next_state p s e) → Leads p marked allowed s
  unfolding state_from
  step-leads s e h t (inl m) = record {
    first = e;
    rest = [];
    declared = λ x i. elim i [ inl q ↦ rw q h | inr z ↦ absurd z ];
    permitted = λ x i. elim i [ inl q ↦ rw q t | inr z ↦ absurd z ];
    arrives = m;
  }
  step-leads s e h t (inr l) = record {
    first = e;
    rest = l.first ∷ l.rest;
    declared = λ x i. elim i [ inl q ↦ rw q h | inr j ↦ l.declared x j ];
    permitted = λ x i. elim i [ inl q ↦ rw q t | inr j ↦ l.permitted x j ];
    arrives = l.arrives;
  }

  found-leads : (n s : ℕ) → T (get_or (found n) s false) → Leads p marked allowed s
  unfolding leads_after
  found-leads zero s t = absurd (none p.states s t)
    where
      none : (n s : ℕ) → T (get_or (replicate n false) s false) → ⊥
      none zero s t = t
      none (suc n) zero t = t
      none (suc n) (suc s) t = none n s t
  found-leads (suc n) s t =
      let h = leads_in_of (found n) s (get_or_round (found n) s t) in
      step-leads s h.event h.declared h.permitted (elim h.arrives [
        | inl m ↦ inl m
        | inr f ↦ inr (found-leads n (next_state p s h.event) f)
      ])

  -- What is meant is found ---------------------------------------------------------------------------------------------

  -- one step before a marked state, or before one found, is found: the rounds have settled
  step-found : (s : ℕ) → s < p.states → Step (found p.states) s → T (get_or (found p.states) s false)
  unfolding leads_after
  step-found s h k =
      let t : T (get_or (found (suc p.states)) s false) =
      rw (tabulate_at p.states (leads_in p marked allowed (found p.states)) s false h) (of_leads_in (found p.states) s k) in
      rw settled at t

  leads-found : Ranges p → (s e : ℕ) (rest : List ℕ) → s < p.states → Among p.events (e ∷ rest)
      → ((x : ℕ) → In x (e ∷ rest) → T (allowed x)) → T (marked (state_from p s (e ∷ rest))) → T (get_or (found p.states) s false)
  unfolding state_from
  leads-found r s e [] h d a m =
      step-found s h (record { event = e; declared = d e (inl refl); permitted = a e (inl refl); arrives = inl m })
  leads-found r s e (f ∷ rest) h d a m =
      let k = leads-found r (next_state p s e) f rest (r.next s e h (d e (inl refl))) (λ x i. d x (inr i)) (λ x i. a x (inr i)) m in
      step-found s h (record { event = e; declared = d e (inl refl); permitted = a e (inl refl); arrives = inr k })

  pub leads_right : in_range p ≡ true → (s : ℕ) → s < p.states → T (leads p marked allowed s) ↔ Leads p marked allowed s
  unfolding leads
  leads_right r s h = (
    (λ t. found-leads p.states s t),
    (λ l. leads-found (ranges p r) s l.first l.rest h l.declared l.permitted l.arrives),
  )

-- Hopeful --------------------------------------------------------------------------------------------------------------

pub hopeful_right : (p : Property) → in_range p ≡ true → (s : ℕ) → s < p.states → T (hopeful p s) ↔ Leads p (is_asked p) every_event s
unfolding hopeful
hopeful_right p r s h = leads_right p (is_asked p) every_event r s h

-- a state from which an event leads to a hopeful state, or to one asked for, is hopeful
pub hopeful_before : (p : Property) → in_range p ≡ true → (s e : ℕ) → s < p.states → e < p.events
    → T (hopeful p (next_state p s e)) ⊎ T (is_asked p (next_state p s e)) → T (hopeful p s)
hopeful_before p r s e h k v =
    (hopeful_right p r s h).1 (step-leads p (is_asked p) every_event s e k tt (elim v [
      | inl t ↦ inr ((hopeful_right p r (next_state p s e) ((ranges p r).next s e h k)).0 t)
      | inr t ↦ inl t
    ]))
