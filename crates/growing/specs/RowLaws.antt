-- Laws of a row: the number of a set stays as sets join those found, and one event more.
-- Assumes nothing.
use Rattle.std.specs.Prelude.{ℕ, zero, suc, ◌+◌, ◌-◌, ◌*◌, ◌≤◌, ◌<◌, ◌≡◌, refl, Bool, true, false, cond, List, [], ◌∷◌, ◌++◌, length, get_or, take, set, eqb, ltb, None, Some, position}
use Rattle.std.proofs.Common.{arith, sym, ap, ◌∙◌, inl, inr, length-set, length-append, get_or-set_same, get_or-set_other, length-take-le, get_or-take, take-suc-set, eq-eqb, ne_eqb, eqb-true, add-one, lt-ltb, le-ltb, ltb-true, ltb-false}
use Rattle.std.proofs.Math.Decide.{ℕ_discrete}
use Rattle.std.proofs.lemmas.Option.{none-some, cond_some}
use Rattle.std.proofs.lemmas.Bool.{eqb-false}
use Rattle.std.proofs.lemmas.List.Recursion.{is_position_or_len}
use Rattle.std.specs.List.{position_or_len}
use Rattle.document.specs.Limits.{most_events, most_states}
use Rattle.document.specs.States.{state_of, find}
use Rattle.basics.specs.Tests.{decided}
use Rattle.words.specs.Places.{state_le}
use Rattle.growing.specs.declared.Grown.{Grown}
use Rattle.growing.specs.Growing.{met_all, Joins, Numbers, Row}

-- The number of a set ---------------------------------------------------------------------------------------------------

state_same : (s x : ℕ) (l : List ℕ) → eqb s x ≡ true → state_of s (x ∷ l) ≡ 0
unfolding state_of
state_same s x l e = rw (e, state_of)

state_other : (s x : ℕ) (l : List ℕ) → eqb s x ≡ false → state_of s (x ∷ l) ≡ suc (state_of s l)
unfolding state_of
state_other s x l e = rw (e, state_of)

-- it keeps its number as others join, and a new one gets the next number
state_append : (s : ℕ) (l m : List ℕ) → state_of s l < length l → state_of s (l ++ m) ≡ state_of s l
state_append s [] m h = absurd (omega arith)
state_append s (x ∷ l) m h = elim (decided (eqb s x)) [
  | inl e ↦ rw (state_same s x l e, state_same s x (l ++ m) e)
  | inr e ↦
      rw (state_other s x l e, state_other s x (l ++ m) e)
      (ap suc (state_append s l m (let k = rw (state_other s x l e) at h in omega arith)))
]

state_new : (s : ℕ) (l : List ℕ) → length l ≤ state_of s l → state_of s (l ++ (s ∷ [])) ≡ length l
state_new s [] h = state_same s s [] (eq-eqb s s refl)
state_new s (x ∷ l) h = elim (decided (eqb s x)) [
  | inl e ↦ let k = rw (state_same s x l e) at h in absurd (omega arith)
  | inr e ↦ rw (state_other s x (l ++ (s ∷ [])) e) (ap suc (state_new s l (let k = rw (state_other s x l e) at h in omega arith)))
]

-- Joining those found ---------------------------------------------------------------------------------------------------

find-old : (s : ℕ) (l : List ℕ) → state_of s l < length l → find s l ≡ l
unfolding find
find-old s l h = rw (lt-ltb (state_of s l) (length l) h, find)

find_new : (s : ℕ) (l : List ℕ) → length l ≤ state_of s l → find s l ≡ l ++ (s ∷ [])
unfolding find
find_new s l h = rw (le-ltb (state_of s l) (length l) h, find)

pub find_longer : (s : ℕ) (l : List ℕ) → length l ≤ length (find s l)
find_longer s l = elim (decided (ltb (state_of s l) (length l))) [
  | inl e ↦ rw (find-old s l (ltb-true _ _ e)) (omega arith)
  | inr e ↦ rw (find_new s l (ltb-false _ _ e), length-append) (omega arith)
]

-- a set that was found keeps its number, and the one that joins has its own from then on
state_find : (s t : ℕ) (l : List ℕ) → state_of s l < length l → state_of s (find t l) ≡ state_of s l
state_find s t l h = elim (decided (ltb (state_of t l) (length l))) [
  | inl e ↦ rw (find-old t l (ltb-true _ _ e))
  | inr e ↦ rw (find_new t l (ltb-false _ _ e)) (state_append s l (t ∷ []) h)
]

state_find_self : (s : ℕ) (l : List ℕ) → state_of s (find s l) ≡ state_of s l
state_find_self s l = elim (decided (ltb (state_of s l) (length l))) [
  | inl e ↦ rw (find-old s l (ltb-true _ _ e))
  | inr e ↦
      let h = ltb-false (state_of s l) (length l) e in
      rw (find_new s l h) (state_new s l h ∙ (let k = state_le s l in omega arith))
]

state_found : (s : ℕ) (l : List ℕ) → state_of s l < length (find s l)
state_found s l = elim (decided (ltb (state_of s l) (length l))) [
  | inl e ↦ let h = ltb-true (state_of s l) (length l) e in rw (find-old s l h) h
  | inr e ↦ rw (find_new s l (ltb-false _ _ e), length-append) (let k = state_le s l in omega arith)
]

-- those met join one after another
met_next : (to : List ℕ) (e n : ℕ) (l : List ℕ) → met_all to e (suc n) l ≡ met_all to (suc e) n (find (get_or to e 0) l)
unfolding met_all
met_next to e n l = refl

met_none : (to : List ℕ) (e : ℕ) (l : List ℕ) → met_all to e 0 l ≡ l
unfolding met_all
met_none to e l = refl

pub met_longer : (to : List ℕ) (e n : ℕ) (l : List ℕ) → length l ≤ length (met_all to e n l)
met_longer to e zero l = rw (met_none to e l) (omega arith)
met_longer to e (suc n) l =
    let a = find_longer (get_or to e 0) l in
    let b = met_longer to (suc e) n (find (get_or to e 0) l) in
    rw (met_next to e n l) (omega arith)

-- A number given -----------------------------------------------------------------------------------------------------------

-- what `position` finds is the definition's number
state_position : (s : ℕ) (l : List ℕ) → state_of s l ≡ position_or_len (λ (x : ℕ). eqb x s) l
unfolding state_of
state_position s l = is_position_or_len (state_of s) (λ (x : ℕ). eqb x s) refl (λ x xs. go x xs (eqb s x) refl) l
  where
    go : (x : ℕ) (xs : List ℕ) (t : Bool) → eqb s x ≡ t → state_of s (x ∷ xs) ≡ cond (eqb x s) 0 (1 + state_of s xs)
    go x xs true e = rw (state_same s x xs e, eq-eqb x s (sym (eqb-true s x e)))
    go x xs false e =
        let z : suc (state_of s xs) ≡ 1 + state_of s xs = omega arith in
        rw (state_other s x xs e, ne_eqb x s (λ (q : x ≡ s). eqb-false s x e (sym q))) z

module _ (s : ℕ) (g : Grown) (few : g.count ≤ most_states) (l : length g.sets ≡ most_states) where
  long : length (take g.count g.sets) ≡ g.count
  long = length-take-le g.count g.sets (omega arith)

  -- it stands among those found
  pub number_old : (k : ℕ) → Some k ≡ position (λ (x : ℕ). eqb x s) (take g.count g.sets) → Joins s g g k
  number_old k q =
      let e = cond_some _ _ _ (sym q) in
      let w = long in
      let n : k ≡ state_of s (take g.count g.sets) = sym (e.1) ∙ sym (state_position s (take g.count g.sets)) in
      let b = ltb-true _ _ e.0 in
      record {
        few = few;
        long = l;
        below = omega arith;
        number = n;
        found = sym (find-old s (take g.count g.sets) (omega arith));
        same = refl;
      }

  number_none : None ≡ position (λ (x : ℕ). eqb x s) (take g.count g.sets) → state_of s (take g.count g.sets) ≡ g.count
  number_none q = elim (decided (ltb (state_of s (take g.count g.sets)) (length (take g.count g.sets)))) [
    | inl e ↦ absurd (none-some _ (rw (sym (state_position s (take g.count g.sets)), e) at q))
    | inr e ↦ let b = ltb-false _ _ e in let y = state_le s (take g.count g.sets) in let w = long in omega arith
  ]

  -- it is a 65th
  pub number_full : None ≡ position (λ (x : ℕ). eqb x s) (take g.count g.sets) → g.count ≡ most_states → Numbers s g g None
  number_full q f = let z = number_none q in (f, omega arith)

  -- it joins them
  pub number_new : None ≡ position (λ (x : ℕ). eqb x s) (take g.count g.sets) → (g.count ≡ most_states → ⊥)
      → Joins s g (record { count = g.count + 1; sets = set g.sets g.count s; next = g.next }) g.count
  number_new q f =
      let z = number_none q in
      let w = long in
      record {
        few = omega arith;
        long = length-set g.sets g.count s ∙ l;
        below = omega arith;
        number = sym z;
        found = rw (find_new s (take g.count g.sets) (omega arith), add-one) (take-suc-set g.sets g.count s (omega arith));
        same = refl;
      }

-- One event more --------------------------------------------------------------------------------------------------------

-- so many events of the row were gone through, and those left add what they add
pub record Rowing (to : List ℕ) (m i : ℕ) (g₀ g : Grown) (e : ℕ) : Type 0 where
  pub few : g.count ≤ most_states
  pub long_sets : length g.sets ≡ most_states
  pub long_next : length g.next ≡ most_states * most_events
  pub left : met_all to e (m - e) (take g.count g.sets) ≡ met_all to 0 m (take g₀.count g₀.sets)
  pub known : (j : ℕ) → j < e → state_of (get_or to j 0) (take g.count g.sets) < g.count
  pub entry : (j : ℕ) → j < e → get_or g.next (i * most_events + j) 0 ≡ state_of (get_or to j 0) (take g.count g.sets)
  pub other : (j : ℕ) → ((a : ℕ) → a < m → j ≡ i * most_events + a → ⊥) → get_or g.next j 0 ≡ get_or g₀.next j 0

pub rowing_begin : (to : List ℕ) (m i : ℕ) (g : Grown) → g.count ≤ most_states
    → length g.sets ≡ most_states → length g.next ≡ most_states * most_events → Rowing to m i g g 0
rowing_begin to m i g f l k = record {
  few = f;
  long_sets = l;
  long_next = k;
  left = let z : m - 0 ≡ m = omega arith in rw z;
  known = λ j b. absurd (omega arith);
  entry = λ j b. absurd (omega arith);
  other = λ j b. refl;
}

module _ (to : List ℕ) (m i : ℕ) (g₀ g : Grown) (e : ℕ) (w : Rowing to m i g₀ g e) where
  left_on : e < m → met_all to (e + 1) (m - (e + 1)) (find (get_or to e 0) (take g.count g.sets)) ≡ met_all to 0 m (take g₀.count g₀.sets)
  left_on h =
      let z : m - e ≡ suc (m - (e + 1)) = omega arith in
      let y : suc e ≡ e + 1 = omega arith in
      let q = rw z at w.left in
      rw y at (sym (met_next to e (m - (e + 1)) (take g.count g.sets)) ∙ q)

  -- the 65th set has no place
  pub rowing_over : e < m → (g.count ≡ most_states) × (most_states ≤ state_of (get_or to e 0) (take g.count g.sets))
      → most_states < length (met_all to 0 m (take g₀.count g₀.sets))
  rowing_over h (f, b) =
      let long : length (take g.count g.sets) ≡ g.count = let l = w.long_sets in length-take-le g.count g.sets (omega arith) in
      let s = get_or to e 0 in
      let new : find s (take g.count g.sets) ≡ take g.count g.sets ++ (s ∷ []) = find_new s (take g.count g.sets) (omega arith) in
      let a = met_longer to (e + 1) (m - (e + 1)) (find s (take g.count g.sets)) in
      let c : length (find s (take g.count g.sets)) ≡ g.count + 1 = rw (new, length-append) (omega arith) in
      let d = ap length (left_on h) in
      omega arith

  pub rowing_turn : (g' : Grown) (k : ℕ) → i < most_states → m ≤ most_events → e < m → Joins (get_or to e 0) g g' k
      → Rowing to m i g₀ (record { count = g'.count; sets = g'.sets; next = set g'.next (i * most_events + e) k }) (e + 1)
  rowing_turn g' k st ev h o =
      let s = get_or to e 0 in
      let f = o.found in
      let ln = w.long_next in
      let ls = o.long in
      let few = o.few in
      let before : length (take g.count g.sets) ≡ g.count = let l = w.long_sets in let b = w.few in length-take-le g.count g.sets (omega arith) in
      let lf : length (find s (take g.count g.sets)) ≡ g'.count = sym (ap length f) ∙ length-take-le g'.count g'.sets (omega arith) in
      let own : state_of s (find s (take g.count g.sets)) ≡ k = state_find_self s (take g.count g.sets) ∙ sym o.number in
      record {
        few = few;
        long_sets = ls;
        long_next = length-set g'.next (i * most_events + e) k ∙ ap length o.same ∙ ln;
        left = rw f (left_on h);
        known = λ j d. elim (ℕ_discrete j e) [
          | yes z ↦ rw (z, f, own) (let x = state_found s (take g.count g.sets) in let y = o.number in omega arith)
          | no z ↦
              let p = w.known j (omega arith) in
              rw (f, state_find (get_or to j 0) s (take g.count g.sets) (omega arith)) (let x = find_longer s (take g.count g.sets) in omega arith)
        ];
        entry = λ j d. elim (ℕ_discrete j e) [
          | yes z ↦ rw (z, f, own, o.same) (get_or-set_same g.next (i * most_events + e) k 0 (omega arith))
          | no z ↦
              let p = w.known j (omega arith) in
              rw (f, state_find (get_or to j 0) s (take g.count g.sets) (omega arith), o.same)
              (get_or-set_other g.next (i * most_events + e) (i * most_events + j) k 0 (λ (x : i * most_events + j ≡ i * most_events + e). z (omega arith)) ∙ w.entry j (omega arith))
        ];
        other = λ j d. rw o.same (get_or-set_other g.next (i * most_events + e) j k 0 (λ (x : j ≡ i * most_events + e). d e h x) ∙ w.other j d);
      }

  pub rowing_end : m ≤ e → e ≤ m → Row to m i g₀ g
  rowing_end h x =
      let z : m - e ≡ 0 = omega arith in
      let q : take g.count g.sets ≡ met_all to 0 m (take g₀.count g₀.sets) = sym (met_none to e (take g.count g.sets)) ∙ (rw z at w.left) in
      record {
        few = w.few;
        long_sets = w.long_sets;
        long_next = w.long_next;
        found = q;
        entry = λ j d. w.entry j (omega arith) ∙ ap (state_of (get_or to j 0)) q;
        other = w.other;
      }

-- The first m of more sets ------------------------------------------------------------------------------------------------

met_same : (a b : List ℕ) (e n : ℕ) (l : List ℕ) → ((j : ℕ) → j < e + n → get_or a j 0 ≡ get_or b j 0) → met_all a e n l ≡ met_all b e n l
met_same a b e zero l h = rw (met_none a e l, met_none b e l)
met_same a b e (suc n) l h =
    rw (met_next a e n l, met_next b e n l, h e (omega arith)) (met_same a b (suc e) n (find (get_or b e 0) l) (λ j k. h j (omega arith)))

-- a row of the first m sets, cut off from the others, is a row of the first m
module _ (to : List ℕ) (m : ℕ) (fits : m ≤ length to) (g : Grown) where
  first_long : length (take m to) ≡ m
  first_long = length-take-le m to fits

  met_first : met_all (take m to) 0 (length (take m to)) (take g.count g.sets) ≡ met_all to 0 m (take g.count g.sets)
  met_first = rw first_long (met_same (take m to) to 0 m (take g.count g.sets) (λ j h. get_or-take m to j 0 (omega arith)))

  pub over_first : most_states < length (met_all (take m to) 0 (length (take m to)) (take g.count g.sets))
      → most_states < length (met_all to 0 m (take g.count g.sets))
  over_first h = rw met_first at h

  pub row_first : (i : ℕ) (g' : Grown) → Row (take m to) (length (take m to)) i g g' → Row to m i g g'
  row_first i g' r = record {
    few = r.few;
    long_sets = r.long_sets;
    long_next = r.long_next;
    found = r.found ∙ met_first;
    entry = λ e h.
        r.entry e (rw first_long h)
        ∙ ap (λ (s : ℕ). state_of s (met_all (take m to) 0 (length (take m to)) (take g.count g.sets))) (get_or-take m to e 0 h)
        ∙ ap (state_of (get_or to e 0)) met_first;
    other = λ j d. r.other j (λ e h x. d e (rw first_long at h) x);
  }
