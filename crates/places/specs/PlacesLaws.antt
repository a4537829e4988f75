-- Laws of the names at places of a text: how many there are, one more, and where a name stands among them.
-- Assumes nothing.
use Rattle.std.specs.Prelude.{ℕ, suc, ◌+◌, ◌≤◌, ◌<◌, ◌≡◌, refl, Bool, true, false, List, [], ◌∷◌, ◌++◌, length, get_or, drop, set, eqb, ltb, Option, Some, None}
use Rattle.std.proofs.Common.{sym, ap, ◌∙◌, inl, inr, drop_of_length-le, drop-cons, get_or-set_same, get_or-set_other, arith, add-one, lt-ltb, le-ltb, ltb-true, ltb-false}
use Rattle.document.specs.Lists.{tabulate, some, among, place_of, equal}
use Rattle.basics.specs.Tests.{decided}
use Rattle.basics.specs.Lists.{tabulate_at, length-tabulate, tabulate_same, tabulate-next}
use Rattle.std.specs.Option.{is_some}
use lib.Pointwise.{pointwise}
use Rattle.fields.specs.SameLaws.{equal_is}
use Rattle.fields.specs.declared.Part.{Part as Told}
use Rattle.fields.specs.Places.{place_at, told}
use Rattle.places.specs.NamesAt.{names_at, FoundAs}

pub names_length : (text : List ℕ) (n : ℕ) (places : List Told) → length (names_at text n places) ≡ n
unfolding names_at
names_length text n places = length-tabulate n (λ k. told text (place_at places k))

pub names_at_lem : (text : List ℕ) (n : ℕ) (places : List Told) (k : ℕ) → k < n
    → get_or (names_at text n places) k [] ≡ told text (place_at places k)
unfolding names_at
names_at_lem text n places k h = tabulate_at n (λ k. told text (place_at places k)) k [] h

pub names_none : (text : List ℕ) (places : List Told) → names_at text 0 places ≡ []
unfolding names_at tabulate
names_none text places = refl

-- a place more, after those that stand
pub names_more : (text : List ℕ) (n : ℕ) (places : List Told) (p : Told) → n < length places
    → names_at text (n + 1) (set places n p) ≡ names_at text n places ++ (told text p ∷ [])
unfolding names_at
names_more text n places p h =
    rw (tabulate-next n (λ k. told text (place_at (set places n p) k)), get_or-set_same places n p (record { start = 0; size = 0 }) h)
    (ap (λ l. l ++ (told text p ∷ [])) (tabulate_same n (λ k. told text (place_at (set places n p) k)) (λ k. told text (place_at places k)) older))
  where
    older : (k : ℕ) → k < n → told text (place_at (set places n p) k) ≡ told text (place_at places k)
    older k l = let q : (k ≡ n → ⊥) = λ (e : k ≡ n). omega arith in rw (get_or-set_other places n k p (record { start = 0; size = 0 }) q)

-- A name among others: at a name that is the same, at another, past the last.
place_here : (x : List ℕ) (l : List (List ℕ)) (k : ℕ) → k < length l → equal x (get_or l k []) ≡ true → place_of x (drop k l) ≡ 0
unfolding place_of
place_here x l k h e = rw (drop-cons l k [] h, e, place_of)

place_later : (x : List ℕ) (l : List (List ℕ)) (k : ℕ) → k < length l → equal x (get_or l k []) ≡ false → place_of x (drop k l) ≡ suc (place_of x (drop (k + 1) l))
unfolding place_of
place_later x l k h e = rw (add-one, drop-cons l k [] h, e, place_of)

place_none : (x : List ℕ) (l : List (List ℕ)) (k : ℕ) → length l ≤ k → place_of x (drop k l) ≡ 0
unfolding place_of
place_none x l k h = rw (drop_of_length-le l h)

-- The turns of the walk that looks a name up among the names at places: `d` is whether it is the one at the next place.
module _ (text : List ℕ) (n : ℕ) (places : List Told) (name : List ℕ) (k : ℕ)
    (i : k + place_of name (drop k (names_at text n places)) ≡ place_of name (names_at text n places)) (h : k < n) (d : Bool)
    (t : d ≡ pointwise eqb name (told text (place_at places k))) where
  same_there : equal name (get_or (names_at text n places) k []) ≡ d
  same_there = rw (names_at_lem text n places k h) (equal_is name (told text (place_at places k))) ∙ sym t

  pub looks_found : d ≡ true → FoundAs name (names_at text n places) n (Some k)
  looks_found e =
      let l : k < length (names_at text n places) = rw (names_length text n places) h in
      let z = place_here name (names_at text n places) k l (same_there ∙ e) in
      (omega arith, h)

  pub looks_turn : d ≡ false → k + 1 + place_of name (drop (k + 1) (names_at text n places)) ≡ place_of name (names_at text n places)
  looks_turn e =
      let l : k < length (names_at text n places) = rw (names_length text n places) h in
      let z = place_later name (names_at text n places) k l (same_there ∙ e) in
      omega arith

pub looks_over : (text : List ℕ) (n : ℕ) (places : List Told) (name : List ℕ) (k : ℕ)
    → k + place_of name (drop k (names_at text n places)) ≡ place_of name (names_at text n places) → n ≤ k → k ≤ n
    → FoundAs name (names_at text n places) n None
looks_over text n places name k i h m =
    let l : length (names_at text n places) ≤ k = rw (names_length text n places) h in
    let z = place_none name (names_at text n places) k l in
    omega arith

-- a name stands among others exactly where its place is below their number
pub among_place : (x : List ℕ) (l : List (List ℕ)) → among x l ≡ ltb (place_of x l) (length l)
unfolding among some place_of
among_place x [] = refl
among_place x (y ∷ l) = elim (decided (equal x y)) [
  | inl e ↦ rw (e, place_of) (sym (lt-ltb 0 (suc (length l)) (omega arith)))
  | inr e ↦ rw (e, place_of) (among_place x l ∙ later (place_of x l) (length l))
]
  where
    later : (m n : ℕ) → ltb m n ≡ ltb (suc m) (suc n)
    later m n = elim (decided (ltb m n)) [
      | inl e ↦ e ∙ sym (lt-ltb (suc m) (suc n) (let k = ltb-true m n e in omega arith))
      | inr e ↦ e ∙ sym (le-ltb (suc m) (suc n) (let k = ltb-false m n e in omega arith))
    ]

-- so a name stands among so many exactly where its place was found
pub found_some : (x : List ℕ) (l : List (List ℕ)) (n : ℕ) (r : Option ℕ) → FoundAs x l n r → is_some r ≡ ltb (place_of x l) n
found_some x l n (Some k) f = sym (lt-ltb (place_of x l) n (omega (arith, f.0, f.1)))
found_some x l n None f = sym (le-ltb (place_of x l) n (omega (arith, f)))
