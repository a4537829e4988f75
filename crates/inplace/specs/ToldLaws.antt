-- Laws of the reports of rows that move in place: they are what document 01 reports, where the binding is not new, the kept rows
-- ascend and each is the join of the seen rows that it includes.
-- Assumes nothing.
use Rattle.std.specs.Prelude.{ℕ, ◌≤◌, ◌≡◌, Bool, false, ◌&&◌, length}
use Rattle.std.proofs.Math.Path.{refl}
use Rattle.std.proofs.Common.{sym, ap, ◌∙◌}
use Rattle.std.proofs.Math.Logic.{inl, inr}
use mathlib.Core.List.{List, [], ◌∷◌, ◌++◌}
use native.Mathlib.Omega.{arith}
use Rattle.document.specs.Lists.{In, cons_if, keep_if}
use Rattle.document.specs.Limits.{width}
use Rattle.document.specs.Combinations.{includes}
use Rattle.document.specs.OneEvent.{Kept, in_order, moved_from, moved, reports_after}
use Rattle.basics.specs.Tests.{decided}
use Rattle.slices.specs.OrderLaws.{Ascends, ascends_distinct, combinations, in_in_order, in_order_ascends, ascends_unique}
use Rattle.moves.specs.Steps.{is_new, in_place}
use Rattle.moves.specs.Ready.{Right}
use Rattle.moves.specs.MovesLaws.{in_place_join, in_place_moves, old-moves}
use Rattle.keeping.specs.Keeping.{settled, settles, sifted}
use Rattle.inplace.specs.InPlace.{moved_on, told}

-- Rows in two parts ----------------------------------------------------------------------------------------------------

module _ (step : ℕ → ℕ → ℕ) (e : ℕ) (b : List ℕ) (reported : Kept → Bool) where
  abbrev tells : Kept → Bool
  tells k = includes k.combination b && reported (moved_on step e b k)

  pub told_append : (l m : List Kept) → told step e b reported (l ++ m) ≡ told step e b reported l ++ told step e b reported m
  unfolding told
  told_append [] m = refl
  told_append (k ∷ l) m = elim (decided (tells k)) [ inl h ↦ rw (h, told_append l m) | inr h ↦ rw (h, told_append l m) ]

  -- rows that do not include the binding have no report
  pub told_none : (l : List Kept) → ((k : Kept) → In k l → includes k.combination b ≡ false) → told step e b reported l ≡ []
  unfolding told
  told_none [] f = refl
  told_none (k ∷ l) f = rw (f k (inl refl), told_none l (λ x i. f x (inr i)))

  pub told_few : (l : List Kept) → length (told step e b reported l) ≤ length l
  unfolding told
  told_few [] = omega arith
  told_few (k ∷ l) = let f = told_few l in elim (decided (tells k)) [ inl h ↦ rw h (omega arith) | inr h ↦ rw h (omega arith) ]

module _ (step : ℕ → ℕ → ℕ) (e : ℕ) (b : List ℕ) (seen : List (List ℕ)) (keeps : Kept → Bool) where
  pub sifted_append : (l m : List Kept) → sifted step e b seen keeps (l ++ m) ≡ sifted step e b seen keeps l ++ sifted step e b seen keeps m
  unfolding sifted
  sifted_append [] m = refl
  sifted_append (k ∷ l) m = elim (decided (settles step e b seen keeps k)) [ inl h ↦ rw (h, sifted_append l m) | inr h ↦ rw (h, sifted_append l m) ]

  -- and stay
  pub sifted_none : (l : List Kept) → ((k : Kept) → In k l → includes k.combination b ≡ false) → sifted step e b seen keeps l ≡ l
  unfolding sifted settles settled
  sifted_none [] f = refl
  sifted_none (k ∷ l) f = rw (f k (inl refl), sifted_none l (λ x i. f x (inr i)))

-- What document 01 reports ---------------------------------------------------------------------------------------------

module _ (step : ℕ → ℕ → ℕ) (e : ℕ) (b : List ℕ) (seen : List (List ℕ)) (ob : length b ≡ width) (old : is_new b seen ≡ false) (reported : Kept → Bool) where
  told_moved : (l : List Kept) → ((k : Kept) → In k l → Right seen k) → keep_if reported (moved width step e b seen l) ≡ told step e b reported l
  unfolding moved moved_from keep_if told moved_on
  told_moved [] f = refl
  told_moved (k ∷ l) f = elim (decided (in_place step e b seen k)) [
    | inl h ↦
        let m = in_place_moves step e b seen ob k (f k (inl refl)) h in
        rw (h, m, in_place_join step e b seen ob k h)
        (ap (cons_if (reported (moved_on step e b k)) (moved_on step e b k)) (told_moved l (λ x i. f x (inr i))))
    | inr h ↦
        let m = old-moves step e b seen ob k (f k (inl refl)).wide old h in
        rw (h, m) (told_moved l (λ x i. f x (inr i)))
  ]

-- a report is that of a row
told_in : (step : ℕ → ℕ → ℕ) (e : ℕ) (b : List ℕ) (reported : Kept → Bool) (l : List Kept) (c : List ℕ) → In c (combinations (told step e b reported l)) → In c (combinations l)
unfolding told moved_on
told_in step e b reported [] c i = absurd i
told_in step e b reported (k ∷ l) c i = elim (decided (tells step e b reported k)) [
  | inl h ↦ elim (rw h at i) [ inl q ↦ inl q | inr j ↦ inr (told_in step e b reported l c j) ]
  | inr h ↦ inr (told_in step e b reported l c (rw h at i))
]

told_ascends : (step : ℕ → ℕ → ℕ) (e : ℕ) (b : List ℕ) (reported : Kept → Bool) (l : List Kept) → Ascends (combinations l) → Ascends (combinations (told step e b reported l))
unfolding told moved_on
told_ascends step e b reported [] a = tt
told_ascends step e b reported (k ∷ l) a = elim (decided (tells step e b reported k)) [
  | inl h ↦ rw h ((λ c i. a.0 c (told_in step e b reported l c i)), told_ascends step e b reported l a.1)
  | inr h ↦ rw h (told_ascends step e b reported l a.1)
]

-- rows in order are in order
in_order_lem : (l : List Kept) → Ascends (combinations l) → in_order l ≡ l
in_order_lem l a = ascends_unique (λ (k : Kept). k.combination) (in_order l) l (in_order_ascends l (ascends_distinct (combinations l) a)) a (λ x. in_in_order l x)

pub told-reports : (step : ℕ → ℕ → ℕ) (e : ℕ) (b : List ℕ) (seen : List (List ℕ)) → length b ≡ width → is_new b seen ≡ false → (reported : Kept → Bool) (l : List Kept)
    → ((k : Kept) → In k l → Right seen k) → Ascends (combinations l) → told step e b reported l ≡ reports_after width step e b seen reported l
unfolding reports_after
told-reports step e b seen ob old reported l f a =
    sym (ap in_order (told_moved step e b seen ob old reported l f) ∙ in_order_lem (told step e b reported l) (told_ascends step e b reported l a))
