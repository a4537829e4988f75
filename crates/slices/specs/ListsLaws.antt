-- Members of lists: of an append, of the members that pass a test, of a map, of the numbers tabulated; and lists in which
-- nothing stands twice.
-- Assumes nothing.
use Rattle.std.specs.Prelude.{ℕ, zero, suc, ◌≤◌, ◌≡◌, refl, ◌⊎◌, ◌↔◌, Bool, List, [], ◌∷◌, ◌++◌, T, length}
use Rattle.std.proofs.Common.{sym, ap, subst, ◌∙◌, inl, inr, arith}
use mathlib.Core.List as list
use Rattle.document.specs.Lists.{In, keep_if, tabulate}
use Rattle.basics.specs.Tests.{decided}
use Rattle.basics.specs.Lists.{in_append, Distinct}
use Rattle.slices.specs.TestsLaws.{so, not_so}

-- a list with one member more at its end
pub in_more : {A : Type 0} (l : List A) (x a : A) → In a (l ++ (x ∷ [])) → In a l ⊎ (a ≡ x)
in_more l x a i =
    elim ((in_append a l (x ∷ [])).0 i) [ inl j ↦ inl j | inr j ↦ elim j [ inl q ↦ inr q | inr z ↦ absurd z ] ]

pub in_more_old : {A : Type 0} (l : List A) (x a : A) → In a l → In a (l ++ (x ∷ []))
in_more_old l x a i = (in_append a l (x ∷ [])).1 (inl i)

pub in_more_new : {A : Type 0} (l : List A) (x : A) → In x (l ++ (x ∷ []))
in_more_new l x = (in_append x l (x ∷ [])).1 (inr (inl refl))

pub in_keep_if : {A : Type 0} (p : A → Bool) (l : List A) (a : A) → In a (keep_if p l) ↔ (In a l × T (p a))
unfolding keep_if
in_keep_if p [] a = (λ i. absurd i, λ i. absurd i.0)
in_keep_if p (x ∷ l) a =
    elim (decided (p x)) [
      | inl e ↦ rw e (
        (λ i. elim i [ inl q ↦ (inl q, rw q (so e)) | inr j ↦ let r = (in_keep_if p l a).0 j in (inr r.0, r.1) ]),
        (λ r. elim r.0 [ inl q ↦ inl q | inr j ↦ inr ((in_keep_if p l a).1 (j, r.1)) ]),
      )
      | inr e ↦ rw e (
        (λ i. let r = (in_keep_if p l a).0 i in (inr r.0, r.1)),
        (λ r. elim r.0 [ inl q ↦ absurd (not_so e (rw q at r.1)) | inr j ↦ (in_keep_if p l a).1 (j, r.1) ]),
      )
    ]

pub length-keep_if : {A : Type 0} (p : A → Bool) (l : List A) → length (keep_if p l) ≤ length l
unfolding keep_if
length-keep_if p [] = omega arith
length-keep_if p (x ∷ l) =
    let h = length-keep_if p l in
    elim (decided (p x)) [ inl e ↦ rw e (omega arith) | inr e ↦ rw e (omega arith) ]

pub keep_if_append : {A : Type 0} (p : A → Bool) (l m : List A) → keep_if p (l ++ m) ≡ keep_if p l ++ keep_if p m
unfolding keep_if
keep_if_append p [] m = refl
keep_if_append p (x ∷ l) m = elim (decided (p x)) [ inl e ↦ rw (e, keep_if_append p l m) | inr e ↦ rw (e, keep_if_append p l m) ]

-- b is what f makes of some member
pub record Image {A B : Type 0} (f : A → B) (l : List A) (b : B) : Type 0 where
  pub of : A
  pub member : In of l
  pub is : b ≡ f of

pub in_map : {A B : Type 0} (f : A → B) (l : List A) (b : B) → In b (list.map f l) ↔ Image f l b
in_map f [] b = (λ i. absurd i, λ i. absurd i.member)
in_map f (x ∷ l) b = (
  (λ i. elim i [
    | inl q ↦ record { of = x; member = inl refl; is = q }
    | inr j ↦ let r = (in_map f l b).0 j in record { of = r.of; member = inr r.member; is = r.is }
  ]),
  (λ r. elim r.member [
    | inl q ↦ inl (r.is ∙ ap f q)
    | inr j ↦ inr ((in_map f l b).1 (record { of = r.of; member = j; is = r.is }))
  ]),
)

pub map_in : {A B : Type 0} (f : A → B) (l : List A) (a : A) → In a l → In (f a) (list.map f l)
map_in f l a i = (in_map f l (f a)).1 (record { of = a; member = i; is = refl })

pub map_append : {A B : Type 0} (f : A → B) (l m : List A) → list.map f (l ++ m) ≡ list.map f l ++ list.map f m
map_append f [] m = refl
map_append f (x ∷ l) m = rw (map_append f l m)

-- numbers tabulated: what holds of all the values holds of the members
pub tabulate_all : {A : Type 0} (n : ℕ) (f : ℕ → A) (P : A → Type 0) → ((k : ℕ) → P (f k)) → (x : A) → In x (tabulate n f) → P x
unfolding tabulate
tabulate_all zero f P h x i = absurd i
tabulate_all (suc n) f P h x (inl q) = subst P (sym q) (h 0)
tabulate_all (suc n) f P h x (inr i) = tabulate_all n (λ k. f (suc k)) P (λ k. h (suc k)) x i

pub map_tabulate : {A B : Type 0} (g : A → B) (n : ℕ) (f : ℕ → A) → list.map g (tabulate n f) ≡ tabulate n (λ k. g (f k))
unfolding tabulate
map_tabulate g zero f = refl
map_tabulate g (suc n) f = rw (map_tabulate g n (λ k. f (suc k)))

pub append_distinct : {A : Type 0} (l m : List A) → Distinct l → Distinct m → ((x : A) → In x l → In x m → ⊥) → Distinct (l ++ m)
append_distinct [] m p q f = q
append_distinct (x ∷ l) m p q f = (
  (λ i. elim ((in_append x l m).0 i) [ inl j ↦ p.0 j | inr j ↦ f x (inl refl) j ]),
  append_distinct l m p.1 q (λ y i j. f y (inr i) j),
)

-- of fewer rows, nothing more stands twice
pub keep_if_distinct : {A B : Type 0} (f : A → B) (p : A → Bool) (l : List A) → Distinct (list.map f l)
    → Distinct (list.map f (keep_if p l))
unfolding keep_if
keep_if_distinct f p [] d = tt
keep_if_distinct f p (x ∷ l) d =
    elim (decided (p x)) [
      | inl e ↦ rw e (
        (λ i.
            let r = (in_map f (keep_if p l) (f x)).0 i in
            d.0 ((in_map f l (f x)).1 (record { of = r.of; member = ((in_keep_if p l r.of).0 r.member).0; is = r.is }))),
        keep_if_distinct f p l d.1,
      )
      | inr e ↦ rw e (keep_if_distinct f p l d.1)
    ]

-- if h tells apart whatever f tells apart, no h stands twice where no f does
pub map_distinct : {A B C : Type 0} (f : A → B) (h : A → C) (l : List A) → ((x y : A) → In x l → In y l → h x ≡ h y → f x ≡ f y)
    → Distinct (list.map f l) → Distinct (list.map h l)
map_distinct f h [] u d = tt
map_distinct f h (x ∷ l) u d = (
  (λ i.
      let r = (in_map h l (h x)).0 i in
      d.0 ((in_map f l (f x)).1 (record { of = r.of; member = r.member; is = u x r.of (inl refl) (inr r.member) r.is }))),
  map_distinct f h l (λ y z i j. u y z (inr i) (inr j)) d.1,
)
