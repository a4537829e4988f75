-- What the definitions say of lists and of tests. No section of document 01: the words of its sentences ("each", "some", "the first").
-- Assumes nothing.
use Rattle.std.specs.Prelude.{ℕ, zero, suc, ◌≡◌, ◌⊎◌, Bool, true, false, ◌&&◌, ◌||◌, List, [], ◌∷◌, ◌++◌, T, eqb}

-- a is a member of the list
abbrev pub In : {A : Type 0} → A → List A → Type 0
In a [] = ⊥
In a (x ∷ l) = (a ≡ x) ⊎ In a l

-- x before the list, if the test holds
abbrev pub cons_if : {A : Type 0} → Bool → A → List A → List A
cons_if true x l = x ∷ l
cons_if false x l = l

-- the members that pass the test, in order
unfoldable pub keep_if : {A : Type 0} → (A → Bool) → List A → List A
keep_if p [] = []
keep_if p (x ∷ l) = cons_if (p x) x (keep_if p l)

-- every member, some member, passes the test
unfoldable pub every : {A : Type 0} → (A → Bool) → List A → Bool
every p [] = true
every p (x ∷ l) = p x && every p l

unfoldable pub some : {A : Type 0} → (A → Bool) → List A → Bool
some p [] = false
some p (x ∷ l) = p x || some p l

-- every number, some number, below n passes the test
unfoldable pub every_below : ℕ → (ℕ → Bool) → Bool
every_below zero p = true
every_below (suc n) p = p n && every_below n p

unfoldable pub some_below : ℕ → (ℕ → Bool) → Bool
some_below zero p = false
some_below (suc n) p = p n || some_below n p

-- f 0, f 1, .. as many as n
unfoldable pub tabulate : {A : Type 0} → ℕ → (ℕ → A) → List A
tabulate zero f = []
tabulate (suc n) f = f 0 ∷ tabulate n (λ k. f (suc k))

-- the same numbers in the same order
unfoldable pub equal : List ℕ → List ℕ → Bool
equal [] [] = true
equal [] (y ∷ b) = false
equal (x ∷ a) [] = false
equal (x ∷ a) (y ∷ b) = eqb x y && equal a b

-- x stands in the list; where it stands first, or the list's length
unfoldable pub among : List ℕ → List (List ℕ) → Bool
among x l = some (equal x) l

unfoldable pub place_of : List ℕ → List (List ℕ) → ℕ
place_of x [] = 0
place_of x (y ∷ l) = elim (equal x y) [ true ↦ 0 | false ↦ suc (place_of x l) ]

-- some member stands again later
unfoldable pub repeated : List (List ℕ) → Bool
repeated [] = false
repeated (x ∷ l) = among x l || repeated l

-- the second list begins with the first
unfoldable pub starts_with : List ℕ → List ℕ → Bool
starts_with [] t = true
starts_with (x ∷ s) [] = false
starts_with (x ∷ s) (y ∷ t) = eqb x y && starts_with s t

-- the longest part at the start whose members pass the test
unfoldable pub take_while : (ℕ → Bool) → List ℕ → List ℕ
take_while p [] = []
take_while p (x ∷ l) = elim (p x) [ true ↦ x ∷ take_while p l | false ↦ [] ]

-- the lists one after another
unfoldable pub joined_up : List (List ℕ) → List ℕ
joined_up [] = []
joined_up (x ∷ l) = x ++ joined_up l

-- a test that holds exactly where a statement does
abbrev pub Decides : Bool → Type 0 → Type 0
Decides b P = (T b → P) × (P → T b)
