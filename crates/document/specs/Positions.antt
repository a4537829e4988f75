-- Document 01, "The table": the set of numbers at which a reading of a sequence can have stopped. What is meant comes
-- first, as statements; then the same sets as numbers that compute: bit k of a set says whether it holds k.
-- Assumes nothing.
use Rattle.std.specs.Prelude.{ℕ, zero, suc, ◌^◌, ◌/◌, ◌%◌, ◌≡◌, ◌⊎◌, Bool, true, false, cond, not, ◌&&◌, ◌||◌, List, [], ◌∷◌, eqb}
use Rattle.std.specs.Int.Bits.{bit_or, bit_and}
use Rattle.document.specs.Limits.{most_names}
use Rattle.document.specs.Patterns.{Pattern, epsilon, name, alternative, sequence, star, plus, Word, Then, Many, match, fail, undecided}

-- w is a reading of a beginning of a word of r that has stopped at the name with the number p
abbrev pub Stops : Pattern → ℕ → List ℕ → Type 0
Stops epsilon p w = ⊥
Stops (name q e) p w = (p ≡ q) × (w ≡ e ∷ [])
Stops (alternative a b) p w = Stops a p w ⊎ Stops b p w
Stops (sequence a b) p w = Stops a p w ⊎ Then (Word a) (Stops b p) w
Stops (star a) p w = Then (Many (Word a)) (Stops a p) w
Stops (plus a) p w = Then (Many (Word a)) (Stops a p) w

-- "0 stands for the start": before any event a reading has stopped at 0
abbrev pub StopsAt : Pattern → ℕ → List ℕ → Type 0
StopsAt r zero w = w ≡ []
StopsAt r (suc p) w = Stops r (suc p) w

-- the set holds k
abbrev pub holds : ℕ → ℕ → Bool
holds s k = eqb (s / 2 ^ k % 2) 1

-- the empty sequence is a word
unfoldable pub nullable : Pattern → Bool
nullable epsilon = true
nullable (name p e) = false
nullable (alternative a b) = nullable a || nullable b
nullable (sequence a b) = nullable a && nullable b
nullable (star a) = true
nullable (plus a) = nullable a

-- the numbers at which a word can begin, and at which it can end
unfoldable pub firsts : Pattern → ℕ
firsts epsilon = 0
firsts (name p e) = 2 ^ p
firsts (alternative a b) = bit_or (firsts a) (firsts b)
firsts (sequence a b) = cond (nullable a) (bit_or (firsts a) (firsts b)) (firsts a)
firsts (star a) = firsts a
firsts (plus a) = firsts a

unfoldable pub lasts : Pattern → ℕ
lasts epsilon = 0
lasts (name p e) = 2 ^ p
lasts (alternative a b) = bit_or (lasts a) (lasts b)
lasts (sequence a b) = cond (nullable b) (bit_or (lasts a) (lasts b)) (lasts b)
lasts (star a) = lasts a
lasts (plus a) = lasts a

-- the numbers that can come next after p
unfoldable pub follows : Pattern → ℕ → ℕ
follows epsilon p = 0
follows (name q e) p = 0
follows (alternative a b) p = bit_or (follows a p) (follows b p)
follows (sequence a b) p = bit_or (bit_or (follows a p) (follows b p)) (cond (holds (lasts a) p) (firsts b) 0)
follows (star a) p = bit_or (follows a p) (cond (holds (lasts a) p) (firsts a) 0)
follows (plus a) p = bit_or (follows a p) (cond (holds (lasts a) p) (firsts a) 0)

-- the numbers that name the event e
unfoldable pub named : Pattern → ℕ → ℕ
named epsilon e = 0
named (name p f) e = cond (eqb f e) (2 ^ p) 0
named (alternative a b) e = bit_or (named a e) (named b e)
named (sequence a b) e = bit_or (named a e) (named b e)
named (star a) e = named a e
named (plus a) e = named a e

-- the numbers that can come next after some number of a set, the first n looked at; after 0, those that can begin
abbrev pub next : Pattern → ℕ → ℕ
next r zero = firsts r
next r (suc p) = follows r (suc p)

unfoldable pub nexts : Pattern → ℕ → ℕ → ℕ
nexts r s zero = 0
nexts r s (suc n) = bit_or (nexts r s n) (cond (holds s n) (next r n) 0)

-- the set after one event more. A set that starts anew at each event holds 0 too (`anew`; never in total matching).
unfoldable pub move : Bool → Pattern → ℕ → ℕ → ℕ
move anew r s e = bit_or (bit_and (nexts r s (suc most_names)) (named r e)) (cond anew 1 0)

-- "before any event it is {0}"
abbrev pub start_set : ℕ
start_set = 1

-- the set after a sequence
unfoldable pub set_from : Bool → Pattern → ℕ → List ℕ → ℕ
set_from anew r s [] = s
set_from anew r s (e ∷ w) = set_from anew r (move anew r s e) w

unfoldable pub set_after : Bool → Pattern → List ℕ → ℕ
set_after anew r w = set_from anew r start_set w

-- "1 match, 2 fail (empty set), 0 undecided": match if a reading that ends a word can have stopped there
unfoldable pub verdict_of : Pattern → ℕ → ℕ
verdict_of r s =
    cond ((holds s 0 && nullable r) || not (eqb (bit_and s (lasts r)) 0)) match
    (cond (eqb s 0) fail undecided)
