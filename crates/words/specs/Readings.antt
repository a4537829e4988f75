-- Document 01, "The pattern text" (meaning) and "The table": what a reading that has stopped says of words. A word ends at one
-- of its last numbers; what begins a word stops somewhere; and every reading can be gone on to a word. No law here asks how
-- the names are numbered.
-- Assumes nothing.
use Rattle.std.specs.Prelude.{ℕ, ◌≡◌, refl, true, List, [], ◌∷◌, ◌++◌}
use Rattle.std.proofs.Common.{sym, ◌∙◌, inl, inr, ⊎_elim, append_assoc, append-nil}
use Rattle.document.specs.Patterns.{Pattern, epsilon, name, alternative, sequence, star, plus, Many, none, more, Word, Begins}
use Rattle.document.specs.Positions.{Stops, nullable, lasts}
use Rattle.basics.specs.Tests.{and_left, and_right}
use Rattle.words.specs.Parts.{clash, left_nil, Parted, within, beyond, parted, then_with, then_end, then_alone, then_before, then_many, then_turned}
use Rattle.words.specs.Sets.{Has, has_one, has_or_left, has_or_right, has_with_left, or_cases, or_left, or_right, and_both}

-- ---- the empty word
pub nullable_word : (r : Pattern) → nullable r ≡ true → Word r []
unfolding nullable
nullable_word epsilon h = refl
nullable_word (name p e) h = cc
nullable_word (alternative a b) h = ⊎_elim (λ x. inl (nullable_word a x)) (λ x. inr (nullable_word b x)) (or_cases (nullable a) (nullable b) h)
nullable_word (sequence a b) h = record {
  front = [];
  back = [];
  is = refl;
  left = nullable_word a (and_left (nullable a) (nullable b) h);
  right = nullable_word b (and_right (nullable a) (nullable b) h);
}
nullable_word (star a) h = none
nullable_word (plus a) h = record { front = []; back = []; is = refl; left = nullable_word a h; right = none }

-- ---- where a word ends
pub data Ends (r : Pattern) (w : List ℕ) : Type 0 where
  nowhere : w ≡ [] → nullable r ≡ true → Ends r w
  at : (p : ℕ) → Stops r p w → Has (lasts r) p → Ends r w

-- the last of some words that is not empty
many_ends : (a : Pattern) (l : List ℕ) → Many (Word a) l → ((u : List ℕ) → Word a u → Ends a u) → Ends (star a) l
unfolding nullable lasts
many_ends a l none ends = nowhere refl refl
many_ends a l (more {u = u} {v = v} x m) ends = go (many_ends a v m ends) (ends u x)
  where
    alone : v ≡ [] → Ends a u → Ends (star a) (u ++ v)
    alone i (nowhere j k) = nowhere (rw (i, j) refl) refl
    alone i (at p s k) = at p (rw (i, append-nil) (then_alone u s)) k

    go : Ends (star a) v → Ends a u → Ends (star a) (u ++ v)
    go (nowhere i j) e = alone i e
    go (at p s k) e = at p (then_before (u ++ v) u v refl x s) k

pub word_ends : (r : Pattern) (w : List ℕ) → Word r w → Ends r w
unfolding nullable lasts
word_ends epsilon w h = nowhere h refl
word_ends (name p e) w h = at p (refl, h) (has_one p p refl)
word_ends (alternative a b) w h = ⊎_elim (λ x. left (word_ends a w x)) (λ x. right (word_ends b w x)) h
  where
    left : Ends a w → Ends (alternative a b) w
    left (nowhere i j) = nowhere i (or_left (nullable a) (nullable b) j)
    left (at p s k) = at p (inl s) (has_or_left (lasts a) (lasts b) p k)

    right : Ends b w → Ends (alternative a b) w
    right (nowhere i j) = nowhere i (or_right (nullable a) (nullable b) j)
    right (at p s k) = at p (inr s) (has_or_right (lasts a) (lasts b) p k)
word_ends (sequence a b) w h = go (word_ends a h.front h.left) (word_ends b h.back h.right)
  where
    go : Ends a h.front → Ends b h.back → Ends (sequence a b) w
    go x (at p s k) = at p (inr (then_with h s)) (has_with_left (nullable b) (lasts a) (lasts b) p (inl k))
    go (nowhere i j) (nowhere k l) = nowhere (h.is ∙ rw (i, k) refl) (and_both (nullable a) (nullable b) j l)
    go (at p s k) (nowhere i l) = at p (inl (rw (h.is, i, append-nil) s)) (has_with_left (nullable b) (lasts a) (lasts b) p (inr (l, k)))
word_ends (star a) w h = many_ends a w h (word_ends a)
word_ends (plus a) w h = go (many_ends a h.back h.right (word_ends a)) (word_ends a h.front h.left)
  where
    alone : h.back ≡ [] → Ends a h.front → Ends (plus a) w
    alone i (nowhere j k) = nowhere (h.is ∙ rw (i, j) refl) k
    alone i (at p s k) = at p (rw (h.is, i, append-nil) (then_alone h.front s)) k

    go : Ends (star a) h.back → Ends a h.front → Ends (plus a) w
    go (nowhere i j) e = alone i e
    go (at p s k) e = at p (then_before w h.front h.back h.is h.left s) k

-- ---- what begins a word stops somewhere
pub data Stopped (r : Pattern) (w : List ℕ) : Type 0 where
  unread : w ≡ [] → Stopped r w
  at : (p : ℕ) → Stops r p w → Stopped r w

many_stopped : (a : Pattern) (l : List ℕ) → Many (Word a) l → ((u : List ℕ) → Word a u → (w rest : List ℕ) → u ≡ w ++ rest → Stopped a w)
    → (w rest : List ℕ) → l ≡ w ++ rest → Stopped (star a) w
many_stopped a l none ih w rest h = unread (left_nil w rest h)
many_stopped a l (more {u = u} {v = v} x m) ih w rest h = go (parted u v w rest h) (ih u x) (λ w' rest' i. many_stopped a v m ih w' rest' i)
  where
    one : Stopped a w → Stopped (star a) w
    one (unread i) = unread i
    one (at p s) = at p (then_alone w s)

    later : (y : ℕ) (t : List ℕ) → w ≡ u ++ (y ∷ t) → Stopped (star a) (y ∷ t) → Stopped (star a) w
    later y t i (unread j) = absurd (clash (sym j))
    later y t i (at p s) = at p (then_before w u (y ∷ t) i x s)

    go : Parted u v w rest → ((w' rest' : List ℕ) → u ≡ w' ++ rest' → Stopped a w')
        → ((w' rest' : List ℕ) → v ≡ w' ++ rest' → Stopped (star a) w') → Stopped (star a) w
    go (within t i) f g = one (f w t i)
    go (beyond y t i j) f g = later y t i (g (y ∷ t) rest j)

-- l is w and a rest
pub word_stopped : (r : Pattern) (l : List ℕ) → Word r l → (w rest : List ℕ) → l ≡ w ++ rest → Stopped r w
word_stopped epsilon l h w rest i = unread (left_nil w rest (sym h ∙ i))
word_stopped (name p e) l h w rest i = go w (sym h ∙ i)
  where
    go : (w : List ℕ) → e ∷ [] ≡ w ++ rest → Stopped (name p e) w
    go [] j = unread refl
    go (x ∷ w) j = at p (refl, one)
      where
        tail : [] ≡ w ++ rest
        tail = cc

        one : x ∷ w ≡ e ∷ []
        one = let z = left_nil w rest tail in cc
word_stopped (alternative a b) l h w rest i = ⊎_elim (λ x. left (word_stopped a l x w rest i)) (λ x. right (word_stopped b l x w rest i)) h
  where
    left : Stopped a w → Stopped (alternative a b) w
    left (unread j) = unread j
    left (at p s) = at p (inl s)

    right : Stopped b w → Stopped (alternative a b) w
    right (unread j) = unread j
    right (at p s) = at p (inr s)
word_stopped (sequence a b) l h w rest i =
    go (parted h.front h.back w rest (sym h.is ∙ i)) (word_stopped a h.front h.left) (word_stopped b h.back h.right)
  where
    one : Stopped a w → Stopped (sequence a b) w
    one (unread j) = unread j
    one (at p s) = at p (inl s)

    later : (y : ℕ) (t : List ℕ) → w ≡ h.front ++ (y ∷ t) → Stopped b (y ∷ t) → Stopped (sequence a b) w
    later y t j (unread k) = absurd (clash (sym k))
    later y t j (at p s) = at p (inr (record { front = h.front; back = y ∷ t; is = j; left = h.left; right = s }))

    go : Parted h.front h.back w rest → ((w' rest' : List ℕ) → h.front ≡ w' ++ rest' → Stopped a w')
        → ((w' rest' : List ℕ) → h.back ≡ w' ++ rest' → Stopped b w') → Stopped (sequence a b) w
    go (within t j) f g = one (f w t j)
    go (beyond y t j k) f g = later y t j (g (y ∷ t) rest k)
word_stopped (star a) l h w rest i = many_stopped a l h (word_stopped a) w rest i
word_stopped (plus a) l h w rest i = go (many_stopped a l (rw h.is (more h.left h.right)) (word_stopped a) w rest i)
  where
    go : Stopped (star a) w → Stopped (plus a) w
    go (unread j) = unread j
    go (at p s) = at p s

pub begins_stopped : (r : Pattern) (w : List ℕ) → Begins r w → Stopped r w
begins_stopped r w b = word_stopped r (w ++ b.rest) b.whole w b.rest refl

-- ---- every pattern has a word, and every reading can be gone on to one
pub begins_empty : (r : Pattern) → Begins r []
begins_empty epsilon = record { rest = []; whole = refl }
begins_empty (name p e) = record { rest = e ∷ []; whole = refl }
begins_empty (alternative a b) = let x = begins_empty a in record { rest = x.rest; whole = inl x.whole }
begins_empty (sequence a b) =
    let x = begins_empty a in
    let y = begins_empty b in
    record { rest = x.rest ++ y.rest; whole = record { front = x.rest; back = y.rest; is = refl; left = x.whole; right = y.whole } }
begins_empty (star a) = record { rest = []; whole = none }
begins_empty (plus a) =
    let x = begins_empty a in
    record { rest = x.rest ++ []; whole = record { front = x.rest; back = []; is = refl; left = x.whole; right = none } }

pub stops_begins : (r : Pattern) (p : ℕ) (w : List ℕ) → Stops r p w → Begins r w
stops_begins epsilon p w h = absurd h
stops_begins (name q e) p w h = record { rest = []; whole = append-nil w ∙ h.1 }
stops_begins (alternative a b) p w h = ⊎_elim
    (λ x. let g = stops_begins a p w x in record { rest = g.rest; whole = inl g.whole })
    (λ x. let g = stops_begins b p w x in record { rest = g.rest; whole = inr g.whole }) h
stops_begins (sequence a b) p w h = ⊎_elim
    (λ x. left (stops_begins a p w x) (begins_empty b))
    (λ x. let g = stops_begins b p x.back x.right in record { rest = g.rest; whole = then_end x g.rest g.whole }) h
  where
    left : Begins a w → Begins b [] → Begins (sequence a b) w
    left g y = record {
      rest = g.rest ++ y.rest;
      whole = record { front = w ++ g.rest; back = y.rest; is = sym (append_assoc w g.rest y.rest); left = g.whole; right = y.whole };
    }
stops_begins (star a) p w h =
    let g = stops_begins a p h.back h.right in
    record { rest = g.rest; whole = then_many (Word a) (w ++ g.rest) (then_end h g.rest g.whole) }
stops_begins (plus a) p w h =
    let g = stops_begins a p h.back h.right in
    record { rest = g.rest; whole = then_turned (Word a) (w ++ g.rest) (then_end h g.rest g.whole) }
