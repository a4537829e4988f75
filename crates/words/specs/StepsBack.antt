-- Document 01, "The table": where names are numbered from the left, a reading goes on to every number that can come next and
-- that names the event, and a reading that has stopped at a last number is a word.
-- Assumes nothing.
use Rattle.std.specs.Prelude.{ℕ, ◌^◌, ◌≡◌, refl, cond, List, [], ◌∷◌, ◌++◌, eqb}
use Rattle.std.proofs.Common.{sym, inl, inr, ⊎_elim, append-nil, eqb-true}
use Rattle.std.specs.Int.Bits.{bit_or}
use Rattle.document.specs.Patterns.{Pattern, epsilon, name, alternative, sequence, star, plus, Many, Then, Word}
use Rattle.document.specs.Positions.{Stops, holds, nullable, firsts, lasts, follows, named}
use Rattle.words.specs.Sets.{Has, none_has, one_has, or_has, guarded_has, with_right_has}
use Rattle.words.specs.Numbers.{Numbered, firsts_lie, follows_lie, stops_lie}
use Rattle.words.specs.Parts.{then_with, then_end, then_alone, then_many, then_turned}
use Rattle.words.specs.Readings.{nullable_word}
use Rattle.words.specs.Halves.{named_left, named_right, lasts_either_left, lasts_either_right, lasts_beside_left, lasts_beside_right, follows_either_left, follows_either_right, follows_beside_left, follows_beside_right}

-- ---- the first event of a reading
pub begins_stops : (r : Pattern) (lo hi : ℕ) → Numbered r lo hi → (q e : ℕ) → Has (firsts r) q → Has (named r e) q → Stops r q (e ∷ [])
unfolding firsts named
begins_stops epsilon lo hi n q e f k = absurd (none_has q f)
begins_stops (name p g) lo hi n q e f k =
    let same : g ≡ e = eqb-true g e (guarded_has (eqb g e) (2 ^ p) q k).0 in
    (one_has p q f, cc)
begins_stops (alternative a b) lo hi n q e f k = ⊎_elim
    (λ x. inl (begins_stops a lo n.0 n.1.0 q e x (named_left a b lo hi n q e (firsts_lie a lo n.0 n.1.0 q x) k)))
    (λ x. inr (begins_stops b n.0 hi n.1.1 q e x (named_right a b lo hi n q e (firsts_lie b n.0 hi n.1.1 q x) k)))
    (or_has (firsts a) (firsts b) q f)
begins_stops (sequence a b) lo hi n q e f k = ⊎_elim
    (λ x. inl (begins_stops a lo n.0 n.1.0 q e x (named_left a b lo hi n q e (firsts_lie a lo n.0 n.1.0 q x) k)))
    (λ x. inr (record {
      front = [];
      back = e ∷ [];
      is = refl;
      left = nullable_word a x.0;
      right = begins_stops b n.0 hi n.1.1 q e x.1 (named_right a b lo hi n q e (firsts_lie b n.0 hi n.1.1 q x.1) k);
    }))
    (with_right_has (nullable a) (firsts a) (firsts b) q f)
begins_stops (star a) lo hi n q e f k = then_alone (e ∷ []) (begins_stops a lo hi n q e f k)
begins_stops (plus a) lo hi n q e f k = then_alone (e ∷ []) (begins_stops a lo hi n q e f k)

-- ---- a reading that has stopped at a last number
pub stops_word : (r : Pattern) (lo hi : ℕ) → Numbered r lo hi → (p : ℕ) (w : List ℕ) → Stops r p w → Has (lasts r) p → Word r w
unfolding lasts
stops_word epsilon lo hi n p w h l = absurd h
stops_word (name q f) lo hi n p w h l = h.1
stops_word (alternative a b) lo hi n p w h l = ⊎_elim
    (λ x. inl (stops_word a lo n.0 n.1.0 p w x (lasts_either_left a b lo hi n p (stops_lie a lo n.0 n.1.0 p w x) l)))
    (λ x. inr (stops_word b n.0 hi n.1.1 p w x (lasts_either_right a b lo hi n p (stops_lie b n.0 hi n.1.1 p w x) l))) h
stops_word (sequence a b) lo hi n p w h l = ⊎_elim
    (λ x.
    let y = lasts_beside_left a b lo hi n p (stops_lie a lo n.0 n.1.0 p w x) l in
    record { front = w; back = []; is = sym (append-nil w); left = stops_word a lo n.0 n.1.0 p w x y.1; right = nullable_word b y.0 })
    (λ x.
    let y = lasts_beside_right a b lo hi n p (stops_lie b n.0 hi n.1.1 p x.back x.right) l in
    then_with x (stops_word b n.0 hi n.1.1 p x.back x.right y)) h
stops_word (star a) lo hi n p w h l = then_many (Word a) w (then_with h (stops_word a lo hi n p h.back h.right l))
stops_word (plus a) lo hi n p w h l = then_turned (Word a) w (then_with h (stops_word a lo hi n p h.back h.right l))

-- ---- a reading and one event more
-- of words of a: in the last of them, or with one word more
many_goes_on : (a : Pattern) (lo hi : ℕ) → Numbered a lo hi → (p q e : ℕ) (w : List ℕ) (h : Then (Many (Word a)) (Stops a p) w)
    → (Has (follows a p) q → Has (named a e) q → Stops a q (h.back ++ (e ∷ [])))
    → Has (bit_or (follows a p) (cond (holds (lasts a) p) (firsts a) 0)) q → Has (named a e) q
    → Then (Many (Word a)) (Stops a q) (w ++ (e ∷ []))
many_goes_on a lo hi n p q e w h ih f k = ⊎_elim
    (λ x. then_end h (e ∷ []) (ih x k))
    (λ x. again (guarded_has (holds (lasts a) p) (firsts a) q x))
    (or_has (follows a p) (cond (holds (lasts a) p) (firsts a) 0) q f)
  where
    again : Has (lasts a) p × Has (firsts a) q → Then (Many (Word a)) (Stops a q) (w ++ (e ∷ []))
    again x = record {
      front = w;
      back = e ∷ [];
      is = refl;
      left = then_many (Word a) w (then_with h (stops_word a lo hi n p h.back h.right x.0));
      right = begins_stops a lo hi n q e x.1 k;
    }

pub goes_on_stops : (r : Pattern) (lo hi : ℕ) → Numbered r lo hi → (p q e : ℕ) (w : List ℕ)
    → Stops r p w → Has (follows r p) q → Has (named r e) q → Stops r q (w ++ (e ∷ []))
unfolding follows named
goes_on_stops epsilon lo hi n p q e w h f k = absurd h
goes_on_stops (name j g) lo hi n p q e w h f k = absurd (none_has q f)
goes_on_stops (alternative a b) lo hi n p q e w h f k = ⊎_elim
    (λ x.
    let y = follows_either_left a b lo hi n p q (stops_lie a lo n.0 n.1.0 p w x) f in
    let z = named_left a b lo hi n q e (follows_lie a lo n.0 n.1.0 p q y).1 k in
    inl (goes_on_stops a lo n.0 n.1.0 p q e w x y z))
    (λ x.
    let y = follows_either_right a b lo hi n p q (stops_lie b n.0 hi n.1.1 p w x) f in
    let z = named_right a b lo hi n q e (follows_lie b n.0 hi n.1.1 p q y).1 k in
    inr (goes_on_stops b n.0 hi n.1.1 p q e w x y z)) h
goes_on_stops (sequence a b) lo hi n p q e w h f k = ⊎_elim
    (λ x. ⊎_elim
    (λ y.
    let z = named_left a b lo hi n q e (follows_lie a lo n.0 n.1.0 p q y).1 k in
    inl (goes_on_stops a lo n.0 n.1.0 p q e w x y z))
    (λ y. inr (link x y)) (follows_beside_left a b lo hi n p q (stops_lie a lo n.0 n.1.0 p w x) f))
    (λ x.
    let y = follows_beside_right a b lo hi n p q (stops_lie b n.0 hi n.1.1 p x.back x.right) f in
    let z = named_right a b lo hi n q e (follows_lie b n.0 hi n.1.1 p q y).1 k in
    inr (then_end x (e ∷ []) (goes_on_stops b n.0 hi n.1.1 p q e x.back x.right y z))) h
  where
    link : Stops a p w → Has (lasts a) p × Has (firsts b) q → Then (Word a) (Stops b q) (w ++ (e ∷ []))
    link x y = record {
      front = w;
      back = e ∷ [];
      is = refl;
      left = stops_word a lo n.0 n.1.0 p w x y.0;
      right = begins_stops b n.0 hi n.1.1 q e y.1 (named_right a b lo hi n q e (firsts_lie b n.0 hi n.1.1 q y.1) k);
    }
goes_on_stops (star a) lo hi n p q e w h f k = many_goes_on a lo hi n p q e w h (goes_on_stops a lo hi n p q e h.back h.right) f k
goes_on_stops (plus a) lo hi n p q e w h f k = many_goes_on a lo hi n p q e w h (goes_on_stops a lo hi n p q e h.back h.right) f k
