-- Document 01, "The table": a reading with one event more has stopped at a number that names the event, and that can come
-- next after where the reading had stopped before it, or can begin. No law here asks how the names are numbered.
-- Assumes nothing.
use Rattle.std.specs.Prelude.{ℕ, ◌^◌, ◌≡◌, refl, cond, List, [], ◌∷◌, ◌++◌, eqb}
use Rattle.std.proofs.Common.{sym, ◌∙◌, inl, inr, ⊎_elim, append-nil, eq-eqb}
use Rattle.std.specs.Int.Bits.{bit_or}
use Rattle.document.specs.Patterns.{Pattern, epsilon, name, alternative, sequence, star, plus, Many, Then, Word}
use Rattle.document.specs.Positions.{Stops, holds, nullable, firsts, lasts, follows, named}
use Rattle.words.specs.Sets.{Has, has_one, has_or_left, has_or_right, has_guarded, has_with_right}
use Rattle.words.specs.Parts.{clash, right_nil, EndParted, nothing, something, end_parted}
use Rattle.words.specs.Readings.{Ends, nowhere, at, word_ends}

pub stops_nonempty : (r : Pattern) (p : ℕ) → Stops r p [] → ⊥
stops_nonempty epsilon p h = h
stops_nonempty (name q f) p h = clash h.1
stops_nonempty (alternative a b) p h = ⊎_elim (stops_nonempty a p) (stops_nonempty b p) h
stops_nonempty (sequence a b) p h = ⊎_elim (stops_nonempty a p) (λ x. stops_nonempty b p (rw (right_nil x.front x.back x.is) at x.right)) h
stops_nonempty (star a) p h = stops_nonempty a p (rw (right_nil h.front h.back h.is) at h.right)
stops_nonempty (plus a) p h = stops_nonempty a p (rw (right_nil h.front h.back h.is) at h.right)

-- q can come next after the reading w
pub data Came (r : Pattern) (w : List ℕ) (q : ℕ) : Type 0 where
  begins : w ≡ [] → Has (firsts r) q → Came r w q
  goes_on_lem : (p : ℕ) → Stops r p w → Has (follows r p) q → Came r w q

pub record Steps (r : Pattern) (w : List ℕ) (e q : ℕ) : Type 0 where
  pub came : Came r w q
  pub names : Has (named r e) q

-- the last number of a, and a first number of what comes after a
module _ (a b : Pattern) (p q : ℕ) where
  follows_left : Has (follows a p) q → Has (follows (sequence a b) p) q
  unfolding follows
  follows_left h = has_or_left _ (cond (holds (lasts a) p) (firsts b) 0) q (has_or_left (follows a p) (follows b p) q h)

  follows_right : Has (follows b p) q → Has (follows (sequence a b) p) q
  unfolding follows
  follows_right h = has_or_left _ (cond (holds (lasts a) p) (firsts b) 0) q (has_or_right (follows a p) (follows b p) q h)

  follows_link : Has (lasts a) p → Has (firsts b) q → Has (follows (sequence a b) p) q
  unfolding follows
  follows_link l f =
      has_or_right (bit_or (follows a p) (follows b p)) (cond (holds (lasts a) p) (firsts b) 0) q
      (has_guarded (holds (lasts a) p) (firsts b) q l f)

-- one more event of a reading of a*
many_came : (a : Pattern) (q e : ℕ) (l w : List ℕ) → Then (Many (Word a)) (Stops a q) l → l ≡ w ++ (e ∷ [])
    → ((t back : List ℕ) → Stops a q back → back ≡ t ++ (e ∷ []) → Steps a t e q) → Steps (star a) w e q
unfolding firsts lasts follows named
many_came a q e l w x i ih = go (end_parted x.front x.back w e (sym i ∙ x.is))
  where
    link : Ends (star a) w → Has (firsts a) q → Came (star a) w q
    link (nowhere j k) f = begins j f
    link (at p s k) f =
        let again = has_guarded (holds (lasts a) p) (firsts a) q k f in
        goes_on_lem p s (has_or_right (follows a p) (cond (holds (lasts a) p) (firsts a) 0) q again)

    came : (t : List ℕ) → w ≡ x.front ++ t → Came a t q → Came (star a) w q
    came t k (begins j f) = link (word_ends (star a) w (rw (k, j, append-nil) x.left)) f
    came t k (goes_on_lem p s f) = goes_on_lem p (record { front = x.front; back = t; is = k; left = x.left; right = s }) (has_or_left (follows a p) _ q f)

    go : EndParted x.front x.back w e → Steps (star a) w e q
    go (nothing j) = absurd (stops_nonempty a q (rw j at x.right))
    go (something t j k) = let g = ih t x.back x.right j in record { came = came t k g.came; names = g.names }

pub stops_steps : (r : Pattern) (q e : ℕ) (l w : List ℕ) → Stops r q l → l ≡ w ++ (e ∷ []) → Steps r w e q
unfolding firsts lasts follows named
stops_steps epsilon q e l w h i = absurd h
stops_steps (name p f) q e l w h i = go w (sym i ∙ h.1)
  where
    go : (w : List ℕ) → w ++ (e ∷ []) ≡ f ∷ [] → Steps (name p f) w e q
    go [] j = record { came = begins refl (has_one p q h.0); names = has_guarded (eqb f e) (2 ^ p) q (eq-eqb f e (cc)) (has_one p q h.0) }
    go (x ∷ w) j = let t : [] ≡ w ++ (e ∷ []) = cc in absurd (clash (sym (right_nil w (e ∷ []) t)))
stops_steps (alternative a b) q e l w h i = ⊎_elim (λ x. left (stops_steps a q e l w x i)) (λ x. right (stops_steps b q e l w x i)) h
  where
    came_left : Came a w q → Came (alternative a b) w q
    came_left (begins j f) = begins j (has_or_left (firsts a) (firsts b) q f)
    came_left (goes_on_lem p s f) = goes_on_lem p (inl s) (has_or_left (follows a p) (follows b p) q f)

    came_right : Came b w q → Came (alternative a b) w q
    came_right (begins j f) = begins j (has_or_right (firsts a) (firsts b) q f)
    came_right (goes_on_lem p s f) = goes_on_lem p (inr s) (has_or_right (follows a p) (follows b p) q f)

    left : Steps a w e q → Steps (alternative a b) w e q
    left g = record { came = came_left g.came; names = has_or_left (named a e) (named b e) q g.names }

    right : Steps b w e q → Steps (alternative a b) w e q
    right g = record { came = came_right g.came; names = has_or_right (named a e) (named b e) q g.names }
stops_steps (sequence a b) q e l w h i = ⊎_elim
    (λ x. left (stops_steps a q e l w x i))
    (λ x. right x (end_parted x.front x.back w e (sym i ∙ x.is)) (λ t j. stops_steps b q e x.back t x.right j)) h
  where
    came_left : Came a w q → Came (sequence a b) w q
    came_left (begins j f) = begins j (has_with_right (nullable a) (firsts a) (firsts b) q (inl f))
    came_left (goes_on_lem p s f) = goes_on_lem p (inl s) (follows_left a b p q f)

    left : Steps a w e q → Steps (sequence a b) w e q
    left g = record { came = came_left g.came; names = has_or_left (named a e) (named b e) q g.names }

    link : Ends a w → Has (firsts b) q → Came (sequence a b) w q
    link (nowhere j k) f = begins j (has_with_right (nullable a) (firsts a) (firsts b) q (inr (k, f)))
    link (at p s k) f = goes_on_lem p (inl s) (follows_link a b p q k f)

    came_right : (x : Then (Word a) (Stops b q) l) (t : List ℕ) → w ≡ x.front ++ t → Came b t q → Came (sequence a b) w q
    came_right x t k (begins j f) = link (word_ends a w (rw (k, j, append-nil) x.left)) f
    came_right x t k (goes_on_lem p s f) = goes_on_lem p (inr (record { front = x.front; back = t; is = k; left = x.left; right = s })) (follows_right a b p q f)

    right : (x : Then (Word a) (Stops b q) l) → EndParted x.front x.back w e
        → ((t : List ℕ) → x.back ≡ t ++ (e ∷ []) → Steps b t e q) → Steps (sequence a b) w e q
    right x (nothing j) ih = absurd (stops_nonempty b q (rw j at x.right))
    right x (something t j k) ih = let g = ih t j in record { came = came_right x t k g.came; names = has_or_right (named a e) (named b e) q g.names }
stops_steps (star a) q e l w h i = many_came a q e l w h i (λ t back s j. stops_steps a q e back t s j)
stops_steps (plus a) q e l w h i = go (many_came a q e l w h i (λ t back s j. stops_steps a q e back t s j))
  where
    came : Came (star a) w q → Came (plus a) w q
    came (begins j f) = begins j f
    came (goes_on_lem p s f) = goes_on_lem p s f

    go : Steps (star a) w e q → Steps (plus a) w e q
    go g = record { came = came g.came; names = g.names }
