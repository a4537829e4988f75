-- Document 01, "The table": where two parts of a pattern are numbered one after the other, what the sets of both say of a
-- number in one part's range is what the sets of this part say.
-- Assumes nothing.
use Rattle.std.specs.Prelude.{ℕ, ◌≡◌, ◌⊎◌, true, cond}
use Rattle.std.proofs.Math.Logic.{inl, inr, ⊎_elim}
use Rattle.std.specs.Int.Bits.{bit_or}
use Rattle.document.specs.Patterns.{Pattern, alternative, sequence}
use Rattle.document.specs.Positions.{holds, nullable, firsts, lasts, follows, named}
use Rattle.words.specs.Sets.{Has, or_has, guarded_has, with_left_has}
use Rattle.words.specs.Numbers.{Numbered, Lies, apart, lasts_lie, named_lie, follows_lie}

module _ (a b : Pattern) (lo hi : ℕ) (n : (mid : ℕ) × (Numbered a lo mid × Numbered b mid hi)) (p : ℕ) where
  -- a union of the parts' sets
  or_left_half : (s t : ℕ) → (Has t p → Lies n.0 hi p) → Lies lo n.0 p → Has (bit_or s t) p → Has s p
  or_left_half s t f l h = ⊎_elim (λ x. x) (λ x. absurd (apart lo n.0 hi p l (f x))) (or_has s t p h)

  or_right_half : (s t : ℕ) → (Has s p → Lies lo n.0 p) → Lies n.0 hi p → Has (bit_or s t) p → Has t p
  or_right_half s t f l h = ⊎_elim (λ x. absurd (apart lo n.0 hi p (f x) l)) (λ x. x) (or_has s t p h)

  -- ---- the numbers that name an event
  pub named_left : (e : ℕ) → Lies lo n.0 p → Has (bit_or (named a e) (named b e)) p → Has (named a e) p
  named_left e = or_left_half (named a e) (named b e) (named_lie b n.0 hi n.1.1 e p)

  pub named_right : (e : ℕ) → Lies n.0 hi p → Has (bit_or (named a e) (named b e)) p → Has (named b e) p
  named_right e = or_right_half (named a e) (named b e) (named_lie a lo n.0 n.1.0 e p)

  -- ---- the last numbers
  pub lasts_either_left : Lies lo n.0 p → Has (lasts (alternative a b)) p → Has (lasts a) p
  unfolding lasts
  lasts_either_left = or_left_half (lasts a) (lasts b) (lasts_lie b n.0 hi n.1.1 p)

  pub lasts_either_right : Lies n.0 hi p → Has (lasts (alternative a b)) p → Has (lasts b) p
  unfolding lasts
  lasts_either_right = or_right_half (lasts a) (lasts b) (lasts_lie a lo n.0 n.1.0 p)

  pub lasts_beside_left : Lies lo n.0 p → Has (lasts (sequence a b)) p → (nullable b ≡ true) × Has (lasts a) p
  unfolding lasts
  lasts_beside_left l h = ⊎_elim
      (λ x. absurd (apart lo n.0 hi p l (lasts_lie b n.0 hi n.1.1 p x)))
      (λ x. x) (with_left_has (nullable b) (lasts a) (lasts b) p h)

  pub lasts_beside_right : Lies n.0 hi p → Has (lasts (sequence a b)) p → Has (lasts b) p
  unfolding lasts
  lasts_beside_right l h = ⊎_elim
      (λ x. x)
      (λ x. absurd (apart lo n.0 hi p (lasts_lie a lo n.0 n.1.0 p x.1) l)) (with_left_has (nullable b) (lasts a) (lasts b) p h)

  -- ---- the numbers that can come next after p
  module _ (q : ℕ) where
    follows_left_half : Lies lo n.0 p → Has (bit_or (follows a p) (follows b p)) q → Has (follows a p) q
    follows_left_half l h = ⊎_elim
        (λ x. x)
        (λ x. absurd (apart lo n.0 hi p l (follows_lie b n.0 hi n.1.1 p q x).0)) (or_has (follows a p) (follows b p) q h)

    follows_right_half : Lies n.0 hi p → Has (bit_or (follows a p) (follows b p)) q → Has (follows b p) q
    follows_right_half l h = ⊎_elim
        (λ x. absurd (apart lo n.0 hi p (follows_lie a lo n.0 n.1.0 p q x).0 l))
        (λ x. x) (or_has (follows a p) (follows b p) q h)

    pub follows_either_left : Lies lo n.0 p → Has (follows (alternative a b) p) q → Has (follows a p) q
    unfolding follows
    follows_either_left = follows_left_half

    pub follows_either_right : Lies n.0 hi p → Has (follows (alternative a b) p) q → Has (follows b p) q
    unfolding follows
    follows_either_right = follows_right_half

    pub follows_beside_left : Lies lo n.0 p → Has (follows (sequence a b) p) q → Has (follows a p) q ⊎ (Has (lasts a) p × Has (firsts b) q)
    unfolding follows
    follows_beside_left l h = ⊎_elim
        (λ x. inl (follows_left_half l x))
        (λ x. inr (guarded_has (holds (lasts a) p) (firsts b) q x))
        (or_has (bit_or (follows a p) (follows b p)) (cond (holds (lasts a) p) (firsts b) 0) q h)

    pub follows_beside_right : Lies n.0 hi p → Has (follows (sequence a b) p) q → Has (follows b p) q
    unfolding follows
    follows_beside_right l h = ⊎_elim
        (λ x. follows_right_half l x)
        (λ x. absurd (apart lo n.0 hi p (lasts_lie a lo n.0 n.1.0 p (guarded_has (holds (lasts a) p) (firsts b) q x).0) l))
        (or_has (bit_or (follows a p) (follows b p)) (cond (holds (lasts a) p) (firsts b) 0) q h)
