-- Document 01, "The table": "Number the event names of the pattern from the left". A pattern read by the grammar is numbered
-- so, and its sets hold its own numbers only; so two parts of a pattern share no number.
-- Assumes nothing.
use Rattle.std.specs.Prelude.{ℕ, ◌<◌, ◌≤◌, cond, List, eqb}
use Rattle.std.proofs.Common.{arith, ⊎_elim}
use Rattle.std.specs.Int.Bits.{bit_or}
use Rattle.document.specs.Patterns.{Pattern, epsilon, name, alternative, sequence, star, plus}
use Rattle.document.specs.Tokens.{Token}
use Rattle.document.specs.Grammar.{Kind, Reads, one_sequence, either, one_repetition, beside, one_atom, starred, plussed, event, empty, grouped}
use Rattle.document.specs.Positions.{Stops, holds, nullable, firsts, lasts, follows, named}
use Rattle.words.specs.Sets.{Has, none_has, one_has, or_has, guarded_has, with_right_has, with_left_has}

-- the numbers of r lie above lo, up to hi, and grow from the left
abbrev pub Numbered : Pattern → ℕ → ℕ → Type 0
Numbered epsilon lo hi = lo ≤ hi
Numbered (name p e) lo hi = (lo < p) × (p ≤ hi)
Numbered (alternative a b) lo hi = (mid : ℕ) × (Numbered a lo mid × Numbered b mid hi)
Numbered (sequence a b) lo hi = (mid : ℕ) × (Numbered a lo mid × Numbered b mid hi)
Numbered (star a) lo hi = Numbered a lo hi
Numbered (plus a) lo hi = Numbered a lo hi

module _ (declared : List (List ℕ)) where
  pub reads_numbered : {kind : Kind} {lo hi : ℕ} {ts : List Token} {r : Pattern} → Reads declared kind lo hi ts r → Numbered r lo hi
  reads_numbered (one_sequence h) = reads_numbered h
  reads_numbered (either {mid = m} h k) = (m, (reads_numbered h, reads_numbered k))
  reads_numbered (one_repetition h) = reads_numbered h
  reads_numbered (beside {mid = m} h k) = (m, (reads_numbered h, reads_numbered k))
  reads_numbered (one_atom h) = reads_numbered h
  reads_numbered (starred h) = reads_numbered h
  reads_numbered (plussed h) = reads_numbered h
  reads_numbered (event h) = (omega arith, omega arith)
  reads_numbered empty = omega arith
  reads_numbered (grouped h) = reads_numbered h

-- p lies above lo, up to hi
abbrev pub Lies : ℕ → ℕ → ℕ → Type 0
Lies lo hi p = (lo < p) × (p ≤ hi)

pub numbered_le : (r : Pattern) (lo hi : ℕ) → Numbered r lo hi → lo ≤ hi
numbered_le epsilon lo hi n = n
numbered_le (name q f) lo hi n = omega arith
numbered_le (alternative a b) lo hi n = let x = numbered_le a lo n.0 n.1.0 in let y = numbered_le b n.0 hi n.1.1 in omega arith
numbered_le (sequence a b) lo hi n = let x = numbered_le a lo n.0 n.1.0 in let y = numbered_le b n.0 hi n.1.1 in omega arith
numbered_le (star a) lo hi n = numbered_le a lo hi n
numbered_le (plus a) lo hi n = numbered_le a lo hi n

-- Two parts, one numbered after the other: what lies in the range of either lies in the whole, and nothing lies in both.
module _ (a b : Pattern) (lo hi : ℕ) (n : (mid : ℕ) × (Numbered a lo mid × Numbered b mid hi)) (p : ℕ) where
  lies_left : Lies lo n.0 p → Lies lo hi p
  lies_left l = let y = numbered_le b n.0 hi n.1.1 in omega arith

  lies_right : Lies n.0 hi p → Lies lo hi p
  lies_right l = let y = numbered_le a lo n.0 n.1.0 in omega arith

pub apart : (lo mid hi p : ℕ) → Lies lo mid p → Lies mid hi p → ⊥
apart lo mid hi p x y = omega arith

-- ---- the numbers of each set lie in the pattern's range
-- a union of the parts' sets, where each part's lie in its own range
module _ (a b : Pattern) (lo hi : ℕ) (n : (mid : ℕ) × (Numbered a lo mid × Numbered b mid hi)) (s t p : ℕ) where
  or_lies : (Has s p → Lies lo n.0 p) → (Has t p → Lies n.0 hi p) → Has (bit_or s t) p → Lies lo hi p
  or_lies f g h = ⊎_elim (λ x. lies_left a b lo hi n p (f x)) (λ x. lies_right a b lo hi n p (g x)) (or_has s t p h)

pub firsts_lie : (r : Pattern) (lo hi : ℕ) → Numbered r lo hi → (p : ℕ) → Has (firsts r) p → Lies lo hi p
unfolding firsts
firsts_lie epsilon lo hi n p h = absurd (none_has p h)
firsts_lie (name q f) lo hi n p h = let x = one_has q p h in omega arith
firsts_lie (alternative a b) lo hi n p h =
    or_lies a b lo hi n (firsts a) (firsts b) p (firsts_lie a lo n.0 n.1.0 p) (firsts_lie b n.0 hi n.1.1 p) h
firsts_lie (sequence a b) lo hi n p h = ⊎_elim
    (λ x. lies_left a b lo hi n p (firsts_lie a lo n.0 n.1.0 p x))
    (λ x. lies_right a b lo hi n p (firsts_lie b n.0 hi n.1.1 p x.1)) (with_right_has (nullable a) (firsts a) (firsts b) p h)
firsts_lie (star a) lo hi n p h = firsts_lie a lo hi n p h
firsts_lie (plus a) lo hi n p h = firsts_lie a lo hi n p h

pub lasts_lie : (r : Pattern) (lo hi : ℕ) → Numbered r lo hi → (p : ℕ) → Has (lasts r) p → Lies lo hi p
unfolding lasts
lasts_lie epsilon lo hi n p h = absurd (none_has p h)
lasts_lie (name q f) lo hi n p h = let x = one_has q p h in omega arith
lasts_lie (alternative a b) lo hi n p h =
    or_lies a b lo hi n (lasts a) (lasts b) p (lasts_lie a lo n.0 n.1.0 p) (lasts_lie b n.0 hi n.1.1 p) h
lasts_lie (sequence a b) lo hi n p h = ⊎_elim
    (λ x. lies_right a b lo hi n p (lasts_lie b n.0 hi n.1.1 p x))
    (λ x. lies_left a b lo hi n p (lasts_lie a lo n.0 n.1.0 p x.1)) (with_left_has (nullable b) (lasts a) (lasts b) p h)
lasts_lie (star a) lo hi n p h = lasts_lie a lo hi n p h
lasts_lie (plus a) lo hi n p h = lasts_lie a lo hi n p h

pub named_lie : (r : Pattern) (lo hi : ℕ) → Numbered r lo hi → (e p : ℕ) → Has (named r e) p → Lies lo hi p
unfolding named
named_lie epsilon lo hi n e p h = absurd (none_has p h)
named_lie (name q f) lo hi n e p h = let x = one_has q p (guarded_has (eqb f e) _ p h).1 in omega arith
named_lie (alternative a b) lo hi n e p h =
    or_lies a b lo hi n (named a e) (named b e) p (named_lie a lo n.0 n.1.0 e p) (named_lie b n.0 hi n.1.1 e p) h
named_lie (sequence a b) lo hi n e p h =
    or_lies a b lo hi n (named a e) (named b e) p (named_lie a lo n.0 n.1.0 e p) (named_lie b n.0 hi n.1.1 e p) h
named_lie (star a) lo hi n e p h = named_lie a lo hi n e p h
named_lie (plus a) lo hi n e p h = named_lie a lo hi n e p h

-- what can come next, and after what
abbrev pub BothLie : ℕ → ℕ → ℕ → ℕ → Type 0
BothLie lo hi p q = Lies lo hi p × Lies lo hi q

module _ (a b : Pattern) (lo hi : ℕ) (n : (mid : ℕ) × (Numbered a lo mid × Numbered b mid hi)) (p q : ℕ) where
  both_left : BothLie lo n.0 p q → BothLie lo hi p q
  both_left l = (lies_left a b lo hi n p l.0, lies_left a b lo hi n q l.1)

  both_right : BothLie n.0 hi p q → BothLie lo hi p q
  both_right l = (lies_right a b lo hi n p l.0, lies_right a b lo hi n q l.1)

pub follows_lie : (r : Pattern) (lo hi : ℕ) → Numbered r lo hi → (p q : ℕ) → Has (follows r p) q → BothLie lo hi p q
unfolding follows
follows_lie epsilon lo hi n p q h = absurd (none_has q h)
follows_lie (name k f) lo hi n p q h = absurd (none_has q h)
follows_lie (alternative a b) lo hi n p q h = ⊎_elim
    (λ x. both_left a b lo hi n p q (follows_lie a lo n.0 n.1.0 p q x))
    (λ x. both_right a b lo hi n p q (follows_lie b n.0 hi n.1.1 p q x)) (or_has (follows a p) (follows b p) q h)
follows_lie (sequence a b) lo hi n p q h = ⊎_elim
    (λ z. ⊎_elim
    (λ x. both_left a b lo hi n p q (follows_lie a lo n.0 n.1.0 p q x))
    (λ x. both_right a b lo hi n p q (follows_lie b n.0 hi n.1.1 p q x)) (or_has (follows a p) (follows b p) q z))
    (λ z.
    let x = guarded_has (holds (lasts a) p) (firsts b) q z in
    (lies_left a b lo hi n p (lasts_lie a lo n.0 n.1.0 p x.0), lies_right a b lo hi n q (firsts_lie b n.0 hi n.1.1 q x.1)))
    (or_has _ (cond (holds (lasts a) p) (firsts b) 0) q h)
follows_lie (star a) lo hi n p q h = ⊎_elim (λ x. follows_lie a lo hi n p q x)
    (λ z. let x = guarded_has (holds (lasts a) p) (firsts a) q z in (lasts_lie a lo hi n p x.0, firsts_lie a lo hi n q x.1))
    (or_has (follows a p) (cond (holds (lasts a) p) (firsts a) 0) q h)
follows_lie (plus a) lo hi n p q h = ⊎_elim (λ x. follows_lie a lo hi n p q x)
    (λ z. let x = guarded_has (holds (lasts a) p) (firsts a) q z in (lasts_lie a lo hi n p x.0, firsts_lie a lo hi n q x.1))
    (or_has (follows a p) (cond (holds (lasts a) p) (firsts a) 0) q h)

pub stops_lie : (r : Pattern) (lo hi : ℕ) → Numbered r lo hi → (p : ℕ) (w : List ℕ) → Stops r p w → Lies lo hi p
stops_lie epsilon lo hi n p w h = absurd h
stops_lie (name q f) lo hi n p w h = let x = h.0 in omega arith
stops_lie (alternative a b) lo hi n p w h = ⊎_elim
    (λ x. lies_left a b lo hi n p (stops_lie a lo n.0 n.1.0 p w x))
    (λ x. lies_right a b lo hi n p (stops_lie b n.0 hi n.1.1 p w x)) h
stops_lie (sequence a b) lo hi n p w h = ⊎_elim
    (λ x. lies_left a b lo hi n p (stops_lie a lo n.0 n.1.0 p w x))
    (λ x. lies_right a b lo hi n p (stops_lie b n.0 hi n.1.1 p x.back x.right)) h
stops_lie (star a) lo hi n p w h = stops_lie a lo hi n p h.back h.right
stops_lie (plus a) lo hi n p w h = stops_lie a lo hi n p h.back h.right
