-- Laws of the token at a place: whether a word stands there, and what the class of the first byte says.
-- Assumes nothing.
use Rattle.std.specs.Prelude.{ℕ, ◌+◌, ◌-◌, ◌≤◌, ◌<◌, ◌≡◌, refl, Bool, true, false, List, [], ◌∷◌, length, get_or, take, drop, eqb}
use lib.Pointwise.{pointwise}
use Rattle.std.specs.Prelude.{◌&&◌}
use Rattle.std.proofs.Math.Path.{sym, ap}
use Rattle.std.proofs.Common.{◌∙◌, length-drop}
use native.Mathlib.Omega.{arith}
use Rattle.std.proofs.lemmas.List.{take_all}
use borrow.Author.Tests.{lt-ltb, le-ltb}
use Rattle.document.specs.Lists.{take_while, starts_with}
use Rattle.document.specs.Classes.{class_of, is_name_byte, match_word, fail_word}
use Rattle.classes.specs.declared.Class.{Class}
use Rattle.classes.specs.declared.Class.TheVariants as code
use Rattle.classes.specs.Numbers.{number}
use Rattle.document.specs.Declarations.{name_run}
use Rattle.document.specs.Tokens.{ask_token, token_at}
use Rattle.basics.specs.Left.{drop_here}
use Rattle.tokens.specs.declared.Token.{Token}
use Rattle.tokens.specs.declared.Kind.TheVariants.{Word, AskMatch, AskFail, Nothing, End}
use Rattle.tokens.specs.Lexing.{mark_kind, shown, ask_here, token_here}

-- What `starts_with` answers of a part is what the definitions say of it.
starts_is : (w t : List ℕ) → starts_with w t ≡ pointwise eqb w (take (length w) t)
unfolding starts_with
starts_is [] t = refl
starts_is (x ∷ w) [] = refl
starts_is (x ∷ w) (y ∷ t) = ap (λ b. eqb x y && b) (starts_is w t)

pub begins_as : (w s : List ℕ) (at : ℕ) (b : Bool) → b ≡ pointwise eqb w (take (length w) (take (length s - at) (drop at s))) → starts_with w (drop at s) ≡ b
begins_as w s at b e = starts_is w (drop at s) ∙ sym (rw (take_all (length s - at) (drop at s) (rw length-drop (omega arith))) at e)

-- What stands after an `@`, by the words that may.
pub ask_match : (s : List ℕ) (at : ℕ) → 1 ≤ at → starts_with match_word (drop at s) ≡ true → record { kind = AskMatch; end = at + 5 } ≡ ask_here s at
unfolding ask_here shown ask_token
ask_match s at h e = let k : at - 1 + 6 ≡ at + 5 = omega arith in rw (e, k)

pub ask_fail : (s : List ℕ) (at : ℕ) → 1 ≤ at → starts_with match_word (drop at s) ≡ false → starts_with fail_word (drop at s) ≡ true
    → record { kind = AskFail; end = at + 4 } ≡ ask_here s at
unfolding ask_here shown ask_token
ask_fail s at h e f = let k : at - 1 + 5 ≡ at + 4 = omega arith in rw (e, f, k)

pub ask_none : (s : List ℕ) (at : ℕ) → 1 ≤ at → starts_with match_word (drop at s) ≡ false → starts_with fail_word (drop at s) ≡ false
    → record { kind = Nothing; end = at } ≡ ask_here s at
unfolding ask_here shown ask_token
ask_none s at h e f = let k : at - 1 + 1 ≡ at = omega arith in rw (e, f, k)

-- The token at a place, by the class of its first byte.
pub token_end : (s : List ℕ) (at : ℕ) → length s ≤ at → record { kind = End; end = at } ≡ token_here s at
unfolding token_here
token_end s at h = rw (le-ltb at (length s) h)

module _ (s : List ℕ) (at : ℕ) (h : at < length s) where
  pub token_word : (k : Class) (end : ℕ) → number k ≡ class_of (get_or s at 0) → k ≡ code.Letter → end ≡ at + length (take_while is_name_byte (drop at s))
      → record { kind = Word; end = end } ≡ token_here s at
  unfolding token_here token_at shown name_run
  token_word k end e l q = rw (lt-ltb at (length s) h, sym e ∙ ap number l, q, drop_here s at h)

  pub token_ask : (k : Class) (r : Token) → number k ≡ class_of (get_or s at 0) → k ≡ code.AtSign → r ≡ ask_here s (at + 1) → r ≡ token_here s at
  unfolding token_here token_at ask_here
  token_ask k r e a q = q ∙ (let i : at + 1 - 1 ≡ at = omega arith in rw (lt-ltb at (length s) h, sym e ∙ ap number a, i))

  -- a mark, or what begins no token
  pub token_mark : (k : Class) → number k ≡ class_of (get_or s at 0) → (k ≡ code.Letter → ⊥) → (k ≡ code.AtSign → ⊥)
      → record { kind = mark_kind (number k); end = at + 1 } ≡ token_here s at
  unfolding token_here token_at shown
  token_mark code.Letter e n m = absurd (n refl)
  token_mark code.AtSign e n m = absurd (m refl)
  token_mark code.Digit e n m = rw (lt-ltb at (length s) h, ← e)
  token_mark code.Underscore e n m = rw (lt-ltb at (length s) h, ← e)
  token_mark code.Blank e n m = rw (lt-ltb at (length s) h, ← e)
  token_mark code.Opening e n m = rw (lt-ltb at (length s) h, ← e)
  token_mark code.Closing e n m = rw (lt-ltb at (length s) h, ← e)
  token_mark code.Colon e n m = rw (lt-ltb at (length s) h, ← e)
  token_mark code.Bar e n m = rw (lt-ltb at (length s) h, ← e)
  token_mark code.Star e n m = rw (lt-ltb at (length s) h, ← e)
  token_mark code.Plus e n m = rw (lt-ltb at (length s) h, ← e)
  token_mark code.Other e n m = rw (lt-ltb at (length s) h, ← e)
