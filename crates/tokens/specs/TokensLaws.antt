-- From the token at a place to the list of tokens from there on: the readers go from token to token, blanks passed.
-- Assumes nothing.
use Rattle.std.specs.Prelude.{ℕ, zero, suc, ◌+◌, ◌-◌, ◌≤◌, ◌<◌, ◌≡◌, refl, Bool, true, false, ◌&&◌, List, [], ◌∷◌, length, get_or, drop, eqb, leb}
use Rattle.std.proofs.Common.{inl, inr, length-drop, drop-drop, get_or-drop, lit≤, arith}
use Rattle.document.specs.Lists.{take_while, starts_with}
use Rattle.document.specs.Classes.{class_of, is_blank, is_name_byte, letter, at_sign, opening, plus, match_word, fail_word}
use Rattle.document.specs.Declarations.{name_run}
use Rattle.document.specs.Tokens.{ask_token, token_at, lexemes_from}
use Rattle.basics.specs.Tests.{decided}
use Rattle.basics.specs.Lists.{run_within}
use Rattle.basics.specs.Left.{drop_here, drop-end}
use Rattle.tokens.specs.Lexing.{lexemes_at}
use Rattle.tokens.specs.Steps.{skip_to, Begins}

-- the bytes of a token are passed one by one
pass : (k at : ℕ) (t : List ℕ) → lexemes_from k at t ≡ lexemes_from 0 (at + k) (drop k t)
unfolding lexemes_from
pass zero at t = let e : at + 0 ≡ at = omega arith in rw e
pass (suc k) at [] = refl
pass (suc k) at (b ∷ t) = let e : at + suc k ≡ at + 1 + k = omega arith in rw e (pass k (at + 1) t)

pass_blanks : (at : ℕ) (t : List ℕ) → lexemes_from 0 at t ≡ lexemes_from 0 (at + length (take_while is_blank t)) (drop (length (take_while is_blank t)) t)
unfolding lexemes_from take_while
pass_blanks at [] = refl
pass_blanks at (b ∷ t) = elim (decided (is_blank b)) [
  | inl e ↦ let k : at + suc (length (take_while is_blank t)) ≡ at + 1 + length (take_while is_blank t) = omega arith in
      rw (e, lexemes_from, take_while, k) (pass_blanks (at + 1) t)
  | inr e ↦ let k : at + 0 ≡ at = omega arith in rw (e, take_while, k)
]

pub lexemes_skip : (s : List ℕ) (at : ℕ) → lexemes_at s at ≡ lexemes_at s (skip_to s at)
unfolding lexemes_at
lexemes_skip s at = rw (← drop-drop (length (take_while is_blank (drop at s))) at s) (pass_blanks at (drop at s))

pub lexemes-end : (s : List ℕ) (at : ℕ) → length s ≤ at → lexemes_at s at ≡ []
unfolding lexemes_at lexemes_from
lexemes-end s at h = rw (drop-end s at h)

-- a run stops at a byte that does not pass
run-stop : (p : ℕ → Bool) (t : List ℕ) → length (take_while p t) < length t → p (get_or t (length (take_while p t)) 0) ≡ false
unfolding take_while
run-stop p [] h = absurd (omega arith)
run-stop p (b ∷ t) h = elim (decided (p b)) [
  | inl e ↦
      let m : length (take_while p t) < length t = let g = rw (e, take_while) at h in omega arith in
      rw (e, take_while) (run-stop p t m)
  | inr e ↦ rw (e, take_while) e
]

-- after the blanks stands a token, or the text's end
pub skip_begins : (s : List ℕ) (at : ℕ) → at ≤ length s → Begins s (skip_to s at)
skip_begins s at h =
    let n = length (take_while is_blank (drop at s)) in
    let k : n ≤ length s - at = rw length-drop at (run_within is_blank (drop at s)) in
    record {
      inside = omega arith;
      plain = λ g. rw (← get_or-drop at s n 0) (run-stop is_blank (drop at s) (rw length-drop (omega arith)));
    }

-- A token takes a byte at least, and no more than there are ------------------------------------------------------------

starts_within : (w t : List ℕ) → starts_with w t ≡ true → length w ≤ length t
unfolding starts_with
starts_within [] t e = omega arith
starts_within (x ∷ w) [] e = let z : ◌≡◌ {A = ℕ} 0 1 = cc in absurd (omega arith)
starts_within (x ∷ w) (y ∷ t) e = let k = starts_within w t (go (eqb x y) e) in omega arith
  where
    go : (b : Bool) → (b && starts_with w t) ≡ true → starts_with w t ≡ true
    go true q = q
    go false q = let z : ◌≡◌ {A = ℕ} 0 1 = cc in absurd (omega arith)

run_first : (p : ℕ → Bool) (b : ℕ) (t : List ℕ) → p b ≡ true → length (take_while p (b ∷ t)) ≡ suc (length (take_while p t))
unfolding take_while
run_first p b t e = rw (e, take_while)

name_size : (b : ℕ) (t : List ℕ) → is_name_byte b ≡ true
    → (1 ≤ length (take_while is_name_byte (b ∷ t))) × (length (take_while is_name_byte (b ∷ t)) ≤ suc (length t))
name_size b t e = rw (run_first is_name_byte b t e) (let k = run_within is_name_byte t in (omega arith, omega arith))

ask_size : (t : List ℕ) → (1 ≤ (ask_token t).size) × ((ask_token t).size ≤ suc (length t))
unfolding ask_token
ask_size t = elim (decided (starts_with match_word t)) [
  | inl m ↦ rw m (let k = starts_within match_word t m in (lit≤ tt, omega arith))
  | inr m ↦ rw m (elim (decided (starts_with fail_word t)) [
    | inl f ↦ rw f (let k = starts_within fail_word t f in (lit≤ tt, omega arith))
    | inr f ↦ rw f (lit≤ tt, omega arith)
  ])
]

pub token_size : (b : ℕ) (t : List ℕ) → (1 ≤ (token_at b t).size) × ((token_at b t).size ≤ suc (length t))
unfolding token_at name_run
token_size b t = elim (decided (eqb (class_of b) letter)) [
  | inl e ↦ let g = name_size b t (rw e) in rw e g
  | inr e ↦ rw e (elim (decided (eqb (class_of b) at_sign)) [
    | inl a ↦ rw a (ask_size t)
    | inr a ↦ rw a (elim (decided (leb opening (class_of b) && leb (class_of b) plus)) [
      | inl m ↦ rw m (lit≤ tt, omega arith)
      | inr m ↦ rw m (lit≤ tt, omega arith)
    ])
  ])
]

-- the token at a place, and the tokens after it
pub lexemes_token : (s : List ℕ) (at : ℕ) → Begins s at → at < length s
    → lexemes_at s at ≡ record { token = (token_at (get_or s at 0) (drop (at + 1) s)).token; at = at }
    ∷ lexemes_at s (at + (token_at (get_or s at 0) (drop (at + 1) s)).size)
unfolding lexemes_at lexemes_from
lexemes_token s at g h =
    let z = token_at (get_or s at 0) (drop (at + 1) s) in
    let p = token_size (get_or s at 0) (drop (at + 1) s) in
    let k : at + 1 + (z.size - 1) ≡ at + z.size = omega arith in
    rw (drop_here s at h, g.plain h, lexemes_from, pass (z.size - 1) (at + 1) (drop (at + 1) s), drop-drop (z.size - 1) (at + 1) s, k)
