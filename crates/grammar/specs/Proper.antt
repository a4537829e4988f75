-- Document 01, "`@match` and `@fail` are one token each": a token of a text that asks for a verdict asks for match or for fail.
-- Assumes nothing.
use Rattle.std.specs.Prelude.{ℕ, zero, suc, ◌+◌, ◌-◌, ◌≡◌, refl, ◌⊎◌, Bool, true, false, cond, ◌&&◌, List, [], ◌∷◌, ◌++◌, eqb, leb}
use Rattle.std.proofs.Common.{arith, ap, inl, inr}
use Rattle.document.specs.Classes.{opening, plus, letter, at_sign, class_of, is_blank, match_word, fail_word}
use Rattle.document.specs.Lists.{starts_with}
use Rattle.document.specs.Tokens.{Token, word, mark, ask, no_token, Lexeme, Sized, ask_token, token_at, lexemes_from, lexemes}
use Rattle.document.specs.Reading.{ask_of}
use Rattle.basics.specs.Tests.{decided}
use Rattle.grammar.specs.Sorts.{sort_of, Other}

-- a token that asks for a verdict asks for match or for fail
abbrev pub Proper : Token → Type 0
Proper (word w) = Unit {0}
Proper (mark c) = Unit {0}
Proper (ask v) = (v ≡ 1) ⊎ (v ≡ 2)
Proper no_token = Unit {0}

abbrev pub AllProper : List Lexeme → Type 0
AllProper [] = Unit {0}
AllProper (x ∷ ls) = Proper x.token × AllProper ls

pub proper_right : (ks ls : List Lexeme) → AllProper (ks ++ ls) → AllProper ls
proper_right [] ls h = h
proper_right (x ∷ ks) ls h = proper_right ks ls h.1

proper_cond : (b : Bool) (x y : Sized) → Proper x.token → Proper y.token → Proper (cond b x y).token
proper_cond true x y p q = p
proper_cond false x y p q = q

token_proper : (b : ℕ) (t : List ℕ) → Proper (token_at b t).token
unfolding token_at ask_token
token_proper b t =
    proper_cond (eqb (class_of b) letter) _ _ tt
    (proper_cond (eqb (class_of b) at_sign) _ _
    (proper_cond (starts_with match_word t) _ _ (inl refl) (proper_cond (starts_with fail_word t) _ _ (inr refl) tt))
    (proper_cond (leb opening (class_of b) && leb (class_of b) plus) _ _ tt tt))

lexemes_from_proper : (left at : ℕ) (text : List ℕ) → AllProper (lexemes_from left at text)
unfolding lexemes_from
lexemes_from_proper zero at [] = tt
lexemes_from_proper (suc left) at [] = tt
lexemes_from_proper zero at (b ∷ t) = go (decided (is_blank b)) (lexemes_from_proper zero (at + 1) t) (lexemes_from_proper ((token_at b t).size - 1) (at + 1) t)
  where
    go : (is_blank b ≡ true) ⊎ (is_blank b ≡ false) → AllProper (lexemes_from zero (at + 1) t) → AllProper (lexemes_from ((token_at b t).size - 1) (at + 1) t)
        → AllProper (lexemes_from zero at (b ∷ t))
    go (inl e) h k = rw (e, lexemes_from) h
    go (inr e) h k = rw (e, lexemes_from) (token_proper b t, k)
lexemes_from_proper (suc left) at (b ∷ t) = lexemes_from_proper left (at + 1) t

pub lexemes_proper : (text : List ℕ) → AllProper (lexemes text)
unfolding lexemes
lexemes_proper text = lexemes_from_proper 0 0 text

-- another token asks for nothing
pub other_asks : (t : Token) → Proper t → Other t → ask_of t ≡ 0
other_asks (word w) p o = refl
other_asks (mark c) p o = refl
other_asks (ask v) (inl e) o = let z : ◌≡◌ {A = ℕ} 0 1 = cc (ap (λ x. sort_of (ask x)) e, o.sort) in absurd (omega arith)
other_asks (ask v) (inr e) o = let z : ◌≡◌ {A = ℕ} 0 1 = cc (ap (λ x. sort_of (ask x)) e, o.sort) in absurd (omega arith)
other_asks no_token p o = refl
