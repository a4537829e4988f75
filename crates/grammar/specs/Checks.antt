-- Document 01, "at one offset 6 before 7 before 8 before 9": what the judge finds at one token is the fault that comes first
-- there, and it finds none only where there is none.
-- Assumes nothing.
use Rattle.std.specs.Prelude.{ℕ, ◌≤◌, ◌<◌, ◌≡◌, refl, ◌⊎◌, true, false, List, length, eqb, ltb}
use Rattle.std.proofs.Common.{arith, sym, ap, ◌∙◌, inl, inr, eqb-true, ltb-true, ltb-false}
use Rattle.document.specs.Classes.{opening, epsilon_word}
use Rattle.document.specs.Limits.{most_names, most_open}
use Rattle.document.specs.Lists.{keep_if, equal, place_of}
use Rattle.document.specs.Refusals.{Refusal, notOfGrammar, number}
use Rattle.document.specs.Tokens.{Token, word, mark, ask, no_token}
use Rattle.document.specs.Grammar.{open_in}
use Rattle.basics.specs.Tests.{decided, not_both, equal_same, equal_differs}
use Rattle.grammar.specs.Words.{in_place_lem, place_in}
use Rattle.grammar.specs.Sorts.{View, is_name_lem, is-opening, is-closing, is-bar, is-star, is-plus, is-match, is-fail, is-other, view}
use Rattle.grammar.specs.Automaton.{State, at_start, atColon, expecting, after, matchAsked, failAsked, bothAsked, stuck, step}
use Rattle.grammar.specs.Viable.{Inside, Viable}
use Rattle.grammar.specs.Judge.{Check, fine, faulty, name_check, token_check, limit_check}
use Rattle.grammar.specs.Here.{Here, here_dead, here_undeclared, here_names, here_deep, inside_long, inside_names, inside_open}

word_no_mark : {w : List ℕ} {c : ℕ} → word w ≡ mark c → ⊥
word_no_mark e = let z : ◌≡◌ {A = ℕ} 0 1 = cc in omega arith

module _ (declared : List (List ℕ)) where
  -- what is found at the token t is right
  abbrev pub Right : State → List Token → Token → Check → Type 0
  Right s ts t fine = (q : Refusal) → Here declared s ts t q → ⊥
  Right s ts t (faulty q) = Here declared s ts t q × ((p : Refusal) → Here declared s ts t p → number q ≤ number p)

  -- 6 comes first
  pub stuck_right : (s : State) (ts : List Token) (t : Token) → step s t ≡ stuck → Right s ts t (faulty notOfGrammar)
  stuck_right s ts t k = (here_dead k, go)
    where
      go : (p : Refusal) → Here declared s ts t p → 6 ≤ number p
      go p (here_dead a) = omega arith
      go p (here_undeclared a b c d) = omega arith
      go p (here_names a b c) = omega arith
      go p (here_deep a b) = omega arith

  -- a token that is no name and no mark
  ask_right : (s : State) (ts : List Token) (v : ℕ) → (step s (ask v) ≡ stuck → ⊥) → Right s ts (ask v) fine
  ask_right s ts v alive q (here_dead k) = alive k
  ask_right s ts v alive q (here_undeclared b p f g) = let z : ◌≡◌ {A = ℕ} 0 1 = cc in omega arith
  ask_right s ts v alive q (here_names b p f) = p
  ask_right s ts v alive q (here_deep p f) = let z : ◌≡◌ {A = ℕ} 0 1 = cc in omega arith

  none_right : (s : State) (ts : List Token) → (step s no_token ≡ stuck → ⊥) → Right s ts no_token fine
  none_right s ts alive q (here_dead k) = alive k
  none_right s ts alive q (here_undeclared b p f g) = let z : ◌≡◌ {A = ℕ} 0 1 = cc in omega arith
  none_right s ts alive q (here_names b p f) = p
  none_right s ts alive q (here_deep p f) = let z : ◌≡◌ {A = ℕ} 0 1 = cc in omega arith

  -- inside a pattern ----------------------------------------------------------------------------------------------------
  module _ {P : List Token → Type 0} {d n : ℕ} {ts : List Token} (s : State) (h : Inside P d n ts) where
    name_right : (w : List ℕ) → (step s (word w) ≡ stuck → ⊥) → Right s ts (word w) (name_check declared n w)
    name_right w alive = go (decided (equal w epsilon_word)) (decided (ltb (place_of w declared) (length declared))) (decided (ltb n most_names))
      where
        no_epsilon : equal w epsilon_word ≡ true → (q : Refusal) → Here declared s ts (word w) q → ⊥
        no_epsilon e q (here_dead k) = alive k
        no_epsilon e q (here_undeclared {w = u} b p f g) = let k : w ≡ u = cc in f (sym k ∙ equal_same w epsilon_word e)
        no_epsilon e q (here_names b p f) = rw e at p
        no_epsilon e q (here_deep p f) = word_no_mark p

        declared_few : place_of w declared < length declared → n < most_names → (q : Refusal) → Here declared s ts (word w) q → ⊥
        declared_few l m q (here_dead k) = alive k
        declared_few l m q (here_undeclared {w = u} b p f g) = let k : w ≡ u = cc in g (rw k at (place_in w declared l))
        declared_few l m q (here_names b p f) = let k = inside_names h in omega arith
        declared_few l m q (here_deep p f) = word_no_mark p

        declared_many : place_of w declared < length declared → (q : Refusal) → Here declared s ts (word w) q → 8 ≤ number q
        declared_many l q (here_dead k) = absurd (alive k)
        declared_many l q (here_undeclared {w = u} b p f g) = let k : w ≡ u = cc in absurd (g (rw k at (place_in w declared l)))
        declared_many l q (here_names b p f) = omega arith
        declared_many l q (here_deep p f) = omega arith

        undeclared_first : (q : Refusal) → Here declared s ts (word w) q → 7 ≤ number q
        undeclared_first q (here_dead k) = absurd (alive k)
        undeclared_first q (here_undeclared b p f g) = omega arith
        undeclared_first q (here_names b p f) = omega arith
        undeclared_first q (here_deep p f) = omega arith

        go : (equal w epsilon_word ≡ true) ⊎ (equal w epsilon_word ≡ false)
            → (ltb (place_of w declared) (length declared) ≡ true) ⊎ (ltb (place_of w declared) (length declared) ≡ false)
            → (ltb n most_names ≡ true) ⊎ (ltb n most_names ≡ false) → Right s ts (word w) (name_check declared n w)
        go (inl e) f g = rw e (no_epsilon e)
        go (inr e) (inl f) (inl g) = rw (e, f, g) (declared_few (ltb-true _ _ f) (ltb-true _ _ g))
        go (inr e) (inl f) (inr g) =
            let k = inside_names h in
            let m = ltb-false n most_names g in
            rw (e, f, g) ((here_names (inside_long h) (rw e tt) (omega arith), declared_many (ltb-true _ _ f)))
        go (inr e) (inr f) g =
            rw (e, f) ((
              here_undeclared (inside_long h) refl (equal_differs w epsilon_word e)
                  (λ i. let a = in_place_lem w declared i in let b = ltb-false (place_of w declared) (length declared) f in omega arith),
              undeclared_first,
            ))

    mark_right : (c : ℕ) → (step s (mark c) ≡ stuck → ⊥) → Right s ts (mark c) (token_check declared d n (mark c))
    mark_right c alive = go (decided (eqb c opening)) (decided (ltb d most_open))
      where
        few : d < most_open → (q : Refusal) → Here declared s ts (mark c) q → ⊥
        few l q (here_dead k) = alive k
        few l q (here_undeclared b p f g) = word_no_mark (sym p)
        few l q (here_names b p f) = p
        few l q (here_deep p f) = let k = inside_open h in omega arith

        no_opening : eqb c opening ≡ false → (q : Refusal) → Here declared s ts (mark c) q → ⊥
        no_opening e q (here_dead k) = alive k
        no_opening e q (here_undeclared b p f g) = word_no_mark (sym p)
        no_opening e q (here_names b p f) = p
        no_opening e q (here_deep p f) = let k : c ≡ 4 = cc in not_both (eqb c opening) (rw k) e

        deep_first : (q : Refusal) → Here declared s ts (mark c) q → 9 ≤ number q
        deep_first q (here_dead k) = absurd (alive k)
        deep_first q (here_undeclared b p f g) = absurd (word_no_mark (sym p))
        deep_first q (here_names b p f) = absurd p
        deep_first q (here_deep p f) = omega arith

        go : (eqb c opening ≡ true) ⊎ (eqb c opening ≡ false) → (ltb d most_open ≡ true) ⊎ (ltb d most_open ≡ false)
            → Right s ts (mark c) (token_check declared d n (mark c))
        go (inl e) (inl f) = rw (e, f) (few (ltb-true _ _ f))
        go (inl e) (inr f) =
            let k = inside_open h in
            let m = ltb-false d most_open f in
            rw (e, f) ((here_deep (ap mark (eqb-true c opening e)) (omega arith), deep_first))
        go (inr e) f = rw e (no_opening e)

    token_right : (t : Token) → (step s t ≡ stuck → ⊥) → Right s ts t (token_check declared d n t)
    token_right (word w) alive = name_right w alive
    token_right (mark c) alive = mark_right c alive
    token_right (ask v) alive = ask_right s ts v alive
    token_right no_token alive = none_right s ts alive

  -- outside a pattern no limit counts -----------------------------------------------------------------------------------
  short_right : (s : State) (ts : List Token) (t : Token) → length ts < 2 → open_in ts ≡ 0 → (step s t ≡ stuck → ⊥) → Right s ts t fine
  short_right s ts t l o alive q (here_dead k) = alive k
  short_right s ts t l o alive q (here_undeclared b p f g) = omega arith
  short_right s ts t l o alive q (here_names b p f) = omega arith
  short_right s ts t l o alive q (here_deep p f) = omega arith

  match_right : (ts : List Token) {t : Token} → View t → (step matchAsked t ≡ stuck → ⊥) → Right matchAsked ts t fine
  match_right ts (is_name_lem w) alive = absurd (alive refl)
  match_right ts is-opening alive = absurd (alive refl)
  match_right ts is-closing alive = absurd (alive refl)
  match_right ts is-bar alive = absurd (alive refl)
  match_right ts is-star alive = absurd (alive refl)
  match_right ts is-plus alive = absurd (alive refl)
  match_right ts is-match alive = absurd (alive refl)
  match_right ts is-fail alive = ask_right matchAsked ts 2 alive
  match_right ts (is-other o) alive = absurd (alive (rw o.sort))

  fail_right : (ts : List Token) {t : Token} → View t → (step failAsked t ≡ stuck → ⊥) → Right failAsked ts t fine
  fail_right ts (is_name_lem w) alive = absurd (alive refl)
  fail_right ts is-opening alive = absurd (alive refl)
  fail_right ts is-closing alive = absurd (alive refl)
  fail_right ts is-bar alive = absurd (alive refl)
  fail_right ts is-star alive = absurd (alive refl)
  fail_right ts is-plus alive = absurd (alive refl)
  fail_right ts is-match alive = ask_right failAsked ts 1 alive
  fail_right ts is-fail alive = absurd (alive refl)
  fail_right ts (is-other o) alive = absurd (alive (rw o.sort))

  -- while the machine goes on, the limits alone decide
  pub limit_right : (s : State) (n : ℕ) (ts : List Token) (t : Token) → Viable declared s n ts → (step s t ≡ stuck → ⊥)
      → Right s ts t (limit_check declared s n t)
  unfolding open_in keep_if
  limit_right at_start n ts t h alive = short_right at_start ts t (rw h (omega arith)) (rw h) alive
  limit_right atColon n ts t h alive = short_right atColon ts t (rw h (omega arith)) (rw h) alive
  limit_right (expecting d) n ts t h alive = token_right (expecting d) h t alive
  limit_right (after d) n ts t h alive = token_right (after d) h t alive
  limit_right matchAsked n ts t h alive = match_right ts (view t) alive
  limit_right failAsked n ts t h alive = fail_right ts (view t) alive
  limit_right bothAsked n ts t h alive = absurd (alive refl)
  limit_right stuck n ts t h alive = absurd (alive refl)
