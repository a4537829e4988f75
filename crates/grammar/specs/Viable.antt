-- Document 01, "The pattern text": what is known of the tokens so far in each state of the machine, and that each token more
-- carries it on; with it go the counts of event names and of open parentheses.
-- Assumes nothing.
use Rattle.std.specs.Prelude.{ℕ, zero, suc, ◌+◌, ◌≡◌, ◌⊎◌, Bool, true, false, cond, List, [], ◌∷◌, ◌++◌, length, eqb}
use Rattle.std.proofs.Common.{arith, ap, ◌∙◌, inl, inr, append_assoc}
use Rattle.std.proofs.Math.Path.{refl}
use borrow.Author.Tests.{eqb-true}
use Rattle.document.specs.Classes.{opening, closing, colon, ere_word}
use Rattle.document.specs.Classes as byte
use Rattle.document.specs.Lists.{keep_if, cons_if, equal}
use Rattle.document.specs.Patterns.{Pattern}
use Rattle.document.specs.Tokens.{Token, word, mark, ask, no_token, is_mark_of, is_word_of}
use Rattle.document.specs.Grammar.{alternatives, Reads, is_event_name}
use Rattle.basics.specs.Tests.{decided, equal_same}
use Rattle.grammar.specs.Sorts.{sort_of, View, is_name_lem, is-opening, is-closing, is-bar, is-star, is-plus, is-match, is-fail, is-other, view}
use Rattle.grammar.specs.Automaton.{State, at_start, atColon, expecting, after, matchAsked, failAsked, bothAsked, stuck, from_expecting, from_after, from_match_asked, from_fail_asked, step}
use Rattle.grammar.specs.Phrases.{Levels, Repeated, levels_begin, repeated_beside, levels_name, levels_opening, repeated-bar, repeated-star, repeated-plus, repeated-closing, repeated-whole}

-- how many of the tokens pass the test
abbrev pub many : (Token → Bool) → List Token → ℕ
many p ts = length (keep_if p ts)

-- the event names after one token more: "past `ere` and `:`"
abbrev pub counted : State → ℕ → Token → ℕ
counted at_start n t = 0
counted atColon n t = 0
counted (expecting d) n t = cond (is_event_name t) (suc n) n
counted (after d) n t = cond (is_event_name t) (suc n) n
counted matchAsked n t = n
counted failAsked n t = n
counted bothAsked n t = n
counted stuck n t = n

many_snoc : (p : Token → Bool) (ts : List Token) (t : Token) → many p (ts ++ (t ∷ [])) ≡ many p ts + cond (p t) 1 0
unfolding keep_if
many_snoc p [] t = go (p t)
  where
    go : (b : Bool) → length (cons_if b t []) ≡ 0 + cond b 1 0
    go true = refl
    go false = refl
many_snoc p (u ∷ ts) t = go (p u) (many_snoc p ts t)
  where
    go : (b : Bool) → many p (ts ++ (t ∷ [])) ≡ many p ts + cond (p t) 1 0
        → length (cons_if b u (keep_if p (ts ++ (t ∷ [])))) ≡ length (cons_if b u (keep_if p ts)) + cond (p t) 1 0
    go true h = omega arith
    go false h = h

-- the tokens are those before a pattern and a beginning of it, of which P holds; n names, d parentheses open
pub record Inside (P : List Token → Type 0) (d n : ℕ) (ts : List Token) : Type 0 where
  pub body : List Token
  pub is : ts ≡ word ere_word ∷ mark colon ∷ body
  pub ready : P body
  pub names : n ≡ many is_event_name body
  pub opened : many (is_mark_of opening) body ≡ many (is_mark_of closing) body + d

inside_next : {P Q : List Token → Type 0} {d e n : ℕ} {ts : List Token} (t : Token) → Inside P d n ts
    → ((us : List Token) → P us → Q (us ++ (t ∷ []))) → cond (is_mark_of opening t) 1 0 + d ≡ cond (is_mark_of closing t) 1 0 + e
    → Inside Q e (cond (is_event_name t) (suc n) n) (ts ++ (t ∷ []))
inside_next {n = n} t h f o =
    let names' = many_snoc is_event_name h.body t in
    let opening' = many_snoc (is_mark_of opening) h.body t in
    let closing' = many_snoc (is_mark_of closing) h.body t in
    let opened' = h.opened in
    record {
      body = h.body ++ (t ∷ []);
      is = ap (λ x. x ++ (t ∷ [])) h.is;
      ready = f h.body h.ready;
      names = go (is_event_name t) h.names names';
      opened = omega arith;
    }
  where
    go : {m k : ℕ} (b : Bool) → n ≡ m → k ≡ m + cond b 1 0 → cond b (suc n) n ≡ k
    go true p q = omega arith
    go false p q = omega arith

module _ (declared : List (List ℕ)) where
  -- the tokens are a whole pattern with what stands before it, and the tokens us that ask for verdicts
  pub record Asked (us ts : List Token) : Type 0 where
    pub body : List Token
    pub names : ℕ
    pub pattern : Pattern
    pub is : ts ≡ word ere_word ∷ mark colon ∷ (body ++ us)
    pub reads : Reads declared alternatives 0 names body pattern

  abbrev pub Viable : State → ℕ → List Token → Type 0
  Viable at_start n ts = ts ≡ []
  Viable atColon n ts = ts ≡ word ere_word ∷ []
  Viable (expecting d) n ts = Inside (Levels declared d) d n ts
  Viable (after d) n ts = Inside (Repeated declared d) d n ts
  Viable matchAsked n ts = Asked (ask 1 ∷ []) ts
  Viable failAsked n ts = Asked (ask 2 ∷ []) ts
  Viable bothAsked n ts = Asked (ask 1 ∷ ask 2 ∷ []) ts ⊎ Asked (ask 2 ∷ ask 1 ∷ []) ts
  Viable stuck n ts = Unit {0}

  pub asked_first : {n : ℕ} {ts : List Token} (t : Token) → Inside (Repeated declared 0) 0 n ts → Asked (t ∷ []) (ts ++ (t ∷ []))
  asked_first t h =
      record {
        body = h.body;
        names = (repeated-whole declared h.ready 0).hi;
        pattern = (repeated-whole declared h.ready 0).pattern;
        is = ap (λ x. x ++ (t ∷ [])) h.is;
        reads = (repeated-whole declared h.ready 0).reads;
      }

  asked_next : {us ts : List Token} (t : Token) → Asked us ts → Asked (us ++ (t ∷ [])) (ts ++ (t ∷ []))
  asked_next {us} t h =
      record {
        body = h.body;
        names = h.names;
        pattern = h.pattern;
        is = ap (λ x. x ++ (t ∷ [])) h.is ∙ ap (λ x. word ere_word ∷ mark colon ∷ x) (append_assoc h.body us (t ∷ []));
        reads = h.reads;
      }

  pub from_expecting_lem : (d n : ℕ) (ts : List Token) {t : Token} → View t → Inside (Levels declared d) d n ts
      → Viable (from_expecting d (sort_of t)) (cond (is_event_name t) (suc n) n) (ts ++ (t ∷ []))
  from_expecting_lem d n ts (is_name_lem w) h = inside_next (word w) h (λ us s. levels_name declared w s) refl
  from_expecting_lem d n ts is-opening h = inside_next (mark opening) h (λ us s. levels_opening declared s) (omega arith)
  from_expecting_lem d n ts is-closing h = tt
  from_expecting_lem d n ts is-bar h = tt
  from_expecting_lem d n ts is-star h = tt
  from_expecting_lem d n ts is-plus h = tt
  from_expecting_lem d n ts is-match h = tt
  from_expecting_lem d n ts is-fail h = tt
  from_expecting_lem d n ts (is-other o) h = rw o.sort tt

  pub from-after : (d n : ℕ) (ts : List Token) {t : Token} → View t → Inside (Repeated declared d) d n ts
      → Viable (from_after d (sort_of t)) (cond (is_event_name t) (suc n) n) (ts ++ (t ∷ []))
  from-after d n ts (is_name_lem w) h = inside_next (word w) h (λ us s. levels_name declared w (repeated_beside declared s)) refl
  from-after d n ts is-opening h = inside_next (mark opening) h (λ us s. levels_opening declared (repeated_beside declared s)) (omega arith)
  from-after zero n ts is-closing h = tt
  from-after (suc d) n ts is-closing h = inside_next (mark closing) h (λ us s. repeated-closing declared s) (omega arith)
  from-after d n ts is-bar h = inside_next (mark byte.bar) h (λ us s. repeated-bar declared s) refl
  from-after d n ts is-star h = inside_next (mark byte.star) h (λ us s. repeated-star declared s) refl
  from-after d n ts is-plus h = inside_next (mark byte.plus) h (λ us s. repeated-plus declared s) refl
  from-after zero n ts is-match h = asked_first (ask 1) h
  from-after (suc d) n ts is-match h = tt
  from-after zero n ts is-fail h = asked_first (ask 2) h
  from-after (suc d) n ts is-fail h = tt
  from-after d n ts (is-other o) h = rw o.sort tt

  from-match : (n : ℕ) (ts : List Token) {t : Token} → View t → Asked (ask 1 ∷ []) ts → Viable (from_match_asked (sort_of t)) n (ts ++ (t ∷ []))
  from-match n ts (is_name_lem w) h = tt
  from-match n ts is-opening h = tt
  from-match n ts is-closing h = tt
  from-match n ts is-bar h = tt
  from-match n ts is-star h = tt
  from-match n ts is-plus h = tt
  from-match n ts is-match h = tt
  from-match n ts is-fail h = inl (asked_next (ask 2) h)
  from-match n ts (is-other o) h = rw o.sort tt

  from-fail : (n : ℕ) (ts : List Token) {t : Token} → View t → Asked (ask 2 ∷ []) ts → Viable (from_fail_asked (sort_of t)) n (ts ++ (t ∷ []))
  from-fail n ts (is_name_lem w) h = tt
  from-fail n ts is-opening h = tt
  from-fail n ts is-closing h = tt
  from-fail n ts is-bar h = tt
  from-fail n ts is-star h = tt
  from-fail n ts is-plus h = tt
  from-fail n ts is-match h = inr (asked_next (ask 1) h)
  from-fail n ts is-fail h = tt
  from-fail n ts (is-other o) h = rw o.sort tt

  pub from_start : (ts : List Token) (t : Token) → ts ≡ [] → Viable (cond (is_word_of ere_word t) atColon stuck) 0 (ts ++ (t ∷ []))
  from_start ts (word w) h = go (decided (equal w ere_word))
    where
      go : (equal w ere_word ≡ true) ⊎ (equal w ere_word ≡ false) → Viable (cond (equal w ere_word) atColon stuck) 0 (ts ++ (word w ∷ []))
      go (inl e) = rw e (rw (h, equal_same w ere_word e))
      go (inr e) = rw e tt
  from_start ts (mark c) h = tt
  from_start ts (ask v) h = tt
  from_start ts no_token h = tt

  pub from-colon : (ts : List Token) (t : Token) → ts ≡ word ere_word ∷ [] → Viable (cond (is_mark_of colon t) (expecting 0) stuck) 0 (ts ++ (t ∷ []))
  unfolding keep_if
  from-colon ts (mark c) h = go (decided (eqb c colon))
    where
      go : (eqb c colon ≡ true) ⊎ (eqb c colon ≡ false) → Viable (cond (eqb c colon) (expecting 0) stuck) 0 (ts ++ (mark c ∷ []))
      go (inl e) = rw e (record { body = []; is = rw (h, eqb-true c colon e); ready = levels_begin declared; names = refl; opened = refl })
      go (inr e) = rw e tt
  from-colon ts (word w) h = tt
  from-colon ts (ask v) h = tt
  from-colon ts no_token h = tt

  -- one token more
  pub viable_next : (s : State) (n : ℕ) (ts : List Token) (t : Token) → Viable s n ts → Viable (step s t) (counted s n t) (ts ++ (t ∷ []))
  viable_next at_start n ts t h = from_start ts t h
  viable_next atColon n ts t h = from-colon ts t h
  viable_next (expecting d) n ts t h = from_expecting_lem d n ts (view t) h
  viable_next (after d) n ts t h = from-after d n ts (view t) h
  viable_next matchAsked n ts t h = from-match n ts (view t) h
  viable_next failAsked n ts t h = from-fail n ts (view t) h
  viable_next bothAsked n ts t h = tt
  viable_next stuck n ts t h = tt
