-- Document 01, "The pattern text": the grammar is unambiguous. A text of the grammar has one pattern and asks for one set of
-- verdicts: a builder that goes through the tokens from the left ends with the pattern of every derivation.
-- Assumes nothing.
use Rattle.std.specs.Prelude.{ℕ, suc, ◌≡◌, ◌⊎◌, Bool, true, false, cond, List, [], ◌∷◌, ◌++◌, drop, eqb}
use Rattle.std.proofs.Math.Path.{refl, ap}
use Rattle.std.proofs.Common.{sym, ◌∙◌, inl, inr}
use Rattle.document.specs.Classes.{opening, closing, epsilon_word}
use Rattle.document.specs.Classes as byte
use Rattle.document.specs.Lists.{equal, place_of}
use Rattle.document.specs.Patterns.{Pattern, epsilon, name, alternative, sequence, star, plus}
use Rattle.document.specs.Tokens.{Token, word, mark, ask, no_token}
use Rattle.document.specs.Grammar.{Kind, alternatives, sequences, repetitions, atoms, Reads, one_sequence, either, one_repetition, beside, one_atom, starred, plussed, event, empty, grouped, Asks, just_match, just_fail, match-fail, fail-match, Whole}
use Rattle.basics.specs.Tests.{decided, equal_same}
use Rattle.grammar.specs.Automaton.{whole_asked}

-- what one level of parentheses holds so far: nothing in the sequence that is begun, or a last repetition in it. The first
-- function says what the alternatives before make of the rest, the second what the repetitions before make of it.
pub data Part : Type 0 where
  begun : (Pattern → Pattern) → Part
  built : (Pattern → Pattern) → (Pattern → Pattern) → Pattern → Part

abbrev alternatives_of : Part → Pattern → Pattern
alternatives_of (begun A) q = A q
alternatives_of (built A S p) q = A q

abbrev repetitions_of : Part → Pattern → Pattern
repetitions_of (begun A) q = q
repetitions_of (built A S p) q = S (sequence p q)

abbrev push : Pattern → Part → Part
push r part = built (alternatives_of part) (repetitions_of part) r

abbrev on_last : (Pattern → Pattern) → Part → Part
on_last f (begun A) = begun A
on_last f (built A S p) = built A S (f p)

abbrev barred : Part → Part
barred (begun A) = begun A
barred (built A S p) = begun (λ q. A (alternative (S p) q))

abbrev value_of : Part → Pattern
value_of (begun A) = epsilon
value_of (built A S p) = A (S p)

-- the open levels, the innermost first, and how many event names there were
record Desk : Type 0 where
  pub parts : List Part
  pub names : ℕ

abbrev clear : Desk
clear = record { parts = begun (λ q. q) ∷ []; names = 0 }

abbrev at_top : (Part → Part) → List Part → List Part
at_top f [] = []
at_top f (p ∷ ps) = f p ∷ ps

abbrev close_top : List Part → List Part
close_top [] = []
close_top (p ∷ []) = p ∷ []
close_top (p ∷ q ∷ ps) = push (value_of p) q ∷ ps

abbrev top_of : List Part → Pattern
top_of [] = epsilon
top_of (p ∷ ps) = value_of p

module _ (declared : List (List ℕ)) where
  abbrev on_word : Bool → List ℕ → Desk → Desk
  on_word true w d = record { parts = at_top (push epsilon) d.parts; names = d.names }
  on_word false w d = record { parts = at_top (push (name (suc d.names) (place_of w declared))) d.parts; names = suc d.names }

  abbrev on_mark : ℕ → List Part → List Part
  on_mark c ps =
      cond (eqb c opening) (begun (λ q. q) ∷ ps)
      (cond (eqb c closing) (close_top ps)
      (cond (eqb c byte.bar) (at_top barred ps)
      (cond (eqb c byte.star) (at_top (on_last star) ps)
      (cond (eqb c byte.plus) (at_top (on_last plus) ps) ps))))

  abbrev on_token : Desk → Token → Desk
  on_token d (word w) = on_word (equal w epsilon_word) w d
  on_token d (mark c) = record { parts = on_mark c d.parts; names = d.names }
  on_token d (ask v) = d
  on_token d no_token = d

  abbrev build : Desk → List Token → Desk
  build d [] = d
  build d (t ∷ ts) = build (on_token d t) ts

  build_append : (d : Desk) (ts us : List Token) → build d (ts ++ us) ≡ build (build d ts) us
  build_append d [] us = refl
  build_append d (t ∷ ts) us = build_append (on_token d t) ts us

  -- what a phrase makes of the level that it stands in
  record Sequenced (part : Part) (r : Pattern) (end : Part) : Type 0 where
    pub before : Pattern → Pattern
    pub last : Pattern
    pub is : end ≡ built (alternatives_of part) before last
    pub value : before last ≡ repetitions_of part r

  abbrev Builds : Kind → Part → Pattern → Part → Type 0
  Builds alternatives (begun A) r end = value_of end ≡ A r
  Builds alternatives (built A S p) r end = Unit {0}
  Builds sequences part r end = Sequenced part r end
  Builds repetitions part r end = end ≡ push r part
  Builds atoms part r end = end ≡ push r part

  record Phrased (k : Kind) (lo hi : ℕ) (ts : List Token) (r : Pattern) (part : Part) (ps : List Part) : Type 0 where
    pub end : Part
    pub is : build (record { parts = part ∷ ps; names = lo }) ts ≡ record { parts = end ∷ ps; names = hi }
    pub builds : Builds k part r end

  one_sequence_builds : (part : Part) (r : Pattern) (end : Part) → Sequenced part r end → Builds alternatives part r end
  one_sequence_builds (begun A) r end h = ap value_of h.is ∙ ap A h.value
  one_sequence_builds (built A S p) r end h = tt

  either_builds : (part : Part) (a b : Pattern) (mid end : Part) (h : Sequenced part a mid)
      → Builds alternatives (begun (λ q. alternatives_of part (alternative (h.before h.last) q))) b end → Builds alternatives part (alternative a b) end
  either_builds (begun A) a b mid end h g = g ∙ ap (λ x. A (alternative x b)) h.value
  either_builds (built A S p) a b mid end h g = tt

  build-event : (lo : ℕ) (w : List ℕ) (part : Part) (ps : List Part) → (w ≡ epsilon_word → ⊥)
      → on_token (record { parts = part ∷ ps; names = lo }) (word w) ≡ record { parts = push (name (suc lo) (place_of w declared)) part ∷ ps; names = suc lo }
  build-event lo w part ps n = go (decided (equal w epsilon_word))
    where
      go : (equal w epsilon_word ≡ true) ⊎ (equal w epsilon_word ≡ false)
          → on_token (record { parts = part ∷ ps; names = lo }) (word w) ≡ record { parts = push (name (suc lo) (place_of w declared)) part ∷ ps; names = suc lo }
      go (inl e) = absurd (n (equal_same w epsilon_word e))
      go (inr e) = rw e

  build_phrase : {k : Kind} {lo hi : ℕ} {ts : List Token} {r : Pattern} → Reads declared k lo hi ts r → (part : Part) (ps : List Part) → Phrased k lo hi ts r part ps
  unfolding equal
  build_phrase (one_sequence {r = r} p) part ps =
      let h = build_phrase p part ps in
      record { end = h.end; is = h.is; builds = one_sequence_builds part r h.end h.builds }
  build_phrase {lo = lo} (either {mid = mid} {ts = ts} {us = us} {a = a} {b = b} p q) part ps =
      let h = build_phrase p part ps in
      let s : Sequenced part a h.end = h.builds in
      let g = build_phrase q (begun (λ x. alternatives_of part (alternative (s.before s.last) x))) ps in
      record {
        end = g.end;
        is = build_append (record { parts = part ∷ ps; names = lo }) ts (mark byte.bar ∷ us) ∙ ap (λ d. build d (mark byte.bar ∷ us)) h.is
            ∙ ap (λ e. build (record { parts = barred e ∷ ps; names = mid }) us) s.is ∙ g.is;
        builds = either_builds part a b h.end g.end s g.builds;
      }
  build_phrase (one_repetition {r = r} p) part ps =
      let h = build_phrase p part ps in
      record { end = h.end; is = h.is; builds = record { before = repetitions_of part; last = r; is = h.builds; value = refl } }
  build_phrase {lo = lo} (beside {mid = mid} {ts = ts} {us = us} {a = a} p q) part ps =
      let h = build_phrase p part ps in
      let e : h.end ≡ push a part = h.builds in
      let g = build_phrase q (push a part) ps in
      record {
        end = g.end;
        is = build_append (record { parts = part ∷ ps; names = lo }) ts us ∙ ap (λ d. build d us) h.is
            ∙ ap (λ x. build (record { parts = x ∷ ps; names = mid }) us) e ∙ g.is;
        builds = record { before = g.builds.before; last = g.builds.last; is = g.builds.is; value = g.builds.value };
      }
  build_phrase (one_atom p) part ps =
      let h = build_phrase p part ps in
      record { end = h.end; is = h.is; builds = h.builds }
  build_phrase {lo = lo} {hi = hi} (starred {ts = ts} {r = r} p) part ps =
      let h = build_phrase p part ps in
      let e : h.end ≡ push r part = h.builds in
      record {
        end = push (star r) part;
        is = build_append (record { parts = part ∷ ps; names = lo }) ts (mark byte.star ∷ []) ∙ ap (λ d. build d (mark byte.star ∷ [])) h.is
            ∙ ap (λ x. record { parts = on_last star x ∷ ps; names = hi }) e;
        builds = refl;
      }
  build_phrase {lo = lo} {hi = hi} (plussed {ts = ts} {r = r} p) part ps =
      let h = build_phrase p part ps in
      let e : h.end ≡ push r part = h.builds in
      record {
        end = push (plus r) part;
        is = build_append (record { parts = part ∷ ps; names = lo }) ts (mark byte.plus ∷ []) ∙ ap (λ d. build d (mark byte.plus ∷ [])) h.is
            ∙ ap (λ x. record { parts = on_last plus x ∷ ps; names = hi }) e;
        builds = refl;
      }
  build_phrase (event {lo = lo} {w = w} n) part ps =
      record { end = push (name (suc lo) (place_of w declared)) part; is = build-event lo w part ps n; builds = refl }
  build_phrase (empty {lo = lo}) part ps = record { end = push epsilon part; is = refl; builds = refl }
  build_phrase {lo = lo} {hi = hi} (grouped {ts = ts} {r = r} p) part ps =
      let h = build_phrase p (begun (λ q. q)) (part ∷ ps) in
      let e : value_of h.end ≡ r = h.builds in
      record {
        end = push r part;
        is = build_append (record { parts = begun (λ q. q) ∷ part ∷ ps; names = lo }) ts (mark closing ∷ []) ∙ ap (λ d. build d (mark closing ∷ [])) h.is
            ∙ ap (λ x. record { parts = push x part ∷ ps; names = hi }) e;
        builds = refl;
      }

  build_asks : {us : List Token} {a : ℕ} (d : Desk) → Asks us a → build d us ≡ d
  build_asks d just_match = refl
  build_asks d just_fail = refl
  build_asks d match-fail = refl
  build_asks d fail-match = refl

  -- the pattern of a text, whatever its derivation
  abbrev pattern_of : List Token → Pattern
  pattern_of ts = top_of (build clear (drop 2 ts)).parts

  whole_pattern : {ts : List Token} {r : Pattern} {a : ℕ} → Whole declared ts r a → pattern_of ts ≡ r
  whole_pattern {r = r} h =
      let g = build_phrase h.reads (begun (λ q. q)) [] in
      let e : value_of g.end ≡ r = g.builds in
      ap pattern_of h.is
      ∙ ap (λ d. top_of d.parts) (build_append clear h.body h.asks ∙ build_asks (build clear h.body) h.wants ∙ g.is)
      ∙ e

  pub whole_single_pattern : {ts : List Token} {r s : Pattern} {a b : ℕ} → Whole declared ts r a → Whole declared ts s b → r ≡ s
  whole_single_pattern h g = sym (whole_pattern h) ∙ whole_pattern g

  pub whole_single_asked : {ts : List Token} {r s : Pattern} {a b : ℕ} → Whole declared ts r a → Whole declared ts s b → a ≡ b
  whole_single_asked h g = sym (whole_asked declared h) ∙ whole_asked declared g
