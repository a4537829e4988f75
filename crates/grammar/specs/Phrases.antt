-- Document 01, "The pattern text": the beginnings of a pattern that can be completed, by what is still open at each level of
-- parentheses; and how each token that may follow leads from one beginning to the next.
-- Assumes nothing.
use Rattle.std.specs.Prelude.{ℕ, suc, ◌≡◌, refl, ◌⊎◌, true, false, List, [], ◌∷◌, ◌++◌}
use Rattle.std.proofs.Common.{sym, ap, subst, ◌∙◌, inl, inr, append_assoc}
use Rattle.document.specs.Classes.{opening, closing, epsilon_word}
use Rattle.document.specs.Classes as byte
use Rattle.document.specs.Lists.{equal, place_of}
use Rattle.document.specs.Patterns.{Pattern, epsilon, name, star, plus}
use Rattle.document.specs.Tokens.{Token, word, mark}
use Rattle.document.specs.Grammar.{Kind, alternatives, repetitions, atoms, Reads, one_sequence, either, one_repetition, beside, one_atom, starred, plussed, event, empty, grouped}
use Rattle.basics.specs.Tests.{decided, equal_same, equal_differs}

module _ (declared : List (List ℕ)) where
  -- ts is a phrase of the kind after lo event names, for some pattern
  pub record Phrase (k : Kind) (lo : ℕ) (ts : List Token) : Type 0 where
    pub hi : ℕ
    pub pattern : Pattern
    pub reads : Reads declared k lo hi ts pattern

  -- and so wherever it stands
  abbrev pub Anywhere : Kind → List Token → Type 0
  Anywhere k ts = (lo : ℕ) → Phrase k lo ts

  -- the tokens of one level before an alternative: with any alternative after them they are one
  pub record Level (ts : List Token) : Type 0 where
    pub fill : (us : List Token) → Anywhere alternatives us → Anywhere alternatives (ts ++ us)

  -- the levels that are open: the outermost first
  pub data Levels : ℕ → List Token → Type 0 where
    outermost : {ts : List Token} → Level ts → Levels 0 ts
    inner : {d : ℕ} {ts us : List Token} → Levels d ts → Level us → Levels (suc d) (ts ++ (mark opening ∷ us))

  -- a beginning that ends in a repetition
  pub record Repeated (d : ℕ) (ts : List Token) : Type 0 where
    pub context : List Token
    pub last : List Token
    pub is : ts ≡ context ++ last
    pub levels : Levels d context
    pub reads : Anywhere repetitions last

  -- phrases -------------------------------------------------------------------------------------------------------------
  repetition_alternative : {ts : List Token} → Anywhere repetitions ts → Anywhere alternatives ts
  repetition_alternative p lo = record { hi = (p lo).hi; pattern = (p lo).pattern; reads = one_sequence (one_repetition (p lo).reads) }

  besides : {lo mid hi : ℕ} {ts us : List Token} {a b : Pattern} → Reads declared repetitions lo mid ts a → Reads declared alternatives mid hi us b
      → Phrase alternatives lo (ts ++ us)
  besides p (one_sequence q) = record { hi = _; pattern = _; reads = one_sequence (beside p q) }
  besides {lo} {ts = ts} p (either {ts = u} {us = v} q s) =
      subst (Phrase alternatives lo) (append_assoc ts u (mark byte.bar ∷ v)) (record { hi = _; pattern = _; reads = either (beside p q) s })

  beside_alternative : {ts us : List Token} → Anywhere repetitions ts → Anywhere alternatives us → Anywhere alternatives (ts ++ us)
  beside_alternative p q lo = besides (p lo).reads (q (p lo).hi).reads

  bar_alternative : {ts us : List Token} → Anywhere repetitions ts → Anywhere alternatives us → Anywhere alternatives (ts ++ (mark byte.bar ∷ us))
  bar_alternative p q lo = record { hi = _; pattern = _; reads = either (one_repetition (p lo).reads) (q (p lo).hi).reads }

  pub name_atom : (w : List ℕ) → Anywhere atoms (word w ∷ [])
  name_atom w lo = go (decided (equal w epsilon_word))
    where
      go : (equal w epsilon_word ≡ true) ⊎ (equal w epsilon_word ≡ false) → Phrase atoms lo (word w ∷ [])
      go (inl e) = subst (λ u. Phrase atoms lo (word u ∷ [])) (sym (equal_same w epsilon_word e)) (record { hi = lo; pattern = epsilon; reads = empty })
      go (inr e) = record { hi = suc lo; pattern = name (suc lo) (place_of w declared); reads = event (equal_differs w epsilon_word e) }

  group_atom : {ts : List Token} → Anywhere alternatives ts → Anywhere atoms (mark opening ∷ (ts ++ (mark closing ∷ [])))
  group_atom p lo = record { hi = _; pattern = _; reads = grouped (p lo).reads }

  -- levels --------------------------------------------------------------------------------------------------------------
  level_begins : Level []
  level_begins = record { fill = λ us p. p }

  level_beside : {ts us : List Token} → Level ts → Anywhere repetitions us → Level (ts ++ us)
  level_beside {ts} {us} l p =
      record { fill = λ vs q. subst (Anywhere alternatives) (sym (append_assoc ts us vs)) (l.fill (us ++ vs) (beside_alternative p q)) }

  level_bar : {ts us : List Token} → Level ts → Anywhere repetitions us → Level (ts ++ (us ++ (mark byte.bar ∷ [])))
  level_bar {ts} {us} l p =
      record {
        fill = λ vs q. subst (Anywhere alternatives)
            (sym (append_assoc ts (us ++ (mark byte.bar ∷ [])) vs ∙ ap (λ x. ts ++ x) (append_assoc us (mark byte.bar ∷ []) vs)))
            (l.fill (us ++ (mark byte.bar ∷ vs)) (bar_alternative p q));
      }

  -- a change of the innermost level
  on_level : {d : ℕ} {ts : List Token} (us : List Token) → Levels d ts → ((vs : List Token) → Level vs → Level (vs ++ us)) → Levels d (ts ++ us)
  on_level us (outermost {ts = vs} l) f = outermost (f vs l)
  on_level us (inner {ts = ts} {us = vs} s l) f = subst (Levels _) (sym (append_assoc ts (mark opening ∷ vs) us)) (inner s (f vs l))

  -- tokens --------------------------------------------------------------------------------------------------------------
  pub levels_begin : Levels 0 []
  levels_begin = outermost level_begins

  pub repeated_beside : {d : ℕ} {ts : List Token} → Repeated d ts → Levels d ts
  repeated_beside h = subst (Levels _) (sym h.is) (on_level h.last h.levels (λ vs l. level_beside l h.reads))

  repeated_atom : {d : ℕ} {ts us : List Token} → Levels d ts → Anywhere atoms us → Repeated d (ts ++ us)
  repeated_atom {ts = ts} {us = us} s p =
      record { context = ts; last = us; is = refl; levels = s; reads = λ lo. record { hi = (p lo).hi; pattern = (p lo).pattern; reads = one_atom (p lo).reads } }

  pub levels_name : {d : ℕ} {ts : List Token} (w : List ℕ) → Levels d ts → Repeated d (ts ++ (word w ∷ []))
  levels_name w s = repeated_atom s (name_atom w)

  pub levels_opening : {d : ℕ} {ts : List Token} → Levels d ts → Levels (suc d) (ts ++ (mark opening ∷ []))
  levels_opening s = inner s level_begins

  pub repeated-bar : {d : ℕ} {ts : List Token} → Repeated d ts → Levels d (ts ++ (mark byte.bar ∷ []))
  repeated-bar h =
      subst (Levels _) (sym (ap (λ x. x ++ (mark byte.bar ∷ [])) h.is ∙ append_assoc h.context h.last (mark byte.bar ∷ [])))
      (on_level (h.last ++ (mark byte.bar ∷ [])) h.levels (λ vs l. level_bar l h.reads))

  -- a mark after the repetition makes a repetition
  marked-last : {d : ℕ} {ts : List Token} (t : Token) (h : Repeated d ts) → Anywhere repetitions (h.last ++ (t ∷ [])) → Repeated d (ts ++ (t ∷ []))
  marked-last t h p =
      record {
        context = h.context;
        last = h.last ++ (t ∷ []);
        is = ap (λ x. x ++ (t ∷ [])) h.is ∙ append_assoc h.context h.last (t ∷ []);
        levels = h.levels;
        reads = p;
      }

  pub repeated-star : {d : ℕ} {ts : List Token} → Repeated d ts → Repeated d (ts ++ (mark byte.star ∷ []))
  repeated-star h =
      marked-last (mark byte.star) h (λ lo. record { hi = (h.reads lo).hi; pattern = star (h.reads lo).pattern; reads = starred (h.reads lo).reads })

  pub repeated-plus : {d : ℕ} {ts : List Token} → Repeated d ts → Repeated d (ts ++ (mark byte.plus ∷ []))
  repeated-plus h =
      marked-last (mark byte.plus) h (λ lo. record { hi = (h.reads lo).hi; pattern = plus (h.reads lo).pattern; reads = plussed (h.reads lo).reads })

  pub repeated-closing : {d : ℕ} {ts : List Token} → Repeated (suc d) ts → Repeated d (ts ++ (mark closing ∷ []))
  repeated-closing {d} {ts} h = go h.levels h.is
    where
      go : {context : List Token} → Levels (suc d) context → ts ≡ context ++ h.last → Repeated d (ts ++ (mark closing ∷ []))
      go (inner {ts = u} {us = v} s l) e =
          subst (Repeated d)
          (sym (ap (λ x. x ++ (mark closing ∷ [])) (e ∙ append_assoc u (mark opening ∷ v) h.last)
          ∙ append_assoc u (mark opening ∷ (v ++ h.last)) (mark closing ∷ [])))
          (repeated_atom s (group_atom (l.fill h.last (repetition_alternative h.reads))))

  -- outside all parentheses it is a whole pattern
  pub repeated-whole : {ts : List Token} → Repeated 0 ts → Anywhere alternatives ts
  repeated-whole {ts} h = go h.levels h.is
    where
      go : {context : List Token} → Levels 0 context → ts ≡ context ++ h.last → Anywhere alternatives ts
      go (outermost l) e = subst (Anywhere alternatives) (sym e) (l.fill h.last (repetition_alternative h.reads))
