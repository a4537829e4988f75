-- Document 01, "Numbers of refusal", 8: a text of the grammar without "a 32nd event name in the pattern" has at most 31 event
-- names, so its pattern's numbers are 1 to 31.
-- Assumes nothing.
use Rattle.std.specs.Prelude.{ℕ, zero, suc, ◌+◌, ◌<◌, ◌≤◌, ◌≡◌, Bool, true, false, not, List, [], ◌∷◌, ◌++◌, length, get_or, take, T, ltb}
use Rattle.std.proofs.Common.{arith, ap, ap₂, ◌∙◌, ltb-true, ltb-false}
use Rattle.std.proofs.Math.Path.{refl}
use Rattle.document.specs.Lists.{cons_if, keep_if, equal}
use Rattle.document.specs.Limits.{most_names}
use Rattle.document.specs.Refusals.{Refusal, tooManyNames}
use Rattle.document.specs.Classes.{opening, closing, epsilon_word}
use Rattle.document.specs.Classes as byte
use Rattle.document.specs.Patterns.{Pattern}
use Rattle.document.specs.Tokens.{Token, word, mark, no_token}
use Rattle.document.specs.Grammar.{Kind, Reads, one_sequence, either, one_repetition, beside, one_atom, starred, plussed, event, empty, grouped, Asks, just_match, just_fail, match-fail, fail-match, Whole, is_event_name, names_in, Fault, one_too_many}
use Rattle.basics.specs.Tests.{equal_same}

-- ---- how many event names stand in a list of tokens
abbrev tally : Bool → ℕ
tally true = 1
tally false = 0

count : List Token → ℕ
count ts = length (keep_if is_event_name ts)

count_nil : count [] ≡ 0
unfolding count keep_if
count_nil = refl

count_cons : (x : Token) (ts : List Token) → count (x ∷ ts) ≡ tally (is_event_name x) + count ts
unfolding count keep_if
count_cons x ts = go (is_event_name x)
  where
    go : (t : Bool) → length (cons_if t x (keep_if is_event_name ts)) ≡ tally t + length (keep_if is_event_name ts)
    go true = omega arith
    go false = omega arith

count_append : (a b : List Token) → count (a ++ b) ≡ count a + count b
count_append [] b = let z = count_nil in omega arith
count_append (x ∷ a) b = let p = count_cons x (a ++ b) in let q = count_cons x a in let ih = count_append a b in omega arith

marked : (lo hi : ℕ) (ts : List Token) (c : ℕ) → hi ≡ lo + count ts → hi ≡ lo + count (ts ++ (mark c ∷ []))
marked lo hi ts c h = let p = count_append ts (mark c ∷ []) in let q = count_cons (mark c) [] in let z = count_nil in omega arith

word_count : (w : List ℕ) (t : Bool) → equal w epsilon_word ≡ t → count (word w ∷ []) ≡ tally (not t)
word_count w t e = count_cons (word w) [] ∙ ap₂ (λ (b : Bool) (n : ℕ). tally (not b) + n) e count_nil ∙ last (not t)
  where
    last : (u : Bool) → tally u + 0 ≡ tally u
    last u = omega arith

epsilon_count : count (word epsilon_word ∷ []) ≡ 0
unfolding equal
epsilon_count = word_count epsilon_word true refl

-- ---- a phrase has as many event names as its numbers say
module _ (declared : List (List ℕ)) where
  reads_count : {kind : Kind} {lo hi : ℕ} {ts : List Token} {r : Pattern} → Reads declared kind lo hi ts r → hi ≡ lo + count ts
  reads_count (one_sequence h) = reads_count h
  reads_count (either {ts = ts} {us = us} h k) =
      let a = reads_count h in
      let b = reads_count k in
      let p = count_append ts (mark byte.bar ∷ us) in
      let q = count_cons (mark byte.bar) us in
      omega arith
  reads_count (one_repetition h) = reads_count h
  reads_count (beside {ts = ts} {us = us} h k) =
      let a = reads_count h in
      let b = reads_count k in
      let p = count_append ts us in
      omega arith
  reads_count (one_atom h) = reads_count h
  reads_count (starred {lo = lo} {hi = hi} {ts = ts} h) = marked lo hi ts byte.star (reads_count h)
  reads_count (plussed {lo = lo} {hi = hi} {ts = ts} h) = marked lo hi ts byte.plus (reads_count h)
  reads_count (event {lo = lo} {w = w} h) = go (equal w epsilon_word) refl
    where
      go : (t : Bool) → equal w epsilon_word ≡ t → suc lo ≡ lo + count (word w ∷ [])
      go true e = absurd (h (equal_same w epsilon_word e))
      go false e = let z = word_count w false e in omega arith
  reads_count empty = let z = epsilon_count in omega arith
  reads_count (grouped {ts = ts} h) =
      let a = reads_count h in
      let p = count_cons (mark opening) (ts ++ (mark closing ∷ [])) in
      let q = count_append ts (mark closing ∷ []) in
      let r = count_cons (mark closing) [] in
      let z = count_nil in
      omega arith

  asks_count : {ts : List Token} {a : ℕ} → Asks ts a → count ts ≡ 0
  unfolding count keep_if
  asks_count just_match = refl
  asks_count just_fail = refl
  asks_count match-fail = refl
  asks_count fail-match = refl

-- ---- the event name after n others
record NameAfter (n : ℕ) (ts : List Token) : Type 0 where
  place : ℕ
  inside : place < length ts
  is : T (is_event_name (get_or ts place no_token))
  others : n ≤ count (take place ts)

name_after : (ts : List Token) (n : ℕ) → n < count ts → NameAfter n ts
name_after [] n h = let z = count_nil in absurd (omega arith)
name_after (x ∷ ts) n h = go (is_event_name x) refl n (rw (count_cons x ts) at h) (name_after ts)
  where
    later : (n k : ℕ) → n ≤ tally (is_event_name x) + k → NameAfter k ts → NameAfter n (x ∷ ts)
    later n k l g = record {
      place = suc g.place;
      inside = let i = g.inside in omega arith;
      is = g.is;
      others = rw (count_cons x (take g.place ts)) (let o = g.others in omega arith);
    }

    go : (t : Bool) → is_event_name x ≡ t → (n : ℕ) → n < tally (is_event_name x) + count ts → ((k : ℕ) → k < count ts → NameAfter k ts) → NameAfter n (x ∷ ts)
    go true e zero l ih = record { place = 0; inside = omega arith; is = rw e tt; others = omega arith }
    go true e (suc n) l ih =
        let z : tally (is_event_name x) ≡ 1 = ap tally e in
        later (suc n) n (omega arith) (ih n (omega arith))
    go false e n l ih =
        let z : tally (is_event_name x) ≡ 0 = ap tally e in
        later n n (omega arith) (ih n (omega arith))

-- no 32nd event name
pub names_few : (declared : List (List ℕ)) (ts : List Token) (r : Pattern) (a : ℕ) (x : Whole declared ts r a)
    → ((i : ℕ) (q : Refusal) → Fault declared ts i q → ⊥) → x.names ≤ most_names
unfolding names_in count
names_few declared ts r a x faultless = go (ltb most_names x.names) refl
  where
    rest : List Token
    rest = x.body ++ x.asks

    fault : NameAfter most_names rest → (i : ℕ) × Fault declared ts i tooManyNames
    fault g = (suc (suc g.place), rw x.is (one_too_many {i = suc (suc g.place)} (omega arith) (let l = g.inside in omega arith) g.is g.others))

    go : (t : Bool) → ltb most_names x.names ≡ t → x.names ≤ most_names
    go false e = ltb-false most_names x.names e
    go true e =
        let l = ltb-true most_names x.names e in
        let p = reads_count declared x.reads in
        let q = asks_count declared x.wants in
        let z = count_append x.body x.asks in
        let f = fault (name_after rest most_names (omega arith)) in
        absurd (faultless f.0 tooManyNames f.1)
