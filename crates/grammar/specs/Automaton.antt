-- Document 01, "The pattern text": a machine that goes through the tokens of a text from the left. Its state says what may
-- follow, and no limit counts in it. Every text of the grammar passes it, so that where it is stuck no text completes the
-- grammar. It is the bridge between the grammar (a statement) and the readers (a procedure).
-- Assumes nothing.
use Rattle.std.specs.Prelude.{ℕ, zero, suc, ◌≤◌, ◌≡◌, refl, ◌⊎◌, Bool, true, false, cond, List, [], ◌∷◌, ◌++◌}
use Rattle.std.proofs.Common.{arith, sym, ap, ◌∙◌, inl, inr}
use Rattle.document.specs.Classes.{opening, closing, colon, ere_word, epsilon_word}
use Rattle.document.specs.Classes as byte
use Rattle.document.specs.Lists.{equal}
use Rattle.document.specs.Patterns.{Pattern}
use Rattle.document.specs.Tokens.{Token, word, mark, is_mark_of, is_word_of}
use Rattle.document.specs.Grammar.{Kind, Reads, one_sequence, either, one_repetition, beside, one_atom, starred, plussed, event, empty, grouped, Asks, just_match, just_fail, match-fail, fail-match, Whole, Dead}
use Rattle.basics.specs.Tests.{not_both}
use Rattle.basics.specs.Asked.{asks_some}
use Rattle.grammar.specs.Sorts.{Sort, aName, opens, closes, bars, repeats, asksMatch, asksFail, others, sort_of}

-- before `ere`; before `:`; where an atom must stand, and after a repetition, with the number of open parentheses; after one
-- verdict asked for and after both; where nothing can follow
pub data State : Type 0 where
  at_start atColon : State
  expecting after : ℕ → State
  matchAsked failAsked bothAsked stuck : State

abbrev pub after_closing : ℕ → State
after_closing zero = stuck
after_closing (suc d) = after d

abbrev pub only_outside : ℕ → State → State
only_outside zero s = s
only_outside (suc d) s = stuck

abbrev pub from_expecting : ℕ → Sort → State
from_expecting d aName = after d
from_expecting d opens = expecting (suc d)
from_expecting d closes = stuck
from_expecting d bars = stuck
from_expecting d repeats = stuck
from_expecting d asksMatch = stuck
from_expecting d asksFail = stuck
from_expecting d others = stuck

abbrev pub from_after : ℕ → Sort → State
from_after d aName = after d
from_after d opens = expecting (suc d)
from_after d closes = after_closing d
from_after d bars = expecting d
from_after d repeats = after d
from_after d asksMatch = only_outside d matchAsked
from_after d asksFail = only_outside d failAsked
from_after d others = stuck

abbrev pub from_match_asked : Sort → State
from_match_asked aName = stuck
from_match_asked opens = stuck
from_match_asked closes = stuck
from_match_asked bars = stuck
from_match_asked repeats = stuck
from_match_asked asksMatch = stuck
from_match_asked asksFail = bothAsked
from_match_asked others = stuck

abbrev pub from_fail_asked : Sort → State
from_fail_asked aName = stuck
from_fail_asked opens = stuck
from_fail_asked closes = stuck
from_fail_asked bars = stuck
from_fail_asked repeats = stuck
from_fail_asked asksMatch = bothAsked
from_fail_asked asksFail = stuck
from_fail_asked others = stuck

abbrev pub step : State → Token → State
step at_start t = cond (is_word_of ere_word t) atColon stuck
step atColon t = cond (is_mark_of colon t) (expecting 0) stuck
step (expecting d) t = from_expecting d (sort_of t)
step (after d) t = from_after d (sort_of t)
step matchAsked t = from_match_asked (sort_of t)
step failAsked t = from_fail_asked (sort_of t)
step bothAsked t = stuck
step stuck t = stuck

abbrev pub run : State → List Token → State
run s [] = s
run s (t ∷ ts) = run (step s t) ts

-- the verdicts asked for at the end of a text, 0 where the text cannot end
abbrev pub asked_at : State → ℕ
asked_at at_start = 0
asked_at atColon = 0
asked_at (expecting d) = 0
asked_at (after d) = 0
asked_at matchAsked = 1
asked_at failAsked = 2
asked_at bothAsked = 3
asked_at stuck = 0

pub run_append : (s : State) (ts us : List Token) → run s (ts ++ us) ≡ run (run s ts) us
run_append s [] us = refl
run_append s (t ∷ ts) us = run_append (step s t) ts us

pub run_stuck : (ts : List Token) → run stuck ts ≡ stuck
run_stuck [] = refl
run_stuck (t ∷ ts) = run_stuck ts

-- stuck or not
abbrev is_stuck : State → Bool
is_stuck at_start = false
is_stuck atColon = false
is_stuck (expecting d) = false
is_stuck (after d) = false
is_stuck matchAsked = false
is_stuck failAsked = false
is_stuck bothAsked = false
is_stuck stuck = true

unstuck : {s : State} → is_stuck s ≡ false → s ≡ stuck → ⊥
unstuck {s} p e = not_both (is_stuck s) (ap is_stuck e) p

pub stuck_or_not : (s : State) → (s ≡ stuck) ⊎ (s ≡ stuck → ⊥)
stuck_or_not at_start = inr (unstuck refl)
stuck_or_not atColon = inr (unstuck refl)
stuck_or_not (expecting d) = inr (unstuck refl)
stuck_or_not (after d) = inr (unstuck refl)
stuck_or_not matchAsked = inr (unstuck refl)
stuck_or_not failAsked = inr (unstuck refl)
stuck_or_not bothAsked = inr (unstuck refl)
stuck_or_not stuck = inl refl

-- an atom may begin: where one must stand, and beside a repetition
pub data Ready (d : ℕ) : State → Type 0 where
  first : Ready d (expecting d)
  next : Ready d (after d)

name_from : {d : ℕ} {s : State} (w : List ℕ) → Ready d s → step s (word w) ≡ after d
name_from w first = refl
name_from w next = refl

opening-from : {d : ℕ} {s : State} → Ready d s → step s (mark opening) ≡ expecting (suc d)
opening-from first = refl
opening-from next = refl

module _ (declared : List (List ℕ)) where
  -- a phrase of the grammar leads from where an atom may begin to after a repetition, at the same depth
  pub run_phrase : {k : Kind} {lo hi d : ℕ} {ts : List Token} {r : Pattern} {s : State} → Reads declared k lo hi ts r → Ready d s → run s ts ≡ after d
  run_phrase (one_sequence p) b = run_phrase p b
  run_phrase {s = s} (either {ts = ts} {us = us} p q) b = run_append s ts (mark byte.bar ∷ us) ∙ rw (run_phrase p b) (run_phrase q first)
  run_phrase (one_repetition p) b = run_phrase p b
  run_phrase {s = s} (beside {ts = ts} {us = us} p q) b = run_append s ts us ∙ rw (run_phrase p b) (run_phrase q next)
  run_phrase (one_atom p) b = run_phrase p b
  run_phrase {s = s} (starred {ts = ts} p) b = run_append s ts (mark byte.star ∷ []) ∙ rw (run_phrase p b)
  run_phrase {s = s} (plussed {ts = ts} p) b = run_append s ts (mark byte.plus ∷ []) ∙ rw (run_phrase p b)
  run_phrase (event {w = w} n) b = name_from w b
  run_phrase empty b = name_from epsilon_word b
  run_phrase {d = d} (grouped {ts = ts} p) b =
      ap (λ x. run x (ts ++ (mark closing ∷ []))) (opening-from b) ∙ run_append (expecting (suc d)) ts (mark closing ∷ [])
      ∙ ap (λ x. run x (mark closing ∷ [])) (run_phrase {d = suc d} p first)

  run_asks : {ts : List Token} {a : ℕ} → Asks ts a → asked_at (run (after 0) ts) ≡ a
  run_asks just_match = refl
  run_asks just_fail = refl
  run_asks match-fail = refl
  run_asks fail-match = refl

  -- the machine says which verdicts a text of the grammar asks for
  pub whole_asked : {ts : List Token} {r : Pattern} {a : ℕ} → Whole declared ts r a → asked_at (run at_start ts) ≡ a
  unfolding equal
  whole_asked h =
      rw (h.is, run_append (expecting 0) h.body h.asks, run_phrase {d = 0} h.reads first) (run_asks h.wants)

  pub whole_asks : {ts : List Token} {r : Pattern} {a : ℕ} → Whole declared ts r a → 1 ≤ a
  whole_asks h = asks_some h.wants

  -- where the machine is stuck, no text could complete the grammar
  pub stuck_dead : (ts : List Token) → run at_start ts ≡ stuck → Dead declared ts
  stuck_dead ts e us r a h =
      let p : asked_at (run at_start (ts ++ us)) ≡ a = whole_asked h in
      let q : run at_start (ts ++ us) ≡ stuck = run_append at_start ts us ∙ rw e (run_stuck us) in
      let z : a ≡ 0 = sym p ∙ ap asked_at q in
      let l : 1 ≤ a = whole_asks h in
      omega arith
