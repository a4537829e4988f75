-- Document 01, "The offset of 6 is that of the first token after which no text could complete the grammar": while the machine
-- is not stuck, some text completes the grammar; and where it says that a text may end, the text is of the grammar.
-- Assumes nothing.
use Rattle.std.specs.Prelude.{ℕ, zero, suc, ◌≤◌, ◌≡◌, refl, ◌⊎◌, List, [], ◌∷◌, ◌++◌}
use Rattle.std.proofs.Common.{arith, sym, subst, inl, inr, append_assoc, append-nil}
use Rattle.document.specs.Classes.{closing, colon, ere_word, epsilon_word}
use Rattle.document.specs.Lists.{equal}
use Rattle.document.specs.Patterns.{Pattern}
use Rattle.document.specs.Tokens.{Token, word, mark, ask}
use Rattle.document.specs.Grammar.{Asks, just_match, just_fail, match-fail, fail-match, Whole, Dead}
use Rattle.grammar.specs.Sorts.{is_name_lem, is-closing}
use Rattle.grammar.specs.Automaton.{State, at_start, atColon, expecting, after, matchAsked, failAsked, bothAsked, stuck, stuck_or_not, step, run, asked_at, stuck_dead}
use Rattle.grammar.specs.Phrases.{Levels, Repeated}
use Rattle.grammar.specs.Viable.{counted, Inside, Asked, Viable, viable_next, asked_first, from_start, from-colon, from_expecting_lem, from-after}

module _ (declared : List (List ℕ)) where
  -- a text that completes the grammar after the tokens
  pub record Completed (ts : List Token) : Type 0 where
    pub more : List Token
    pub pattern : Pattern
    pub asked : ℕ
    pub whole : Whole declared (ts ++ more) pattern asked

  asked_whole : {us ts : List Token} {a : ℕ} (h : Asked declared us ts) → Asks us a → Whole declared ts h.pattern a
  asked_whole {us} h w = record { body = h.body; asks = us; names = h.names; is = h.is; reads = h.reads; wants = w }

  asked_completed : {us ts : List Token} {a : ℕ} → Asked declared us ts → Asks us a → Completed ts
  asked_completed {ts = ts} {a = a} h w =
      record { more = []; pattern = h.pattern; asked = a; whole = subst (λ x. Whole declared x h.pattern a) (sym (append-nil ts)) (asked_whole h w) }

  completed_before : {ts : List Token} (t : Token) → Completed (ts ++ (t ∷ [])) → Completed ts
  completed_before {ts} t c =
      record {
        more = t ∷ c.more;
        pattern = c.pattern;
        asked = c.asked;
        whole = subst (λ x. Whole declared x c.pattern c.asked) (append_assoc ts (t ∷ []) c.more) c.whole;
      }

  complete_after : (d n : ℕ) (ts : List Token) → Inside (Repeated declared d) d n ts → Completed ts
  complete_after zero n ts h = completed_before (ask 1) (asked_completed (asked_first declared (ask 1) h) just_match)
  complete_after (suc d) n ts h = completed_before (mark closing) (complete_after d n (ts ++ (mark closing ∷ [])) (from-after declared (suc d) n ts is-closing h))

  complete_expecting : (d n : ℕ) (ts : List Token) → Inside (Levels declared d) d n ts → Completed ts
  complete_expecting d n ts h =
      completed_before (word epsilon_word) (complete_after d _ (ts ++ (word epsilon_word ∷ [])) (from_expecting_lem declared d n ts (is_name_lem epsilon_word) h))

  complete_colon : (ts : List Token) → ts ≡ word ere_word ∷ [] → Completed ts
  complete_colon ts h = completed_before (mark colon) (complete_expecting 0 0 (ts ++ (mark colon ∷ [])) (from-colon declared ts (mark colon) h))

  pub complete_start : (ts : List Token) → ts ≡ [] → Completed ts
  unfolding equal
  complete_start ts h = completed_before (word ere_word) (complete_colon (ts ++ (word ere_word ∷ [])) (from_start declared ts (word ere_word) h))

  -- while the machine is not stuck, some text completes the grammar
  pub viable_completed : (s : State) (n : ℕ) (ts : List Token) → (s ≡ stuck → ⊥) → Viable declared s n ts → Completed ts
  viable_completed at_start n ts q h = complete_start ts h
  viable_completed atColon n ts q h = complete_colon ts h
  viable_completed (expecting d) n ts q h = complete_expecting d n ts h
  viable_completed (after d) n ts q h = complete_after d n ts h
  viable_completed matchAsked n ts q h = asked_completed h just_match
  viable_completed failAsked n ts q h = asked_completed h just_fail
  viable_completed bothAsked n ts q (inl h) = asked_completed h match-fail
  viable_completed bothAsked n ts q (inr h) = asked_completed h fail-match
  viable_completed stuck n ts q h = absurd (q refl)

  pub viable_alive : (s : State) (n : ℕ) (ts : List Token) → (s ≡ stuck → ⊥) → Viable declared s n ts → Dead declared ts → ⊥
  viable_alive s n ts q h dead =
      let c = viable_completed s n ts q h in
      dead c.more c.pattern c.asked c.whole

  -- where a text may end, it is of the grammar
  pub record Ended (ts : List Token) : Type 0 where
    pub pattern : Pattern
    pub asked : ℕ
    pub whole : Whole declared ts pattern asked

  asked_ended : {us ts : List Token} {a : ℕ} → Asked declared us ts → Asks us a → Ended ts
  asked_ended {a = a} h w = record { pattern = h.pattern; asked = a; whole = asked_whole h w }

  pub viable_ended : (s : State) (n : ℕ) (ts : List Token) → 1 ≤ asked_at s → Viable declared s n ts → Ended ts
  viable_ended at_start n ts q h = absurd (omega arith)
  viable_ended atColon n ts q h = absurd (omega arith)
  viable_ended (expecting d) n ts q h = absurd (omega arith)
  viable_ended (after d) n ts q h = absurd (omega arith)
  viable_ended matchAsked n ts q h = asked_ended h just_match
  viable_ended failAsked n ts q h = asked_ended h just_fail
  viable_ended bothAsked n ts q (inl h) = asked_ended h match-fail
  viable_ended bothAsked n ts q (inr h) = asked_ended h fail-match
  viable_ended stuck n ts q h = absurd (omega arith)

  -- what is known after any tokens
  record Reached (s : State) (ts : List Token) : Type 0 where
    pub names : ℕ
    pub viable : Viable declared s names ts

  run_viable : (us : List Token) (s : State) (n : ℕ) (ts : List Token) → Viable declared s n ts → Reached (run s us) (ts ++ us)
  run_viable [] s n ts h = record { names = n; viable = rw append-nil h }
  run_viable (t ∷ us) s n ts h =
      subst (Reached (run (step s t) us)) (append_assoc ts (t ∷ []) us)
      (run_viable us (step s t) (counted s n t) (ts ++ (t ∷ [])) (viable_next declared s n ts t h))

  -- no text could complete the grammar after the tokens, or this one does
  pub dead_or_completed : (ts : List Token) → Dead declared ts ⊎ Completed ts
  dead_or_completed ts = go (stuck_or_not (run at_start ts)) (run_viable ts at_start 0 [] refl)
    where
      go : (run at_start ts ≡ stuck) ⊎ (run at_start ts ≡ stuck → ⊥) → Reached (run at_start ts) ts → Dead declared ts ⊎ Completed ts
      go (inl k) h = inl (stuck_dead declared ts k)
      go (inr k) h = inr (viable_completed (run at_start ts) h.names ts k h.viable)
