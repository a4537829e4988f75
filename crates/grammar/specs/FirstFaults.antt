-- Document 01, "Pattern: .. the lowest offset, at one offset 6 before 7 before 8 before 9": where the judge stops is the first
-- fault of the text, and a text that it lets pass has none.
-- Assumes nothing.
use Rattle.std.specs.Prelude.{ℕ, zero, suc, ◌≤◌, ◌≡◌, refl, ◌⊎◌, List, [], ◌∷◌, ◌++◌, length, drop}
use Rattle.std.proofs.Common.{arith, sym, ap, subst, ◌∙◌, inl, inr, append_assoc, append-nil, length-append}
use Rattle.std.proofs.lemmas.List.{length-map}
use Rattle.std.proofs.Math.Seq.{drop-append_seam, drop-length}
use Rattle.std.proofs.Math.Decide.{ℕ_discrete}
use Rattle.document.specs.Patterns.{Pattern}
use Rattle.document.specs.Refusals.{Refusal, notOfGrammar, number}
use Rattle.document.specs.Tokens.{Token, Lexeme}
use Rattle.document.specs.Grammar.{Whole, Fault, dead, unfinished, undeclared, one_too_many, one_too_deep, FirstFault}
use Rattle.grammar.specs.Automaton.{State, at_start, atColon, expecting, after, matchAsked, failAsked, bothAsked, stuck, stuck_or_not, step, run, run_append, asked_at, whole_asked, whole_asks}
use Rattle.grammar.specs.Viable.{counted, Viable, viable_next}
use Rattle.grammar.specs.Complete.{Ended, viable_ended}
use Rattle.grammar.specs.Judge.{Check, fine, faulty, Judged, passes, stops, first_of, judged_by, ended_with, limit_check, judge}
use Rattle.grammar.specs.Agree.{tokens, tokens_append}
use Rattle.grammar.specs.Here.{Here, fault_here, here_fault}
use Rattle.grammar.specs.Checks.{Right, stuck_right, limit_right}

tokens-length : (ls : List Lexeme) → length (tokens ls) ≡ length ls
tokens-length ls = length-map ls (λ x. x.token)

first_unstuck : (s : State) (c : Check) → (s ≡ stuck → ⊥) → first_of s c ≡ c
first_unstuck at_start c h = refl
first_unstuck atColon c h = refl
first_unstuck (expecting d) c h = refl
first_unstuck (after d) c h = refl
first_unstuck matchAsked c h = refl
first_unstuck failAsked c h = refl
first_unstuck bothAsked c h = refl
first_unstuck stuck c h = absurd (h refl)

module _ (declared : List (List ℕ)) where
  -- every fault comes after i tokens or more
  abbrev Clean : List Token → ℕ → Type 0
  Clean ts i = (j : ℕ) (q : Refusal) → Fault declared ts j q → i ≤ j

  -- the text has a first fault, at the first of the tokens that are left
  pub record Stopped (all : List Lexeme) (q : Refusal) (left : List Lexeme) : Type 0 where
    pub index : ℕ
    pub first : FirstFault declared (tokens all) index q
    pub is : left ≡ drop index all

  abbrev pub Outcome : List Lexeme → Judged → Type 0
  Outcome all (passes a) = (i : ℕ) (q : Refusal) → Fault declared (tokens all) i q → ⊥
  Outcome all (stops q left) = Stopped all q left

  -- a fault never comes past the end, and 6 has the lowest number
  pub fault_within : {ts : List Token} {i : ℕ} {q : Refusal} → Fault declared ts i q → i ≤ length ts
  fault_within (dead l e) = omega arith
  fault_within (unfinished e) = omega arith
  fault_within (undeclared b l e f g) = omega arith
  fault_within (one_too_many b l e f) = omega arith
  fault_within (one_too_deep l e f) = omega arith

  fault_six : {ts : List Token} {i : ℕ} {q : Refusal} → Fault declared ts i q → 6 ≤ number q
  fault_six (dead l e) = omega arith
  fault_six (unfinished e) = omega arith
  fault_six (undeclared b l e f g) = omega arith
  fault_six (one_too_many b l e f) = omega arith
  fault_six (one_too_deep l e f) = omega arith

  -- at the end of the text
  end_fault : {ts : List Token} {i : ℕ} {q : Refusal} → Fault declared ts i q → length ts ≤ i → Ended declared ts → ⊥
  end_fault (dead l e) h w = omega arith
  end_fault (unfinished e) h w = e w.pattern w.asked w.whole
  end_fault (undeclared b l e f g) h w = omega arith
  end_fault (one_too_many b l e f) h w = omega arith
  end_fault (one_too_deep l e f) h w = omega arith

  at_end_lem : (s : State) (n : ℕ) (all : List Lexeme) → Viable declared s n (tokens all) → run at_start (tokens all) ≡ s → Clean (tokens all) (length all)
      → Outcome all (ended_with (asked_at s))
  at_end_lem s n all v e clean = go (asked_at s) refl
    where
      unended : asked_at s ≡ 0 → (r : Pattern) (a : ℕ) → Whole declared (tokens all) r a → ⊥
      unended z r a w =
          let p : asked_at (run at_start (tokens all)) ≡ a = whole_asked declared w in
          let q : asked_at (run at_start (tokens all)) ≡ asked_at s = ap asked_at e in
          let l = whole_asks declared w in
          omega arith

      go : (a : ℕ) → asked_at s ≡ a → Outcome all (ended_with a)
      go zero z =
          record {
            index = length (tokens all);
            first = record { fault = unfinished (unended z); lowest = λ j q f. rw tokens-length (clean j q f); first = λ q f. fault_six f };
            is = rw tokens-length (sym (drop-length all));
          }
      go (suc a) z = λ i q f. end_fault f (rw tokens-length (clean i q f)) (viable_ended declared s n (tokens all) (omega arith) v)

  -- at the token x, after the tokens before it
  module _ (s : State) (n : ℕ) (all before more : List Lexeme) (x : Lexeme) (e : all ≡ before ++ (x ∷ more)) (v : Viable declared s n (tokens before))
      (r : run at_start (tokens before) ≡ s) (clean : Clean (tokens all) (length before)) where
    tokens_are : tokens all ≡ tokens before ++ (x.token ∷ tokens more)
    tokens_are = ap (λ y. tokens y) e ∙ tokens_append before (x ∷ more)

    found : {i : ℕ} {q : Refusal} → Fault declared (tokens all) i q → i ≡ length before → Here declared s (tokens before) x.token q
    found f p = fault_here declared s n (tokens before) (tokens more) x.token v (rw tokens_are at f) (p ∙ sym (tokens-length before))

    stops_here : (q : Refusal) → Right declared s (tokens before) x.token (faulty q) → Stopped all q (x ∷ more)
    stops_here q right =
        record {
          index = length before;
          first = record {
            fault = subst (λ ts. Fault declared ts (length before) q) (sym tokens_are)
                (rw tokens-length at (here_fault declared s (tokens before) (tokens more) x.token r right.0));
            lowest = clean;
            first = λ p f. right.1 p (found f refl);
          };
          is = sym (ap (λ y. drop (length before) y) e ∙ drop-append_seam before (x ∷ more));
        }

    clean_beyond : Right declared s (tokens before) x.token fine → Clean (tokens all) (length (before ++ (x ∷ [])))
    clean_beyond right i q f = go (ℕ_discrete i (length before)) (clean i q f)
      where
        go : Dec (i ≡ length before) → length before ≤ i → length (before ++ (x ∷ [])) ≤ i
        go (yes p) h = absurd (right q (found f p))
        go (no p) h = let l = length-append before (x ∷ []) in omega arith

    -- stop there with the fault that is found, or go on
    goes_on_lem : (c : Check) (j : Judged) → Right declared s (tokens before) x.token c → (Clean (tokens all) (length (before ++ (x ∷ []))) → Outcome all j)
        → Outcome all (judged_by c (x ∷ more) j)
    goes_on_lem fine j right next = next (clean_beyond right)
    goes_on_lem (faulty q) j right next = stops_here q right

  pub judge-outcome : (ls : List Lexeme) (s : State) (n : ℕ) (all before : List Lexeme) → all ≡ before ++ ls → Viable declared s n (tokens before)
      → run at_start (tokens before) ≡ s → Clean (tokens all) (length before) → Outcome all (judge declared s n ls)
  judge-outcome [] s n all before e v r clean =
      let p : before ≡ all = sym (e ∙ append-nil before) in
      at_end_lem s n all (subst (λ y. Viable declared s n (tokens y)) p v) (ap (λ y. run at_start (tokens y)) (sym p) ∙ r)
      (subst (λ y. Clean (tokens all) (length y)) p clean)
  judge-outcome (x ∷ more) s n all before e v r clean =
      go (stuck_or_not (step s x.token)) (judge-outcome more (step s x.token) (counted s n x.token) all (before ++ (x ∷ [])))
    where
      go : (step s x.token ≡ stuck) ⊎ (step s x.token ≡ stuck → ⊥)
          → (all ≡ (before ++ (x ∷ [])) ++ more → Viable declared (step s x.token) (counted s n x.token) (tokens (before ++ (x ∷ [])))
          → run at_start (tokens (before ++ (x ∷ []))) ≡ step s x.token → Clean (tokens all) (length (before ++ (x ∷ [])))
          → Outcome all (judge declared (step s x.token) (counted s n x.token) more))
          → Outcome all (judge declared s n (x ∷ more))
      go (inl k) ih = rw k (stops_here s n all before more x e v r clean notOfGrammar (stuck_right declared s (tokens before) x.token k))
      go (inr k) ih =
          rw (first_unstuck (step s x.token) (limit_check declared s n x.token) k)
          (goes_on_lem s n all before more x e v r clean (limit_check declared s n x.token) (judge declared (step s x.token) (counted s n x.token) more)
          (limit_right declared s n (tokens before) x.token v k)
          (ih (e ∙ sym (append_assoc before (x ∷ []) more)) (rw tokens_append (viable_next declared s n (tokens before) x.token v))
          (ap (λ y. run at_start y) (tokens_append before (x ∷ [])) ∙ run_append at_start (tokens before) (x.token ∷ []) ∙ ap (λ y. step y x.token) r)))

  -- the judge over a whole text
  pub judge_text : (ls : List Lexeme) → Outcome ls (judge declared at_start 0 ls)
  judge_text ls = judge-outcome ls at_start 0 ls [] refl refl refl (λ j q f. omega arith)
