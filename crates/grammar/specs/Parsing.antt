-- Document 01, "The pattern text" and "Numbers of refusal", 6 to 9: `parse` is exactly the grammar with its limits. What it takes is
-- of the grammar and has no fault; what it refuses it refuses for the first fault, at that token's offset; every text of the
-- grammar without fault is taken, for the one pattern that it has; and every first fault refuses.
-- Assumes nothing.
use Rattle.std.specs.Prelude.{ℕ, zero, suc, ◌≤◌, ◌<◌, ◌≡◌, refl, ◌⊎◌, cond, List, [], length, take, drop, eqb}
use Rattle.std.proofs.Common.{arith, sym, ap₂, subst, ◌∙◌, inl, inr}
use Rattle.std.proofs.Math.Path.{ap}
use Rattle.document.specs.Patterns.{Pattern}
use Rattle.document.specs.Refusals.{Refusal, notOfGrammar, undeclaredEvent, tooManyNames, tooDeep, number, Answer, taken, refused}
use Rattle.document.specs.Tokens.{Token, lexemes, offset_of}
use Rattle.document.specs.Grammar.{Whole, Dead, Fault, dead, unfinished, undeclared, one_too_many, one_too_deep, FirstFault}
use Rattle.document.specs.Reading.{Parsed, parse}
use Rattle.document.specs.Demands.{tokens_of}
use Rattle.grammar.specs.Complete.{Completed, complete_start, dead_or_completed}
use Rattle.grammar.specs.FirstFaults.{fault_within, Stopped, judge_text}
use Rattle.grammar.specs.Text.{Passed, parse-agrees}
use Rattle.grammar.specs.Single.{whole_single_pattern, whole_single_asked}

-- the refusal with the number, of those that a pattern text can have
abbrev refusal_of : ℕ → Refusal
refusal_of n = cond (eqb n 6) notOfGrammar (cond (eqb n 7) undeclaredEvent (cond (eqb n 8) tooManyNames tooDeep))

module _ (declared : List (List ℕ)) where
  -- what a first fault says ---------------------------------------------------------------------------------------------
  module _ {ts : List Token} where
    fault_number : {i : ℕ} {q : Refusal} → Fault declared ts i q → q ≡ refusal_of (number q)
    fault_number (dead l e) = refl
    fault_number (unfinished e) = refl
    fault_number (undeclared b l e f g) = refl
    fault_number (one_too_many b l e f) = refl
    fault_number (one_too_deep l e f) = refl

    -- there is one first fault at most
    pub first_fault_index : {i j : ℕ} {p q : Refusal} → FirstFault declared ts i p → FirstFault declared ts j q → i ≡ j
    first_fault_index {i} {j} {p} {q} f g =
        let a = f.lowest j q g.fault in
        let b = g.lowest i p f.fault in
        omega arith

    pub first_fault_refusal : {i j : ℕ} {p q : Refusal} → FirstFault declared ts i p → FirstFault declared ts j q → p ≡ q
    first_fault_refusal {i} {j} {p} {q} f g =
        let e : i ≡ j = first_fault_index f g in
        let a = f.first q (subst (λ k. Fault declared ts k q) (sym e) g.fault) in
        let b = g.first p (subst (λ k. Fault declared ts k p) e f.fault) in
        let n : number p ≡ number q = omega arith in
        fault_number f.fault ∙ ap refusal_of n ∙ sym (fault_number g.fault)

    -- "the first token after which no text could complete the grammar, or the text's length": before a first fault some text
    -- completes the grammar; with a first fault 6 none does after its token, or the text ends there and is not of the grammar
    pub first_fault_before : {i : ℕ} {q : Refusal} → FirstFault declared ts i q → Completed declared (take i ts)
    first_fault_before {i} {q} f = go i f.lowest (fault_within declared f.fault)
      where
        alive : (j : ℕ) → ((k : ℕ) (p : Refusal) → Fault declared ts k p → suc j ≤ k) → j < length ts
            → Dead declared (take (suc j) ts) ⊎ Completed declared (take (suc j) ts) → Completed declared (take (suc j) ts)
        alive j lowest l (inl e) = let k = lowest j notOfGrammar (dead l e) in absurd (omega arith)
        alive j lowest l (inr c) = c

        go : (j : ℕ) → ((k : ℕ) (p : Refusal) → Fault declared ts k p → j ≤ k) → j ≤ length ts → Completed declared (take j ts)
        go zero lowest l = complete_start declared [] refl
        go (suc j) lowest l = alive j lowest l (dead_or_completed declared (take (suc j) ts))

    pub first_fault_six : {i : ℕ} → FirstFault declared ts i notOfGrammar
        → ((i < length ts) × Dead declared (take (suc i) ts)) ⊎ ((i ≡ length ts) × ((r : Pattern) (a : ℕ) → Whole declared ts r a → ⊥))
    first_fault_six f = go f.fault
      where
        go : {i : ℕ} → Fault declared ts i notOfGrammar
            → ((i < length ts) × Dead declared (take (suc i) ts)) ⊎ ((i ≡ length ts) × ((r : Pattern) (a : ℕ) → Whole declared ts r a → ⊥))
        go (dead l e) = inl (l, e)
        go (unfinished e) = inr (refl, e)

  -- `parse` -------------------------------------------------------------------------------------------------------------
  module _ (text : List ℕ) where
    passed : {t : Parsed} → parse declared text ≡ taken t → Passed declared text (lexemes text) t
    passed e = rw e at (parse-agrees declared text)

    -- what is taken is of the grammar
    pub parse_taken_whole : {t : Parsed} → parse declared text ≡ taken t → Whole declared (tokens_of text) t.pattern t.asked
    unfolding tokens_of
    parse_taken_whole e = (passed e).whole

    -- and has no fault
    pub parse_taken_faultless : {t : Parsed} → parse declared text ≡ taken t → (i : ℕ) (q : Refusal) → Fault declared (tokens_of text) i q → ⊥
    unfolding tokens_of
    parse_taken_faultless e = rw (passed e).judged at (judge_text declared (lexemes text))

    -- what is refused is refused for the first fault, at the offset of its token or at the text's length
    pub record RefusedAt (q : Refusal) (at : ℕ) : Type 0 where
      pub index : ℕ
      pub first : FirstFault declared (tokens_of text) index q
      pub offset : at ≡ offset_of text (drop index (lexemes text))

    pub parse_refused_first : {q : Refusal} {at : ℕ} → parse declared text ≡ refused q at → RefusedAt q at
    unfolding tokens_of
    parse_refused_first {q} {at} e =
        let h = rw e at (parse-agrees declared text) in
        let s : Stopped declared (lexemes text) q h.left = rw h.judged at (judge_text declared (lexemes text)) in
        record { index = s.index; first = s.first; offset = h.offset ∙ ap (offset_of text) s.is }

    -- a text of the grammar without fault is taken, for its pattern and its verdicts
    pub whole_faultless_parse : {r : Pattern} {a : ℕ} → Whole declared (tokens_of text) r a
        → ((i : ℕ) (q : Refusal) → Fault declared (tokens_of text) i q → ⊥) → parse declared text ≡ taken (record { pattern = r; asked = a })
    whole_faultless_parse {r} {a} w n = go (parse declared text) refl
      where
        go : (x : Answer Parsed) → parse declared text ≡ x → parse declared text ≡ taken (record { pattern = r; asked = a })
        go (taken t) e =
            let g = parse_taken_whole e in
            e ∙ ap₂ {C = Answer Parsed} (λ x y. taken (record { pattern = x; asked = y })) (whole_single_pattern declared g w) (whole_single_asked declared g w)
        go (refused q at) e = let h = parse_refused_first e in absurd (n h.index q h.first.fault)

    -- a first fault refuses
    pub first_fault_parse : {i : ℕ} {q : Refusal} → FirstFault declared (tokens_of text) i q
        → parse declared text ≡ refused q (offset_of text (drop i (lexemes text)))
    first_fault_parse {i} {q} f = go (parse declared text) refl
      where
        go : (x : Answer Parsed) → parse declared text ≡ x → parse declared text ≡ refused q (offset_of text (drop i (lexemes text)))
        go (taken t) e = absurd (parse_taken_faultless e i q f.fault)
        go (refused p at) e =
            let h = parse_refused_first e in
            e ∙ ap₂ {C = Answer Parsed} refused (first_fault_refusal h.first f)
            (h.offset ∙ ap (λ k. offset_of text (drop k (lexemes text))) (first_fault_index h.first f))
