-- Document 01, "Numbers of refusal", 6 to 9: the faults of a text at one token, said of that token and of the tokens before it.
-- Assumes nothing.
use Rattle.std.specs.Prelude.{ℕ, suc, ◌-◌, ◌≤◌, ◌<◌, ◌≡◌, refl, ◌⊎◌, List, [], ◌∷◌, ◌++◌, length, get_or, take, T}
use native.Mathlib.Omega.{arith}
use Rattle.std.proofs.Common.{sym, ap, subst, ◌∙◌, inl, inr, length-append}
use Rattle.std.proofs.Math.Seq.{take-append_seam, get_or-append_seam}
use Rattle.document.specs.Classes.{opening, closing, epsilon_word}
use Rattle.document.specs.Limits.{most_names, most_open}
use Rattle.document.specs.Lists.{In, keep_if}
use Rattle.document.specs.Refusals.{Refusal, notOfGrammar, undeclaredEvent, tooManyNames, tooDeep}
use Rattle.document.specs.Tokens.{Token, word, mark, no_token, is_mark_of}
use Rattle.document.specs.Grammar.{Dead, is_event_name, names_in, open_in, Fault, dead, unfinished, undeclared, one_too_many, one_too_deep}
use Rattle.grammar.specs.Automaton.{State, at_start, stuck, stuck_or_not, step, run, run_append, stuck_dead}
use Rattle.grammar.specs.Viable.{counted, many, Inside, Viable, viable_next}
use Rattle.grammar.specs.Complete.{viable_alive}

-- lists with a token at their seam ----------------------------------------------------------------------------------------
pub take_through : (ts us : List Token) (t : Token) → take (suc (length ts)) (ts ++ (t ∷ us)) ≡ ts ++ (t ∷ [])
take_through [] us t = refl
take_through (x ∷ ts) us t = ap (λ l. x ∷ l) (take_through ts us t)

seam_inside : (ts us : List Token) (t : Token) → length ts < length (ts ++ (t ∷ us))
seam_inside ts us t = let e = length-append ts (t ∷ us) in omega arith

-- what the invariant says of the counts -----------------------------------------------------------------------------------
module _ {P : List Token → Type 0} {d n : ℕ} {ts : List Token} (h : Inside P d n ts) where
  pub inside_long : 2 ≤ length ts
  inside_long = let e : length ts ≡ suc (suc (length h.body)) = ap length h.is in omega arith

  pub inside_names : names_in ts ≡ n
  unfolding names_in
  inside_names = rw h.is (sym h.names)

  pub inside_open : open_in ts ≡ d
  unfolding open_in keep_if
  inside_open =
      let e : open_in ts ≡ many (is_mark_of opening) h.body - many (is_mark_of closing) h.body = rw h.is in
      let o = h.opened in
      omega arith

module _ (declared : List (List ℕ)) where
  -- a fault at the token t that stands after the tokens ts
  pub data Here (s : State) (ts : List Token) (t : Token) : Refusal → Type 0 where
    here_dead : step s t ≡ stuck → Here s ts t notOfGrammar
    here_undeclared : {w : List ℕ} → 2 ≤ length ts → t ≡ word w → (w ≡ epsilon_word → ⊥) → (In w declared → ⊥) → Here s ts t undeclaredEvent
    here_names : 2 ≤ length ts → T (is_event_name t) → most_names ≤ names_in ts → Here s ts t tooManyNames
    here_deep : t ≡ mark opening → most_open ≤ open_in ts → Here s ts t tooDeep

  -- from a fault of the text at the token to what it says of the token, and back
  pub fault_here : {j : ℕ} {q : Refusal} (s : State) (n : ℕ) (ts us : List Token) (t : Token) → Viable declared s n ts
      → Fault declared (ts ++ (t ∷ us)) j q → j ≡ length ts → Here s ts t q
  fault_here s n ts us t v (dead l e) p = go (stuck_or_not (step s t))
    where
      go : (step s t ≡ stuck) ⊎ (step s t ≡ stuck → ⊥) → Here s ts t notOfGrammar
      go (inl k) = here_dead k
      go (inr k) =
          absurd (viable_alive declared (step s t) (counted s n t) (ts ++ (t ∷ [])) k (viable_next declared s n ts t v)
          (subst (Dead declared) (ap (λ i. take (suc i) (ts ++ (t ∷ us))) p ∙ take_through ts us t) e))
  fault_here s n ts us t v (unfinished e) p = let l = seam_inside ts us t in absurd (omega arith)
  fault_here s n ts us t v (undeclared {w = w} b l e f g) p =
      here_undeclared (rw p at b) (sym (get_or-append_seam ts t us no_token) ∙ ap (λ i. get_or (ts ++ (t ∷ us)) i no_token) (sym p) ∙ e) f g
  fault_here s n ts us t v (one_too_many b l e f) p =
      here_names (rw p at b) (subst (λ x. T (is_event_name x)) (ap (λ i. get_or (ts ++ (t ∷ us)) i no_token) p ∙ get_or-append_seam ts t us no_token) e)
      (subst (λ x. most_names ≤ names_in x) (ap (λ i. take i (ts ++ (t ∷ us))) p ∙ take-append_seam ts (t ∷ us)) f)
  fault_here s n ts us t v (one_too_deep l e f) p =
      here_deep (sym (get_or-append_seam ts t us no_token) ∙ ap (λ i. get_or (ts ++ (t ∷ us)) i no_token) (sym p) ∙ e)
      (subst (λ x. most_open ≤ open_in x) (ap (λ i. take i (ts ++ (t ∷ us))) p ∙ take-append_seam ts (t ∷ us)) f)

  pub here_fault : {q : Refusal} (s : State) (ts us : List Token) (t : Token) → run at_start ts ≡ s → Here s ts t q
      → Fault declared (ts ++ (t ∷ us)) (length ts) q
  here_fault s ts us t v (here_dead k) =
      dead (seam_inside ts us t)
      (subst (Dead declared) (sym (take_through ts us t)) (stuck_dead declared (ts ++ (t ∷ [])) (run_append at_start ts (t ∷ []) ∙ rw v k)))
  here_fault s ts us t v (here_undeclared b e f g) = undeclared b (seam_inside ts us t) (get_or-append_seam ts t us no_token ∙ e) f g
  here_fault s ts us t v (here_names b e f) =
      one_too_many b (seam_inside ts us t) (subst (λ x. T (is_event_name x)) (sym (get_or-append_seam ts t us no_token)) e)
      (subst (λ x. most_names ≤ names_in x) (sym (take-append_seam ts (t ∷ us))) f)
  here_fault s ts us t v (here_deep e f) =
      one_too_deep (seam_inside ts us t) (get_or-append_seam ts t us no_token ∙ e) (subst (λ x. most_open ≤ open_in x) (sym (take-append_seam ts (t ∷ us))) f)
