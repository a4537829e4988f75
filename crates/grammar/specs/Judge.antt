-- Document 01, "Pattern: the lowest offset, at one offset 6 before 7 before 8 before 9": the machine with the limits. It goes
-- through a text once from the left and stops at the first token with a fault, or at the end of a text that may not end there.
-- Assumes nothing.
use Rattle.std.specs.Prelude.{ℕ, zero, suc, cond, List, [], ◌∷◌, length, eqb, ltb}
use Rattle.document.specs.Classes.{opening, epsilon_word}
use Rattle.document.specs.Limits.{most_names, most_open}
use Rattle.document.specs.Lists.{equal, place_of}
use Rattle.document.specs.Refusals.{Refusal, notOfGrammar, undeclaredEvent, tooManyNames, tooDeep}
use Rattle.document.specs.Tokens.{Token, word, mark, ask, no_token, Lexeme}
use Rattle.grammar.specs.Automaton.{State, at_start, atColon, expecting, after, matchAsked, failAsked, bothAsked, stuck, step, asked_at}
use Rattle.grammar.specs.Viable.{counted}

pub data Check : Type 0 where
  fine : Check
  faulty : Refusal → Check

-- the verdicts that a text without fault asks for; or the refusal, and the tokens that are left where it is given
pub data Judged : Type 0 where
  passes : ℕ → Judged
  stops : Refusal → List Lexeme → Judged

-- 6 before the others
abbrev pub first_of : State → Check → Check
first_of at_start c = c
first_of atColon c = c
first_of (expecting d) c = c
first_of (after d) c = c
first_of matchAsked c = c
first_of failAsked c = c
first_of bothAsked c = c
first_of stuck c = faulty notOfGrammar

abbrev pub judged_by : Check → List Lexeme → Judged → Judged
judged_by fine ls j = j
judged_by (faulty q) ls j = stops q ls

abbrev pub ended_with : ℕ → Judged
ended_with zero = stops notOfGrammar []
ended_with (suc a) = passes (suc a)

module _ (declared : List (List ℕ)) where
  -- a name after n event names
  abbrev pub name_check : ℕ → List ℕ → Check
  name_check n w =
      cond (equal w epsilon_word) fine
      (cond (ltb (place_of w declared) (length declared)) (cond (ltb n most_names) fine (faulty tooManyNames)) (faulty undeclaredEvent))

  -- a token in a pattern, where d parentheses are open
  abbrev pub token_check : ℕ → ℕ → Token → Check
  token_check d n (word w) = name_check n w
  token_check d n (mark c) = cond (eqb c opening) (cond (ltb d most_open) fine (faulty tooDeep)) fine
  token_check d n (ask v) = fine
  token_check d n no_token = fine

  abbrev pub limit_check : State → ℕ → Token → Check
  limit_check at_start n t = fine
  limit_check atColon n t = fine
  limit_check (expecting d) n t = token_check d n t
  limit_check (after d) n t = token_check d n t
  limit_check matchAsked n t = fine
  limit_check failAsked n t = fine
  limit_check bothAsked n t = fine
  limit_check stuck n t = fine

  abbrev pub check : State → ℕ → Token → Check
  check s n t = first_of (step s t) (limit_check s n t)

  abbrev pub judge : State → ℕ → List Lexeme → Judged
  judge s n [] = ended_with (asked_at s)
  judge s n (x ∷ more) = judged_by (check s n x.token) (x ∷ more) (judge (step s x.token) (counted s n x.token) more)
