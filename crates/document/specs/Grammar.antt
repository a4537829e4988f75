-- Document 01, "The pattern text" and "Numbers of refusal", 6 to 9: which token lists are of the grammar, for which
-- pattern, and where the first fault of a text stands. Declarative: nothing here says how a text is read.
-- Assumes nothing.
use Rattle.std.specs.Prelude.{ℕ, suc, ◌-◌, ◌<◌, ◌≤◌, ◌≡◌, Bool, false, not, List, [], ◌∷◌, ◌++◌, length, get_or, take, drop, T}
use Rattle.document.specs.Lists.{In, place_of, keep_if, equal}
use Rattle.document.specs.Limits.{most_names, most_open}
use Rattle.document.specs.Refusals.{Refusal, notOfGrammar, undeclaredEvent, tooManyNames, tooDeep, number}
use Rattle.document.specs.Classes.{opening, closing, colon, ere_word, epsilon_word}
use Rattle.document.specs.Classes as byte
use Rattle.document.specs.Patterns.{Pattern, epsilon, name, alternative, sequence, star, plus, match, fail}
use Rattle.document.specs.Tokens.{Token, word, mark, ask, no_token, is_mark_of}

pub data Kind : Type 0 where
  alternatives sequences repetitions atoms : Kind

-- "`@match`, `@fail` or both, each once, in either order", and the set of verdicts asked for: 1 match, 2 fail, 3 both
pub data Asks : List Token → ℕ → Type 0 where
  just_match : Asks (ask match ∷ []) 1
  just_fail : Asks (ask fail ∷ []) 2
  match-fail : Asks (ask match ∷ ask fail ∷ []) 3
  fail-match : Asks (ask fail ∷ ask match ∷ []) 3

-- The grammar, a line for each of its phrases. ts is a phrase of the kind and r what it means; before it stand lo event
-- names, and hi with it, so that names are numbered from the left. `declared` are the names of the declared events; a name
-- that is not among them gets the number after the last.
module _ (declared : List (List ℕ)) where
  pub data Reads : Kind → ℕ → ℕ → List Token → Pattern → Type 0 where
    one_sequence : {lo hi : ℕ} {ts : List Token} {r : Pattern} → Reads sequences lo hi ts r → Reads alternatives lo hi ts r
    either : {lo mid hi : ℕ} {ts us : List Token} {a b : Pattern} → Reads sequences lo mid ts a → Reads alternatives mid hi us b
        → Reads alternatives lo hi (ts ++ (mark byte.bar ∷ us)) (alternative a b)
    one_repetition : {lo hi : ℕ} {ts : List Token} {r : Pattern} → Reads repetitions lo hi ts r → Reads sequences lo hi ts r
    beside : {lo mid hi : ℕ} {ts us : List Token} {a b : Pattern} → Reads repetitions lo mid ts a → Reads sequences mid hi us b
        → Reads sequences lo hi (ts ++ us) (sequence a b)
    one_atom : {lo hi : ℕ} {ts : List Token} {r : Pattern} → Reads atoms lo hi ts r → Reads repetitions lo hi ts r
    starred : {lo hi : ℕ} {ts : List Token} {r : Pattern} → Reads repetitions lo hi ts r
        → Reads repetitions lo hi (ts ++ (mark byte.star ∷ [])) (star r)
    plussed : {lo hi : ℕ} {ts : List Token} {r : Pattern} → Reads repetitions lo hi ts r
        → Reads repetitions lo hi (ts ++ (mark byte.plus ∷ [])) (plus r)
    event : {lo : ℕ} {w : List ℕ} → (w ≡ epsilon_word → ⊥) → Reads atoms lo (suc lo) (word w ∷ []) (name (suc lo) (place_of w declared))
    empty : {lo : ℕ} → Reads atoms lo lo (word epsilon_word ∷ []) epsilon
    grouped : {lo hi : ℕ} {ts : List Token} {r : Pattern} → Reads alternatives lo hi ts r
        → Reads atoms lo hi (mark opening ∷ (ts ++ (mark closing ∷ []))) r

  -- "`ere`, `:`, the pattern, then .." : the whole text means the pattern r, and asks for the verdicts a
  pub record Whole (ts : List Token) (r : Pattern) (a : ℕ) : Type 0 where
    pub body : List Token
    pub asks : List Token
    pub names : ℕ
    pub is : ts ≡ word ere_word ∷ mark colon ∷ (body ++ asks)
    pub reads : Reads alternatives 0 names body r
    pub wants : Asks asks a

  -- no text could complete the grammar after these tokens
  abbrev pub Dead : List Token → Type 0
  Dead ts = (us : List Token) (r : Pattern) (a : ℕ) → Whole (ts ++ us) r a → ⊥

-- "Number the event names": past `ere` and `:` every word but `epsilon` is one
abbrev pub is_event_name : Token → Bool
is_event_name (word w) = not (equal w epsilon_word)
is_event_name (mark c) = false
is_event_name (ask v) = false
is_event_name no_token = false

unfoldable pub names_in : List Token → ℕ
names_in ts = length (keep_if is_event_name (drop 2 ts))

-- the parentheses that are open after the tokens
unfoldable pub open_in : List Token → ℕ
open_in ts = length (keep_if (is_mark_of opening) ts) - length (keep_if (is_mark_of closing) ts)

module _ (declared : List (List ℕ)) (ts : List Token) where
  -- the faults of a text, each at the number of its token; the text's end counts as the number after the last
  pub data Fault : ℕ → Refusal → Type 0 where
    -- a token "after which no text could complete the grammar"
    dead : {i : ℕ} → i < length ts → Dead declared (take (suc i) ts) → Fault i notOfGrammar
    -- a text that is not of the grammar as it ends: "or the text's length"
    unfinished : ((r : Pattern) (a : ℕ) → Whole declared ts r a → ⊥) → Fault (length ts) notOfGrammar
    -- "an undeclared event"
    undeclared : {i : ℕ} {w : List ℕ} → 2 ≤ i → i < length ts → get_or ts i no_token ≡ word w → (w ≡ epsilon_word → ⊥)
        → (In w declared → ⊥) → Fault i undeclaredEvent
    -- "a 32nd event name in the pattern"
    one_too_many : {i : ℕ} → 2 ≤ i → i < length ts → T (is_event_name (get_or ts i no_token)) → most_names ≤ names_in (take i ts)
        → Fault i tooManyNames
    -- "a parenthesis opened while 16 are open"
    one_too_deep : {i : ℕ} → i < length ts → get_or ts i no_token ≡ mark opening → most_open ≤ open_in (take i ts) → Fault i tooDeep

  -- the fault that refuses the text: "the lowest offset, at one offset 6 before 7 before 8 before 9"
  pub record FirstFault (i : ℕ) (r : Refusal) : Type 0 where
    pub fault : Fault i r
    pub lowest : (j : ℕ) (q : Refusal) → Fault j q → i ≤ j
    pub first : (q : Refusal) → Fault i q → number r ≤ number q
