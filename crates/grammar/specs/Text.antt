-- Document 01, "`ere`, `:`, the pattern, then ..": the reader of a whole text agrees with the judge, and what it takes is of the
-- grammar.
-- Assumes nothing.
use Rattle.std.specs.Prelude.{ℕ, ◌≡◌, ◌⊎◌, false}
use Rattle.std.proofs.Math.Path.{refl}
use Rattle.std.proofs.Common.{ap, ap₂, ◌∙◌, inl, inr, eqb-true}
use Rattle.std.proofs.Math.Bool.{true}
use mathlib.Core.List.{List, [], ◌∷◌}
use Rattle.document.specs.Classes.{colon, ere_word}
use Rattle.document.specs.Refusals.{notOfGrammar, Answer, taken, refused}
use Rattle.document.specs.Tokens.{Token, word, mark, ask, no_token, Lexeme, lexemes, offset_of, is_mark_of, is_word_of}
use Rattle.document.specs.Grammar.{Whole}
use Rattle.document.specs.Reading.{next_is, past, read_whole, Parsed, read_asks, parse}
use Rattle.basics.specs.Tests.{decided, equal_same}
use Rattle.grammar.specs.Automaton.{at_start, expecting}
use Rattle.grammar.specs.Judge.{passes, judge}
use Rattle.grammar.specs.Agree.{tokens}
use Rattle.grammar.specs.Readers.{reads_whole}
use Rattle.grammar.specs.Proper.{AllProper, lexemes_proper}
use Rattle.grammar.specs.Asking.{StopsAt, Answered, asks_agree}

word_is : (w : List ℕ) (t : Token) → is_word_of w t ≡ true → t ≡ word w
word_is w (word u) h = ap word (equal_same u w h)
word_is w (mark c) h = cc
word_is w (ask v) h = cc
word_is w no_token h = cc

mark_is : (k : ℕ) (t : Token) → is_mark_of k t ≡ true → t ≡ mark k
mark_is k (word u) h = cc
mark_is k (mark c) h = ap mark (eqb-true c k h)
mark_is k (ask v) h = cc
mark_is k no_token h = cc

module _ (declared : List (List ℕ)) (text : List ℕ) where
  -- a text is taken: it is of the grammar, and the judge lets it pass
  pub record Passed (ls : List Lexeme) (p : Parsed) : Type 0 where
    pub whole : Whole declared (tokens ls) p.pattern p.asked
    pub judged : judge declared at_start 0 ls ≡ passes p.asked

  abbrev pub Agreed : List Lexeme → Answer Parsed → Type 0
  Agreed ls (taken p) = Passed ls p
  Agreed ls (refused q at) = StopsAt declared text at_start ls q at

  -- `parse` over the tokens of its text
  unfoldable parse_tokens : List Lexeme → Answer Parsed
  parse_tokens ls =
      elim (next_is (is_word_of ere_word) ls) [
        | false ↦ refused notOfGrammar (offset_of text ls)
        | true ↦ elim (next_is (is_mark_of colon) (past ls)) [
          | false ↦ refused notOfGrammar (offset_of text (past ls))
          | true ↦ read_asks text (read_whole declared (past (past ls)))
        ]
      ]

  -- what the pattern's reader answers, after `ere` and `:`
  before_agrees : (x y : Lexeme) (ls : List Lexeme) (a : Answer Parsed) → x.token ≡ word ere_word → y.token ≡ mark colon
      → judge declared at_start 0 (x ∷ y ∷ ls) ≡ judge declared (expecting 0) 0 ls → Answered declared text ls a → Agreed (x ∷ y ∷ ls) a
  before_agrees x y ls (taken p) e f j h =
      record {
        whole = record {
          body = h.body;
          asks = h.asks;
          names = h.names;
          is = ap₂ {C = List Token} (λ t us. t ∷ us) e (ap₂ {C = List Token} (λ t us. t ∷ us) f h.is);
          reads = h.reads;
          wants = h.wants;
        };
        judged = j ∙ h.judged;
      }
  before_agrees x y ls (refused q at) e f j h = record { left = h.left; judged = j ∙ h.judged; offset = h.offset }

  tokens_agree : (ls : List Lexeme) → AllProper ls → Agreed ls (parse_tokens ls)
  unfolding parse_tokens
  tokens_agree [] p = record { left = []; judged = refl; offset = refl }
  tokens_agree (x ∷ ls) p = first (decided (is_word_of ere_word x.token))
    where
      second : is_word_of ere_word x.token ≡ true → (us : List Lexeme) → AllProper us → Agreed (x ∷ us) (parse_tokens (x ∷ us))
      second e [] q = rw (e, parse_tokens) (record { left = []; judged = rw e; offset = refl })
      second e (y ∷ us) q = go (decided (is_mark_of colon y.token))
        where
          go : (is_mark_of colon y.token ≡ true) ⊎ (is_mark_of colon y.token ≡ false) → Agreed (x ∷ y ∷ us) (parse_tokens (x ∷ y ∷ us))
          go (inl f) =
              rw (e, f, parse_tokens) (before_agrees x y us (read_asks text (read_whole declared us)) (word_is ere_word x.token e) (mark_is colon y.token f)
              (rw (e, f)) (asks_agree declared text us (read_whole declared us) q.1 (reads_whole declared us)))
          go (inr f) = rw (e, f, parse_tokens) (record { left = y ∷ us; judged = rw (e, f); offset = refl })

      first : (is_word_of ere_word x.token ≡ true) ⊎ (is_word_of ere_word x.token ≡ false) → Agreed (x ∷ ls) (parse_tokens (x ∷ ls))
      first (inl e) = second e ls p.1
      first (inr e) = rw (e, parse_tokens) (record { left = x ∷ ls; judged = rw e; offset = refl })

  pub parse-agrees : Agreed (lexemes text) (parse declared text)
  unfolding parse parse_tokens
  parse-agrees = tokens_agree (lexemes text) (lexemes_proper text)
