-- Document 01, "then `@match`, `@fail` or both, each once, in either order": the reader of what follows a pattern agrees with the
-- judge, and what it takes is a pattern with the verdicts that it asks for.
-- Assumes nothing.
use Rattle.std.specs.Prelude.{ℕ, ◌+◌, ◌≡◌, ◌⊎◌, true, false, eqb}
use Rattle.std.proofs.Math.Path.{refl}
use Rattle.std.proofs.Common.{ap, subst, ◌∙◌, inl, inr}
use mathlib.Core.List.{List, [], ◌∷◌, ◌++◌}
use Rattle.document.specs.Patterns.{Pattern}
use Rattle.document.specs.Refusals.{Refusal, notOfGrammar, Answer, taken, refused}
use Rattle.document.specs.Tokens.{Token, ask, Lexeme, offset_of}
use Rattle.document.specs.Grammar.{alternatives, Reads, Asks, just_match, just_fail, match-fail, fail-match}
use Rattle.document.specs.Reading.{Reading, read, stopped, ask_of, Parsed, second_ask, read_asks}
use Rattle.basics.specs.Tests.{not_both}
use Rattle.grammar.specs.Sorts.{View, is_name_lem, is-opening, is-closing, is-bar, is-star, is-plus, is-match, is-fail, is-other, view}
use Rattle.grammar.specs.Automaton.{State, expecting, after, matchAsked, failAsked, bothAsked, stuck, step, asked_at}
use Rattle.grammar.specs.Judge.{fine, passes, stops, ended_with, limit_check, judge}
use Rattle.grammar.specs.Agree.{tokens, tokens_append, Got, Agrees}
use Rattle.grammar.specs.Proper.{Proper, AllProper, proper_right, other_asks}

module _ (declared : List (List ℕ)) (text : List ℕ) where
  -- the judge stops, and the offset is that of the first token that is left
  pub record StopsAt (s : State) (ls : List Lexeme) (q : Refusal) (at : ℕ) : Type 0 where
    pub left : List Lexeme
    pub judged : judge declared s 0 ls ≡ stops q left
    pub offset : at ≡ offset_of text left

  -- after `ere` and `:` the tokens are a pattern and what it asks for, and the judge lets them pass
  pub record Follows (ls : List Lexeme) (p : Parsed) : Type 0 where
    pub body : List Token
    pub asks : List Token
    pub names : ℕ
    pub is : tokens ls ≡ body ++ asks
    pub reads : Reads declared alternatives 0 names body p.pattern
    pub wants : Asks asks p.asked
    pub judged : judge declared (expecting 0) 0 ls ≡ passes p.asked

  abbrev pub Answered : List Lexeme → Answer Parsed → Type 0
  Answered ls (taken p) = Follows ls p
  Answered ls (refused q at) = StopsAt (expecting 0) ls q at

  -- a pattern and the first verdict asked for; the judge is in the state s
  record First (v : ℕ) (s : State) (ls more : List Lexeme) (r : Pattern) (m : ℕ) : Type 0 where
    pub front : List Lexeme
    pub at : ℕ
    pub is : ls ≡ front ++ (record { token = ask v; at = at } ∷ more)
    pub reads : Reads declared alternatives 0 m (tokens front) r
    pub goes : judge declared (expecting 0) 0 ls ≡ judge declared s m more

  module _ {v : ℕ} {s : State} {ls more : List Lexeme} {r : Pattern} {m : ℕ} (h : First v s ls more r m) where
    first_taken : (a : ℕ) → Asks (ask v ∷ tokens more) a → judge declared s m more ≡ passes a → Follows ls (record { pattern = r; asked = a })
    first_taken a w j =
        record {
          body = tokens h.front;
          asks = ask v ∷ tokens more;
          names = m;
          is = ap (λ x. tokens x) h.is ∙ tokens_append h.front (record { token = ask v; at = h.at } ∷ more);
          reads = h.reads;
          wants = w;
          judged = h.goes ∙ j;
        }

    first_refused : (left : List Lexeme) → judge declared s m more ≡ stops notOfGrammar left → StopsAt (expecting 0) ls notOfGrammar (offset_of text left)
    first_refused left j = record { left = left; judged = h.goes ∙ j; offset = refl }

  -- after the verdict v the machine is in the state s, and u is the other verdict
  record Turn (v u : ℕ) (s : State) : Type 0 where
    pub one : Asks (ask v ∷ []) v
    pub both : Asks (ask v ∷ ask u ∷ []) 3
    pub ended : ended_with (asked_at s) ≡ passes v
    pub sum : eqb (v + u) 3 ≡ true
    pub next : step s (ask u) ≡ bothAsked
    pub unlimited : (m : ℕ) (t : Token) → limit_check declared s m t ≡ fine
    pub turn : (t : Token) → Proper t → (t ≡ ask u) ⊎ ((eqb (v + ask_of t) 3 ≡ false) × (step s t ≡ stuck))

  second_agrees : {v u : ℕ} {s : State} → Turn v u s → (ls more : List Lexeme) (r : Pattern) (m : ℕ) → First v s ls more r m → AllProper more
      → Answered ls (second_ask r v more)
  unfolding second_ask offset_of
  second_agrees {v} T ls [] r m h p = first_taken h v T.one T.ended
  second_agrees {v} {u} {s} T ls (y ∷ []) r m h p = go (T.turn y.token p.0)
    where
      go : (y.token ≡ ask u) ⊎ ((eqb (v + ask_of y.token) 3 ≡ false) × (step s y.token ≡ stuck)) → Answered ls (second_ask r v (y ∷ []))
      go (inl e) = rw (e, T.sum, second_ask) (first_taken h 3 (rw e T.both) (rw (e, T.next, T.unlimited m (ask u))))
      go (inr f) = rw (f.0, second_ask) (first_refused h (y ∷ []) (rw f.1))
  second_agrees {v} {u} {s} T ls (y ∷ z ∷ rest) r m h p = go (T.turn y.token p.0)
    where
      go : (y.token ≡ ask u) ⊎ ((eqb (v + ask_of y.token) 3 ≡ false) × (step s y.token ≡ stuck)) → Answered ls (second_ask r v (y ∷ z ∷ rest))
      go (inl e) = rw (e, T.sum, second_ask) (first_refused h (z ∷ rest) (rw (e, T.next, T.unlimited m (ask u))))
      go (inr f) = rw (f.0, second_ask) (first_refused h (y ∷ z ∷ rest) (rw f.1))

  match-turn : Turn 1 2 matchAsked
  match-turn =
      record {
        one = just_match;
        both = match-fail;
        ended = refl;
        sum = refl;
        next = refl;
        unlimited = λ m t. refl;
        turn = λ t p. go (view t) p;
      }
    where
      go : {t : Token} → View t → Proper t → (t ≡ ask 2) ⊎ ((eqb (1 + ask_of t) 3 ≡ false) × (step matchAsked t ≡ stuck))
      go is-fail p = inl refl
      go (is_name_lem w) p = inr (refl, refl)
      go is-opening p = inr (refl, refl)
      go is-closing p = inr (refl, refl)
      go is-bar p = inr (refl, refl)
      go is-star p = inr (refl, refl)
      go is-plus p = inr (refl, refl)
      go is-match p = inr (refl, refl)
      go (is-other {t = t} o) p = inr (rw (other_asks t p o), rw o.sort)

  fail-turn : Turn 2 1 failAsked
  fail-turn =
      record {
        one = just_fail;
        both = fail-match;
        ended = refl;
        sum = refl;
        next = refl;
        unlimited = λ m t. refl;
        turn = λ t p. go (view t) p;
      }
    where
      go : {t : Token} → View t → Proper t → (t ≡ ask 1) ⊎ ((eqb (2 + ask_of t) 3 ≡ false) × (step failAsked t ≡ stuck))
      go is-match p = inl refl
      go (is_name_lem w) p = inr (refl, refl)
      go is-opening p = inr (refl, refl)
      go is-closing p = inr (refl, refl)
      go is-bar p = inr (refl, refl)
      go is-star p = inr (refl, refl)
      go is-plus p = inr (refl, refl)
      go is-fail p = inr (refl, refl)
      go (is-other {t = t} o) p = inr (rw (other_asks t p o), rw o.sort)

  -- what follows the pattern
  pub asks_agree : (ls : List Lexeme) (R : Reading) → AllProper ls → Agrees declared alternatives 0 0 ls R → Answered ls (read_asks text R)
  unfolding read_asks offset_of
  asks_agree ls (stopped q left) p h = record { left = left; judged = h; offset = refl }
  asks_agree ls (read r [] m) p h = record { left = []; judged = h.upto.goes; offset = refl }
  asks_agree ls (read r (x ∷ more) m) p h = go x.token x.at (view x.token) h (proper_right h.upto.front (x ∷ more) (subst AllProper h.upto.is p))
    where
      refuses : (end : List Lexeme) → Got declared alternatives 0 0 ls r end m → judge declared (after 0) m end ≡ stops notOfGrammar end
          → StopsAt (expecting 0) ls notOfGrammar (offset_of text end)
      refuses end g j = record { left = end; judged = g.upto.goes ∙ j; offset = refl }

      go : (t : Token) (a : ℕ) → View t → Got declared alternatives 0 0 ls r (record { token = t; at = a } ∷ more) m
          → AllProper (record { token = t; at = a } ∷ more) → Answered ls (read_asks text (read r (record { token = t; at = a } ∷ more) m))
      go t a is-match g q =
          second_agrees match-turn ls more r m (record { front = g.upto.front; at = a; is = g.upto.is; reads = g.upto.reads; goes = g.upto.goes }) q.1
      go t a is-fail g q =
          second_agrees fail-turn ls more r m (record { front = g.upto.front; at = a; is = g.upto.is; reads = g.upto.reads; goes = g.upto.goes }) q.1
      go t a is-closing g q = refuses _ g refl
      go t a (is_name_lem w) g q = absurd (not_both _ refl g.ends.ends.no_atom)
      go t a is-opening g q = absurd (not_both _ refl g.ends.ends.no_atom)
      go t a is-bar g q = absurd (not_both _ refl g.ends.no_bar)
      go t a is-star g q = absurd (not_both _ refl g.ends.ends.ends.no_star)
      go t a is-plus g q = absurd (not_both _ refl g.ends.ends.ends.no_plus)
      go t a (is-other o) g q = rw (other_asks t q.0 o, read_asks) (refuses _ g (rw o.sort))
