-- Laws of the text around a pattern: one for each return of its readers.
-- Assumes nothing.
use Rattle.std.specs.Prelude.{ℕ, ◌+◌, ◌-◌, ◌*◌, ◌≤◌, ◌<◌, ◌≡◌, refl, Bool, true, false, ◌⊎◌, List, [], ◌∷◌, length, take, drop, eqb, Option, None, Some, Result, Ok, Err}
use Rattle.std.proofs.Common.{sym, ap, ◌∙◌, inl, inr, ⊎_elim, lit≤, arith, eq-eqb, ne_eqb, lt-ltb}
use Rattle.std.proofs.lemmas.Option.{none-some, same_Some}
use lib.Pointwise.{pointwise}
use Rattle.fields.specs.SameLaws.{equal_is}
use Rattle.document.specs.Refusals.{Answer, taken, refused, notOfGrammar, number}
use Rattle.document.specs.Classes.{colon, ere_word}
use Rattle.document.specs.Patterns.{Pattern}
use Rattle.document.specs.Tokens.{Token, word, mark, ask, no_token, Lexeme, lexemes, offset_of, is_mark_of, is_word_of}
use Rattle.document.specs.Reading as document
use Rattle.document.specs.Reading.{Reading, read, stopped, next_is, past, ask_of, second_ask, read_asks, read_alternative, read_whole, parse}
use Rattle.refusals.specs.declared.Refusal.TheVariants.{NotOfGrammar}
use Rattle.tokens.specs.declared.Kind.{Kind}
use Rattle.tokens.specs.declared.Kind.TheVariants.{Word, Opening, Closing, Colon, Bar, Star, Plus, AskMatch, AskFail, Nothing, End}
use Rattle.tokens.specs.declared.Step.{Step}
use Rattle.tokens.specs.Lexing.{mark_kind, kind_of, kind_number, lexemes_at}
use Rattle.tokens.specs.Steps.{skip_to, Begins, Sort, Looks}
use Rattle.tokens.specs.TokensLaws.{lexemes_skip, lexemes_token, lexemes-end, skip_begins}
use Rattle.tokens.specs.StepsLaws.{mark_here, word_here, mark_missing, mark_number, step_here, end_here, offset_here}
use Rattle.parts.specs.declared.Part.{Part}
use Rattle.parts.specs.declared.Stopped.{Stopped}
use Rattle.parts.specs.Parts.{Says, Answers, AnsweredAs, refused_at}
use Rattle.parts.specs.PartsLaws.{good_is}
use Rattle.verdicts.specs.declared.Verdict.{Verdict}
use Rattle.verdicts.specs.declared.Verdict.TheVariants.{Undecided, Match, Fail}
use Rattle.verdicts.specs.Verdicts.{number as verdict_number, asked_of}
use Rattle.asking.specs.declared.Parsed.{Parsed}
use Rattle.asking.specs.Texts.{parsed_of, asked_by, asked_number, Asks}

-- `ere` -----------------------------------------------------------------------------------------------------------------

-- a token of another kind is no name
pub ere_missing : (s : List ℕ) (at : ℕ) (t : Step) → Looks s at t → (t.kind ≡ Word → ⊥) → false ≡ next_is (is_word_of ere_word) (lexemes_at s at)
ere_missing s at t look e = ⊎_elim (λ z. rw z.tokens) (λ z. rw z.tokens (go z.token z.kind)) look.what
  where
    go : (x : Token) → t.kind ≡ kind_of x → false ≡ is_word_of ere_word x
    go (word w) y = absurd (e y)
    go (mark c) y = refl
    go (ask v) y = refl
    go no_token y = refl

pub ere_here : (s : List ℕ) (at : ℕ) (t : Step) (c : Bool) → Looks s at t → t.kind ≡ Word → c ≡ pointwise eqb (take (t.end - at) (drop at s)) ere_word
    → c ≡ next_is (is_word_of ere_word) (lexemes_at s at)
ere_here s at t c look e k = k ∙ sym (rw (word_here s at t look e) (equal_is (take (t.end - at) (drop at s)) ere_word))

-- The verdicts asked for ------------------------------------------------------------------------------------------------

-- what the first of the tokens that are left asks for
abbrev next_ask : List Lexeme → ℕ
next_ask [] = 0
next_ask (x ∷ more) = ask_of x.token

-- A token asks for match or for fail, if for any.
one_of_two : (k : Kind) (v : Verdict) → Some v ≡ asked_by k → (v ≡ Match) ⊎ (v ≡ Fail)
one_of_two AskMatch v e = inl (same_Some _ _ e)
one_of_two AskFail v e = inr (same_Some _ _ e)
one_of_two Word v e = absurd (none-some v (sym e))
one_of_two Opening v e = absurd (none-some v (sym e))
one_of_two Closing v e = absurd (none-some v (sym e))
one_of_two Colon v e = absurd (none-some v (sym e))
one_of_two Bar v e = absurd (none-some v (sym e))
one_of_two Star v e = absurd (none-some v (sym e))
one_of_two Plus v e = absurd (none-some v (sym e))
one_of_two Nothing v e = absurd (none-some v (sym e))
one_of_two End v e = absurd (none-some v (sym e))

number_is : (k : Kind) (v w : Verdict) → Some v ≡ asked_by k → v ≡ w → asked_number (asked_by k) ≡ verdict_number w
number_is k v w e q = ap asked_number (sym e) ∙ ap verdict_number q

at_most_two : (o : Option Verdict) → asked_number o ≤ 2
at_most_two None = omega arith
at_most_two (Some Undecided) = omega arith
at_most_two (Some Match) = omega arith
at_most_two (Some Fail) = omega arith

-- the set of the verdict asked for is its number
pub set_is : (k : Kind) (v : Verdict) (a : ℕ) → Some v ≡ asked_by k → a ≡ asked_of v → a ≡ asked_number (asked_by k)
set_is k v a e q = elim (one_of_two k v e) [
  | inl x ↦ q ∙ ap asked_of x ∙ sym (number_is k v Match e x)
  | inr x ↦ q ∙ ap asked_of x ∙ sym (number_is k v Fail e x)
]

pub asks_some : (k : Kind) (v : Verdict) → Some v ≡ asked_by k → asked_number (asked_by k) ≡ 0 → ⊥
asks_some k v e z = elim (one_of_two k v e) [
  | inl x ↦ let n : asked_number (asked_by k) ≡ 1 = number_is k v Match e x in omega arith
  | inr x ↦ let n : asked_number (asked_by k) ≡ 2 = number_is k v Fail e x in omega arith
]

-- Two tokens ask for both verdicts exactly if they ask for two that differ.
pub both_asked : (k l : Kind) (v w : Verdict) → Some v ≡ asked_by k → Some w ≡ asked_by l → (w ≡ v → ⊥) → asked_number (asked_by k) + asked_number (asked_by l) ≡ 3
both_asked k l v w e f d = elim (one_of_two k v e) [
  | inl x ↦ elim (one_of_two l w f) [
    | inl y ↦ absurd (d (y ∙ sym x))
    | inr y ↦ sum_of 1 2 (number_is k v Match e x) (number_is l w Fail f y) refl
  ]
  | inr x ↦ elim (one_of_two l w f) [
    | inl y ↦ sum_of 2 1 (number_is k v Fail e x) (number_is l w Match f y) refl
    | inr y ↦ absurd (d (y ∙ sym x))
  ]
]
  where
    sum_of : (m n : ℕ) → asked_number (asked_by k) ≡ m → asked_number (asked_by l) ≡ n → m + n ≡ 3 → asked_number (asked_by k) + asked_number (asked_by l) ≡ 3
    sum_of m n p q r = omega arith

pub none_asked : (k l : Kind) → None ≡ asked_by l → asked_number (asked_by k) + asked_number (asked_by l) ≡ 3 → ⊥
none_asked k l e z =
    let n : asked_number (asked_by l) ≡ 0 = ap asked_number (sym e) in
    let m = at_most_two (asked_by k) in
    omega arith

pub same_asked : (k l : Kind) (v w : Verdict) → Some v ≡ asked_by k → Some w ≡ asked_by l → w ≡ v → asked_number (asked_by k) + asked_number (asked_by l) ≡ 3 → ⊥
same_asked k l v w e f q z =
    let n : asked_number (asked_by l) ≡ asked_number (asked_by k) = number_is l w v f q ∙ ap asked_number e in
    omega arith

-- no mark asks
mark_asks : (k : Kind) → kind_number k ≤ 9 → asked_number (asked_by k) ≡ 0
mark_asks Word l = refl
mark_asks Opening l = refl
mark_asks Closing l = refl
mark_asks Colon l = refl
mark_asks Bar l = refl
mark_asks Star l = refl
mark_asks Plus l = refl
mark_asks AskMatch l = absurd (omega arith)
mark_asks AskFail l = absurd (omega arith)
mark_asks Nothing l = absurd (omega arith)
mark_asks End l = absurd (omega arith)

ask_test : (s : List ℕ) (at : ℕ) (t : Step) → Looks s at t → next_ask (lexemes_at s at) ≡ asked_number (asked_by t.kind)
ask_test s at t look = ⊎_elim (λ z. rw (z.tokens, z.kind)) (λ z. rw (z.tokens, z.kind) (go z.token z.sort)) look.what
  where
    go : (x : Token) → Sort (take (t.end - at) (drop at s)) x → ask_of x ≡ asked_number (asked_by (kind_of x))
    go (word w) z = refl
    go (mark c) z = sym (mark_asks (mark_kind c) (let n = mark_number c z.0 z.1 in let l = z.1 in omega arith))
    go (ask v) (inl z) = rw z
    go (ask v) (inr z) = rw z
    go no_token z = refl

-- The definition's answers, by what the tokens that are left ask for.
no_ask : (s : List ℕ) (x : Pattern) (n : ℕ) (ls : List Lexeme) → next_ask ls ≡ 0 → read_asks s (read x ls n) ≡ refused notOfGrammar (offset_of s ls)
unfolding read_asks offset_of
no_ask s x n [] e = refl
no_ask s x n (y ∷ ls) e = rw (read_asks, e)

first_ask : (s : List ℕ) (x : Pattern) (n v : ℕ) (y : Lexeme) (ls more : List Lexeme) → ls ≡ y ∷ more → next_ask ls ≡ v → (v ≡ 0 → ⊥)
    → read_asks s (read x ls n) ≡ second_ask x v more
unfolding read_asks
first_ask s x n v y ls more e k z = let h = rw e at k in rw (e, read_asks, lt-ltb 0 (ask_of y.token) (omega arith), h)

second_wrong : (x : Pattern) (v : ℕ) (y : Lexeme) (more : List Lexeme) → (v + ask_of y.token ≡ 3 → ⊥)
    → second_ask x v (y ∷ more) ≡ refused notOfGrammar y.at
unfolding second_ask
second_wrong x v y [] h = rw (second_ask, ne_eqb (v + ask_of y.token) 3 h)
second_wrong x v y (u ∷ more) h = rw (second_ask, ne_eqb (v + ask_of y.token) 3 h)

second_more : (x : Pattern) (v : ℕ) (y u : Lexeme) (more : List Lexeme) → v + ask_of y.token ≡ 3
    → second_ask x v (y ∷ u ∷ more) ≡ refused notOfGrammar u.at
unfolding second_ask
second_more x v y u more h = rw (second_ask, eq-eqb (v + ask_of y.token) 3 h)

second_both : (x : Pattern) (v : ℕ) (y : Lexeme) → v + ask_of y.token ≡ 3 → second_ask x v (y ∷ []) ≡ taken (record { pattern = x; asked = 3 })
unfolding second_ask
second_both x v y h = rw (second_ask, eq-eqb (v + ask_of y.token) 3 h)

-- the answer that refuses a text at a place
refuses : (A : Answer document.Parsed) (at : ℕ) (x : Stopped) → A ≡ refused notOfGrammar at → x ≡ refused_at NotOfGrammar at → AnsweredAs parsed_of A (Err x)
refuses A at x e k = rw (e, k) (refl, refl)

module _ (s : List ℕ) (a : Part) (t : Step) (look : Looks s a.at t) (v : ℕ) (e : v ≡ asked_number (asked_by t.kind)) where
  pub asks_none : (r : Stopped) → Begins s a.at → v ≡ 0 → r ≡ refused_at NotOfGrammar a.at → Asks s a (Err r)
  asks_none r g z k = record {
    says = λ x _. refuses _ a.at r (no_ask s x a.names (lexemes_at s a.at) (ask_test s a.at t look ∙ sym e ∙ z) ∙ ap (refused notOfGrammar) (offset_here s a.at g)) k;
  }

  module _ (z : v ≡ 0 → ⊥) where
    first_is : (x : Pattern) → read_asks s (read x (lexemes_at s a.at) a.names) ≡ second_ask x v (lexemes_at s t.next)
    first_is x =
        let h = step_here s a.at t look (λ i. z (e ∙ rw i)) in
        first_ask s x a.names v _ _ _ h.tokens (ask_test s a.at t look ∙ sym e) z

    pub asks_one : length s ≤ t.next → Asks s a (Ok (record { asked = v; shape = a.shape }))
    unfolding second_ask
    asks_one l = record { says = λ x g. rw (first_is x, lexemes-end s t.next l, g) }

    module _ (l : t.next < length s) (u : Step) (look' : Looks s t.next u) (w : ℕ) (e' : w ≡ asked_number (asked_by u.kind)) where
      second_is : (x : Pattern) → (y : Lexeme) × ((y.at ≡ t.next) × ((ask_of y.token ≡ w)
          × (read_asks s (read x (lexemes_at s a.at) a.names) ≡ second_ask x v (y ∷ lexemes_at s u.next))))
      second_is x =
          let h = step_here s t.next u look' (λ i. let j = (end_here s t.next u look' i).1 in omega arith) in
          let m = rw h.tokens at (ask_test s t.next u look') in
          (record { token = h.token; at = t.next }, (refl, (m ∙ sym e', first_is x ∙ ap (second_ask x v) h.tokens)))

      pub asks_wrong : (r : Stopped) → (v + w ≡ 3 → ⊥) → r ≡ refused_at NotOfGrammar t.next → Asks s a (Err r)
      asks_wrong r n k = record {
        says = λ x _.
            let y = second_is x in
            refuses _ t.next r
            (y.1.1.1 ∙ second_wrong x v y.0 (lexemes_at s u.next) (λ q. n (ap (λ i. v + i) (sym y.1.1.0) ∙ q)) ∙ ap (refused notOfGrammar) y.1.0) k;
      }

      module _ (q : v + w ≡ 3) where
        pub asks_more : (r : Stopped) → u.next < length s → r ≡ refused_at NotOfGrammar u.next → Asks s a (Err r)
        asks_more r i k = record {
          says = λ x _.
              let y = second_is x in
              refuses _ u.next r
              (y.1.1.1 ∙ ap (λ ls. second_ask x v (y.0 ∷ ls)) (lexemes_token s u.next look'.begins i) ∙ second_more x v y.0 _ _ (ap (λ i. v + i) y.1.1.0 ∙ q)) k;
        }

        pub asks_both : length s ≤ u.next → Asks s a (Ok (record { asked = 3; shape = a.shape }))
        asks_both i = record {
          says = λ x g.
              let y = second_is x in
              rw (y.1.1.1, lexemes-end s u.next i, second_both x v y.0 (ap (λ i. v + i) y.1.1.0 ∙ q), g);
        }

-- a refusal of the pattern is the text's
refused_asks : (s : List ℕ) (x : Stopped) (R : Reading) → Says s R (Err x) → AnsweredAs parsed_of (read_asks s R) (Err x)
unfolding read_asks
refused_asks s x (read y left n) h = absurd h
refused_asks s x (stopped q left) h = (ap number h.0, h.1)

-- The whole text --------------------------------------------------------------------------------------------------------

pub start_begins : (s : List ℕ) (start : ℕ) → start ≡ skip_to s 0 → Begins s start
start_begins s start e = rw e (skip_begins s 0 (omega arith))

start-tokens : (s : List ℕ) (start : ℕ) → start ≡ skip_to s 0 → lexemes s ≡ lexemes_at s start
unfolding lexemes lexemes_at
start-tokens s start e = rw e (lexemes_skip s 0)

module _ (D : List (List ℕ)) (s : List ℕ) (start : ℕ) (e : start ≡ skip_to s 0) where
  module _ (t : Step) (look : Looks s start t) (c : Bool) (k : c ≡ next_is (is_word_of ere_word) (lexemes_at s start)) where
    ere_test : (b : Bool) → c ≡ b → next_is (is_word_of ere_word) (lexemes s) ≡ b
    ere_test b q = rw (start-tokens s start e) (sym k ∙ q)

    pub parse_no_ere : (r : Stopped) → c ≡ false → r ≡ refused_at NotOfGrammar start → AnsweredAs parsed_of (parse D s) (Err r)
    unfolding parse
    parse_no_ere r n h = refuses _ start r (rw (parse, ere_test false n, start-tokens s start e, offset_here s start (start_begins s start e))) h

    module _ (n : c ≡ true) where
      ere_past : past (lexemes_at s start) ≡ lexemes_at s t.next
      ere_past = let h = step_here s start t look not_over in rw h.tokens
        where
          not_over : t.kind ≡ End → ⊥
          not_over i = let j = rw (end_here s start t look i).0 at (sym k ∙ n) in let z : ◌≡◌ {A = ℕ} 0 1 = cc in omega arith

      colon_test : (b : Bool) → next_is (is_mark_of colon) (lexemes_at s t.next) ≡ b → next_is (is_mark_of colon) (past (lexemes s)) ≡ b
      colon_test b q = rw (start-tokens s start e, ere_past) q

      module _ (u : Step) (look' : Looks s t.next u) where
        pub parse_no_colon : (r : Stopped) → (u.kind ≡ Colon → ⊥) → r ≡ refused_at NotOfGrammar t.next → AnsweredAs parsed_of (parse D s) (Err r)
        unfolding parse
        parse_no_colon r m h = refuses _ t.next r
            (rw (parse, ere_test true n, colon_test false (mark_missing s t.next u look' colon m), start-tokens s start e, ere_past, offset_here s t.next look.begins)) h

        module _ (m : u.kind ≡ Colon) where
          parse-is : parse D s ≡ read_asks s (read_alternative D (4 * length (lexemes_at s u.next) + 4) 0 0 (lexemes_at s u.next))
          unfolding parse read_whole
          parse-is =
              let j = mark_here s t.next u look' colon (lit≤ tt) (lit≤ tt) m in
              rw (parse, ere_test true n, colon_test true (rw j), start-tokens s start e, ere_past, j)

          pub parse_refused : (x : Stopped) → Answers (read_alternative D) 3 s u.next 0 0 (Err x) → AnsweredAs parsed_of (parse D s) (Err x)
          parse_refused x h = rw parse-is (refused_asks s x _ (h.says (4 * length (lexemes_at s u.next) + 4) (omega arith)))

          pub parse_asks : (a : Part) (r : Result Parsed Stopped) → Answers (read_alternative D) 3 s u.next 0 0 (Ok a) → Asks s a r → AnsweredAs parsed_of (parse D s) r
          parse_asks a r h i =
              let g = good_is s a _ (h.says (4 * length (lexemes_at s u.next) + 4) (omega arith)) in
              rw (parse-is, g.is) (i.says g.pattern g.shape)
