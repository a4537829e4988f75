-- Laws of the reader of atoms: one for each return.
-- Assumes nothing.
use Rattle.std.specs.Prelude.{ℕ, suc, ◌+◌, ◌*◌, ◌≤◌, ◌<◌, ◌-◌, ◌≡◌, Bool, true, false, List, [], ◌∷◌, length, take, drop, Result, Ok, Err}
use Rattle.std.proofs.Math.Path.{refl, sym, ap₂}
use Rattle.std.proofs.Common.{ap, ◌∙◌, lit≤, arith, add-one, eqb}
use borrow.Author.Tests.{lt-ltb, le-ltb}
use lib.Pointwise.{pointwise}
use Rattle.fields.specs.SameLaws.{equal_is}
use Rattle.document.specs.Lists.{equal, place_of}
use Rattle.document.specs.Limits.{most_names, most_open}
use Rattle.document.specs.Refusals.{notOfGrammar, tooDeep}
use Rattle.document.specs.Classes.{opening, closing, epsilon_word}
use Rattle.document.specs.Patterns.{Pattern, epsilon, name}
use Rattle.document.specs.Tokens.{Token, word, mark, ask, no_token, Lexeme, begins_atom}
use Rattle.document.specs.Reading.{Reading, read, stopped, next_is, closed, read_name, atom_of, read_atom_in, read_alternative, read_atom}
use Rattle.refusals.specs.declared.Refusal.TheVariants as code
use Rattle.sets.specs.declared.Shape.{Shape}
use Rattle.sets.specs.Shapes.{shape_of}
use Rattle.tokens.specs.declared.Kind.TheVariants.{Word, Opening, Closing, Colon, Bar, Star, Plus, AskMatch, AskFail, Nothing, End}
use Rattle.tokens.specs.declared.Kind.{Kind}
use Rattle.tokens.specs.declared.Step.{Step}
use Rattle.tokens.specs.Lexing.{begins_kind, lexemes_at}
use Rattle.tokens.specs.Steps.{Begins, Looks}
use Rattle.tokens.specs.StepsLaws.{mark_here, word_here, mark_missing, atom_test, step_past, step_fewer}
use Rattle.basics.specs.Lists.{length-tabulate}
use Rattle.places.specs.NamesAt.{names_at}
use Rattle.parts.specs.declared.Source.{Source}
use Rattle.parts.specs.declared.Part.{Part}
use Rattle.parts.specs.declared.Stopped.{Stopped}
use Rattle.parts.specs.Parts.{Ready, Says, Goes, Answers, events_of, taken_at, refused_at}
use Rattle.parts.specs.PartsLaws.{good_is, stops, refused_says, answers}

pub events_length : (x : Source) → length (events_of x) ≡ x.events.count
unfolding names_at
events_length x = length-tabulate x.events.count _

-- a name that stands at a place
module _ (D : List (List ℕ)) (s : List ℕ) (at n d : ℕ) (ready : Ready s at n) (t : Step) (look : Looks s at t) (z : t.kind ≡ Word)
    (c : Bool) (e : c ≡ pointwise eqb (take (t.end - at) (drop at s)) epsilon_word) where
  word_says : (f : ℕ) (r : Result Part Stopped) → Says s (read_name D (take (t.end - at) (drop at s)) (lexemes_at s at) (lexemes_at s t.next) n) r
      → Says s (read_atom D (suc f) d n (lexemes_at s at)) r
  unfolding read_alternative read_atom_in atom_of
  word_says f r h = rw (word_here s at t look z) (rw (word_here s at t look z) at h)

  word_goes : (m : ℕ) (shape : Shape) → m ≤ most_names → Goes s at (taken_at t.next m shape)
  word_goes m shape q = record { begins = look.begins; past = step_past s at t look (λ i. cc); fewer = step_fewer s at t look (λ i. cc); few = q }

  epsilon_is : (b : Bool) → c ≡ b → equal (take (t.end - at) (drop at s)) epsilon_word ≡ b
  epsilon_is b i = equal_is _ _ ∙ sym e ∙ i

  pub word_epsilon : (shape : Shape) → c ≡ true → shape ≡ shape_of epsilon → Answers (read_atom D) 0 s at n d (Ok (taken_at t.next n shape))
  unfolding read_name
  word_epsilon shape i k = answers _ 0 s at n d _ (word_goes n shape ready.few) (λ f q.
      word_says f _ (rw (read_name, epsilon_is true i) (refl, (refl, k))))

  module _ (i : c ≡ false) (events : ℕ) (l : length D ≡ events) where
    pub word_undeclared : (x : Stopped) → place_of (take (t.end - at) (drop at s)) D ≡ events → x ≡ refused_at code.UndeclaredEvent at
        → Answers (read_atom D) 0 s at n d (Err x)
    unfolding read_name
    word_undeclared x k g = rw g (answers _ 0 s at n d _ tt (λ f q.
        word_says f _ (rw (read_name, epsilon_is false i, le-ltb (place_of (take (t.end - at) (drop at s)) D) (length D) (omega arith)) (refused_says s at code.UndeclaredEvent ready.begins))))

    module _ (event : ℕ) (k : (event ≡ place_of (take (t.end - at) (drop at s)) D) × (event < events)) where
      pub word_many : (x : Stopped) → most_names ≤ n → x ≡ refused_at code.TooManyNames at → Answers (read_atom D) 0 s at n d (Err x)
      unfolding read_name
      word_many x m g = rw g (answers _ 0 s at n d _ tt (λ f q.
          word_says f _ (rw (read_name, epsilon_is false i, ← k.0, lt-ltb event (length D) (omega (arith, k.1)), le-ltb n most_names m) (refused_says s at code.TooManyNames ready.begins))))

      pub word_taken : (shape : Shape) → n < most_names → shape ≡ shape_of (name (n + 1) event)
          → Answers (read_atom D) 0 s at n d (Ok (taken_at t.next (n + 1) shape))
      unfolding read_name
      word_taken shape m g = answers _ 0 s at n d _ (word_goes (n + 1) shape (omega arith)) (λ f q.
          word_says f _ (rw (read_name, epsilon_is false i, ← k.0, lt-ltb event (length D) (omega (arith, k.1)), lt-ltb n most_names m) (refl, (sym (add-one n), g ∙ ap₂ (λ p v. shape_of (name p v)) (add-one n) k.0))))

-- what begins no atom, a parenthesis too deep, one whose inside is refused, one that is not closed, one that is
no_atom : (D : List (List ℕ)) (inside : ℕ → List Lexeme → Reading) (d n : ℕ) (ls : List Lexeme) → next_is begins_atom ls ≡ false
    → read_atom_in D inside d n ls ≡ stopped notOfGrammar ls
unfolding read_atom_in atom_of
no_atom D inside d n [] e = refl
no_atom D inside d n (x ∷ ls) e = go x.token e
  where
    go : (u : Token) → begins_atom u ≡ false → atom_of D inside d n (x ∷ ls) ls u ≡ stopped notOfGrammar (x ∷ ls)
    go (word w) h = cc
    go (mark c) h = rw (atom_of, h)
    go (ask v) h = refl
    go no_token h = refl

open_atom : (D : List (List ℕ)) (inside : ℕ → List Lexeme → Reading) (d n at : ℕ) (ls more : List Lexeme) → ls ≡ record { token = mark opening; at = at } ∷ more
    → d < most_open → read_atom_in D inside d n ls ≡ closed (inside n more)
unfolding read_atom_in atom_of
open_atom D inside d n at ls more e h = rw (e, read_atom_in, atom_of, lt-ltb d most_open h)

deep_atom : (D : List (List ℕ)) (inside : ℕ → List Lexeme → Reading) (d n at : ℕ) (ls more : List Lexeme) → ls ≡ record { token = mark opening; at = at } ∷ more
    → most_open ≤ d → read_atom_in D inside d n ls ≡ stopped tooDeep ls
unfolding read_atom_in atom_of
deep_atom D inside d n at ls more e h = rw (e, read_atom_in, atom_of, le-ltb d most_open h)

closed_here : (x : Pattern) (n at : ℕ) (ls more : List Lexeme) → ls ≡ record { token = mark closing; at = at } ∷ more → closed (read x ls n) ≡ read x more n
unfolding closed
closed_here x n at ls more e = rw e

-- a kind that is neither a name nor `(` begins no atom
begins_none : (k : Kind) → (k ≡ Word → ⊥) → (k ≡ Opening → ⊥) → begins_kind k ≡ false
begins_none Word e h = absurd (e refl)
begins_none Opening e h = absurd (h refl)
begins_none Closing e h = refl
begins_none Colon e h = refl
begins_none Bar e h = refl
begins_none Star e h = refl
begins_none Plus e h = refl
begins_none AskMatch e h = refl
begins_none AskFail e h = refl
begins_none Nothing e h = refl
begins_none End e h = refl

module _ (D : List (List ℕ)) (s : List ℕ) (at n d : ℕ) (t : Step) (look : Looks s at t) where
  pub atom_missing : (x : Stopped) → Begins s at → (t.kind ≡ Word → ⊥) → (t.kind ≡ Opening → ⊥) → x ≡ refused_at code.NotOfGrammar at → Answers (read_atom D) 0 s at n d (Err x)
  unfolding read_alternative
  atom_missing x g w e k = rw k (answers _ 0 s at n d _ tt (λ f q.
      rw (no_atom D (λ k us. read_alternative D f (suc d) k us) d n (lexemes_at s at) (atom_test s at t look ∙ begins_none t.kind w e)) (refused_says s at code.NotOfGrammar g)))

  module _ (e : t.kind ≡ Opening) where
    pub atom_deep : (x : Stopped) → Begins s at → most_open ≤ d → x ≡ refused_at code.TooDeep at → Answers (read_atom D) 0 s at n d (Err x)
    unfolding read_alternative
    atom_deep x g l k = rw k (answers _ 0 s at n d _ tt (λ f q.
        rw (deep_atom D (λ k us. read_alternative D f (suc d) k us) d n at _ _ (mark_here s at t look opening (lit≤ tt) (lit≤ tt) e) l) (refused_says s at code.TooDeep g)))

    module _ (l : d < most_open) where
      inside_says : (r : Result Part Stopped) (h : Answers (read_alternative D) 3 s t.next n (d + 1) r) (f : ℕ) (r' : Result Part Stopped) → 4 * length (lexemes_at s at) + 0 ≤ f
          → (Says s (read_alternative D f (suc d) n (lexemes_at s t.next)) r → Says s (closed (read_alternative D f (suc d) n (lexemes_at s t.next))) r')
          → Says s (read_atom D (suc f) d n (lexemes_at s at)) r'
      unfolding read_alternative
      inside_says r h f r' q go =
          let w = step_fewer s at t look (λ i. cc) in
          rw (open_atom D (λ k us. read_alternative D f (suc d) k us) d n at _ _ (mark_here s at t look opening (lit≤ tt) (lit≤ tt) e) l)
          (go (rw (add-one d) at (h.says f (omega arith))))

      pub atom_stopped : (x : Stopped) → Answers (read_alternative D) 3 s t.next n (d + 1) (Err x) → Answers (read_atom D) 0 s at n d (Err x)
      unfolding closed
      atom_stopped x h = answers (read_atom D) 0 s at n d _ tt (λ f q.
          inside_says (Err x) h f (Err x) q (λ y. stops s x closed (λ q left. refl) (read_alternative D f (suc d) n (lexemes_at s t.next)) y))

      module _ (a : Part) (h : Answers (read_alternative D) 3 s t.next n (d + 1) (Ok a)) (u : Step) (look' : Looks s a.at u) where
        pub atom_open : (x : Stopped) → (u.kind ≡ Closing → ⊥) → x ≡ refused_at code.NotOfGrammar a.at → Answers (read_atom D) 0 s at n d (Err x)
        unfolding closed
        atom_open x m k = rw k (answers (read_atom D) 0 s at n d _ tt (λ f q.
            inside_says (Ok a) h f (Err (refused_at code.NotOfGrammar a.at)) q (λ y.
            let g = good_is s a (read_alternative D f (suc d) n (lexemes_at s t.next)) y in
            rw (g.is, closed, mark_missing s a.at u look' closing m) (refused_says s a.at code.NotOfGrammar h.goes.begins))))

        pub atom_closed : u.kind ≡ Closing → Answers (read_atom D) 0 s at n d (Ok (taken_at u.next a.names a.shape))
        atom_closed m =
            let o = step_past s at t look (λ i. cc) in
            let v = step_fewer s at t look (λ i. cc) in
            let p = step_past s a.at u look' (λ i. cc) in
            let w = step_fewer s a.at u look' (λ i. cc) in
            let j = h.goes.past in
            let x = h.goes.fewer in
            let goes : Goes s at (taken_at u.next a.names a.shape) = record { begins = look'.begins; past = omega arith; fewer = omega arith; few = h.goes.few } in
            answers (read_atom D) 0 s at n d _ goes (λ f q.
            inside_says (Ok a) h f (Ok (taken_at u.next a.names a.shape)) q (λ y.
            let g = good_is s a (read_alternative D f (suc d) n (lexemes_at s t.next)) y in
            rw (ap closed g.is ∙ closed_here g.pattern a.names a.at _ _ (mark_here s a.at u look' closing (lit≤ tt) (lit≤ tt) m)) (refl, (refl, g.shape))))
