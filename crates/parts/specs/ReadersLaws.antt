-- Laws of the readers of alternatives, sequences and repetitions: one for each return.
-- Assumes nothing.
use Rattle.std.specs.Prelude.{ℕ, suc, ◌+◌, ◌*◌, ◌≤◌, ◌≡◌, ◌⊎◌, refl, true, false, List, [], ◌∷◌, length, Result, Ok, Err}
use Rattle.std.proofs.Common.{sym, ap, ◌∙◌, ⊎_elim, lit≤, arith}
use Rattle.document.specs.Classes as byte
use Rattle.document.specs.Patterns.{Pattern, alternative, sequence, star, plus}
use Rattle.document.specs.Tokens.{mark, Lexeme, is_mark_of, begins_atom}
use Rattle.document.specs.Reading.{Reading, read, next_is, join_reading, marked, marked_reading, more_alternatives, more_repetitions, read_alternative, read_sequence, read_repetition, read_atom}
use Rattle.sets.specs.declared.Shape.{Shape}
use Rattle.sets.specs.Shapes.{shape_of, either_shape, then_shape, star_shape, plus_shape}
use Rattle.sets.specs.ShapesLaws.{either_shape_lem, then_shape_lem, star_shape_lem, plus_shape_lem}
use Rattle.tokens.specs.declared.Kind.TheVariants.{Bar, Star, Plus}
use Rattle.tokens.specs.declared.Step.{Step}
use Rattle.tokens.specs.Lexing.{begins_kind, lexemes_at}
use Rattle.tokens.specs.Steps.{Begins, Looks}
use Rattle.tokens.specs.StepsLaws.{mark_here, mark_missing, atom_test, step_past, step_fewer}
use Rattle.parts.specs.declared.Part.{Part}
use Rattle.parts.specs.declared.Stopped.{Stopped}
use Rattle.parts.specs.Parts.{Says, Goes, Answers, Marked, taken_at}
use Rattle.parts.specs.PartsLaws.{good_is, stops, answers, joined, later_goes}

-- An alternative -------------------------------------------------------------------------------------------------------

more-bar : (again : ℕ → List Lexeme → Reading) (x : Pattern) (n at : ℕ) (ls more : List Lexeme) → ls ≡ record { token = mark byte.bar; at = at } ∷ more
    → more_alternatives again (read x ls n) ≡ join_reading alternative x (again n more)
unfolding more_alternatives
more-bar again x n at ls more e = rw e

module _ (D : List (List ℕ)) (s : List ℕ) (at n d : ℕ) where
  pub alternative_refused : (e : Stopped) → Answers (read_sequence D) 2 s at n d (Err e) → Answers (read_alternative D) 3 s at n d (Err e)
  unfolding read_alternative more_alternatives
  alternative_refused e h = answers (read_alternative D) 3 s at n d _ tt (λ f q.
      stops s e (more_alternatives (λ k us. read_alternative D f d k us)) (λ q left. refl) (read_sequence D f d n (lexemes_at s at)) (h.says f (omega arith)))

  module _ (a : Part) (h : Answers (read_sequence D) 2 s at n d (Ok a)) (t : Step) (look : Looks s a.at t) where
    pub alternative_over : (t.kind ≡ Bar → ⊥) → Answers (read_alternative D) 3 s at n d (Ok a)
    unfolding read_alternative more_alternatives
    alternative_over e = answers (read_alternative D) 3 s at n d _ h.goes (λ f q.
        let g = good_is s a (read_sequence D f d n (lexemes_at s at)) (h.says f (omega arith)) in
        rw (g.is, more_alternatives, mark_missing s a.at t look byte.bar e) (refl, (refl, g.shape)))

    module _ (e : t.kind ≡ Bar) where
      bar-says : (r : Result Part Stopped) (hr : Answers (read_alternative D) 3 s t.next a.names d r) (f : ℕ) (r' : Result Part Stopped)
          → 4 * length (lexemes_at s at) + 3 ≤ f
          → ((x : Pattern) → a.shape ≡ shape_of x → Says s (read_alternative D f d a.names (lexemes_at s t.next)) r
          → Says s (join_reading alternative x (read_alternative D f d a.names (lexemes_at s t.next))) r')
          → Says s (read_alternative D (suc f) d n (lexemes_at s at)) r'
      unfolding read_alternative
      bar-says r hr f r' q go =
          let g = good_is s a (read_sequence D f d n (lexemes_at s at)) (h.says f (omega arith)) in
          let w = h.goes.fewer in
          let v = step_fewer s a.at t look (λ i. cc) in
          let m = more-bar (λ k us. read_alternative D f d k us) g.pattern a.names a.at _ _ (mark_here s a.at t look byte.bar (lit≤ tt) (lit≤ tt) e) in
          rw (ap (more_alternatives (λ k us. read_alternative D f d k us)) g.is ∙ m) (go g.pattern g.shape (hr.says f (omega arith)))

      pub alternative_stopped : (x : Stopped) → Answers (read_alternative D) 3 s t.next a.names d (Err x) → Answers (read_alternative D) 3 s at n d (Err x)
      alternative_stopped x hx = answers (read_alternative D) 3 s at n d _ tt (λ f q.
          bar-says (Err x) hx f (Err x) q (λ y _ hy. stops s x (join_reading alternative y) (λ q left. refl) (read_alternative D f d a.names (lexemes_at s t.next)) hy))

      pub alternative_taken : (b : Part) (shape : Shape) → Answers (read_alternative D) 3 s t.next a.names d (Ok b) → shape ≡ either_shape a.shape b.shape
          → Answers (read_alternative D) 3 s at n d (Ok (taken_at b.at b.names shape))
      alternative_taken b shape hb k =
          let p = h.goes.past in
          let w = h.goes.fewer in
          let o = step_past s a.at t look (λ i. cc) in
          let v = step_fewer s a.at t look (λ i. cc) in
          rw k (answers (read_alternative D) 3 s at n d _ (later_goes s at t.next b _ hb.goes (omega arith) (omega arith)) (λ f q.
          bar-says (Ok b) hb f _ q (λ x g hx. joined s alternative either_shape either_shape_lem a b x (read_alternative D f d a.names (lexemes_at s t.next)) g hx)))

-- A sequence -----------------------------------------------------------------------------------------------------------

more_begins : (again : ℕ → List Lexeme → Reading) (x : Pattern) (n : ℕ) (ls : List Lexeme) → next_is begins_atom ls ≡ true
    → more_repetitions again (read x ls n) ≡ join_reading sequence x (again n ls)
unfolding more_repetitions
more_begins again x n ls e = rw (more_repetitions, e)

module _ (D : List (List ℕ)) (s : List ℕ) (at n d : ℕ) where
  pub sequence_refused : (e : Stopped) → Answers (read_repetition D) 1 s at n d (Err e) → Answers (read_sequence D) 2 s at n d (Err e)
  unfolding read_alternative more_repetitions
  sequence_refused e h = answers (read_sequence D) 2 s at n d _ tt (λ f q.
      stops s e (more_repetitions (λ k us. read_sequence D f d k us)) (λ q left. refl) (read_repetition D f d n (lexemes_at s at)) (h.says f (omega arith)))

  module _ (a : Part) (h : Answers (read_repetition D) 1 s at n d (Ok a)) (t : Step) (look : Looks s a.at t) where
    pub sequence_over : begins_kind t.kind ≡ false → Answers (read_sequence D) 2 s at n d (Ok a)
    unfolding read_alternative more_repetitions
    sequence_over i = answers (read_sequence D) 2 s at n d _ h.goes (λ f q.
        let g = good_is s a (read_repetition D f d n (lexemes_at s at)) (h.says f (omega arith)) in
        rw (g.is, more_repetitions, atom_test s a.at t look ∙ i) (refl, (refl, g.shape)))

    module _ (i : begins_kind t.kind ≡ true) where
      beside_says : (r : Result Part Stopped) (hr : Answers (read_sequence D) 2 s a.at a.names d r) (f : ℕ) (r' : Result Part Stopped)
          → 4 * length (lexemes_at s at) + 2 ≤ f
          → ((x : Pattern) → a.shape ≡ shape_of x → Says s (read_sequence D f d a.names (lexemes_at s a.at)) r
          → Says s (join_reading sequence x (read_sequence D f d a.names (lexemes_at s a.at))) r')
          → Says s (read_sequence D (suc f) d n (lexemes_at s at)) r'
      unfolding read_alternative
      beside_says r hr f r' q go =
          let g = good_is s a (read_repetition D f d n (lexemes_at s at)) (h.says f (omega arith)) in
          let w = h.goes.fewer in
          let m = more_begins (λ k us. read_sequence D f d k us) g.pattern a.names _ (atom_test s a.at t look ∙ i) in
          rw (ap (more_repetitions (λ k us. read_sequence D f d k us)) g.is ∙ m) (go g.pattern g.shape (hr.says f (omega arith)))

      pub sequence_stopped : (x : Stopped) → Answers (read_sequence D) 2 s a.at a.names d (Err x) → Answers (read_sequence D) 2 s at n d (Err x)
      sequence_stopped x hx = answers (read_sequence D) 2 s at n d _ tt (λ f q.
          beside_says (Err x) hx f (Err x) q (λ y _ hy. stops s x (join_reading sequence y) (λ q left. refl) (read_sequence D f d a.names (lexemes_at s a.at)) hy))

      pub sequence_taken : (b : Part) (shape : Shape) → Answers (read_sequence D) 2 s a.at a.names d (Ok b) → shape ≡ then_shape a.shape b.shape
          → Answers (read_sequence D) 2 s at n d (Ok (taken_at b.at b.names shape))
      sequence_taken b shape hb k =
          rw k (answers (read_sequence D) 2 s at n d _ (later_goes s at a.at b _ hb.goes h.goes.past h.goes.fewer) (λ f q.
          beside_says (Ok b) hb f _ q (λ x g hx. joined s sequence then_shape then_shape_lem a b x (read_sequence D f d a.names (lexemes_at s a.at)) g hx)))

-- A repetition ---------------------------------------------------------------------------------------------------------

module _ (D : List (List ℕ)) (s : List ℕ) (at n d : ℕ) where
  pub repetition_refused : (e : Stopped) → Answers (read_atom D) 0 s at n d (Err e) → Answers (read_repetition D) 1 s at n d (Err e)
  unfolding read_alternative marked_reading
  repetition_refused e h = answers (read_repetition D) 1 s at n d _ tt (λ f q.
      stops s e marked_reading (λ q left. refl) (read_atom D f d n (lexemes_at s at)) (h.says f (omega arith)))

  pub repetition_marked : (a r : Part) → Answers (read_atom D) 0 s at n d (Ok a) → Marked s a r → Answers (read_repetition D) 1 s at n d (Ok r)
  unfolding read_alternative marked_reading
  repetition_marked a r h m =
      let p = h.goes.past in
      let w = h.goes.fewer in
      let v = h.goes.few in
      let past = m.past in
      let fewer = m.fewer in
      let names = m.names in
      let goes : Goes s at r = record { begins = m.begins; past = omega arith; fewer = omega arith; few = omega arith } in
      answers (read_repetition D) 1 s at n d _ goes (λ f q.
      let g = good_is s a (read_atom D f d n (lexemes_at s at)) (h.says f (omega arith)) in
      rw g.is (m.says g.pattern g.shape))

-- The marks after an atom: before the first, a `*` or a `+`, anything else.
pub record Marking (s : List ℕ) (a r : Part) : Type 0 where
  pub begins : Begins s r.at
  pub past : a.at ≤ r.at
  pub fewer : length (lexemes_at s r.at) ≤ length (lexemes_at s a.at)
  pub names : r.names ≡ a.names
  pub leaves : (x : Pattern) → a.shape ≡ shape_of x → (y : Pattern) × ((r.shape ≡ shape_of y) × (marked x (lexemes_at s a.at) a.names ≡ marked y (lexemes_at s r.at) a.names))

marked-star : (x : Pattern) (n at : ℕ) (ls more : List Lexeme) → ls ≡ record { token = mark byte.star; at = at } ∷ more → marked x ls n ≡ marked (star x) more n
unfolding marked
marked-star x n at ls more e = rw e

marked-plus : (x : Pattern) (n at : ℕ) (ls more : List Lexeme) → ls ≡ record { token = mark byte.plus; at = at } ∷ more → marked x ls n ≡ marked (plus x) more n
unfolding marked
marked-plus x n at ls more e = rw e

marked_over : (x : Pattern) (n : ℕ) (ls : List Lexeme) → next_is (is_mark_of byte.star) ls ≡ false → next_is (is_mark_of byte.plus) ls ≡ false → marked x ls n ≡ read x ls n
unfolding marked
marked_over x n [] e h = refl
marked_over x n (y ∷ ls) e h = rw (marked, e, h)

-- a `*` or a `+`, and the shape of what it makes of a part
abbrev pub Repeats : Part → Step → Shape → Type 0
Repeats r t shape = ((t.kind ≡ Star) × (shape ≡ star_shape r.shape)) ⊎ ((t.kind ≡ Plus) × (shape ≡ plus_shape r.shape))

module _ (s : List ℕ) (a r : Part) (m : Marking s a r) (t : Step) (look : Looks s r.at t) where
  pub marks_turn : (shape : Shape) → Repeats r t shape → Marking s a (taken_at t.next r.names shape)
  marks_turn shape e =
      let p = step_past s r.at t look (λ i. ⊎_elim (λ z. let k = z.0 in cc) (λ z. let k = z.0 in cc) e) in
      let w = step_fewer s r.at t look (λ i. ⊎_elim (λ z. let k = z.0 in cc) (λ z. let k = z.0 in cc) e) in
      let past = m.past in
      let fewer = m.fewer in
      record {
        begins = look.begins;
        past = omega arith;
        fewer = omega arith;
        names = m.names;
        leaves = λ x g. let l = m.leaves x g in ⊎_elim
            (λ z. (star l.0, (z.1 ∙ ap star_shape l.1.0 ∙ star_shape_lem l.0, l.1.1 ∙ marked-star l.0 a.names r.at _ _ (mark_here s r.at t look byte.star (lit≤ tt) (lit≤ tt) z.0))))
            (λ z. (plus l.0, (z.1 ∙ ap plus_shape l.1.0 ∙ plus_shape_lem l.0, l.1.1 ∙ marked-plus l.0 a.names r.at _ _ (mark_here s r.at t look byte.plus (lit≤ tt) (lit≤ tt) z.0))))
            e;
      }

  pub marks_over : (t.kind ≡ Star → ⊥) → (t.kind ≡ Plus → ⊥) → Marked s a r
  marks_over e h = record {
    begins = m.begins;
    past = m.past;
    fewer = m.fewer;
    names = m.names;
    says = λ x g.
        let l = m.leaves x g in
        let o = marked_over l.0 a.names _ (mark_missing s r.at t look byte.star e) (mark_missing s r.at t look byte.plus h) in
        rw (l.1.1 ∙ o) (refl, (sym m.names, l.1.0));
  }
