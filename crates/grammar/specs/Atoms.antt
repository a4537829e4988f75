-- Document 01, "An atom is an event name, `epsilon` (the empty word), or an alternative in parentheses": the reader of atoms agrees
-- with the judge, given that the reader inside the parentheses does.
-- Assumes nothing.
use Rattle.std.specs.Prelude.{ℕ, suc, ◌<◌, ◌≡◌, ◌⊎◌, true, false, length, ltb}
use Rattle.std.proofs.Common.{arith, ◌∙◌, inl, inr}
use Rattle.std.proofs.Math.Path.{refl, sym, ap, subst}
use mathlib.Core.List.{List, [], ◌∷◌, ◌++◌, append_assoc}
use Rattle.document.specs.Classes.{opening, epsilon_word}
use Rattle.document.specs.Limits.{most_names, most_open}
use Rattle.document.specs.Lists.{equal, place_of}
use Rattle.document.specs.Patterns.{epsilon}
use Rattle.document.specs.Tokens.{Token, word, mark, ask, no_token, Lexeme}
use Rattle.document.specs.Grammar.{alternatives, atoms, Reads, event, empty, grouped}
use Rattle.document.specs.Reading.{Reading, read, stopped, closed, read_name, atom_of, read_atom_in}
use Rattle.basics.specs.Tests.{decided, not_both, equal_same, equal_differs}
use Rattle.grammar.specs.Sorts.{Other, View, is_name_lem, is-opening, is-closing, is-bar, is-star, is-plus, is-match, is-fail, is-other, view}
use Rattle.grammar.specs.Agree.{tokens_append, Got, Agrees}

module _ (declared : List (List ℕ)) where
  name_agrees : (d n a : ℕ) (w : List ℕ) (more : List Lexeme)
      → Agrees declared atoms d n (record { token = word w; at = a } ∷ more) (read_name declared w (record { token = word w; at = a } ∷ more) more n)
  unfolding read_name
  name_agrees d n a w more = go (decided (equal w epsilon_word)) (decided (ltb (place_of w declared) (length declared))) (decided (ltb n most_names))
    where
      go : (equal w epsilon_word ≡ true) ⊎ (equal w epsilon_word ≡ false)
          → (ltb (place_of w declared) (length declared) ≡ true) ⊎ (ltb (place_of w declared) (length declared) ≡ false)
          → (ltb n most_names ≡ true) ⊎ (ltb n most_names ≡ false)
          → Agrees declared atoms d n (record { token = word w; at = a } ∷ more) (read_name declared w (record { token = word w; at = a } ∷ more) more n)
      go (inl e) f g =
          rw (e, read_name) (record {
            upto = record {
              front = record { token = word w; at = a } ∷ [];
              is = refl;
              reads = subst (λ u. Reads declared atoms n n (word u ∷ []) epsilon) (sym (equal_same w epsilon_word e)) empty;
              goes = rw e;
              shorter = omega arith;
            };
            ends = tt;
          })
      go (inr e) (inl f) (inl g) =
          rw (e, f, g, read_name) (record {
            upto = record {
              front = record { token = word w; at = a } ∷ [];
              is = refl;
              reads = event (equal_differs w epsilon_word e);
              goes = rw (e, f, g);
              shorter = omega arith;
            };
            ends = tt;
          })
      go (inr e) (inl f) (inr g) = rw (e, f, g, read_name) (rw (e, f, g))
      go (inr e) (inr f) g = rw (e, f, read_name) (rw (e, f))

  -- the alternative in parentheses, given what was read after the opening one
  closed-agrees : (d n a : ℕ) (more : List Lexeme) (R : Reading) → ltb d most_open ≡ true → Agrees declared alternatives (suc d) n more R
      → Agrees declared atoms d n (record { token = mark opening; at = a } ∷ more) (closed R)
  unfolding closed
  closed-agrees d n a more (stopped q left) e h = rw e h
  closed-agrees d n a more (read r [] m) e h = rw e h.upto.goes
  closed-agrees d n a more (read r (y ∷ left) m) e h = go y.token y.at (view y.token) h
    where
      go : (t : Token) (b : ℕ) → View t → Got declared alternatives (suc d) n more r (record { token = t; at = b } ∷ left) m
          → Agrees declared atoms d n (record { token = mark opening; at = a } ∷ more) (closed (read r (record { token = t; at = b } ∷ left) m))
      go t b is-closing g =
          record {
            upto = record {
              front = record { token = mark opening; at = a } ∷ (g.upto.front ++ (record { token = t; at = b } ∷ []));
              is = ap (λ x. record { token = mark opening; at = a } ∷ x)
                  (g.upto.is ∙ sym (append_assoc g.upto.front (record { token = t; at = b } ∷ []) left));
              reads = subst (λ x. Reads declared atoms n m (mark opening ∷ x) r)
                  (sym (tokens_append g.upto.front (record { token = t; at = b } ∷ []))) (grouped g.upto.reads);
              goes = rw e g.upto.goes;
              shorter = let l = g.upto.shorter in omega arith;
            };
            ends = tt;
          }
      go t b (is_name_lem w) g = absurd (not_both _ refl g.ends.ends.no_atom)
      go t b is-opening g = absurd (not_both _ refl g.ends.ends.no_atom)
      go t b is-bar g = absurd (not_both _ refl g.ends.no_bar)
      go t b is-star g = absurd (not_both _ refl g.ends.ends.ends.no_star)
      go t b is-plus g = absurd (not_both _ refl g.ends.ends.ends.no_plus)
      go t b is-match g = rw e g.upto.goes
      go t b is-fail g = rw e g.upto.goes
      go t b (is-other o) g = rw (o.no_closing, closed) (rw e (g.upto.goes ∙ rw o.sort))

  other-agrees : (inside : ℕ → List Lexeme → Reading) (d n a : ℕ) (t : Token) (more : List Lexeme) → Other t
      → Agrees declared atoms d n (record { token = t; at = a } ∷ more) (atom_of declared inside d n (record { token = t; at = a } ∷ more) more t)
  unfolding atom_of
  other-agrees inside d n a (word w) more o = absurd (not_both _ refl o.no_atom)
  other-agrees inside d n a (mark c) more o = rw (o.no_opening, atom_of) (rw o.sort)
  other-agrees inside d n a (ask v) more o = rw o.sort
  other-agrees inside d n a no_token more o = refl

  pub atom_agrees : (inside : ℕ → List Lexeme → Reading) (d n : ℕ) (ls : List Lexeme)
      → ((more : List Lexeme) → length more < length ls → Agrees declared alternatives (suc d) n more (inside n more))
      → Agrees declared atoms d n ls (read_atom_in declared inside d n ls)
  unfolding read_atom_in atom_of
  atom_agrees inside d n [] h = refl
  atom_agrees inside d n (x ∷ more) h = go x.token x.at (view x.token) (h more (omega arith))
    where
      go : (t : Token) (a : ℕ) → View t → Agrees declared alternatives (suc d) n more (inside n more)
          → Agrees declared atoms d n (record { token = t; at = a } ∷ more) (atom_of declared inside d n (record { token = t; at = a } ∷ more) more t)
      go t a (is_name_lem w) g = name_agrees d n a w more
      go t a is-opening g = deep (decided (ltb d most_open))
        where
          deep : (ltb d most_open ≡ true) ⊎ (ltb d most_open ≡ false)
              → Agrees declared atoms d n (record { token = mark opening; at = a } ∷ more)
              (atom_of declared inside d n (record { token = mark opening; at = a } ∷ more) more (mark opening))
          deep (inl e) = rw (e, atom_of) (closed-agrees d n a more (inside n more) e g)
          deep (inr e) = rw (e, atom_of) (rw e)
      go t a is-closing g = refl
      go t a is-bar g = refl
      go t a is-star g = refl
      go t a is-plus g = refl
      go t a is-match g = refl
      go t a is-fail g = refl
      go t a (is-other o) g = other-agrees inside d n a t more o
