-- Document 01, "The pattern text": the four readers agree with the judge, so that what they read is a phrase of the grammar and
-- where they stop is the first fault. The bound on how deep their calls go is never met.
-- Assumes nothing.
use Rattle.std.specs.Prelude.{ℕ, zero, suc, ◌+◌, ◌*◌, ◌≤◌, ◌<◌, ◌≡◌}
use Rattle.std.proofs.Common.{arith, sym, ap, subst, ◌∙◌, length-append}
use Rattle.std.proofs.Math.Path.{refl}
use Rattle.std.proofs.Math.Bool.{false}
use mathlib.Core.List.{List, [], ◌∷◌, ◌++◌, append_assoc}
use Rattle.std.proofs.Math.ListN.{length}
use Rattle.document.specs.Classes as byte
use Rattle.document.specs.Patterns.{Pattern, alternative, sequence, star, plus}
use Rattle.document.specs.Tokens.{Token, Lexeme, is_mark_of, begins_atom}
use Rattle.document.specs.Grammar.{Kind, alternatives, sequences, repetitions, atoms, Reads, one_sequence, either, one_repetition, beside, one_atom, starred, plussed}
use Rattle.document.specs.Reading.{Reading, read, stopped, next_is, join_reading, marked, marked_reading, more_alternatives, more_repetitions, read_alternative, read_sequence, read_repetition, read_atom, read_whole}
use Rattle.grammar.specs.Sorts.{View, is_name_lem, is-opening, is-closing, is-bar, is-star, is-plus, is-match, is-fail, is-other, view}
use Rattle.grammar.specs.Automaton.{expecting, after}
use Rattle.grammar.specs.Judge.{judge}
use Rattle.grammar.specs.Agree.{tokens, tokens_append, Upto, Got, Agrees}
use Rattle.grammar.specs.Atoms.{atom_agrees}

module _ (declared : List (List ℕ)) where
  -- a repetition --------------------------------------------------------------------------------------------------------
  -- one token more of the phrase
  upto_next : {k : Kind} {d n m : ℕ} {ls left : List Lexeme} {r b : Pattern} {x : Lexeme} → Upto declared k d n ls r (x ∷ left) m
      → ((us : List Token) → Reads declared k n m us r → Reads declared k n m (us ++ (x.token ∷ [])) b)
      → judge declared (after d) m (x ∷ left) ≡ judge declared (after d) m left → Upto declared k d n ls b left m
  upto_next {k} {n = n} {m = m} {left = left} {b = b} {x = x} h f e =
      record {
        front = h.front ++ (x ∷ []);
        is = h.is ∙ sym (append_assoc h.front (x ∷ []) left);
        reads = subst (λ us. Reads declared k n m us b) (sym (tokens_append h.front (x ∷ []))) (f (tokens h.front) h.reads);
        goes = h.goes ∙ e;
        shorter = let l = h.shorter in omega arith;
      }

  marked-agrees : (d n m : ℕ) (ls left : List Lexeme) (r : Pattern) → Upto declared repetitions d n ls r left m
      → Agrees declared repetitions d n ls (marked r left m)
  unfolding marked
  marked-agrees d n m ls [] r h = record { upto = h; ends = record { no_star = refl; no_plus = refl } }
  marked-agrees d n m ls (x ∷ left) r h = go x.token x.at (view x.token) h (marked-agrees d n m ls left (star r)) (marked-agrees d n m ls left (plus r))
    where
      go : (t : Token) (a : ℕ) → View t → Upto declared repetitions d n ls r (record { token = t; at = a } ∷ left) m
          → (Upto declared repetitions d n ls (star r) left m → Agrees declared repetitions d n ls (marked (star r) left m))
          → (Upto declared repetitions d n ls (plus r) left m → Agrees declared repetitions d n ls (marked (plus r) left m))
          → Agrees declared repetitions d n ls (marked r (record { token = t; at = a } ∷ left) m)
      go t a is-star g starring plussing = starring (upto_next g (λ us p. starred p) refl)
      go t a is-plus g starring plussing = plussing (upto_next g (λ us p. plussed p) refl)
      go t a (is_name_lem w) g starring plussing = record { upto = g; ends = record { no_star = refl; no_plus = refl } }
      go t a is-opening g starring plussing = record { upto = g; ends = record { no_star = refl; no_plus = refl } }
      go t a is-closing g starring plussing = record { upto = g; ends = record { no_star = refl; no_plus = refl } }
      go t a is-bar g starring plussing = record { upto = g; ends = record { no_star = refl; no_plus = refl } }
      go t a is-match g starring plussing = record { upto = g; ends = record { no_star = refl; no_plus = refl } }
      go t a is-fail g starring plussing = record { upto = g; ends = record { no_star = refl; no_plus = refl } }
      go t a (is-other o) g starring plussing =
          rw (o.no_star, o.no_plus, marked) (record { upto = g; ends = record { no_star = o.no_star; no_plus = o.no_plus } })

  repetition_agrees : (d n : ℕ) (ls : List Lexeme) (R : Reading) → Agrees declared atoms d n ls R → Agrees declared repetitions d n ls (marked_reading R)
  unfolding marked_reading
  repetition_agrees d n ls (stopped q left) h = h
  repetition_agrees d n ls (read r left m) h =
      marked-agrees d n m ls left r (record {
        front = h.upto.front;
        is = h.upto.is;
        reads = one_atom h.upto.reads;
        goes = h.upto.goes;
        shorter = h.upto.shorter;
      })

  -- a sequence and an alternative ---------------------------------------------------------------------------------------
  -- a phrase, the tokens between, and what was read after them
  joined-agrees : (k j : Kind) (d n m : ℕ) (ls left between rest : List Lexeme) (op : Pattern → Pattern → Pattern) (r : Pattern) (R : Reading)
      → Upto declared j d n ls r left m → left ≡ between ++ rest → judge declared (after d) m left ≡ judge declared (expecting d) m rest
      → ((us vs : List Token) (hi : ℕ) (b : Pattern) → Reads declared j n m us r → Reads declared k m hi vs b
      → Reads declared k n hi (us ++ (tokens between ++ vs)) (op r b))
      → Agrees declared k d m rest R → Agrees declared k d n ls (join_reading op r R)
  joined-agrees k j d n m ls left between rest op r (stopped q end) h e g f a = h.goes ∙ g ∙ a
  joined-agrees k j d n m ls left between rest op r (read b end hi) h e g f a =
      record {
        upto = record {
          front = h.front ++ (between ++ a.upto.front);
          is = h.is ∙ ap (λ x. h.front ++ x) (e ∙ ap (λ x. between ++ x) a.upto.is ∙ sym (append_assoc between a.upto.front end))
              ∙ sym (append_assoc h.front (between ++ a.upto.front) end);
          reads = subst (λ x. Reads declared k n hi x (op r b))
              (sym (tokens_append h.front (between ++ a.upto.front) ∙ ap (λ x. tokens h.front ++ x) (tokens_append between a.upto.front)))
              (f (tokens h.front) (tokens a.upto.front) hi b h.reads a.upto.reads);
          goes = h.goes ∙ g ∙ a.upto.goes;
          shorter =
              let p = h.shorter in
              let q = a.upto.shorter in
              let s : length left ≡ length between + length rest = ap length e ∙ length-append between rest in
              omega arith;
        };
        ends = a.ends;
      }

  sequence_agrees : (again : ℕ → List Lexeme → Reading) (d n : ℕ) (ls : List Lexeme) (R : Reading)
      → ((m : ℕ) (left : List Lexeme) → length left < length ls → Agrees declared sequences d m left (again m left))
      → Agrees declared repetitions d n ls R → Agrees declared sequences d n ls (more_repetitions again R)
  unfolding more_repetitions
  sequence_agrees again d n ls (stopped q left) ih h = h
  sequence_agrees again d n ls (read r left m) ih h = go left h
    where
      ended : (end : List Lexeme) → Got declared repetitions d n ls r end m → next_is begins_atom end ≡ false → Got declared sequences d n ls r end m
      ended end g e =
          record {
            upto = record { front = g.upto.front; is = g.upto.is; reads = one_repetition g.upto.reads; goes = g.upto.goes; shorter = g.upto.shorter };
            ends = record { ends = g.ends; no_atom = e };
          }

      further : (end : List Lexeme) → Got declared repetitions d n ls r end m → judge declared (after d) m end ≡ judge declared (expecting d) m end
          → Agrees declared sequences d n ls (join_reading sequence r (again m end))
      further end g e =
          joined-agrees sequences repetitions d n m ls end [] end sequence r (again m end) g.upto refl e (λ us vs hi b p q. beside p q) (ih m end g.upto.shorter)

      next : (t : Token) (a : ℕ) (end : List Lexeme) → View t → Got declared repetitions d n ls r (record { token = t; at = a } ∷ end) m
          → Agrees declared sequences d n ls (more_repetitions again (read r (record { token = t; at = a } ∷ end) m))
      next t a end (is_name_lem w) g = further _ g refl
      next t a end is-opening g = further _ g refl
      next t a end is-closing g = ended _ g refl
      next t a end is-bar g = ended _ g refl
      next t a end is-star g = ended _ g refl
      next t a end is-plus g = ended _ g refl
      next t a end is-match g = ended _ g refl
      next t a end is-fail g = ended _ g refl
      next t a end (is-other o) g = rw (o.no_atom, more_repetitions) (ended _ g o.no_atom)

      go : (end : List Lexeme) → Got declared repetitions d n ls r end m → Agrees declared sequences d n ls (more_repetitions again (read r end m))
      go [] g = ended [] g refl
      go (x ∷ end) g = next x.token x.at end (view x.token) g

  alternative_agrees : (again : ℕ → List Lexeme → Reading) (d n : ℕ) (ls : List Lexeme) (R : Reading)
      → ((m : ℕ) (left : List Lexeme) → length left < length ls → Agrees declared alternatives d m left (again m left))
      → Agrees declared sequences d n ls R → Agrees declared alternatives d n ls (more_alternatives again R)
  unfolding more_alternatives
  alternative_agrees again d n ls (stopped q left) ih h = h
  alternative_agrees again d n ls (read r left m) ih h = go left h
    where
      ended : (end : List Lexeme) → Got declared sequences d n ls r end m → next_is (is_mark_of byte.bar) end ≡ false → Got declared alternatives d n ls r end m
      ended end g e =
          record {
            upto = record { front = g.upto.front; is = g.upto.is; reads = one_sequence g.upto.reads; goes = g.upto.goes; shorter = g.upto.shorter };
            ends = record { ends = g.ends; no_bar = e };
          }

      next : (t : Token) (a : ℕ) (end : List Lexeme) → View t → Got declared sequences d n ls r (record { token = t; at = a } ∷ end) m
          → Agrees declared alternatives d n ls (more_alternatives again (read r (record { token = t; at = a } ∷ end) m))
      next t a end is-bar g =
          joined-agrees alternatives sequences d n m ls (record { token = t; at = a } ∷ end) (record { token = t; at = a } ∷ []) end alternative r
          (again m end) g.upto refl refl (λ us vs hi b p q. either p q) (ih m end (let l = g.upto.shorter in omega arith))
      next t a end (is_name_lem w) g = ended _ g refl
      next t a end is-opening g = ended _ g refl
      next t a end is-closing g = ended _ g refl
      next t a end is-star g = ended _ g refl
      next t a end is-plus g = ended _ g refl
      next t a end is-match g = ended _ g refl
      next t a end is-fail g = ended _ g refl
      next t a end (is-other o) g = rw (o.no_bar, more_alternatives) (ended _ g o.no_bar)

      go : (end : List Lexeme) → Got declared sequences d n ls r end m → Agrees declared alternatives d n ls (more_alternatives again (read r end m))
      go [] g = ended [] g refl
      go (x ∷ end) g = next x.token x.at end (view x.token) g

  -- the readers ---------------------------------------------------------------------------------------------------------
  -- four readers to a token: a reader that is called goes down one kind, or a token is past
  mutual
    unfolding read_alternative

    pub reads_alternative : (f d n : ℕ) (ls : List Lexeme) → 4 * length ls + 4 ≤ f → Agrees declared alternatives d n ls (read_alternative declared f d n ls)
    reads_alternative zero d n ls h = absurd (omega arith)
    reads_alternative (suc f) d n ls h =
        alternative_agrees (λ m us. read_alternative declared f d m us) d n ls (read_sequence declared f d n ls)
        (λ m us l. reads_alternative f d m us (omega arith)) (reads_sequence f d n ls (omega arith))

    reads_sequence : (f d n : ℕ) (ls : List Lexeme) → 4 * length ls + 3 ≤ f → Agrees declared sequences d n ls (read_sequence declared f d n ls)
    reads_sequence zero d n ls h = absurd (omega arith)
    reads_sequence (suc f) d n ls h =
        sequence_agrees (λ m us. read_sequence declared f d m us) d n ls (read_repetition declared f d n ls)
        (λ m us l. reads_sequence f d m us (omega arith)) (reads_repetition f d n ls (omega arith))

    reads_repetition : (f d n : ℕ) (ls : List Lexeme) → 4 * length ls + 2 ≤ f → Agrees declared repetitions d n ls (read_repetition declared f d n ls)
    reads_repetition zero d n ls h = absurd (omega arith)
    reads_repetition (suc f) d n ls h = repetition_agrees d n ls (read_atom declared f d n ls) (reads_atom f d n ls (omega arith))

    reads_atom : (f d n : ℕ) (ls : List Lexeme) → 4 * length ls + 1 ≤ f → Agrees declared atoms d n ls (read_atom declared f d n ls)
    reads_atom zero d n ls h = absurd (omega arith)
    reads_atom (suc f) d n ls h =
        atom_agrees declared (λ m us. read_alternative declared f (suc d) m us) d n ls (λ us l. reads_alternative f (suc d) n us (omega arith))

  pub reads_whole : (ls : List Lexeme) → Agrees declared alternatives 0 0 ls (read_whole declared ls)
  unfolding read_whole
  reads_whole ls = reads_alternative (4 * length ls + 4) 0 0 ls (omega arith)
