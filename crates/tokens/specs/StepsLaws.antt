-- What is seen at a place: from the token there to the tokens that are left, and from its kind to the tests of the definitions.
-- Assumes nothing.
use Rattle.std.specs.Prelude.{ℕ, ◌+◌, ◌-◌, ◌≤◌, ◌<◌, ◌≡◌, refl, cond, false, ◌&&◌, List, [], ◌∷◌, length, get_or, take, drop, eqb, leb, ltb}
use Rattle.std.proofs.Common.{sym, ap, ◌∙◌, ⊎_elim, length-drop, arith, ne_eqb, eqb-true, lit≤, leb-true, ltb-true, ltb-false}
use Rattle.std.proofs.lemmas.Bool.{eqb-false}
use Rattle.std.proofs.Math.Logic.{inl, inr}
use Rattle.document.specs.Lists.{starts_with}
use Rattle.document.specs.Classes.{class_of, is_name_byte, letter, at_sign, opening, plus, match_word, fail_word}
use Rattle.document.specs.Declarations.{name_run}
use Rattle.document.specs.Classes.{closing, colon, bar, star}
use Rattle.document.specs.Patterns.{match}
use Rattle.document.specs.Tokens as doc
use Rattle.document.specs.Tokens.{word, mark, ask, no_token, ask_token, token_at, offset_of, is_mark_of, begins_atom}
use Rattle.document.specs.Reading.{next_is}
use Rattle.basics.specs.Tests.{decided, both}
use Rattle.basics.specs.Lists.{run-part}
use Rattle.basics.specs.Left.{drop_here}
use Rattle.tokens.specs.declared.Token.{Token}
use Rattle.tokens.specs.declared.Step.{Step}
use Rattle.tokens.specs.declared.Kind.TheVariants.{Word, AskMatch, AskFail, End}
use Rattle.tokens.specs.Lexing.{kind_number, mark_kind, begins_kind, kind_of, shown, token_here, lexemes_at}
use Rattle.tokens.specs.Steps.{skip_to, Begins, Sort, Stands, Looks}
use Rattle.tokens.specs.TokensLaws.{token_size, lexemes_token, lexemes_skip, lexemes-end, skip_begins}

ask_sort : (u t : List ℕ) → Sort u (ask_token t).token
unfolding ask_token
ask_sort u t = elim (decided (starts_with match_word t)) [
  | inl m ↦ rw m (inl refl)
  | inr m ↦ rw m (elim (decided (starts_with fail_word t)) [ inl f ↦ rw f (inr refl) | inr f ↦ rw f tt ])
]

token_sort : (b : ℕ) (t : List ℕ) → Sort (take (token_at b t).size (b ∷ t)) (token_at b t).token
unfolding token_at name_run
token_sort b t = elim (decided (eqb (class_of b) letter)) [
  | inl e ↦ rw e (sym (run-part is_name_byte (b ∷ t)))
  | inr e ↦ rw e (elim (decided (eqb (class_of b) at_sign)) [
    | inl a ↦ rw a (ask_sort _ t)
    | inr a ↦ rw a (elim (decided (leb opening (class_of b) && leb (class_of b) plus)) [
      | inl m ↦ rw m (let g = both (leb opening (class_of b)) (leb (class_of b) plus) m in (leb-true _ _ g.0, leb-true _ _ g.1))
      | inr m ↦ rw m tt
    ])
  ])
]

-- The token that begins at a place inside the text, and the end.
module _ (s : List ℕ) (at next : ℕ) (g : Begins s at) where
  looks_token : (h : at < length s) → next ≡ skip_to s (at + (token_at (get_or s at 0) (drop (at + 1) s)).size)
      → Looks s at (record { kind = kind_of (token_at (get_or s at 0) (drop (at + 1) s)).token; end = at + (token_at (get_or s at 0) (drop (at + 1) s)).size; next = next })
  looks_token h q =
      let z = token_at (get_or s at 0) (drop (at + 1) s) in
      let p = token_size (get_or s at 0) (drop (at + 1) s) in
      let l = length-drop (at + 1) s in
      let k : at + z.size - at ≡ z.size = omega arith in
      record {
        begins = rw q (skip_begins s (at + z.size) (omega arith));
        after = omega arith;
        within = omega arith;
        what = inr (record {
          token = z.token;
          kind = refl;
          sort = rw (k, drop_here s at h) (token_sort (get_or s at 0) (drop (at + 1) s));
          tokens = rw q (lexemes_token s at g h ∙ ap (λ l. record { token = z.token; at = at } ∷ l) (lexemes_skip s (at + z.size)));
          past = omega arith;
        });
      }

  looks_end : length s ≤ at → next ≡ skip_to s at → Looks s at (record { kind = End; end = at; next = next })
  looks_end h q =
      let i = g.inside in
      record {
        begins = rw q (skip_begins s at i);
        after = omega arith;
        within = i;
        what = inl (record { kind = refl; tokens = lexemes-end s at h; end = omega arith });
      }

  pub looks_says : (t : Token) → t ≡ token_here s at → next ≡ skip_to s t.end → Looks s at (record { kind = t.kind; end = t.end; next = next })
  unfolding token_here shown
  looks_says t e q = elim (decided (ltb at (length s))) [
    | inl h ↦ let e' = rw h at e in rw e' (looks_token (ltb-true at (length s) h) (rw e' at q))
    | inr h ↦ let e' = rw h at e in rw e' (looks_end (ltb-false at (length s) h) (rw e' at q))
  ]

-- a mark's number is its class
pub mark_number : (c : ℕ) → opening ≤ c → c ≤ plus → kind_number (mark_kind c) ≡ c
mark_number c l m = elim (decided (eqb c opening)) [
  | inl e ↦ rw e (sym (eqb-true c opening e))
  | inr a ↦ rw a (elim (decided (eqb c closing)) [
    | inl e ↦ rw e (sym (eqb-true c closing e))
    | inr b ↦ rw b (elim (decided (eqb c colon)) [
      | inl e ↦ rw e (sym (eqb-true c colon e))
      | inr d ↦ rw d (elim (decided (eqb c bar)) [
        | inl e ↦ rw e (sym (eqb-true c bar e))
        | inr f ↦ rw f (elim (decided (eqb c star)) [
          | inl e ↦ rw e (sym (eqb-true c star e))
          | inr g ↦ rw g (elim (decided (eqb c plus)) [
            | inl e ↦ rw e (sym (eqb-true c plus e))
            | inr h ↦
                let a' = eqb-false c opening a in
                let b' = eqb-false c closing b in
                let d' = eqb-false c colon d in
                let f' = eqb-false c bar f in
                let g' = eqb-false c star g in
                let h' = eqb-false c plus h in
                absurd (omega arith)
          ])
        ])
      ])
    ])
  ])
]

ask_number : (v : ℕ) → 12 ≤ kind_number (cond (eqb v match) AskMatch AskFail)
ask_number v = elim (decided (eqb v match)) [ inl e ↦ rw e (lit≤ tt) | inr e ↦ rw e (lit≤ tt) ]

-- From the kind that is seen to the tests of the definitions: a mark that is there, one that is not, a name, what begins no atom.
module _ (s : List ℕ) (at : ℕ) (r : Step) (look : Looks s at r) where
  pub mark_here : (k : ℕ) → opening ≤ k → k ≤ plus → r.kind ≡ mark_kind k → lexemes_at s at ≡ record { token = mark k; at = at } ∷ lexemes_at s r.next
  mark_here k l m e =
      let n : kind_number r.kind ≡ k = ap kind_number e ∙ mark_number k l m in
      ⊎_elim (λ z. absurd (let y = ap kind_number z.kind in omega arith)) (λ z. go z.token (sym (ap kind_number z.kind) ∙ n) z.sort z.tokens) look.what
    where
      go : (x : doc.Token) → kind_number (kind_of x) ≡ k → Sort (take (r.end - at) (drop at s)) x → lexemes_at s at ≡ record { token = x; at = at } ∷ lexemes_at s r.next
          → lexemes_at s at ≡ record { token = mark k; at = at } ∷ lexemes_at s r.next
      go (word w) y z t = absurd (omega arith)
      go (mark c) y z t = let q : c ≡ k = sym (mark_number c z.0 z.1) ∙ y in rw q at t
      go (ask v) y z t = absurd (let n = ask_number v in omega arith)
      go no_token y z t = absurd (omega arith)

  pub word_here : r.kind ≡ Word → lexemes_at s at ≡ record { token = word (take (r.end - at) (drop at s)); at = at } ∷ lexemes_at s r.next
  word_here e =
      let n = ap kind_number e in
      ⊎_elim (λ z. absurd (let y = ap kind_number z.kind in omega arith)) (λ z. go z.token (sym (ap kind_number z.kind) ∙ n) z.sort z.tokens) look.what
    where
      go : (x : doc.Token) → kind_number (kind_of x) ≡ 0 → Sort (take (r.end - at) (drop at s)) x → lexemes_at s at ≡ record { token = x; at = at } ∷ lexemes_at s r.next
          → lexemes_at s at ≡ record { token = word (take (r.end - at) (drop at s)); at = at } ∷ lexemes_at s r.next
      go (word w) y z t = rw z at t
      go (mark c) y z t = absurd (let n = mark_number c z.0 z.1 in let l = z.0 in omega arith)
      go (ask v) y z t = absurd (let n = ask_number v in omega arith)
      go no_token y z t = absurd (omega arith)

  pub end_here : r.kind ≡ End → (lexemes_at s at ≡ []) × (at ≡ length s)
  end_here e = ⊎_elim (λ z. (z.tokens, z.end)) (λ z. absurd (go z.token (sym (ap kind_number z.kind) ∙ ap kind_number e) z.sort)) look.what
    where
      go : (x : doc.Token) → kind_number (kind_of x) ≡ 15 → Sort (take (r.end - at) (drop at s)) x → ⊥
      go (word w) y z = omega arith
      go (mark c) y z = let n = mark_number c z.0 z.1 in let l = z.1 in omega arith
      go (ask v) y (inl z) = let n = rw z at y in omega arith
      go (ask v) y (inr z) = let n = rw z at y in omega arith
      go no_token y z = omega arith

  -- a token that stands there is passed
  pub step_here : (r.kind ≡ End → ⊥) → Stands s at r
  step_here e = ⊎_elim (λ z. absurd (e z.kind)) (λ z. z) look.what

  pub step_past : (r.kind ≡ End → ⊥) → at < r.next
  step_past e = (step_here e).past

  pub step_fewer : (r.kind ≡ End → ⊥) → length (lexemes_at s r.next) < length (lexemes_at s at)
  step_fewer e = rw (step_here e).tokens (omega arith)

  pub mark_missing : (k : ℕ) → (r.kind ≡ mark_kind k → ⊥) → next_is (is_mark_of k) (lexemes_at s at) ≡ false
  mark_missing k e = ⊎_elim (λ z. rw z.tokens) (λ z. rw z.tokens (go z.token z.kind)) look.what
    where
      go : (x : doc.Token) → r.kind ≡ kind_of x → is_mark_of k x ≡ false
      go (word w) y = refl
      go (mark c) y = ne_eqb c k (λ q. e (y ∙ ap mark_kind q))
      go (ask v) y = refl
      go no_token y = refl

  pub atom_test : next_is begins_atom (lexemes_at s at) ≡ begins_kind r.kind
  atom_test = ⊎_elim (λ z. rw (z.tokens, z.kind)) (λ z. rw (z.tokens, z.kind) (go z.token z.sort)) look.what
    where
      go : (x : doc.Token) → Sort (take (r.end - at) (drop at s)) x → begins_atom x ≡ begins_kind (kind_of x)
      go (word w) z = refl
      go (mark c) z = rw (mark_number c z.0 z.1, ne_eqb c 0 (λ (q : c ≡ 0). let l = z.0 in omega arith))
      go (ask v) (inl z) = rw z
      go (ask v) (inr z) = rw z
      go no_token z = refl

-- the first of the tokens that are left stands at the place itself
pub offset_here : (s : List ℕ) (at : ℕ) → Begins s at → offset_of s (lexemes_at s at) ≡ at
unfolding offset_of
offset_here s at g = elim (decided (ltb at (length s))) [
  | inl h ↦ rw (lexemes_token s at g (ltb-true at (length s) h))
  | inr h ↦ let i = g.inside in let l = ltb-false at (length s) h in rw (lexemes-end s at l) (omega arith)
]
