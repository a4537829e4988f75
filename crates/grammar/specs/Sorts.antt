-- Document 01, "The pattern text": what a token is to a reader of a pattern, and that every token is of one of these sorts.
-- Assumes nothing.
use Rattle.std.specs.Prelude.{ℕ, ◌≡◌, refl, ◌⊎◌, true, false, cond, List, eqb}
use Rattle.std.proofs.Common.{sym, subst, inl, inr, eqb-true}
use Rattle.document.specs.Classes.{opening, closing}
use Rattle.document.specs.Classes as byte
use Rattle.document.specs.Tokens.{Token, word, mark, ask, no_token, is_mark_of, begins_atom}
use Rattle.basics.specs.Tests.{decided}

pub data Sort : Type 0 where
  aName opens closes bars repeats asksMatch asksFail others : Sort

abbrev pub sort_of : Token → Sort
sort_of (word w) = aName
sort_of (mark c) =
    cond (eqb c opening) opens
    (cond (eqb c closing) closes
    (cond (eqb c byte.bar) bars
    (cond (eqb c byte.star) repeats
    (cond (eqb c byte.plus) repeats others))))
sort_of (ask v) = cond (eqb v 1) asksMatch (cond (eqb v 2) asksFail others)
sort_of no_token = others

-- a token with which nothing goes on inside a pattern or after it
pub record Other (t : Token) : Type 0 where
  pub sort : sort_of t ≡ others
  pub no_opening : is_mark_of opening t ≡ false
  pub no_closing : is_mark_of closing t ≡ false
  pub no_bar : is_mark_of byte.bar t ≡ false
  pub no_star : is_mark_of byte.star t ≡ false
  pub no_plus : is_mark_of byte.plus t ≡ false
  pub no_atom : begins_atom t ≡ false

-- the tokens by their sorts, so that a proof goes through them one by one
pub data View : Token → Type 0 where
  is_name_lem : (w : List ℕ) → View (word w)
  is-opening : View (mark opening)
  is-closing : View (mark closing)
  is-bar : View (mark byte.bar)
  is-star : View (mark byte.star)
  is-plus : View (mark byte.plus)
  is-match : View (ask 1)
  is-fail : View (ask 2)
  is-other : {t : Token} → Other t → View t

-- a test of a mark's class holds, and the view is known; or it fails
either_way : (c k : ℕ) → View (mark k) → (eqb c k ≡ false → View (mark c)) → View (mark c)
either_way c k v f = go (decided (eqb c k))
  where
    go : (eqb c k ≡ true) ⊎ (eqb c k ≡ false) → View (mark c)
    go (inl e) = subst (λ x. View (mark x)) (sym (eqb-true c k e)) v
    go (inr e) = f e

view_mark : (c : ℕ) → View (mark c)
view_mark c =
    either_way c opening is-opening (λ e₁.
    either_way c closing is-closing (λ e₂.
    either_way c byte.bar is-bar (λ e₃.
    either_way c byte.star is-star (λ e₄.
    either_way c byte.plus is-plus (λ e₅.
    is-other (record {
      sort = rw (e₁, e₂, e₃, e₄, e₅);
      no_opening = e₁;
      no_closing = e₂;
      no_bar = e₃;
      no_star = e₄;
      no_plus = e₅;
      no_atom = e₁;
    }))))))

view_ask : (v : ℕ) → View (ask v)
view_ask v = go (decided (eqb v 1)) (decided (eqb v 2))
  where
    go : (eqb v 1 ≡ true) ⊎ (eqb v 1 ≡ false) → (eqb v 2 ≡ true) ⊎ (eqb v 2 ≡ false) → View (ask v)
    go (inl e) b = subst (λ x. View (ask x)) (sym (eqb-true v 1 e)) is-match
    go (inr e) (inl f) = subst (λ x. View (ask x)) (sym (eqb-true v 2 f)) is-fail
    go (inr e) (inr f) =
        is-other {t = ask v} (record {
          sort = rw (e, f);
          no_opening = refl;
          no_closing = refl;
          no_bar = refl;
          no_star = refl;
          no_plus = refl;
          no_atom = refl;
        })

pub view : (t : Token) → View t
view (word w) = is_name_lem w
view (mark c) = view_mark c
view (ask v) = view_ask v
view no_token =
    is-other (record { sort = refl; no_opening = refl; no_closing = refl; no_bar = refl; no_star = refl; no_plus = refl; no_atom = refl })
