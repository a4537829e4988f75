-- The returns of judging, and what the calls above know of a call that was judged.
-- Assumes nothing.
use Rattle.std.specs.Prelude.{ℕ, zero, suc, ◌≤◌, ◌≡◌, refl, Bool, true, false, ◌&&◌, Result, Ok, Err, IsErrAnd, List, [], ◌∷◌, length, take, eqb, get_or}
use Rattle.std.proofs.Math.Path.{sym, ap, subst}
use Rattle.std.proofs.Common.{◌∙◌, arith}
use Rattle.std.proofs.lemmas.Result.{err_from_is_err_and}
use lib.Pointwise.{pointwise}
use borrow.Author.Tests.{eq-eqb, ne_eqb}
use Rattle.document.specs.Lists.{every_below}
use Rattle.document.specs.Refusals.{number, badProperty, badSession, tableDiffers, taken, refused, Refusal, Answer}
use Rattle.document.specs.Declarations.{Declared}
use Rattle.document.specs.Property.{Property, in_range, set_of}
use Rattle.document.specs.Session.{Session, sound}
use Rattle.document.specs.Log.{agrees, judged}
use Rattle.refusals.specs.Named.{named}
use Rattle.refusals.specs.declared.Refusal.{Refusal as Code}
use Rattle.refusals.specs.declared.Refusal.TheVariants.{BadProperty, BadSession, TableDiffers}
use Rattle.readings.specs.declared.Reading.{Reading}
use Rattle.readings.specs.Readings.{padded, Stands, Reads}
use Rattle.readings.specs.ReadingsLaws.{reads_taken, reads_refused, padded_at}
use Rattle.moves.specs.declared.Known.{Known}
use Rattle.known.specs.Knowing.{KnownOf}
use Rattle.judging.specs.declared.Judged.{Judged}
use Rattle.judging.specs.Judging.{same_sets, agrees_by, Good, JudgedAs, Judges}

-- The table against the declarations -----------------------------------------------------------------------------------

-- a test of all numbers below one more, with that of the first before the others
below_first : (n : ℕ) (f : ℕ → Bool) → every_below (suc n) f ≡ f 0 && every_below n (λ k. f (suc k))
unfolding every_below
below_first zero f = refl
below_first (suc n) f = ap (λ b. f (suc n) && b) (below_first n f) ∙ swap (f (suc n)) (f 0) (every_below n (λ k. f (suc k)))
  where
    swap : (a b c : Bool) → a && (b && c) ≡ b && (a && c)
    swap true b c = refl
    swap false true c = refl
    swap false false c = refl

-- the first n of two lists are the same
pub sets_same : (n : ℕ) (a b : List ℕ) → n ≤ length a → n ≤ length b → pointwise eqb (take n a) (take n b) ≡ same_sets a b n
unfolding same_sets every_below
sets_same zero a b h l = refl
sets_same (suc n) [] b h l = absurd (omega arith)
sets_same (suc n) (x ∷ a) [] h l = absurd (omega arith)
sets_same (suc n) (x ∷ a) (y ∷ b) h l =
    ap (λ r. eqb x y && r) (sets_same n a b (omega arith) (omega arith))
    ∙ sym (below_first n (λ e. eqb (get_or (x ∷ a) e 0) (get_or (y ∷ b) e 0)))

module _ (t : Reading) (p : Property) where
  pub parameters_differ : (p.parameters ≡ t.parameters → ⊥) → false ≡ agrees_by t p
  unfolding agrees_by
  parameters_differ d = rw (ne_eqb p.parameters t.parameters d)

  pub events_differ : p.parameters ≡ t.parameters → (p.events ≡ t.events → ⊥) → false ≡ agrees_by t p
  unfolding agrees_by
  events_differ e d = rw (eq-eqb p.parameters t.parameters e, ne_eqb p.events t.events d)

  pub sets_decide : p.parameters ≡ t.parameters → p.events ≡ t.events → p.events ≤ length p.sets → p.events ≤ length t.sets
      → (r : Bool) → r ≡ pointwise eqb (take p.events p.sets) (take p.events t.sets) → r ≡ agrees_by t p
  unfolding agrees_by
  sets_decide e d h l r q =
      q ∙ sets_same p.events p.sets t.sets h l ∙ rw (eq-eqb p.parameters t.parameters e, eq-eqb p.events t.events d)

pub agrees_same : (text : List ℕ) (d : Declared) (t : Reading) (p : Property) → Stands text d t → agrees_by t p ≡ agrees d p
unfolding agrees_by agrees same_sets set_of
agrees_same text d t p w =
    let f : ◌≡◌ {A = ℕ → Bool} (λ e. eqb (get_or p.sets e 0) (get_or (padded d.sets) e 0)) (λ e. eqb (get_or p.sets e 0) (get_or d.sets e 0)) =
    λ i e. eqb (get_or p.sets e 0) (padded_at d.sets e i) in
    rw (w.parameters, w.events, w.sets, f)

-- The call -------------------------------------------------------------------------------------------------------------

module _ (text : List ℕ) (p : Property) (s : Session) where
  pub judge-declarations : (e : Code) → Reads text (Err e) → (r : Result Judged Code) → IsErrAnd r (λ y. y ≡ e) → Judges text p s r
  unfolding judged
  judge-declarations e reads r x =
      let w = reads_refused text e reads in
      let i = err_from_is_err_and r x in
      let q : judged text p s ≡ refused w.why w.at = rw w.is in
      let c : number (named i.0) ≡ number w.why = ap (λ (y : Code). number (named y)) i.2 ∙ w.number in
      rw i.1 (record { says = subst (JudgedAs text p s (Err i.0)) (sym q) c })

  module _ (t : Reading) (reads : Reads text (Ok t)) where
    pub judge_property : in_range p ≡ false → (e : Code) → e ≡ BadProperty → (r : Result Judged Code) → IsErrAnd r (λ y. y ≡ e) → Judges text p s r
    unfolding judged
    judge_property n e b r x =
        let w = reads_taken text t reads in
        let i = err_from_is_err_and r x in
        let q : judged text p s ≡ refused badProperty 0 = rw (w.is, n) in
        let c : number (named i.0) ≡ number badProperty = ap (λ (y : Code). number (named y)) (i.2 ∙ b) in
        rw i.1 (record { says = subst (JudgedAs text p s (Err i.0)) (sym q) c })

    module _ (range : in_range p ≡ true) (g : Bool) (qg : g ≡ agrees_by t p) where
      agree : (d : Declared) → Stands text d t → agrees d p ≡ g
      agree d w = sym (agrees_same text d t p w) ∙ sym qg

      pub judge-table : g ≡ false → Judges text p s (Err TableDiffers)
      unfolding judged
      judge-table n =
          let w = reads_taken text t reads in
          let e : judged text p s ≡ refused tableDiffers 0 = rw (w.is, range, agree w.said w.stands ∙ n) in
          record { says = subst (JudgedAs text p s (Err TableDiffers)) (sym e) refl }

      module _ (zg : g ≡ true) where
        pub judge_session : sound p s ≡ false → (e : Code) → e ≡ BadSession → (r : Result Judged Code) → IsErrAnd r (λ y. y ≡ e) → Judges text p s r
        unfolding judged
        judge_session n e b r x =
            let w = reads_taken text t reads in
            let i = err_from_is_err_and r x in
            let q : judged text p s ≡ refused badSession 0 = rw (w.is, range, agree w.said w.stands ∙ zg, n) in
            let c : number (named i.0) ≡ number badSession = ap (λ (y : Code). number (named y)) (i.2 ∙ b) in
            rw i.1 (record { says = subst (JudgedAs text p s (Err i.0)) (sym q) c })

        pub judge_good : sound p s ≡ true → (k : Known) → KnownOf p k → (r : Judged) → r.declarations.now ≡ text → r.reading ≡ t → r.known ≡ k → Judges text p s (Ok r)
        unfolding judged
        judge_good right k u r qt qr qk =
            let w = reads_taken text t reads in
            let agree₁ = agree w.said w.stands ∙ zg in
            let e : judged text p s ≡ taken w.said = rw (w.is, range, agree₁, right) in
            let b : Good text p s w.said r = record {
              text_is = qt;
              declares = w.is;
              stands = rw qr w.stands;
              range = range;
              agree = agree₁;
              sound = right;
              known = rw qk u;
            } in
            record { says = subst (JudgedAs text p s (Ok r)) (sym e) b }

-- What the calls above know ----------------------------------------------------------------------------------------------

pub record JudgedGood (text : List ℕ) (p : Property) (s : Session) (r : Judged) : Type 0 where
  pub said : Declared
  pub is : judged text p s ≡ taken said
  pub good : Good text p s said r

pub record JudgedBad (text : List ℕ) (p : Property) (s : Session) (e : Code) : Type 0 where
  pub why : Refusal
  pub at : ℕ
  pub is : judged text p s ≡ refused why at
  pub number : number (named e) ≡ number why

pub judges_good : (text : List ℕ) (p : Property) (s : Session) (r : Judged) → Judges text p s (Ok r) → JudgedGood text p s r
judges_good text p s r j = go (judged text p s) refl j.says
  where
    go : (a : Answer Declared) → judged text p s ≡ a → JudgedAs text p s (Ok r) a → JudgedGood text p s r
    go (taken d) e w = record { said = d; is = e; good = w }
    go (refused q at) e w = absurd w

pub judges_bad : (text : List ℕ) (p : Property) (s : Session) (e : Code) → Judges text p s (Err e) → JudgedBad text p s e
judges_bad text p s e j = go (judged text p s) refl j.says
  where
    go : (a : Answer Declared) → judged text p s ≡ a → JudgedAs text p s (Err e) a → JudgedBad text p s e
    go (taken d) i w = absurd w
    go (refused q at) i w = record { why = q; at = at; is = i; number = w }
