-- What row and run judge before any row: declarations that are taken, a table in range that agrees with them, a sound session.
-- Assumes nothing.
use Rattle.std.specs.Prelude.{ℕ, ◌<◌, ◌≡◌, Bool, true, not, ◌&&◌, List, length, get_or, eqb}
use Rattle.std.proofs.Common.{ap, ◌∙◌, eqb-true}
use Rattle.std.proofs.lemmas.Bool.{not-false}
use Rattle.document.specs.Lists.{every_below}
use Rattle.document.specs.Refusals.{badProperty, badSession, tableDiffers, Answer, taken, refuse_if}
use Rattle.document.specs.Declarations.{Declared, declarations}
use Rattle.document.specs.Property.{Property, in_range, set_of}
use Rattle.document.specs.Session.{Session, sound}
use Rattle.document.specs.Log.{agrees, judged}
use Rattle.basics.specs.Answers.{past_test, past_call, taken_one}
use Rattle.slices.specs.TestsLaws.{so, true_of, and_of, every_below_of}

-- "declarations and property table differ in counts or sets" where these do not hold
pub record Agrees (d : Declared) (p : Property) : Type 0 where
  pub parameters : p.parameters ≡ length d.parameters
  pub events : p.events ≡ length d.events
  pub sets : (e : ℕ) → e < p.events → set_of p e ≡ get_or d.sets e 0

pub agrees_of : (d : Declared) (p : Property) → agrees d p ≡ true → Agrees d p
unfolding agrees
agrees_of d p e =
    let counts = eqb p.parameters (length d.parameters) && eqb p.events (length d.events) in
    let same : ℕ → Bool = λ k. eqb (set_of p k) (get_or d.sets k 0) in
    let h = and_of counts (every_below p.events same) (so e) in
    let k = and_of (eqb p.parameters (length d.parameters)) (eqb p.events (length d.events)) h.0 in
    record {
      parameters = eqb-true p.parameters (length d.parameters) (true_of _ k.0);
      events = eqb-true p.events (length d.events) (true_of _ k.1);
      sets = λ i l. eqb-true (set_of p i) (get_or d.sets i 0) (true_of _ (every_below_of p.events same h.1 i l));
    }

pub record Judged (text : List ℕ) (p : Property) (s : Session) (d : Declared) : Type 0 where
  pub declares : declarations text ≡ taken d
  pub range : in_range p ≡ true
  pub agree : agrees d p ≡ true
  pub sound : sound p s ≡ true

pub judged_of : (text : List ℕ) (p : Property) (s : Session) (d : Declared) → judged text p s ≡ taken d → Judged text p s d
unfolding judged
judged_of text p s d e =
    let last : Declared → Answer Declared = λ x. refuse_if (not (sound p s)) badSession (taken x) in
    let middle : Declared → Answer Declared = λ x. refuse_if (not (agrees x p)) tableDiffers (last x) in
    let h = past_call (declarations text) (λ x. refuse_if (not (in_range p)) badProperty (middle x)) d e in
    let x = h.0 in
    let h₁ = past_test (not (in_range p)) badProperty (middle x) d h.2 in
    let h₂ = past_test (not (agrees x p)) tableDiffers (last x) d h₁.1 in
    let h₃ = past_test (not (sound p s)) badSession (taken x) d h₂.1 in
    let same : x ≡ d = taken_one h₃.1 in
    record {
      declares = h.1 ∙ ap taken same;
      range = not-false (in_range p) h₁.0;
      agree = rw (← same) (not-false (agrees x p) h₂.0);
      sound = not-false (sound p s) h₃.0;
    }

pub of_judged : (text : List ℕ) (p : Property) (s : Session) (d : Declared) → Judged text p s d → judged text p s ≡ taken d
unfolding judged
of_judged text p s d j = rw (j.declares, j.range, j.agree, j.sound)
