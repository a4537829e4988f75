-- What row and run judge first, tied to the document's `judged`: 1 to 5, 11, 25, 12.
-- Assumes nothing.
use Rattle.std.specs.Prelude.{ℕ, ◌≡◌, Bool, true, ◌&&◌, List, eqb, get_or, Result, Ok, Err}
use Rattle.document.specs.Lists.{every_below}
use Rattle.document.specs.Refusals.{number, Answer, taken, refused}
use Rattle.document.specs.Declarations.{Declared, declarations}
use Rattle.document.specs.Property.{Property, in_range}
use Rattle.document.specs.Session.{Session, sound}
use Rattle.document.specs.Log.{agrees, judged}
use Rattle.refusals.specs.Named.{named}
use Rattle.refusals.specs.declared.Refusal.{Refusal}
use Rattle.readings.specs.declared.Reading.{Reading}
use Rattle.readings.specs.Readings.{Stands}
use Rattle.known.specs.Knowing.{KnownOf}
use Rattle.judging.specs.declared.Judged.{Judged}

-- the first n numbers are the same
unfoldable pub same_sets : List ℕ → List ℕ → ℕ → Bool
same_sets a b n = every_below n (λ e. eqb (get_or a e 0) (get_or b e 0))

-- 25, over declarations as they were read
unfoldable pub agrees_by : Reading → Property → Bool
agrees_by t p = eqb p.parameters t.parameters && eqb p.events t.events && same_sets p.sets t.sets p.events

-- all that a call knows once it has judged its inputs good
pub record Good (text : List ℕ) (p : Property) (s : Session) (d : Declared) (r : Judged) : Type 0 where
  pub text_is : r.declarations.now ≡ text
  pub declares : declarations text ≡ taken d
  pub stands : Stands text d r.reading
  pub range : in_range p ≡ true
  pub agree : agrees d p ≡ true
  pub sound : sound p s ≡ true
  pub known : KnownOf p r.known

abbrev pub JudgedAs : List ℕ → Property → Session → Result Judged Refusal → Answer Declared → Type 0
JudgedAs text p s (Ok r) (taken d) = Good text p s d r
JudgedAs text p s (Ok r) (refused q at) = ⊥
JudgedAs text p s (Err e) (taken d) = ⊥
JudgedAs text p s (Err e) (refused q at) = number (named e) ≡ number q

pub record Judges (text : List ℕ) (p : Property) (s : Session) (r : Result Judged Refusal) : Type 0 where
  pub says : JudgedAs text p s r (judged text p s)
