-- Laws of what `read` answers, for whoever goes on from it: a reading stands for the declarations; else they are refused.
-- Assumes nothing.
use Rattle.std.specs.Prelude.{ℕ, zero, suc, ◌-◌, ◌≡◌, refl, List, [], ◌∷◌, ◌++◌, length, get_or, replicate, Ok, Err}
use Rattle.std.proofs.Common.{sym}
use Rattle.document.specs.Limits.{most_events}
use Rattle.document.specs.Refusals.{Refusal, number, Answer, taken, refused, refusal_of}
use Rattle.refusals.specs.declared.Refusal.{Refusal as Code}
use Rattle.refusals.specs.Named.{named}
use Rattle.document.specs.Declarations.{Declared, declarations}
use Rattle.basics.specs.Lists.{zero_at}
use Rattle.readings.specs.declared.Reading.{Reading}
use Rattle.readings.specs.Readings.{padded, Stands, ReadAs, AtRows, Reads}

pub record ReadTaken (text : List ℕ) (t : Reading) : Type 0 where
  pub said : Declared
  pub is : declarations text ≡ taken said
  pub stands : Stands text said t
  pub places : AtRows text t

pub record ReadRefused (text : List ℕ) (e : Code) : Type 0 where
  pub why : Refusal
  pub at : ℕ
  pub is : declarations text ≡ refused why at
  pub number : number (named e) ≡ number why

as_taken : (text : List ℕ) (t : Reading) (a : Answer Declared) → declarations text ≡ a → ReadAs text (Ok t) a → AtRows text t → ReadTaken text t
as_taken text t (taken d) e s p = record { said = d; is = e; stands = s; places = p }
as_taken text t (refused q at) e s p = absurd s

as_refused : (text : List ℕ) (e : Code) (a : Answer Declared) → declarations text ≡ a → ReadAs text (Err e) a → ReadRefused text e
as_refused text e (taken d) i s = absurd s
as_refused text e (refused q at) i s = record { why = q; at = at; is = i; number = s }

pub reads_taken : (text : List ℕ) (t : Reading) → Reads text (Ok t) → ReadTaken text t
reads_taken text t r = as_taken text t (declarations text) refl r.says r.places

pub reads_refused : (text : List ℕ) (e : Code) → Reads text (Err e) → ReadRefused text e
reads_refused text e r = as_refused text e (declarations text) refl r.says

-- declarations of which there is a reading are taken; others are refused by the number that is answered
pub taken_declared : (text : List ℕ) (t : Reading) → Reads text (Ok t) → refusal_of (declarations text) ≡ 0
taken_declared text t r = rw (reads_taken text t r).is

pub refused_declared : (text : List ℕ) (e : Code) → Reads text (Err e) → refusal_of (declarations text) ≡ number (named e)
refused_declared text e r = let w = reads_refused text e r in rw w.is (sym w.number)

-- a number that is not there is 0, as padding is
pad_at : (l : List ℕ) (k e : ℕ) → get_or (l ++ replicate k 0) e 0 ≡ get_or l e 0
pad_at [] k e = zero_at k e
pad_at (x ∷ l) k zero = refl
pad_at (x ∷ l) k (suc e) = pad_at l k e

pub padded_at : (l : List ℕ) (e : ℕ) → get_or (padded l) e 0 ≡ get_or l e 0
unfolding padded
padded_at l e = pad_at l (most_events - length l) e
