-- What an answer of a reader tells of the definition's reading, and what follows for the calls that come after it.
-- Assumes nothing.
use Rattle.std.specs.Prelude.{ℕ, zero, suc, ◌+◌, ◌*◌, ◌≤◌, ◌<◌, ◌≡◌, refl, List, length, Result, Ok, Err}
use Rattle.std.proofs.Common.{sym, ap₂, ◌∙◌, arith}
use Rattle.document.specs.Refusals as document
use Rattle.document.specs.Patterns.{Pattern}
use Rattle.document.specs.Tokens.{Lexeme}
use Rattle.document.specs.Reading.{Reading, read, stopped, join_reading}
use Rattle.refusals.specs.declared.Refusal.{Refusal}
use Rattle.refusals.specs.Named.{named}
use Rattle.sets.specs.declared.Shape.{Shape}
use Rattle.sets.specs.Shapes.{shape_of}
use Rattle.tokens.specs.Lexing.{lexemes_at}
use Rattle.tokens.specs.Steps.{Begins}
use Rattle.tokens.specs.StepsLaws.{offset_here}
use Rattle.parts.specs.declared.Part.{Part}
use Rattle.parts.specs.declared.Stopped.{Stopped}
use Rattle.parts.specs.Parts.{Says, Goes, GoesIfTaken, Answers, taken_at, refused_at}

-- the pattern of an answer that is not refused
pub record Good (s : List ℕ) (R : Reading) (a : Part) : Type 0 where
  pub pattern : Pattern
  pub is : R ≡ read pattern (lexemes_at s a.at) a.names
  pub shape : a.shape ≡ shape_of pattern

pub good_is : (s : List ℕ) (a : Part) (R : Reading) → Says s R (Ok a) → Good s R a
good_is s a (read x left n) h = record { pattern = x; is = ap₂ (λ l k. read x l k) h.0 h.1.0; shape = h.1.1 }
good_is s a (stopped q left) h = absurd h

-- a refusal goes through every step unchanged
pub stops : (s : List ℕ) (e : Stopped) (F : Reading → Reading) → ((q : document.Refusal) (left : List Lexeme) → F (stopped q left) ≡ stopped q left)
    → (R : Reading) → Says s R (Err e) → Says s (F R) (Err e)
stops s e F k (read x left n) h = absurd h
stops s e F k (stopped q left) h = rw (k q left) h

-- a refusal at a place is the definition's at the tokens from there on
pub refused_says : (s : List ℕ) (at : ℕ) (q : Refusal) → Begins s at → Says s (stopped (named q) (lexemes_at s at)) (Err (refused_at q at))
refused_says s at q g = (refl, sym (offset_here s at g))

-- an answer, from what the definition says one call further down
pub answers : (reader : ℕ → ℕ → ℕ → List Lexeme → Reading) (k : ℕ) (s : List ℕ) (at n d : ℕ) (r : Result Part Stopped) → GoesIfTaken s at r
    → ((f : ℕ) → 4 * length (lexemes_at s at) + k ≤ f → Says s (reader (suc f) d n (lexemes_at s at)) r) → Answers reader k s at n d r
answers reader k s at n d r g h = record { goes = g; says = go }
  where
    go : (f : ℕ) → 4 * length (lexemes_at s at) + k + 1 ≤ f → Says s (reader f d n (lexemes_at s at)) r
    go zero q = absurd (omega arith)
    go (suc f) q = h f (omega arith)

-- two parts, one after the other, make a pattern of both
pub joined : (s : List ℕ) (F : Pattern → Pattern → Pattern) (S : Shape → Shape → Shape) → ((x y : Pattern) → S (shape_of x) (shape_of y) ≡ shape_of (F x y))
    → (a b : Part) (x : Pattern) (R : Reading) → a.shape ≡ shape_of x → Says s R (Ok b)
    → Says s (join_reading F x R) (Ok (taken_at b.at b.names (S a.shape b.shape)))
joined s F S law a b x (read y left n) g h = (h.0, (h.1.0, ap₂ S g h.1.1 ∙ law x y))
joined s F S law a b x (stopped q left) g h = absurd h

-- where the second of two parts stops
pub later_goes : (s : List ℕ) (at k : ℕ) (b : Part) (shape : Shape) → Goes s k b → at < k → length (lexemes_at s k) < length (lexemes_at s at)
    → Goes s at (taken_at b.at b.names shape)
later_goes s at k b shape g l m =
    let p = g.past in
    let w = g.fewer in
    record { begins = g.begins; past = omega arith; fewer = omega arith; few = g.few }
