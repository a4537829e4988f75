-- Document 01, "Numbers of refusal": what an answer that is taken says of the test and of the call before it.
-- Assumes nothing.
use Rattle.std.specs.Prelude.{ℕ, ◌≡◌, refl, Bool, true, false}
use Rattle.std.proofs.Common.{arith}
use Rattle.document.specs.Refusals.{Refusal, Answer, taken, refused, refuse_if, and_then}

-- an answer is taken with one value, or refused
pub taken_one : {A : Type 0} {x y : A} → taken x ≡ taken y → x ≡ y
taken_one e = cc

pub refused_taken : {A : Type 0} {x : A} {q : Refusal} {at : ℕ} → refused q at ≡ taken x → ⊥
refused_taken e = let z : ◌≡◌ {A = ℕ} 0 1 = cc in omega arith

-- what is taken passed the test
pub past_test : {A : Type 0} (t : Bool) (q : Refusal) (a : Answer A) (x : A) → refuse_if t q a ≡ taken x → (t ≡ false) × (a ≡ taken x)
past_test true q a x e = absurd (refused_taken e)
past_test false q a x e = (refl, e)

-- what is taken follows a call that was taken
pub past_call : {A B : Type 0} (a : Answer A) (f : A → Answer B) (y : B) → and_then a f ≡ taken y
    → (x : A) × (a ≡ taken x) × (f x ≡ taken y)
past_call (taken x) f y e = (x, refl, e)
past_call (refused q at) f y e = absurd (refused_taken e)
