-- Laws of refusals: none has the number 0, so a call that gives 0 takes, and one that gives another number refuses.
-- Assumes nothing.
use Rattle.std.specs.Prelude.{◌≤◌, ◌≡◌, refl, Bool, true, false}
use Rattle.std.proofs.Common.{arith}
use Rattle.document.specs.Refusals.{Refusal, textTooLong, badShape, badName, nameTwice, overLimits, notOfGrammar, undeclaredEvent, tooManyNames, tooDeep, tooManyStates, badProperty, badSession, noSuchEvent, wrongValues, noRoomForSeen, noRoomForKept, noRoomForReports, badRow, unknownEvent, badValue, wrongFields, headerDiffers, badLookup, offsetPastLog, tableDiffers, number, taken, refuse_if, refusal_of}

pub number-some : (q : Refusal) → 1 ≤ number q
number-some textTooLong = omega arith
number-some badShape = omega arith
number-some badName = omega arith
number-some nameTwice = omega arith
number-some overLimits = omega arith
number-some notOfGrammar = omega arith
number-some undeclaredEvent = omega arith
number-some tooManyNames = omega arith
number-some tooDeep = omega arith
number-some tooManyStates = omega arith
number-some badProperty = omega arith
number-some badSession = omega arith
number-some noSuchEvent = omega arith
number-some wrongValues = omega arith
number-some noRoomForSeen = omega arith
number-some noRoomForKept = omega arith
number-some noRoomForReports = omega arith
number-some badRow = omega arith
number-some unknownEvent = omega arith
number-some badValue = omega arith
number-some wrongFields = omega arith
number-some headerDiffers = omega arith
number-some badLookup = omega arith
number-some offsetPastLog = omega arith
number-some tableDiffers = omega arith

-- where no test refuses, the value is taken
pub none_refused : {A : Type 0} (a b c d : Bool) (p q r s : Refusal) (x : A)
    → refusal_of (refuse_if a p (refuse_if b q (refuse_if c r (refuse_if d s (taken x))))) ≡ 0
    → refuse_if a p (refuse_if b q (refuse_if c r (refuse_if d s (taken x)))) ≡ taken x
none_refused true b c d p q r s x h = absurd (let k = number-some p in omega arith)
none_refused false true c d p q r s x h = absurd (let k = number-some q in omega arith)
none_refused false false true d p q r s x h = absurd (let k = number-some r in omega arith)
none_refused false false false true p q r s x h = absurd (let k = number-some s in omega arith)
none_refused false false false false p q r s x h = refl
