-- Document 01, "Numbers of refusal": each refusal by name, its number, and what a call answers.
-- Assumes nothing.
use Rattle.std.specs.Prelude.{ℕ, Bool, true, false}

pub data Refusal : Type 0 where
  textTooLong badShape badName nameTwice overLimits : Refusal
  notOfGrammar undeclaredEvent tooManyNames tooDeep tooManyStates : Refusal
  badProperty badSession noSuchEvent wrongValues : Refusal
  noRoomForSeen noRoomForKept noRoomForReports : Refusal
  badRow unknownEvent badValue wrongFields : Refusal
  headerDiffers badLookup offsetPastLog tableDiffers : Refusal

abbrev pub number : Refusal → ℕ
number textTooLong = 1
number badShape = 2
number badName = 3
number nameTwice = 4
number overLimits = 5
number notOfGrammar = 6
number undeclaredEvent = 7
number tooManyNames = 8
number tooDeep = 9
number tooManyStates = 10
number badProperty = 11
number badSession = 12
number noSuchEvent = 13
number wrongValues = 14
number noRoomForSeen = 15
number noRoomForKept = 16
number noRoomForReports = 17
number badRow = 18
number unknownEvent = 19
number badValue = 20
number wrongFields = 21
number headerDiffers = 22
number badLookup = 23
number offsetPastLog = 24
number tableDiffers = 25

-- what a call answers: its value, or a refusal and the refusal's offset ("its offset for 6 to 9, zero elsewhere")
pub data Answer (A : Type 0) : Type 0 where
  taken : A → Answer A
  refused : Refusal → ℕ → Answer A

-- Refusals are judged in the order in which these stand: the first test that holds refuses.
abbrev pub refuse_if : {A : Type 0} → Bool → Refusal → Answer A → Answer A
refuse_if true r a = refused r 0
refuse_if false r a = a

abbrev pub and_then : {A B : Type 0} → Answer A → (A → Answer B) → Answer B
and_then (taken x) f = f x
and_then (refused r at) f = refused r at

-- the value of an answer, or another where it is a refusal
abbrev pub taken_or : {A : Type 0} → A → Answer A → A
taken_or x (taken y) = y
taken_or x (refused r at) = x

-- the number that a call gives beside its value: 0 where it takes
abbrev pub refusal_of : {A : Type 0} → Answer A → ℕ
refusal_of (taken x) = 0
refusal_of (refused r at) = number r
