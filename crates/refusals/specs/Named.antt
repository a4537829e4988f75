-- The refusals of the code are those of document 01, "Numbers of refusal", by the same names.
-- Assumes nothing.
use Rattle.std.specs.Prelude.{ℕ, Result, Ok, Err}
use Rattle.document.specs.Refusals as document
use Rattle.refusals.specs.declared.Refusal.{Refusal}
use Rattle.refusals.specs.declared.Refusal.TheVariants as code

abbrev pub named : Refusal → document.Refusal
named code.TextTooLong = document.textTooLong
named code.BadShape = document.badShape
named code.BadName = document.badName
named code.NameTwice = document.nameTwice
named code.OverLimits = document.overLimits
named code.NotOfGrammar = document.notOfGrammar
named code.UndeclaredEvent = document.undeclaredEvent
named code.TooManyNames = document.tooManyNames
named code.TooDeep = document.tooDeep
named code.TooManyStates = document.tooManyStates
named code.BadProperty = document.badProperty
named code.BadSession = document.badSession
named code.NoSuchEvent = document.noSuchEvent
named code.WrongValues = document.wrongValues
named code.NoRoomForSeen = document.noRoomForSeen
named code.NoRoomForKept = document.noRoomForKept
named code.NoRoomForReports = document.noRoomForReports
named code.BadRow = document.badRow
named code.UnknownEvent = document.unknownEvent
named code.BadValue = document.badValue
named code.WrongFields = document.wrongFields
named code.HeaderDiffers = document.headerDiffers
named code.BadLookup = document.badLookup
named code.OffsetPastLog = document.offsetPastLog
named code.TableDiffers = document.tableDiffers

-- the number of a call's refusal: 0 where it takes (`refusal_of`, of an answer of document 01)
abbrev pub number_of : {T : Type 0} → Result T Refusal → ℕ
number_of (Ok x) = 0
number_of (Err r) = document.number (named r)
