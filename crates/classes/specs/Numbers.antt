-- The classes of the code are those of document 01, "The declarations", by the same names.
-- Assumes nothing.
use Rattle.std.specs.Prelude.{ℕ}
use Rattle.document.specs.Classes as document
use Rattle.classes.specs.declared.Class.{Class}
use Rattle.classes.specs.declared.Class.TheVariants as code

abbrev pub number : Class → ℕ
number code.Letter = document.letter
number code.Digit = document.digit
number code.Underscore = document.underscore
number code.Blank = document.blank
number code.Opening = document.opening
number code.Closing = document.closing
number code.Colon = document.colon
number code.Bar = document.bar
number code.Star = document.star
number code.Plus = document.plus
number code.AtSign = document.at_sign
number code.Other = document.other
