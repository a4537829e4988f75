-- Text as bytes: the words of document 01 and its example are written as they read. ASCII only, so a character is a byte.
-- Assumes nothing.
use Rattle.std.specs.Prelude.{ℕ, List, [], ◌∷◌}
use Prim.Native.Char.{code}
use Prim.Native.String.{String, [] as end, ◌∷◌ as ◌then◌}

abbrev pub bytes : String → List ℕ
bytes end = []
bytes (c then s) = code c ∷ bytes s
