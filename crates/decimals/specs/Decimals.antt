-- Numbers in decimal as the code writes them, from their last digit on.
-- Assumes nothing.
use Rattle.std.specs.Prelude.{ℕ, zero, suc, ◌+◌, ◌/◌, ◌%◌, List, [], ◌∷◌}
use Rattle.document.specs.Classes.{zero_byte}

-- x without its last j digits
unfoldable pub without_last : ℕ → ℕ → ℕ
without_last zero x = x
without_last (suc j) x = without_last j x / 10

-- the last n digits of x, with zeros before it where it has fewer
unfoldable pub last_digits : ℕ → ℕ → List ℕ
last_digits zero x = []
last_digits (suc n) x = (zero_byte + without_last n x % 10) ∷ last_digits n x

-- how many digits a number of the machine can have, a value, a refusal's number
abbrev pub most_digits : ℕ
most_digits = 20

abbrev pub value_digits : ℕ
value_digits = 10

abbrev pub refusal_digits : ℕ
refusal_digits = 3

-- ten to the power of it is the largest power of ten of 64 bits
abbrev pub sure_digits : ℕ
sure_digits = 19
