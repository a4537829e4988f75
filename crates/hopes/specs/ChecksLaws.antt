-- What the check of a property table says, by its two ways out.
-- Assumes nothing.
use Rattle.std.specs.Prelude.{ℕ, ◌≡◌, true, false}
use Rattle.document.specs.Refusals.{badProperty, number}
use Rattle.document.specs.Property.{Property, in_range}
use Rattle.basics.specs.Sets.{holds-zero}
use Rattle.hopes.specs.Hoping.{Hopes, Checks}

pub check_refused : (p : Property) (q : ℕ) → in_range p ≡ false → q ≡ number badProperty → Checks p (record { refusal = q; hopeful = 0 })
check_refused p q z k = record { says = rw z k; hopes = λ s. rw z (holds-zero s) }

pub check_taken : (p : Property) (h : ℕ) → in_range p ≡ true → Hopes p h → Checks p (record { refusal = 0; hopeful = h })
check_taken p h z k = record { says = rw z; hopes = λ s. rw z (k.says s) }
