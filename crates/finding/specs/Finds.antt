-- What lookup answers, as the code's values: one definition maps document 01's answers to them.
-- Assumes nothing.
use Rattle.std.specs.Prelude.{ℕ, ◌*◌, ◌<◌, ◌≤◌, true, false, List, [], ◌∷◌, length, get_or, Option, None, Some, Result, Ok, Err}
use Rattle.document.specs.Lists.{In, equal}
use Rattle.document.specs.Limits.{kept_stride, most_states}
use Rattle.document.specs.Refusals.{number, Answer, taken, refused}
use Rattle.document.specs.OneEvent.{Kept}
use Rattle.document.specs.Session.{Found, held, hopeless}
use Rattle.slices.specs.OrderLaws.{Ascends, combinations}
use Rattle.tables.specs.Tables.{kept_from}
use Rattle.refusals.specs.declared.Refusal.{Refusal}
use Rattle.refusals.specs.Named.{named}
use Rattle.finding.specs.declared.Looked.{Looked}

-- lookup: the kept state and its verdict; hopeless, and a refusal, have neither
unfoldable pub looked_up : Answer Found → Looked
looked_up (taken (held s v)) = record { refusal = 0; held = true; state = s; verdict = v }
looked_up (taken hopeless) = record { refusal = 0; held = false; state = 0; verdict = 0 }
looked_up (refused r at) = record { refusal = number r; held = false; state = 0; verdict = 0 }

-- the same, of the code's own answer: the state and its verdict, nothing, or a refusal
abbrev pub looked_by : Result (Option (ℕ × ℕ)) Refusal → Looked
looked_by (Ok (Some h)) = record { refusal = 0; held = true; state = h.0; verdict = h.1 }
looked_by (Ok None) = record { refusal = 0; held = false; state = 0; verdict = 0 }
looked_by (Err r) = record { refusal = number (named r); held = false; state = 0; verdict = 0 }

-- the kept rows, found by a search
pub record Findable (m : ℕ) (kept : List ℕ) : Type 0 where
  pub inside : m * kept_stride ≤ length kept
  pub order : Ascends (combinations (kept_from m kept 0))
  pub within : (k : Kept) → In k (kept_from m kept 0) → k.state < most_states

unfoldable pub found_by : List ℕ → List ℕ → List Kept → Option (ℕ × ℕ)
found_by verdicts c [] = None
found_by verdicts c (k ∷ l) = elim (equal k.combination c) [ true ↦ Some (k.state, get_or verdicts k.state 0) | false ↦ found_by verdicts c l ]
