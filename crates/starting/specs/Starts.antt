-- What start answers and leaves, as the code's values: one definition maps document 01's answers to them.
-- Assumes nothing.
use Rattle.std.specs.Prelude.{ℕ, ◌≤◌, ◌≡◌, true, List}
use mir.Val.{bool_byte}
use Rattle.document.specs.Refusals.{Answer, refused, refusal_of}
use Rattle.document.specs.Property.{Property, in_range, hopeful}
use Rattle.document.specs.Tables.{kept_room}
use Rattle.document.specs.Session.{Session, start, start_leaves}
use Rattle.refusals.specs.Named.{named}
use Rattle.refusals.specs.declared.Refusal.{Refusal}
use Rattle.steps.specs.declared.Answered.{Answered}

-- start: what it says, and every lent number afterwards
unfoldable pub started : List ℕ → List ℕ → Answer Session → Answered
started seen kept a = record {
  refusal = refusal_of a;
  seen = (start_leaves seen kept a).seen_count;
  kept = (start_leaves seen kept a).kept_count;
  reported = 0;
}

pub record StartLeaves (a : Answer Session) (seen kept : List ℕ) (r : Answered) (seen' kept' : List ℕ) : Type 0 where
  pub says : r ≡ started seen kept a
  pub seen_left : seen' ≡ (start_leaves seen kept a).seen
  pub kept_left : kept' ≡ (start_leaves seen kept a).kept

-- what stands where a session may be started: how many kept rows it begins with, and that there is room for them
pub record FirstRows (p : Property) (kept : List ℕ) (x : ℕ) : Type 0 where
  pub range : in_range p ≡ true
  pub count : x ≡ bool_byte (hopeful p 0)
  pub fits : x ≤ kept_room kept

-- the document's start is refused so, whatever the seen table
pub record StartRefused (p : Property) (kept : List ℕ) (r : Refusal) : Type 0 where
  pub says : (seen : List ℕ) → start p seen kept ≡ refused (named r) 0
