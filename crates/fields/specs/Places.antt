-- Document 01, "Asking for a field gives back that part of the caller's row": a part that is given back, by its bytes and by
-- where it lies in what was lent. A reference's place is a block and an offset in it.
-- Assumes nothing.
use Rattle.std.specs.Prelude.{ℕ, ◌+◌, ◌≤◌, ◌≡◌, cond, List, length, get_or, take, drop, eqb}
use Rattle.std.specs.Borrow.{Bor}
use Rattle.document.specs.Rows.{Part, parts}
use Rattle.fields.specs.declared.Part.{Part as Told}

-- the k-th of some places, each told by where it starts and how long it is; past the last, the empty one at the start
abbrev pub place_at : List Told → ℕ → Told
place_at places k = get_or places k (record { start = 0; size = 0 })

-- the part of a text that a place tells
abbrev pub told : List ℕ → Told → List ℕ
told text p = take p.size (drop p.start text)

-- r holds these bytes, and lies at that place of what was lent
pub record PartAt (lent : Bor (List ℕ)) (start : ℕ) (bytes : List ℕ) (r : Bor (List ℕ)) : Type 0 where
  pub holds : r.now ≡ bytes
  pub lies : r.ref_ptr ≡ (lent.ref_ptr.0, start + lent.ref_ptr.1)

-- the same of the place alone
abbrev pub Lies : Bor (List ℕ) → ℕ → Bor (List ℕ) → Type 0
Lies lent start r = r.ref_ptr ≡ (lent.ref_ptr.0, start + lent.ref_ptr.1)

-- the same told by numbers, as a host in C is told: where the part starts and how long it is; the bytes there are these
pub record ToldAt (text : List ℕ) (start : ℕ) (bytes : List ℕ) (r : Told) : Type 0 where
  pub starts : r.start ≡ start
  pub sizes : r.size ≡ length bytes
  pub holds : take r.size (drop r.start text) ≡ bytes
  pub inside : r.start + r.size ≤ length text

-- where a field is in its row; "where there is no such field .. the empty part at the start is given"
abbrev pub no_part : Part
no_part = record { start = 0; size = 0 }

unfoldable pub field_part : List ℕ → ℕ → Part
field_part row k = get_or (parts row) k no_part

-- where a part lies that begins at a place, if it holds a byte; an empty one lies at the start
unfoldable pub place_from : ℕ → List ℕ → ℕ
place_from at bytes = cond (eqb (length bytes) 0) 0 at
