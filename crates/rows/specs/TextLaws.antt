-- Laws of the rows of a text: the row at a place is the first of those from there on, and the others are those from the place
-- after it on.
-- Assumes nothing.
use Rattle.std.specs.Prelude.{ℕ, zero, suc, ◌+◌, ◌-◌, ◌≤◌, ◌<◌, ◌≡◌, refl, List, [], ◌∷◌, length, get_or, take, drop}
use Rattle.std.proofs.Common.{sym, ap, ◌∙◌, inl, inr, length-drop, drop-drop, arith}
use Rattle.document.specs.Rows.{ends_row, first_row, after_row, rows_within, rows}
use Rattle.document.specs.Log.{next_at}
use Rattle.basics.specs.Tests.{decided}
use Rattle.basics.specs.Left.{drop_here, drop-end}
use Rattle.rows.specs.RowsLaws.{first_ends, first_more, after_ends, after_more, ends_two}

-- a row is the part of the text from its start on that is as long as it
pub first_within : (t : List ℕ) → length (first_row t) ≤ length t
unfolding first_row
first_within [] = omega arith
first_within (b ∷ t) = elim (decided (ends_row b t)) [
  | inl e ↦ rw (first_ends b t e) (omega arith)
  | inr e ↦ rw (first_more b t e) (let k = first_within t in omega arith)
]

pub first_part : (t : List ℕ) → take (length (first_row t)) t ≡ first_row t
unfolding first_row
first_part [] = refl
first_part (b ∷ t) = elim (decided (ends_row b t)) [
  | inl e ↦ rw (first_ends b t e)
  | inr e ↦ rw (first_more b t e, first_part t)
]

-- what is left after a row is an end of the text, and shorter than the text
pub after_within : (t : List ℕ) → length (after_row t) ≤ length t
unfolding after_row
after_within [] = omega arith
after_within (b ∷ t) = elim (decided (ends_row b t)) [
  | inl e ↦ rw (after_ends b t e, length-drop) (omega arith)
  | inr e ↦ rw (after_more b t e) (let k = after_within t in omega arith)
]

pub after_shorter : (b : ℕ) (t : List ℕ) → length (after_row (b ∷ t)) ≤ length t
after_shorter b t = elim (decided (ends_row b t)) [
  | inl e ↦ rw (after_ends b t e, length-drop) (omega arith)
  | inr e ↦ rw (after_more b t e) (after_within t)
]

after-drop : (t : List ℕ) → drop (length t - length (after_row t)) t ≡ after_row t
unfolding after_row
after-drop [] = refl
after-drop (b ∷ t) = elim (decided (ends_row b t)) [
  | inl e ↦
      let k : suc (length t) - (length t - 1) ≡ 2 = let j = ends_two b t e in omega arith in
      rw (after_ends b t e, length-drop, k)
  | inr e ↦
      let k : suc (length t) - length (after_row t) ≡ suc (length t - length (after_row t)) = let j = after_within t in omega arith in
      rw (after_more b t e, k) (after-drop t)
]

pub drop-next : (s : List ℕ) (at : ℕ) → at ≤ length s → drop (next_at s at) s ≡ after_row (drop at s)
unfolding next_at
drop-next s at h =
    let w = rw length-drop at (after_within (drop at s)) in
    let k : at + (length s - at - length (after_row (drop at s))) ≡ length s - length (after_row (drop at s)) = omega arith in
    rw (← k) (sym (drop-drop (length s - at - length (after_row (drop at s))) at s) ∙ rw (← length-drop at s) (after-drop (drop at s)))

-- the place after a row lies further on, inside the text or at its end
pub next_within : (s : List ℕ) (at : ℕ) → next_at s at ≤ length s
unfolding next_at
next_within s at = omega arith

pub next-later : (s : List ℕ) (at : ℕ) → at < length s → at < next_at s at
unfolding next_at
next-later s at h =
    let w = after_shorter (get_or s at 0) (drop (at + 1) s) in
    let v = rw (length-drop (at + 1) s, ← drop_here s at h) at w in
    omega arith

-- any count that reaches the text's length gives all of its rows
rows_enough : (n m : ℕ) (t : List ℕ) → length t ≤ n → length t ≤ m → rows_within n t ≡ rows_within m t
unfolding rows_within
rows_enough zero zero t h k = refl
rows_enough zero (suc m) [] h k = refl
rows_enough (suc n) zero [] h k = refl
rows_enough (suc n) (suc m) [] h k = refl
rows_enough zero (suc m) (b ∷ t) h k = absurd (omega arith)
rows_enough (suc n) zero (b ∷ t) h k = absurd (omega arith)
rows_enough (suc n) (suc m) (b ∷ t) h k =
    let w = after_shorter b t in
    ap (λ l. first_row (b ∷ t) ∷ l) (rows_enough n m (after_row (b ∷ t)) (omega arith) (omega arith))

rows_cons : (b : ℕ) (t : List ℕ) → rows (b ∷ t) ≡ first_row (b ∷ t) ∷ rows (after_row (b ∷ t))
unfolding rows rows_within
rows_cons b t =
    let w = after_shorter b t in
    ap (λ l. first_row (b ∷ t) ∷ l) (rows_enough (length t) (length (after_row (b ∷ t))) (after_row (b ∷ t)) w (omega arith))

-- The rows from a place on: at the text's end there are none; else the row there, and the rows from the place after it on.
pub rows_over : (s : List ℕ) (at : ℕ) → length s ≤ at → rows (drop at s) ≡ []
unfolding rows rows_within
rows_over s at h = rw (drop-end s at h)

pub rows_next : (s : List ℕ) (at : ℕ) → at < length s → rows (drop at s) ≡ first_row (drop at s) ∷ rows (drop (next_at s at) s)
rows_next s at h = rw (drop-next s at (omega arith)) (rw (← drop_here s at h) at (rows_cons (get_or s at 0) (drop (at + 1) s)))

-- the part of a text that the row at a place is
pub row-part : (s : List ℕ) (at end : ℕ) → end ≡ at + length (first_row (drop at s)) → take (end - at) (drop at s) ≡ first_row (drop at s)
row-part s at end e = let k : end - at ≡ length (first_row (drop at s)) = omega arith in rw k (first_part (drop at s))

pub row_within : (s : List ℕ) (at end : ℕ) → end ≡ at + length (first_row (drop at s)) → at ≤ length s → (at ≤ end) × (end ≤ length s)
row_within s at end e h = let k = rw length-drop at (first_within (drop at s)) in (omega arith, omega arith)
