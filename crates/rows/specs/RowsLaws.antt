-- Laws of rows: what one byte more means for where a row ends, and whether one is stray. Each speaks of what is left of a text from
-- a place on, as a loop over the text meets it.
-- Assumes nothing.
use Rattle.std.specs.Prelude.{ℕ, ◌+◌, ◌≤◌, ◌<◌, ◌≡◌, refl, Bool, true, false, ◌&&◌, ◌||◌, List, [], ◌∷◌, length, get_or, drop, eqb}
use Rattle.std.proofs.Common.{sym, ap, ◌∙◌, inl, inr, length-drop, arith, eq-eqb, ne_eqb}
use Rattle.std.specs.List.{list_any}
use Rattle.document.specs.Lists.{some}
use Rattle.document.specs.Classes.{cr, lf}
use Rattle.document.specs.Rows.{ends_row, first_row, after_row, stray}
use Rattle.document.specs.Log.{next_at}
use Rattle.basics.specs.Tests.{decided}
use Rattle.basics.specs.Left.{drop_here, drop-end}

-- A row's end: at the end of the text, at a line end, at any other byte.
pub row_over : (s : List ℕ) (i : ℕ) → length s ≤ i → first_row (drop i s) ≡ []
unfolding first_row
row_over s i h = rw (drop-end s i h)

pub row_stops : (s : List ℕ) (i : ℕ) → i < length s → ends_row (get_or s i 0) (drop (i + 1) s) ≡ true → first_row (drop i s) ≡ []
unfolding first_row
row_stops s i h e = rw (drop_here s i h, e, first_row)

pub row_goes_on : (s : List ℕ) (i : ℕ) → i < length s → ends_row (get_or s i 0) (drop (i + 1) s) ≡ false
    → first_row (drop i s) ≡ get_or s i 0 ∷ first_row (drop (i + 1) s)
unfolding first_row
row_goes_on s i h e = rw (drop_here s i h, e, first_row)

-- a line end is a CR and an LF, and there are two bytes to it
pub ends_row_end : (s : List ℕ) (i b : ℕ) → length s ≤ i + 1 → false ≡ ends_row b (drop (i + 1) s)
unfolding ends_row
ends_row_end s i b h = rw (drop-end s (i + 1) h)

pub ends_row_test : (s : List ℕ) (i b : ℕ) → i + 1 < length s → ends_row b (drop (i + 1) s) ≡ (eqb b cr && eqb (get_or s (i + 1) 0) lf)
unfolding ends_row
ends_row_test s i b h = rw (drop_here s (i + 1) h)

-- the first row and the rest, by the text's first byte
pub first_ends : (b : ℕ) (t : List ℕ) → ends_row b t ≡ true → first_row (b ∷ t) ≡ []
unfolding first_row
first_ends b t e = rw (e, first_row)

pub first_more : (b : ℕ) (t : List ℕ) → ends_row b t ≡ false → first_row (b ∷ t) ≡ b ∷ first_row t
unfolding first_row
first_more b t e = rw (e, first_row)

pub after_ends : (b : ℕ) (t : List ℕ) → ends_row b t ≡ true → after_row (b ∷ t) ≡ drop 1 t
unfolding after_row
after_ends b t e = rw (e, after_row)

pub after_more : (b : ℕ) (t : List ℕ) → ends_row b t ≡ false → after_row (b ∷ t) ≡ after_row t
unfolding after_row
after_more b t e = rw (e, after_row)

pub ends_two : (b : ℕ) (t : List ℕ) → ends_row b t ≡ true → 1 ≤ length t
unfolding ends_row
ends_two b [] e = let z : ◌≡◌ {A = ℕ} 0 1 = cc in absurd (omega arith)
ends_two b (c ∷ t) e = omega arith

-- a row that does not reach the text's end has a line end, of two bytes, after it
pub after-row : (t : List ℕ) → length (first_row t) < length t → length (after_row t) + (length (first_row t) + 2) ≡ length t
after-row [] h = absurd (omega arith)
after-row (b ∷ t) h = elim (decided (ends_row b t)) [
  | inl e ↦ rw (first_ends b t e, after_ends b t e, length-drop) (let k = ends_two b t e in omega arith)
  | inr e ↦
      let m : length (first_row t) < length t = let k : length (first_row (b ∷ t)) < length (b ∷ t) = h in let j = rw (first_more b t e) at k in omega arith in
      let ih = after-row t m in rw (first_more b t e, after_more b t e) (omega arith)
]

-- and after one that does there is nothing
pub after_last : (t : List ℕ) → length t ≤ length (first_row t) → after_row t ≡ []
unfolding after_row
after_last [] h = refl
after_last (b ∷ t) h = elim (decided (ends_row b t)) [
  | inl e ↦ absurd (let k : length (b ∷ t) ≤ length (first_row (b ∷ t)) = h in let j = rw (first_ends b t e) at k in omega arith)
  | inr e ↦
      let m : length t ≤ length (first_row t) = let k : length (b ∷ t) ≤ length (first_row (b ∷ t)) = h in let j = rw (first_more b t e) at k in omega arith in
      rw (after_more b t e) (after_last t m)
]

-- The turns of the loop that looks for a row's end, from the place `at` on.
pub row-end-found : (s : List ℕ) (at i : ℕ) → i + length (first_row (drop i s)) ≡ at + length (first_row (drop at s)) → i < length s
    → (e : Bool) → e ≡ ends_row (get_or s i 0) (drop (i + 1) s) → e ≡ true → i ≡ at + length (first_row (drop at s))
row-end-found s at i q h e p t = let z = row_stops s i h (sym p ∙ t) in let k = rw z at q in omega arith

pub row-end-turn : (s : List ℕ) (at i : ℕ) → i + length (first_row (drop i s)) ≡ at + length (first_row (drop at s)) → i < length s
    → (e : Bool) → e ≡ ends_row (get_or s i 0) (drop (i + 1) s) → e ≡ false
    → i + 1 + length (first_row (drop (i + 1) s)) ≡ at + length (first_row (drop at s))
row-end-turn s at i q h e p t = let z = row_goes_on s i h (sym p ∙ t) in let k = rw z at q in omega arith

pub row_end_over : (s : List ℕ) (at i : ℕ) → i + length (first_row (drop i s)) ≡ at + length (first_row (drop at s)) → length s ≤ i
    → i ≡ at + length (first_row (drop at s))
row_end_over s at i q h = let z = row_over s i h in let k = rw z at q in omega arith

-- a CR that no LF follows, and one that an LF may follow
pub ends_row_no_cr : (s : List ℕ) (i : ℕ) → i + 1 < length s → (get_or s i 0 ≡ cr → ⊥) → false ≡ ends_row (get_or s i 0) (drop (i + 1) s)
ends_row_no_cr s i h n = sym (ends_row_test s i (get_or s i 0) h ∙ ap (λ b. b && eqb (get_or s (i + 1) 0) lf) (ne_eqb (get_or s i 0) cr n))

pub ends_row_lf : (s : List ℕ) (i : ℕ) → i + 1 < length s → get_or s i 0 ≡ cr → eqb (get_or s (i + 1) 0) lf ≡ ends_row (get_or s i 0) (drop (i + 1) s)
ends_row_lf s i h e = sym (ends_row_test s i (get_or s i 0) h ∙ ap (λ b. b && eqb (get_or s (i + 1) 0) lf) (eq-eqb (get_or s i 0) cr e))

-- the place after a row, by whether the row reaches the text's end
pub next_more : (s : List ℕ) (at end : ℕ) → end ≡ at + length (first_row (drop at s)) → end < length s → end + 2 ≡ next_at s at
unfolding next_at
next_more s at end e h =
    let m : length (first_row (drop at s)) < length (drop at s) = rw length-drop (omega arith) in
    let k = after-row (drop at s) m in
    let j = rw length-drop at k in
    omega arith

pub next_none : (s : List ℕ) (at end : ℕ) → end ≡ at + length (first_row (drop at s)) → length s ≤ end → length s ≡ next_at s at
unfolding next_at
next_none s at end e h = rw (after_last (drop at s) (rw length-drop (omega arith))) (omega arith)

-- a stray CR or LF is what some byte is
pub stray_some : (s : List ℕ) → list_any (λ b. eqb b cr || eqb b lf) s ≡ stray s
unfolding stray some
stray_some [] = refl
stray_some (b ∷ s) = ap (λ t. (eqb b cr || eqb b lf) || t) (stray_some s)
