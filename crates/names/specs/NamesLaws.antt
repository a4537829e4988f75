-- Laws of names: what makes a name, the name at an offset of a text, and what makes a mark.
-- Assumes nothing.
use Rattle.std.specs.Prelude.{ℕ, suc, ◌+◌, ◌-◌, ◌≤◌, ◌<◌, ◌≡◌, refl, Bool, true, false, not, ◌&&◌, List, [], ◌∷◌, length, get_or, take, drop, eqb, leb}
use Rattle.std.proofs.Common.{sym, ap, ◌∙◌, inl, inr, length-drop, arith}
use Rattle.std.proofs.Math.Dec.{eqb-suc-suc, eqb-zero-suc}
use borrow.Author.Tests.{le-leb, lt-leb, not-true, not-false, ne_eqb}
use Rattle.document.specs.Lists.{every, equal, take_while}
use Rattle.document.specs.Limits.{name_bytes}
use Rattle.document.specs.Classes.{is_letter, is_name_byte, zero_byte, one_byte}
use Rattle.document.specs.Declarations.{is_name, is_mark, name_run, name_at}
use Rattle.basics.specs.Tests.{decided}
use Rattle.basics.specs.Lists.{run_within, run-part}
use Rattle.basics.specs.Left.{drop_here, drop-end}
use Rattle.fields.specs.Places.{ToldAt, place_from}
use Rattle.fields.specs.PlacesLaws.{told_at}

-- the longest part at the start whose members pass a test: at one that passes
run_goes_on : (p : ℕ → Bool) (s : List ℕ) (i : ℕ) → i < length s → p (get_or s i 0) ≡ true
    → take_while p (drop i s) ≡ get_or s i 0 ∷ take_while p (drop (i + 1) s)
unfolding take_while
run_goes_on p s i h e = rw (drop_here s i h, e, take_while)

-- a run passes everywhere if it is the whole
run_all : (p : ℕ → Bool) (t : List ℕ) → eqb (length (take_while p t)) (length t) ≡ every p t
unfolding take_while every
run_all p [] = refl
run_all p (b ∷ t) = elim (decided (p b)) [
  | inl e ↦ rw (e, take_while) (eqb-suc-suc (length (take_while p t)) (length t) ∙ run_all p t)
  | inr e ↦ rw (e, take_while) (eqb-zero-suc (length t))
]

-- What makes a name: not empty, not too long, a letter first, name bytes after it.
pub name_empty : (f : List ℕ) → length f ≡ 0 → false ≡ is_name f
unfolding is_name
name_empty [] h = refl
name_empty (b ∷ t) h = absurd (omega arith)

name_is : (f : List ℕ) → (length f ≡ 0 → ⊥) → is_name f ≡ (is_letter (get_or f 0 0) && every is_name_byte (drop 1 f) && leb (length f) name_bytes)
unfolding is_name
name_is [] h = absurd (h refl)
name_is (b ∷ t) h = refl

pub name_long : (f : List ℕ) → (length f ≡ 0 → ⊥) → name_bytes < length f → false ≡ is_name f
name_long f h l = sym (name_is f h ∙ rw (lt-leb (length f) name_bytes l) (none (is_letter (get_or f 0 0)) (every is_name_byte (drop 1 f))))
  where
    none : (x y : Bool) → (x && y && false) ≡ false
    none true true = refl
    none true false = refl
    none false y = refl

pub name_begins : (f : List ℕ) → (length f ≡ 0 → ⊥) → (d : Bool) → d ≡ is_letter (get_or f 0 0) → not d ≡ true → false ≡ is_name f
name_begins f h d e n = sym (name_is f h ∙ ap (λ x. x && every is_name_byte (drop 1 f) && leb (length f) name_bytes) (sym e ∙ not-true d n))

pub name_rest : (f : List ℕ) (end : ℕ) (d : Bool) → (length f ≡ 0 → ⊥) → length f ≤ name_bytes → d ≡ is_letter (get_or f 0 0) → not d ≡ false
    → end ≡ 1 + length (take_while is_name_byte (drop 1 f)) → eqb end (length f) ≡ is_name f
name_rest f end d h l e n q =
    let k : end ≡ suc (length (take_while is_name_byte (drop 1 f))) = omega arith in
    let j : length f ≡ suc (length (drop 1 f)) = rw length-drop (omega arith) in
    let a : eqb end (length f) ≡ every is_name_byte (drop 1 f) =
    rw k (ap (eqb (suc (length (take_while is_name_byte (drop 1 f))))) j ∙ eqb-suc-suc (length (take_while is_name_byte (drop 1 f))) (length (drop 1 f)) ∙ run_all is_name_byte (drop 1 f)) in
    a ∙ sym (name_is f h ∙ rw (sym e ∙ not-false d n, le-leb (length f) name_bytes l) (whole (every is_name_byte (drop 1 f))))
  where
    whole : (x : Bool) → (true && x && true) ≡ x
    whole true = refl
    whole false = refl

-- The name at an offset of a text: none past the end, none where no letter is, else the run of name bytes.
past_bytes : (s : List ℕ) (at : ℕ) → length s ≤ at → take 0 (drop 0 s) ≡ name_at s at
unfolding name_at name_run
past_bytes s at h = rw (drop-end s at h)

none_bytes : (s : List ℕ) (at : ℕ) (d : Bool) → at < length s → d ≡ is_letter (get_or s at 0) → not d ≡ true → take 0 (drop 0 s) ≡ name_at s at
unfolding name_at name_run
none_bytes s at d h e n = rw (drop_here s at h, sym e ∙ not-true d n)

name_run_lem : (s : List ℕ) (at : ℕ) → at < length s → is_letter (get_or s at 0) ≡ true → name_at s at ≡ take_while is_name_byte (drop at s)
unfolding name_at name_run
name_run_lem s at h e = rw (drop_here s at h, e)

there_bytes : (s : List ℕ) (at end : ℕ) (d : Bool) → at < length s → d ≡ is_letter (get_or s at 0) → not d ≡ false
    → end ≡ at + length (take_while is_name_byte (drop at s)) → take (end - at) (drop at s) ≡ name_at s at
there_bytes s at end d h e n q =
    let k : end - at ≡ length (take_while is_name_byte (drop at s)) = omega arith in
    rw k (run-part is_name_byte (drop at s)) ∙ sym (name_run_lem s at h (sym e ∙ not-false d n))

-- a name holds a byte, its letter
name_some : (s : List ℕ) (at : ℕ) → at < length s → is_letter (get_or s at 0) ≡ true → eqb (length (name_at s at)) 0 ≡ false
name_some s at h e =
    rw (name_run_lem s at h e, run_goes_on is_name_byte s at h (rw e)) (ne_eqb (suc (length (take_while is_name_byte (drop (at + 1) s)))) 0 (λ z. absurd (omega arith)))

pub name_inside : (s : List ℕ) (at end : ℕ) → at < length s → end ≡ at + length (take_while is_name_byte (drop at s)) → (at ≤ end) × (end ≤ length s)
name_inside s at end h e = let k = rw length-drop at (run_within is_name_byte (drop at s)) in (omega arith, omega arith)

module _ (s : List ℕ) (at : ℕ) where
  pub name_past : length s ≤ at → ToldAt s (place_from at (name_at s at)) (name_at s at) (record { start = 0; size = 0 })
  unfolding place_from
  name_past h = let z = past_bytes s at h in rw (← z) (told_at s (take 0 (drop 0 s)) 0 0 (omega arith) refl)

  pub name_none : (d : Bool) → at < length s → d ≡ is_letter (get_or s at 0) → not d ≡ true
      → ToldAt s (place_from at (name_at s at)) (name_at s at) (record { start = 0; size = 0 })
  unfolding place_from
  name_none d h e n = let z = none_bytes s at d h e n in rw (← z) (told_at s (take 0 (drop 0 s)) 0 0 (omega arith) refl)

  pub name_there : (end : ℕ) (d : Bool) → at < length s → d ≡ is_letter (get_or s at 0) → not d ≡ false
      → end ≡ at + length (take_while is_name_byte (drop at s))
      → ToldAt s (place_from at (name_at s at)) (name_at s at) (record { start = at; size = end - at })
  unfolding place_from
  name_there end d h e n q =
      let i = name_inside s at end h q in
      rw (name_some s at h (sym e ∙ not-false d n)) (told_at s (name_at s at) at (end - at) (omega arith) (there_bytes s at end d h e n q))

-- A mark is `0` or `1`.
pub mark_zero : (f : List ℕ) (d : Bool) → d ≡ equal f (zero_byte ∷ []) → d ≡ true → d ≡ is_mark f
unfolding is_mark
mark_zero f d e t = rw (sym e ∙ t) t

pub mark_one : (f : List ℕ) (d x : Bool) → d ≡ equal f (zero_byte ∷ []) → d ≡ false → x ≡ equal f (one_byte ∷ []) → x ≡ is_mark f
unfolding is_mark
mark_one f d x e t q = rw (sym e ∙ t) q
