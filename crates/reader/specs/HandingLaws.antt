-- Laws of the reader: one for each way out of `place_at`, `part` and `hand_out`.
-- Assumes nothing.
use Rattle.std.specs.Prelude.{ℕ, ◌+◌, ◌-◌, ◌≤◌, ◌<◌, ◌≡◌, min, refl, Bool, true, false, not, ◌⊎◌, Option, Some, None, List, [], ◌∷◌, length, take, drop, leb}
use Rattle.std.proofs.Common.{sym, ap, ◌∙◌, inl, inr, length-drop, drop-drop, take_all, length-take-le, arith, le-leb, leb-true, leb-false, ne_eqb, zero-add}
use Rattle.std.specs.Borrow.{Bor}
use Rattle.std.proofs.Math.Seq.{take-nil}
use Rattle.std.proofs.lemmas.Bool.{lt-leb, not-true, not-false}
use Rattle.document.specs.Rows.{ends_row, first_row}
use Rattle.document.specs.Log.{handed, no_row, hands_out, row_at, next_at}
use Rattle.basics.specs.Tests.{decided}
use Rattle.basics.specs.Left.{drop-end}
use Rattle.rows.specs.RowsLaws.{first_ends, first_more, next_more, next_none}
use Rattle.rows.specs.TextLaws.{first_part}
use Rattle.fields.specs.Places.{PartAt, Lies, place_from}
use Rattle.reader.specs.declared.Place.{Place}
use Rattle.reader.specs.Handing.{is_there, bytes_of, position_after, HandsOut, Hands, place_at}

-- handing out, by whether the position lies in the log
pub hands_none : (log : List ℕ) (at : ℕ) → length log ≤ at → hands_out log at ≡ no_row
unfolding hands_out
hands_none log at h = rw (le-leb (length log) at h)

pub hands_row : (log : List ℕ) (at : ℕ) → at < length log → hands_out log at ≡ handed (row_at log at) (next_at log at)
unfolding hands_out
hands_row log at h = rw (lt-leb (length log) at h)

-- a row begins anew where it ends: there it is empty, and the same row follows
first_at_end : (t : List ℕ) → first_row (drop (length (first_row t)) t) ≡ []
unfolding first_row
first_at_end [] = refl
first_at_end (b ∷ t) = elim (decided (ends_row b t)) [
  | inl e ↦ rw (first_ends b t e) (first_ends b t e)
  | inr e ↦ rw (first_more b t e) (first_at_end t)
]

pub next_at_end : (log : List ℕ) (at end : ℕ) → end ≡ at + length (first_row (drop at log)) → next_at log end ≡ next_at log at
next_at_end log at end e =
    let none : first_row (drop end log) ≡ [] =
    rw e (rw (← drop-drop (length (first_row (drop at log))) at log) (first_at_end (drop at log)))
    in
    let same : end ≡ end + length (first_row (drop end log)) = rw none (omega arith) in
    elim (decided (leb (length log) end)) [
      | inl t ↦ let k = leb-true (length log) end t in sym (next_none log end end same k) ∙ next_none log at end e k
      | inr t ↦ let k = leb-false (length log) end t in sym (next_more log end end same k) ∙ next_more log at end e k
    ]

-- `place_at`: past the log's end, and inside it
pub place_none : (log : List ℕ) (at : ℕ) → length log ≤ at → record { there = false; end = at; next = at } ≡ place_at log at
unfolding place_at is_there bytes_of position_after
place_none log at h = let k : at ≡ at + 0 = omega arith in rw (hands_none log at h, ← k)

pub place_row : (log : List ℕ) (at end next : ℕ) → at < length log → end ≡ at + length (first_row (drop at log)) → next ≡ next_at log end
    → record { there = true; end = end; next = next } ≡ place_at log at
unfolding place_at is_there bytes_of position_after row_at
place_row log at end next h e n =
    rw (hands_row log at h) (λ i. record { there = true; end = e i; next = (n ∙ next_at_end log at end e) i })

-- `part`: nothing between the places, and up to a place or the log's end
none_bytes : (log : List ℕ) (start end : ℕ) → (end ≤ start) ⊎ ((start < end) × (length log ≤ start)) → [] ≡ take (end - start) (drop start log)
none_bytes log start end (inl h) = let k : end - start ≡ 0 = omega arith in rw k
none_bytes log start end (inr h) = rw (drop-end log start h.1) (sym (take-nil (end - start)))

cut-bytes : (log : List ℕ) (start end stop : ℕ) → stop ≡ min end (length log) → take (stop - start) (drop start log) ≡ take (end - start) (drop start log)
cut-bytes log start end stop e = elim (decided (leb end (length log))) [
  | inl t ↦ let h = leb-true end (length log) t in let k : stop ≡ end = omega arith in rw k
  | inr t ↦
      let h = leb-false end (length log) t in
      take_all (stop - start) (drop start log) (rw length-drop (omega arith))
      ∙ sym (take_all (end - start) (drop start log) (rw length-drop (omega arith)))
]

-- a part that holds a byte lies where it begins
some-held : (at : ℕ) (bytes : List ℕ) → 0 < length bytes → place_from at bytes ≡ at
unfolding place_from
some-held at bytes h = rw (ne_eqb (length bytes) 0 (λ z. absurd (omega arith)))

module _ (lent x : Bor (List ℕ)) (start end : ℕ) where
  abbrev Part : Type 0
  Part = PartAt lent (place_from start (take (end - start) (drop start lent.now))) (take (end - start) (drop start lent.now)) x

  pub part_none : (end ≤ start) ⊎ ((start < end) × (length lent.now ≤ start)) → x.now ≡ [] → x.ref_ptr ≡ lent.ref_ptr → Part
  unfolding place_from
  part_none h b l =
      let z = none_bytes lent.now start end h in
      record { holds = b ∙ z; lies = rw (← z) (l ∙ sym (ap (λ (n : ℕ). (lent.ref_ptr.0, n)) (zero-add lent.ref_ptr.1))) }

  pub part_there : start < end → start < length lent.now → (stop : ℕ) → stop ≡ min end (length lent.now)
      → x.now ≡ take (stop - start) (drop start lent.now) → x.ref_ptr ≡ (lent.ref_ptr.0, start + lent.ref_ptr.1) → Part
  part_there i j stop e b l =
      let z = cut-bytes lent.now start end stop e in
      let n = length-take-le (stop - start) (drop start lent.now) (rw length-drop (omega arith)) in
      let k : 0 < length (take (end - start) (drop start lent.now)) = rw (← z, n) (omega arith) in
      record { holds = b ∙ z; lies = rw (some-held start (take (end - start) (drop start lent.now)) k) l }

-- `hand_out`: the part between the row's places is the row
bytes-part : (log : List ℕ) (at : ℕ) → take (at + length (bytes_of (hands_out log at)) - at) (drop at log) ≡ bytes_of (hands_out log at)
unfolding bytes_of row_at
bytes-part log at = elim (decided (leb (length log) at)) [
  | inl t ↦
      let k : at + 0 - at ≡ 0 = omega arith in
      rw (hands_none log at (leb-true (length log) at t), k)
  | inr t ↦
      let k : at + length (first_row (drop at log)) - at ≡ length (first_row (drop at log)) = omega arith in
      rw (hands_row log at (leb-false (length log) at t), k) (first_part (drop at log))
]

pub hands_out_lem : (log : List ℕ) (at : ℕ) (p : Place) (bytes : List ℕ) → p ≡ place_at log at → bytes ≡ take (p.end - at) (drop at log)
    → HandsOut log at p.there bytes p.next
unfolding place_at
hands_out_lem log at p bytes e b =
    record {
      there_is = ap (λ (x : Place). x.there) e;
      bytes_are = b ∙ ap (λ (x : Place). take (x.end - at) (drop at log)) e ∙ bytes-part log at;
      after_is = ap (λ (x : Place). x.next) e;
    }

-- where the bytes of a part are known, so is its place
pub held_lies : (lent x : Bor (List ℕ)) (at : ℕ) (bytes : List ℕ) → PartAt lent (place_from at bytes) bytes x → Lies lent (place_from at x.now) x
held_lies lent x at bytes p = rw p.holds p.lies

-- the same as an option: a row, or none
pub hands_there : (log x : Bor (List ℕ)) (at after : ℕ) (there : Bool) → HandsOut log.now at there x.now after → Lies log (place_from at x.now) x
    → there ≡ true → Hands log at (Some x) after
hands_there log x at after there h l e = (record { there_is = sym e ∙ h.there_is; bytes_are = h.bytes_are; after_is = h.after_is }, l)

pub hands_nothing : (log x : Bor (List ℕ)) (at after : ℕ) (there : Bool) → HandsOut log.now at there x.now after → there ≡ false → Hands log at None after
unfolding is_there bytes_of
hands_nothing log x at after there h e = elim (decided (leb (length log.now) at)) [
  | inl t ↦
      let none = hands_none log.now at (leb-true (length log.now) at t) in
      record { there_is = sym e ∙ h.there_is; bytes_are = rw none; after_is = h.after_is }
  | inr t ↦
      let there = h.there_is ∙ ap is_there (hands_row log.now at (leb-false (length log.now) at t)) in
      let gone = sym e ∙ there in
      cc
]

pub hands_some : (log x : Bor (List ℕ)) (at : ℕ) (p : Place) → p ≡ place_at log.now at → not p.there ≡ false
    → PartAt log (place_from at (take (p.end - at) (drop at log.now))) (take (p.end - at) (drop at log.now)) x → Hands log at (Some x) p.next
unfolding place_at
hands_some log x at p e f b = (
  record {
    there_is = sym (not-false p.there f) ∙ ap (λ (x : Place). x.there) e;
    bytes_are = b.holds ∙ ap (λ (x : Place). take (x.end - at) (drop at log.now)) e ∙ bytes-part log.now at;
    after_is = ap (λ (x : Place). x.next) e;
  },
  rw b.holds b.lies,
)

pub hands_stay : (log : Bor (List ℕ)) (at : ℕ) (p : Place) → p ≡ place_at log.now at → not p.there ≡ true → Hands log at None at
unfolding place_at is_there bytes_of position_after
hands_stay log at p e f = elim (decided (leb (length log.now) at)) [
  | inl t ↦
      let none = hands_none log.now at (leb-true (length log.now) at t) in
      record { there_is = rw none; bytes_are = rw none; after_is = rw none }
  | inr t ↦
      let there = ap (λ (x : Place). x.there) e ∙ ap is_there (hands_row log.now at (leb-false (length log.now) at t)) in
      let gone = sym (not-true p.there f) ∙ there in
      cc
]

-- what a call of the reader answers is a single one
pub hands_one : (log : Bor (List ℕ)) (at : ℕ) (x y : Option (Bor (List ℕ))) (after after' : ℕ) → Hands log at x after → Hands log at y after'
    → (x ≡ y) × (after ≡ after')
hands_one log at (Some x) (Some y) after after' h k =
    let b : x.now ≡ y.now = h.0.bytes_are ∙ sym k.0.bytes_are in
    let l : x.ref_ptr ≡ y.ref_ptr = h.1 ∙ ap (λ (b : List ℕ). (log.ref_ptr.0, place_from at b + log.ref_ptr.1)) b ∙ sym k.1 in
    (λ i. Some (record { ref_ptr = l i; now = b i }), h.0.after_is ∙ sym k.0.after_is)
hands_one log at (Some x) None after after' h k = let e : true ≡ false = h.0.there_is ∙ sym k.there_is in cc
hands_one log at None (Some y) after after' h k = let e : false ≡ true = h.there_is ∙ sym k.0.there_is in cc
hands_one log at None None after after' h k = (refl, h.after_is ∙ sym k.after_is)
