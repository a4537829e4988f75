-- What a reader hands out, call after call, until it says that there is none: from the log's start, exactly the log's rows.
-- Assumes nothing.
use Rattle.std.specs.Prelude.{ℕ, zero, suc, ◌-◌, ◌≤◌, ◌<◌, ◌≡◌, Bool, true, false, Option, Some, None, List, [], ◌∷◌, length, drop, leb}
use Rattle.std.specs.Iterator.{YieldsFirstRef, MakesProgress, item_count}
use Rattle.std.specs.Borrow.{Bor}
use Rattle.std.proofs.Common.{sym, ap, ap₂, ◌∙◌, inl, inr, arith, leb-true, leb-false}
use Rattle.document.specs.Rows.{rows}
use Rattle.document.specs.Log.{row_at, next_at}
use Rattle.basics.specs.Tests.{decided}
use Rattle.rows.specs.TextLaws.{next-later, rows_over, rows_next}
use Rattle.reader.specs.declared.Reader.{Reader}
use Rattle.reader.specs.Handing.{is_there, bytes_of, position_after, HandsOut, Hands, rows_left}
use Rattle.reader.specs.HandingLaws.{hands_none, hands_row}

-- from a position on, calls of `hand_out` give these rows, one after another, and then say that there is none
pub data HandsAll (log : List ℕ) : ℕ → List (List ℕ) → Type 0 where
  none : {at after : ℕ} {bytes : List ℕ} → HandsOut log at false bytes after → HandsAll log at []
  one_more : {at after : ℕ} {bytes : List ℕ} {l : List (List ℕ)} → HandsOut log at true bytes after → HandsAll log after l
      → HandsAll log at (bytes ∷ l)

-- a call at the log's end, and one before it
call_none : (log : List ℕ) (at : ℕ) → length log ≤ at → HandsOut log at false [] at
unfolding is_there bytes_of position_after
call_none log at h =
    record { there_is = rw (hands_none log at h); bytes_are = rw (hands_none log at h); after_is = rw (hands_none log at h) }

call_row : (log : List ℕ) (at : ℕ) → at < length log → HandsOut log at true (row_at log at) (next_at log at)
unfolding is_there bytes_of position_after
call_row log at h =
    record { there_is = rw (hands_row log at h); bytes_are = rw (hands_row log at h); after_is = rw (hands_row log at h) }

-- a call's answer is a single one
pub hands_single : {log : List ℕ} {at : ℕ} {there there' : Bool} {bytes bytes' : List ℕ} {after after' : ℕ}
    → HandsOut log at there bytes after → HandsOut log at there' bytes' after'
    → (there ≡ there') × ((bytes ≡ bytes') × (after ≡ after'))
hands_single h k =
    (h.there_is ∙ sym k.there_is, (h.bytes_are ∙ sym k.bytes_are, h.after_is ∙ sym k.after_is))

differ : false ≡ true → ⊥
differ e = let z : ◌≡◌ {A = ℕ} 0 1 = cc in absurd (omega arith)

-- calls come to an end, and give the rows from the position on
calls_end : (n : ℕ) (log : List ℕ) (at : ℕ) → length log - at ≤ n → HandsAll log at (rows (drop at log))
unfolding row_at
calls_end zero log at h = let k : length log ≤ at = omega arith in rw (rows_over log at k) (none (call_none log at k))
calls_end (suc n) log at h = elim (decided (leb (length log) at)) [
  | inl t ↦ let k = leb-true (length log) at t in rw (rows_over log at k) (none (call_none log at k))
  | inr t ↦
      let k = leb-false (length log) at t in
      let j = next-later log at k in
      rw (rows_next log at k) (one_more (call_row log at k) (calls_end n log (next_at log at) (omega arith)))
]

pub hands_all_from : (log : List ℕ) (at : ℕ) → HandsAll log at (rows (drop at log))
hands_all_from log at = calls_end (length log) log at (omega arith)

-- and they give no other
pub hands_only_from : (log : List ℕ) (at : ℕ) {l : List (List ℕ)} → HandsAll log at l → l ≡ rows (drop at log)
unfolding row_at
hands_only_from log at (none c) = elim (decided (leb (length log) at)) [
  | inl t ↦ sym (rows_over log at (leb-true (length log) at t))
  | inr t ↦ absurd (differ (hands_single c (call_row log at (leb-false (length log) at t))).0)
]
hands_only_from log at (one_more {after = after} c q) = elim (decided (leb (length log) at)) [
  | inl t ↦ absurd (differ (sym (hands_single c (call_none log at (leb-true (length log) at t))).0))
  | inr t ↦
      let k = leb-false (length log) at t in
      let same = hands_single c (call_row log at k) in
      ap₂ (λ b l. b ∷ l) same.1.0 (hands_only_from log after q ∙ ap (λ a. rows (drop a log)) same.1.1) ∙ sym (rows_next log at k)
]

-- a reader over a log hands out the log's rows, and no others
pub hands_all : (log : List ℕ) → HandsAll log 0 (rows log)
hands_all log = hands_all_from log 0

pub hands_only : (log : List ℕ) {l : List (List ℕ)} → HandsAll log 0 l → l ≡ rows log
hands_only log = hands_only_from log 0

-- so a reader yields the rows that it has left, one after another
pub hands_first : (r r' : Reader) (x : Option (Bor (List ℕ))) → r'.log ≡ r.log → Hands r.log r.at x r'.at → YieldsFirstRef rows_left r x r'
unfolding row_at
hands_first r r' x e h = elim (decided (leb (length r.log.now) r.at)) [
  | inl t ↦ over x (leb-true (length r.log.now) r.at t) h
  | inr t ↦ on x (leb-false (length r.log.now) r.at t) h
]
  where
    over : (x : Option (Bor (List ℕ))) → length r.log.now ≤ r.at → Hands r.log r.at x r'.at → YieldsFirstRef rows_left r x r'
    over None k h =
        let same = hands_single h (call_none r.log.now r.at k) in
        let z = rows_over r.log.now r.at k in
        (z, rw (e, same.1.1) z)
    over (Some row) k h = absurd (differ (sym (hands_single h.0 (call_none r.log.now r.at k)).0))

    on : (x : Option (Bor (List ℕ))) → r.at < length r.log.now → Hands r.log r.at x r'.at → YieldsFirstRef rows_left r x r'
    on None k h = absurd (differ (hands_single h (call_row r.log.now r.at k)).0)
    on (Some row) k h =
        let same = hands_single h.0 (call_row r.log.now r.at k) in
        rw (rows_next r.log.now r.at k, e, same.1.1, same.1.0)

-- and each row that it yields leaves fewer
pub hands_goes : (can : Reader → Type 0) → ((q : Reader) → can q) → (r r' : Reader) (x : Option (Bor (List ℕ))) → YieldsFirstRef rows_left r x r'
    → MakesProgress can (item_count rows_left) r x r'
hands_goes can free r r' None e = record { on = λ f. tt; keeps = tt; rests = λ f. tt }
hands_goes can free r r' (Some row) e =
    let shorter = ap length e in
    record { on = λ f. (free r', tt, omega arith); keeps = free r'; rests = λ f. tt }
