-- Answers that are refused, and by what: the first test or a later one, a call before, the rooms of an event.
-- Assumes nothing.
use Rattle.std.specs.Prelude.{ℕ, ◌<◌, ◌≡◌, refl, ◌⊎◌, Bool, true, false, List, length, drop, ltb}
use Rattle.std.proofs.Common.{inl, inr, arith, ltb-true}
use Rattle.document.specs.Refusals.{Refusal, noRoomForSeen, noRoomForKept, noRoomForReports, Answer, taken, refused, refuse_if, and_then}
use Rattle.document.specs.Property.{Property}
use Rattle.document.specs.Tables.{seen_room, kept_room, report_room}
use Rattle.document.specs.Session.{Session, Outcome, written, within_rooms}

-- what is refused was refused by the first test, or later
pub by_test : {A : Type 0} (t : Bool) (q : Refusal) (a : Answer A) (r : Refusal) (o : ℕ) → refuse_if t q a ≡ refused r o
    → ((r ≡ q) × (t ≡ true)) ⊎ (a ≡ refused r o)
by_test true q a r o e = let z : r ≡ q = cc in inl (z, refl)
by_test false q a r o e = inr e

pub by_call : {A B : Type 0} (a : Answer A) (f : A → Answer B) (r : Refusal) (o : ℕ) → and_then a f ≡ refused r o
    → (a ≡ refused r o) ⊎ ((x : A) × (a ≡ taken x) × (f x ≡ refused r o))
by_call (taken x) f r o e = inr (x, refl, e)
by_call (refused q i) f r o e = let a : q ≡ r = cc in let b : i ≡ o = cc in inl (λ j. refused (a j) (b j))

-- an event that is refused found no room for what it comes to: 15, 16, 17
pub out_of_room : (from : ℕ) (p : Property) (s : Session) (reports : List ℕ) (o : Outcome) (r : Refusal) (i : ℕ)
    → within_rooms from p s reports o ≡ refused r i
    → ((r ≡ noRoomForSeen) × (seen_room s.seen < length o.seen))
    ⊎ (((r ≡ noRoomForKept) × (kept_room s.kept < length o.kept))
    ⊎ ((r ≡ noRoomForReports) × (report_room (drop from reports) < length o.rows)))
unfolding within_rooms
out_of_room from p s reports o r i q =
    let left = taken (written from p s reports o) in
    let fullSeen = ltb (seen_room s.seen) (length o.seen) in
    let fullKept = ltb (kept_room s.kept) (length o.kept) in
    let full = ltb (report_room (drop from reports)) (length o.rows) in
    let third = refuse_if full noRoomForReports left in
    elim (by_test fullSeen noRoomForSeen (refuse_if fullKept noRoomForKept third) r i q) [
      | inl z ↦ inl (z.0, ltb-true (seen_room s.seen) (length o.seen) z.1)
      | inr q₁ ↦ elim (by_test fullKept noRoomForKept third r i q₁) [
        | inl z ↦ inr (inl (z.0, ltb-true (kept_room s.kept) (length o.kept) z.1))
        | inr q₂ ↦ elim (by_test full noRoomForReports left r i q₂) [
          | inl z ↦ inr (inr (z.0, ltb-true (report_room (drop from reports)) (length o.rows) z.1))
          | inr q₃ ↦ let z : ◌≡◌ {A = ℕ} 0 1 = cc in absurd (omega arith)
        ]
      ]
    ]
