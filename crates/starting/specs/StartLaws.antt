-- The returns of start.
-- Assumes nothing.
use Rattle.std.specs.Prelude.{ℕ, ◌+◌, ◌*◌, ◌<◌, ◌≤◌, ◌≡◌, Bool, true, false, length, get_or}
use Rattle.std.proofs.Math.Path.{refl, sym}
use Rattle.std.proofs.Common.{ap, ◌∙◌, arith}
use Rattle.std.proofs.Math.Logic.{inl, inr}
use mathlib.Core.List.{List, [], ◌∷◌}
use Rattle.std.proofs.lemmas.List.{length-replicate, get_or-replicate}
use borrow.Author.Tests.{lt-ltb, le-ltb}
use Rattle.document.specs.Limits.{width, seen_stride, kept_stride}
use Rattle.document.specs.Positions.{holds}
use Rattle.document.specs.Refusals.{number}
use Rattle.document.specs.Combinations.{empty_of}
use Rattle.document.specs.OneEvent.{Kept}
use Rattle.document.specs.Property.{Property, in_range, hopeful}
use Rattle.document.specs.Tables.{seen_room, kept_room}
use Rattle.document.specs.Session.{session_with, lent_tables, first_kept, start, start_leaves}
use Rattle.basics.specs.Tests.{decided}
use Rattle.ordered.specs.Writes.{ZeroIn}
use Rattle.hopes.specs.Hoping.{Hopes}
use Rattle.tables.specs.Tables.{kept_from, seen_from}
use Rattle.tables.specs.TablesLaws.{row_is}
use Rattle.tables.specs.WholeLaws.{kept_table_lem, seen_table_lem}
use mir.Val.{bool_byte}
use Rattle.refusals.specs.Named.{named}
use Rattle.refusals.specs.declared.Refusal.{Refusal}
use Rattle.refusals.specs.declared.Refusal.TheVariants.{BadProperty, NoRoomForKept}
use Rattle.starting.specs.Starts.{started, FirstRows, StartRefused, StartLeaves}
use Rattle.steps.specs.declared.Answered.{Answered}

length_first : (p : Property) (x : ℕ) (g : Bool) → hopeful p 0 ≡ g → x ≡ bool_byte g → length (first_kept p) ≡ x
unfolding first_kept
length_first p x g e r = rw (e, r) (elim (decided g) [ inl z ↦ rw z | inr z ↦ rw z ])

-- Judged ---------------------------------------------------------------------------------------------------------------

module _ (p : Property) (kept : List ℕ) where
  pub start_property : in_range p ≡ false → (r : Refusal) → r ≡ BadProperty → StartRefused p kept r
  unfolding start
  start_property z r q = record { says = λ seen. rw (z, q) }

  module _ (range : in_range p ≡ true) (hopes x room : ℕ) (g : Bool) (h : Hopes p hopes) (qg : g ≡ holds hopes 0) (qx : x ≡ bool_byte g) (qr : room ≡ kept_room kept) where
    pub start_room : room < x → StartRefused p kept NoRoomForKept
    unfolding start
    start_room l = record { says = λ seen. rw (range, length_first p x g (sym (h.says 0) ∙ sym qg) qx, ← qr, lt-ltb room x l) }

    pub start_judged : x ≤ room → FirstRows p kept x
    start_judged l = record { range = range; count = qx ∙ ap bool_byte (qg ∙ h.says 0); fits = rw qr at l }

-- Start ----------------------------------------------------------------------------------------------------------------

module _ (p : Property) (seen kept : List ℕ) where
  pub start_refused : (x : Refusal) → StartRefused p kept x → (n : ℕ) → n ≡ number (named x) → (r : Answered) → r ≡ record { refusal = n; seen = 0; kept = 0; reported = 0 } → StartLeaves (start p seen kept) seen kept r seen kept
  unfolding started start_leaves lent_tables
  start_refused x w n d r q = rw (w.says seen) (record { says = rw d at q; seen_left = refl; kept_left = refl })

  module _ (x : ℕ) (w : FirstRows p kept x) (room : ℕ) (qr : room ≡ kept_room kept) where
    fits : x ≤ room
    fits = rw (sym qr) at w.fits

    first_rows : (g : Bool) → hopeful p 0 ≡ g → (t : List ℕ) → ((k : ℕ) → k < room * kept_stride → get_or t k 0 ≡ 0) → kept_from x t 0 ≡ first_kept p
    unfolding first_kept kept_from
    first_rows g e t z =
        let l = fits in
        let qx : x ≡ bool_byte g = w.count ∙ ap bool_byte e in
        elim (decided g) [
          | inl y ↦
              let o : x ≡ 1 = qx ∙ rw y refl in
              rw (e, y, o) (ap (λ (k : Kept). k ∷ [])
              (row_is (empty_of width) 0 t 0 (length-replicate {A = ℕ} width 0) (λ k i. z (0 + k) (omega arith) ∙ sym (get_or-replicate {A = ℕ} width k 0 0 i)) (z (0 + width) (omega arith))))
          | inr y ↦ let o : x ≡ 0 = qx ∙ rw y refl in rw (e, y, o)
        ]

    pub start_taken : (seen' kept' : List ℕ) (sr : ℕ) (r : Answered) → length seen' ≡ length seen → length kept' ≡ length kept → sr ≡ seen_room seen
        → ZeroIn 0 (sr * seen_stride) seen seen' → ZeroIn 0 (room * kept_stride) kept kept' → r ≡ record { refusal = 0; seen = 0; kept = x; reported = 0 }
        → StartLeaves (start p seen kept) seen kept r seen' kept'
    unfolding start started start_leaves session_with lent_tables
    start_taken seen' kept' sr r ls lk qs cs ck q =
        let l = fits in
        rw (w.range, length_first p x (hopeful p 0) refl w.count, ← qr, le-ltb room x l) (record {
          says = q;
          seen_left = seen_table_lem 0 seen seen' [] (omega arith) ls (unfold seen_from in refl) (λ k a b. cs.zero k (omega arith) (rw qs b)) (λ k a. cs.high k (rw qs a));
          kept_left = kept_table_lem x kept kept' (first_kept p) (omega arith) lk (first_rows (hopeful p 0) refl kept' (λ k a. ck.zero k (omega arith) a)) (λ k a b. ck.zero k (omega arith) (rw qr b)) (λ k a. ck.high k (rw qr a));
        })
