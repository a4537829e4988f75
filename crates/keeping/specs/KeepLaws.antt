-- What the written tables come to: the kept rows and the seen rows of the outcome, 0 up to the rooms, and what lies past them
-- as it was.
-- Assumes nothing.
use Rattle.std.specs.Prelude.{ℕ, suc, ◌+◌, ◌*◌, ◌<◌, ◌≤◌, ◌≡◌, refl, Bool, true, false, List, length, get_or}
use Rattle.std.proofs.Common.{sym, ap, subst, ◌∙◌, arith}
use Rattle.std.proofs.Math.Logic.{inl, inr}
use Rattle.std.proofs.Math.Decide.{dec_lt}
use Rattle.document.specs.Lists.{In}
use Rattle.document.specs.Limits.{width, seen_stride, kept_stride}
use Rattle.document.specs.OneEvent.{Kept, insert_seen, see, moved_from, kept_after}
use Rattle.document.specs.Tables.{seen_rows, kept_rows, seen_room, seen_table, kept_table}
use Rattle.basics.specs.Tests.{decided}
use Rattle.slices.specs.OrderLaws.{Ascends, combinations}
use Rattle.slices.specs.SessionLaws.{seen_room-holds, kept_room-holds}
use Rattle.ordered.specs.Rows.{Parted}
use Rattle.ordered.specs.Writes.{SeenInserted, ZeroIn}
use Rattle.tables.specs.Tables.{kept_from}
use Rattle.tables.specs.TablesLaws.{kept_move, length-kept_from, length-seen_from, kept_rows_lem, seen_rows_lem}
use Rattle.tables.specs.EnterLaws.{seen_entered}
use Rattle.tables.specs.WholeLaws.{kept_table_lem, seen_table_lem}
use Rattle.moves.specs.Steps.{in_place, step_of, state_in}
use Rattle.moves.specs.Ready.{Right}
use Rattle.moves.specs.ReadyLaws.{length-insert_seen, see_new, see-old}
use Rattle.keeping.specs.Keeping.{settled, sifted, grown, Siftable, Sifted, Growable, Grown, Keepable, Seeable}
use Rattle.keeping.specs.SiftedLaws.{in_sifted, sifted_ascends, sifted_right}
use Rattle.keeping.specs.GrownLaws.{grown-old}
use Rattle.keeping.specs.KeptAfterLaws.{kept_after-grown}

-- The kept rows --------------------------------------------------------------------------------------------------------

module _ (next : List ℕ) (states hopes e n m : ℕ) (b seen kept : List ℕ) (fresh : Bool) (u : Keepable next states hopes e n m b seen kept fresh) where
  abbrev S : List (List ℕ)
  S = seen_rows n seen

  abbrev after : List Kept
  after = kept_after width (step_of next) e b (seen_rows n seen) (state_in hopes) (kept_rows m kept)

  pub keep_siftable : Siftable next states e m b kept
  keep_siftable = record { moves = u.steady.moves; wide = u.wide; inside = u.steady.rows.inside; within = u.steady.rows.within }

  module _ (t : List ℕ) (o : ℕ) (same : length t ≡ length kept) (s : Sifted next hopes e m b kept t o) where
    rows_are : kept_from o t 0 ≡ sifted (step_of next) e b S (state_in hopes) (kept_from m kept 0)
    rows_are = s.rows S

    after_is : after ≡ grown (step_of next) e b S (state_in hopes) (kept_from o t 0)
    after_is =
        ap (kept_after width (step_of next) e b S (state_in hopes)) (sym (kept_rows_lem m kept))
        ∙ kept_after-grown (step_of next) e b S u.wide (state_in hopes) (kept_from m kept 0) u.steady.rows.right u.steady.rows.order
        ∙ ap (grown (step_of next) e b S (state_in hopes)) (sym rows_are)

    settled_within : (k : Kept) → k.state < states → (settled (step_of next) e b S k).state < states
    unfolding settled moved_from
    settled_within k h = elim (decided (in_place (step_of next) e b S k)) [ inl q ↦ rw q (u.steady.moves.onward k.state h) | inr q ↦ rw q h ]

    sifted_rows_right : (k : Kept) → In k (kept_from o t 0) → Right (seen_rows n seen) k
    sifted_rows_right k i = sifted_right (step_of next) e b S u.wide (state_in hopes) (kept_from m kept 0) u.steady.rows.right k (rw rows_are at i)

    pub keep_growable : Growable next states hopes e n o b seen t fresh
    keep_growable = record {
      ready = record {
        moves = u.steady.moves;
        binds = record { table = u.steady.table; wide = u.wide; new = u.new };
        rows = record {
          inside = let f = s.fewer in let i = u.steady.rows.inside in omega arith;
          order = subst (λ (l : List Kept). Ascends (combinations l)) (sym rows_are)
              (sifted_ascends (step_of next) e b S u.wide (state_in hopes) (kept_from m kept 0) u.steady.rows.order);
          right = sifted_rows_right;
          within = λ k i.
              let r = (in_sifted (step_of next) e b S u.wide (state_in hopes) (kept_from m kept 0) k).0 (rw rows_are at i) in
              rw r.is (settled_within r.row (u.steady.rows.within r.row r.member));
        };
      };
      room =
          let a = ap length after_is in
          let r = u.room in
          let i = kept_room-holds kept in
          omega arith;
    }

    pub kept_written_old : (t' : List ℕ) → fresh ≡ false → length t' ≡ length t → ZeroIn (o * kept_stride) (m * kept_stride) t t' → t' ≡ kept_table after kept
    kept_written_old t' z l c =
        let f = s.fewer in
        let i = kept_room-holds kept in
        let w = u.steady.kept_fits in
        kept_table_lem o kept t' after (omega arith) (l ∙ same)
        (kept_front o t t' (λ k h. c.low k h)
        ∙ sym (after_is ∙ grown-old (step_of next) e b S u.wide (state_in hopes) (kept_from o t 0) sifted_rows_right (sym u.new ∙ z)))
        (λ k g h. elim (dec_lt k (m * kept_stride)) [
          | yes y ↦ c.zero k g y
          | no y ↦ c.high k (omega arith) ∙ s.rest k (omega arith) ∙ u.steady.kept_zero k (omega arith) h
        ])
        (λ k g. c.high k (omega arith) ∙ s.rest k (omega arith))
      where
        kept_front : (x : ℕ) (t t' : List ℕ) → ((k : ℕ) → k < x * kept_stride → get_or t' k 0 ≡ get_or t k 0) → kept_from x t' 0 ≡ kept_from x t 0
        kept_front x t t' g = kept_move x t t' 0 0 (λ k h. g (0 + k) (omega arith))

    pub kept_written_new : (t' t'' : List ℕ) (r : ℕ) → length t' ≡ length t → length t'' ≡ length t' → Grown next hopes e n o b seen t t' r
        → ZeroIn (r * kept_stride) (m * kept_stride) t' t'' → t'' ≡ kept_table after kept
    kept_written_new t' t'' r l l' g c =
        let f = s.fewer in
        let i = kept_room-holds kept in
        let w = u.steady.kept_fits in
        let q : after ≡ kept_from r t' 0 = after_is ∙ sym g.rows in
        let a : length after ≡ r = ap length q ∙ length-kept_from r t' 0 in
        let v = u.room in
        kept_table_lem r kept t'' after (omega arith) (l' ∙ l ∙ same)
        (kept_move r t' t'' 0 0 (λ k h. c.low (0 + k) (omega arith)) ∙ sym q)
        (λ k x h. elim (dec_lt k (m * kept_stride)) [
          | yes y ↦ c.zero k x y
          | no y ↦ c.high k (omega arith) ∙ g.high k x ∙ s.rest k (omega arith) ∙ u.steady.kept_zero k (omega arith) h
        ])
        (λ k x. c.high k (omega arith) ∙ g.high k (omega arith) ∙ s.rest k (omega arith))

-- The seen rows --------------------------------------------------------------------------------------------------------

module _ (n : ℕ) (b seen : List ℕ) (fresh : Bool) (u : Seeable n b seen fresh) where
  pub seen_written_old : fresh ≡ false → seen ≡ seen_table (see width b (seen_rows n seen)) seen
  seen_written_old z =
      seen_table_lem n seen seen (see width b (seen_rows n seen)) u.fits refl
      (seen_rows_lem n seen ∙ sym (see-old b (seen_rows n seen) (sym u.new ∙ z))) u.zero (λ k h. refl)

  seen_more : fresh ≡ true → n + 1 ≤ seen_room seen
  seen_more z =
      let q = see_new b (seen_rows n seen) (sym u.new ∙ z) in
      let a : length (see width b (seen_rows n seen)) ≡ suc (length (seen_rows n seen)) = ap length q ∙ length-insert_seen b (seen_rows n seen) in
      let c : length (seen_rows n seen) ≡ n = ap length (sym (seen_rows_lem n seen)) ∙ length-seen_from n seen 0 in
      let r = u.room in
      omega arith

  pub seen_insertable : fresh ≡ true → n * seen_stride + seen_stride ≤ length seen
  seen_insertable z = let m = seen_more z in let i = seen_room-holds seen in omega arith

  pub seen_written_new : (at : ℕ) (t' : List ℕ) → fresh ≡ true → length t' ≡ length seen → Parted 0 seen_stride n seen b at
      → SeenInserted (at * seen_stride) (n * seen_stride) b seen t' → t' ≡ seen_table (see width b (seen_rows n seen)) seen
  seen_written_new at t' z l p i =
      let m = seen_more z in
      seen_table_lem (n + 1) seen t' (see width b (seen_rows n seen)) m l
      (seen_entered n at b seen t' u.wide p i ∙ ap (insert_seen b) (seen_rows_lem n seen) ∙ sym (see_new b (seen_rows n seen) (sym u.new ∙ z)))
      (λ k g h. i.high k (omega arith) ∙ u.zero k (omega arith) h)
      (λ k g. i.high k (omega arith))
