-- The rows kept and the reports made, counted row by row; and the turns of the loop that counts.
-- Assumes nothing.
use Rattle.std.specs.Prelude.{ℕ, ◌+◌, ◌≤◌, ◌*◌, ◌≡◌, refl, Bool, not, ◌&&◌, List, [], ◌∷◌, ◌++◌}
use Rattle.std.proofs.Math.Path.{ap}
use Rattle.std.proofs.Common.{◌∙◌, arith}
use Rattle.std.proofs.Math.Logic.{inl, inr}
use Rattle.std.proofs.Math.Nat.{zero-add}
use Rattle.std.proofs.Math.ListN.{length, length-append}
use Rattle.document.specs.Lists.{cons_if, keep_if}
use Rattle.document.specs.Limits.{width, kept_stride}
use Rattle.document.specs.Combinations.{includes}
use Rattle.document.specs.OneEvent.{Kept, in_order, moves, moved_from, moved, kept_after, reports_after}
use Rattle.document.specs.Tables.{seen_rows}
use Rattle.basics.specs.Tests.{decided}
use Rattle.slices.specs.ListsLaws.{keep_if_append}
use Rattle.slices.specs.AscendingLaws.{length-in_order}
use Rattle.slices.specs.TablesLaws.{kept_at}
use Rattle.tables.specs.Tables.{kept_from}
use Rattle.tables.specs.TablesLaws.{kept_more}
use Rattle.moves.specs.Steps.{one, step_of, state_in}
use Rattle.moves.specs.Ready.{Ready}
use Rattle.moves.specs.MovesLaws.{moved_more}
use Rattle.moves.specs.ReadyLaws.{one_small}
use Rattle.foreseen.specs.Foreseen.{weight_of, tally_of}
use Rattle.foreseen.specs.declared.Weight.{Weight}

length-keep_if-more : {A : Type 0} (p : A → Bool) (l : List A) (x : A) → length (keep_if p (l ++ (x ∷ []))) ≡ length (keep_if p l) + one (p x)
unfolding keep_if
length-keep_if-more p l x =
    rw (keep_if_append p l (x ∷ []), length-append (keep_if p l) (keep_if p (x ∷ []))) (elim (decided (p x)) [ inl h ↦ rw h | inr h ↦ rw h ])

module _ (step : ℕ → ℕ → ℕ) (e : ℕ) (b : List ℕ) (seen : List (List ℕ)) (ob : length b ≡ width) where
  abbrev may : Kept → Bool
  may k = moves width step e b seen k

  abbrev to : Kept → Kept
  to k = moved_from width step e b seen k

  abbrev stays : Kept → Bool
  stays k = not (includes k.combination b)

  module _ (keeps : Kept → Bool) where
    pub report_count : (l : List Kept) (k : Kept) → length (reports_after width step e b seen keeps (l ++ (k ∷ []))) ≡ length (reports_after width step e b seen keeps l) + one (may k && keeps (to k))
    unfolding reports_after keep_if
    report_count l k =
        rw (
          length-in_order,
          length-in_order (keep_if keeps (moved width step e b seen l)),
          moved_more step e b seen ob l k,
          keep_if_append keeps (moved width step e b seen l) (cons_if (may k) (to k) []),
          length-append (keep_if keeps (moved width step e b seen l)) (keep_if keeps (cons_if (may k) (to k) [])),
        )
        (elim (decided (may k)) [
          | inl m ↦ elim (decided (keeps (to k))) [ inl t ↦ rw (m, t) | inr t ↦ rw (m, t) ]
          | inr m ↦ rw m
        ])

    pub kept_count_lem : (l : List Kept) (k : Kept) → length (kept_after width step e b seen keeps (l ++ (k ∷ [])))
        ≡ length (kept_after width step e b seen keeps l) + (one (may k && keeps (to k)) + one (stays k))
    unfolding kept_after reports_after
    kept_count_lem l k =
        let n = report_count l k in
        let a : length (keep_if keeps (moved width step e b seen (l ++ (k ∷ [])))) ≡ length (keep_if keeps (moved width step e b seen l)) + one (may k && keeps (to k)) =
        rw (length-in_order, length-in_order (keep_if keeps (moved width step e b seen l))) at n in
        let s : length (keep_if stays (l ++ (k ∷ []))) ≡ length (keep_if stays l) + one (stays k) = length-keep_if-more stays l k in
        rw (
          length-in_order (keep_if keeps (moved width step e b seen (l ++ (k ∷ []))) ++ keep_if stays (l ++ (k ∷ []))),
          length-in_order (keep_if keeps (moved width step e b seen l) ++ keep_if stays l),
          length-append (keep_if keeps (moved width step e b seen (l ++ (k ∷ [])))) (keep_if stays (l ++ (k ∷ []))),
          length-append (keep_if keeps (moved width step e b seen l)) (keep_if stays l),
          a,
          s,
        ) (omega arith)

-- The loop -------------------------------------------------------------------------------------------------------------

pub record Tallied (next : List ℕ) (hopes asks e n i : ℕ) (b seen kept : List ℕ) (keeps reported : ℕ) : Type 0 where
  pub is_kept : keeps ≡ (tally_of next hopes asks e b (seen_rows n seen) (kept_from i kept 0)).kept
  pub is_reported : reported ≡ (tally_of next hopes asks e b (seen_rows n seen) (kept_from i kept 0)).reported
  pub few_kept : keeps ≤ 2 * i
  pub few_reported : reported ≤ i

pub tallied_begins : (next : List ℕ) (hopes asks e n : ℕ) (b seen kept : List ℕ) → Tallied next hopes asks e n 0 b seen kept 0 0
unfolding tally_of kept_from kept_after reports_after in_order keep_if moved
tallied_begins next hopes asks e n b seen kept = record { is_kept = refl; is_reported = refl; few_kept = omega arith; few_reported = omega arith }

pub weight_small : (next : List ℕ) (hopes asks e : ℕ) (b : List ℕ) (seen : List (List ℕ)) (k : Kept) (w : Weight) → w ≡ weight_of next hopes asks e b seen k
    → (w.kept ≤ 2) × (w.reported ≤ 1)
unfolding weight_of
weight_small next hopes asks e b seen k w q =
    let a = ap (λ (x : Weight). x.kept) q in
    let r = ap (λ (x : Weight). x.reported) q in
    let x = one_small (moves width (step_of next) e b seen k && state_in hopes (moved_from width (step_of next) e b seen k)) in
    let y = one_small (not (includes k.combination b)) in
    let z = one_small (moves width (step_of next) e b seen k && state_in asks (moved_from width (step_of next) e b seen k)) in
    (omega arith, omega arith)

module _ (next : List ℕ) (hopes asks states e n m i : ℕ) (b seen kept : List ℕ) (fresh : Bool) (keeps reported : ℕ) (w : Weight) where
  pub tallied_turn : Ready next states e n m b seen kept fresh → Tallied next hopes asks e n i b seen kept keeps reported
      → w ≡ weight_of next hopes asks e b (seen_rows n seen) (kept_at width kept (i * kept_stride))
      → Tallied next hopes asks e n (i + 1) b seen kept (keeps + w.kept) (reported + w.reported)
  unfolding tally_of weight_of
  tallied_turn u t q =
      let s = weight_small next hopes asks e b (seen_rows n seen) (kept_at width kept (i * kept_stride)) w q in
      let ob = u.binds.wide in
      let k = kept_at width kept (0 + i * kept_stride) in
      let z : 0 + i * kept_stride ≡ i * kept_stride = zero-add (i * kept_stride) in
      let a = kept_count_lem (step_of next) e b (seen_rows n seen) ob (state_in hopes) (kept_from i kept 0) k in
      let r = report_count (step_of next) e b (seen_rows n seen) ob (state_in asks) (kept_from i kept 0) k in
      let x = ap (λ (y : Weight). y.kept) q in
      let y = ap (λ (y : Weight). y.reported) q in
      let f = t.is_kept in
      let g = t.is_reported in
      record {
        is_kept = rw (kept_more i kept 0, a, x, f, z);
        is_reported = rw (kept_more i kept 0, r, y, g, z);
        few_kept = let l = t.few_kept in let p = s.0 in omega arith;
        few_reported = let l = t.few_reported in let p = s.1 in omega arith;
      }

pub tallied_ends : (next : List ℕ) (hopes asks e n m i : ℕ) (b seen kept : List ℕ) (keeps reported : ℕ) → Tallied next hopes asks e n i b seen kept keeps reported
    → i ≤ m → m ≤ i → ◌≡◌ {A = Weight} (record { kept = keeps; reported = reported }) (tally_of next hopes asks e b (seen_rows n seen) (kept_from m kept 0))
tallied_ends next hopes asks e n m i b seen kept keeps reported t h g =
    let q : i ≡ m = omega arith in
    let f : (k : ℕ) → Weight = λ k. tally_of next hopes asks e b (seen_rows n seen) (kept_from k kept 0) in
    λ z. record { kept = (t.is_kept ∙ ap (λ (k : ℕ). (f k).kept) q) z; reported = (t.is_reported ∙ ap (λ (k : ℕ). (f k).reported) q) z }
