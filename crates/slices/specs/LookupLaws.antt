-- Lookup over tables that stand for a history answers the state of the slice exactly when that is hopeful.
-- Assumes nothing.
use Rattle.std.specs.Prelude.{ℕ, ◌<◌, ◌≡◌, true, false, length}
use Rattle.std.proofs.Math.Path.{refl, ap}
use Rattle.std.proofs.Common.{sym, ◌∙◌}
use Rattle.std.proofs.Math.Logic.{inl, inr}
use mathlib.Core.List.{List, [], ◌∷◌}
use Rattle.std.proofs.Math.Dec.{T}
use Rattle.document.specs.Lists.{In, equal}
use Rattle.document.specs.Limits.{width}
use Rattle.document.specs.Refusals.{taken}
use Rattle.document.specs.Combinations.{zero_past}
use Rattle.document.specs.Histories.{Event, slice, Made}
use Rattle.document.specs.OneEvent.{Kept}
use Rattle.document.specs.Property.{Property, in_range, state_after, verdict, hopeful}
use Rattle.document.specs.Session.{Session, keeps, held, hopeless, find_kept, lookup}
use Rattle.document.specs.Demands.{Holds, LooksUp, is_held, is_hopeless}
use Rattle.basics.specs.Tests.{decided}
use Rattle.slices.specs.TestsLaws.{so, not_so, equal_of, of_equal}
use Rattle.slices.specs.JoinSeenLaws.{join_seen_again}
use Rattle.slices.specs.HistoriesLaws.{bindings, slice_join_of, join_of, join_of_made}
use Rattle.slices.specs.SeenLaws.{sees_join_of}
use Rattle.slices.specs.HopefulLaws.{hopeful_right}
use Rattle.slices.specs.HoldsLaws.{slice_range, standing, seen_of-holds, kept_of-holds}
use Rattle.slices.specs.SoundLaws.{holds-sound}

-- Finding a row --------------------------------------------------------------------------------------------------------

module _ (p : Property) (c : List ℕ) where
  find_kept_here : (k : Kept) (rows : List Kept) → equal k.combination c ≡ true
      → find_kept p c (k ∷ rows) ≡ held k.state (verdict p k.state)
  unfolding find_kept
  find_kept_here k rows e = rw (find_kept, e)

  find_kept-after : (k : Kept) (rows : List Kept) → equal k.combination c ≡ false → find_kept p c (k ∷ rows) ≡ find_kept p c rows
  unfolding find_kept
  find_kept-after k rows e = rw (find_kept, e)

  -- some row holds c, and all that do hold it in the state s
  find_kept-held : (s : ℕ) (rows : List Kept) → ((k : Kept) → In k rows → k.combination ≡ c → k.state ≡ s)
      → (k : Kept) → In k rows → k.combination ≡ c → find_kept p c rows ≡ held s (verdict p s)
  find_kept-held s [] f k i q = absurd i
  find_kept-held s (x ∷ rows) f k i q =
      elim (decided (equal x.combination c)) [
        | inl e ↦ find_kept_here x rows e ∙ ap (λ (t : ℕ). held t (verdict p t)) (f x (inl refl) (equal_of x.combination c (so e)))
        | inr e ↦ elim i [
          | inl z ↦ absurd (not_so e (of_equal x.combination c (rw (← z) q)))
          | inr j ↦ find_kept-after x rows e ∙ find_kept-held s rows (λ y l. f y (inr l)) k j q
        ]
      ]

  find_kept_hopeless : (rows : List Kept) → ((k : Kept) → In k rows → k.combination ≡ c → ⊥) → find_kept p c rows ≡ hopeless
  unfolding find_kept
  find_kept_hopeless [] f = refl
  find_kept_hopeless (x ∷ rows) f =
      elim (decided (equal x.combination c)) [
        | inl e ↦ absurd (f x (inl refl) (equal_of x.combination c (so e)))
        | inr e ↦ find_kept-after x rows e ∙ find_kept_hopeless rows (λ y l. f y (inr l))
      ]

-- Lookup ---------------------------------------------------------------------------------------------------------------

pub looks_up_lem : (p : Property) (H : List Event) (s : Session) → in_range p ≡ true → Holds p H s → (c : List ℕ) → length c ≡ width
    → zero_past p.parameters c ≡ true → LooksUp p H c (lookup p s c)
unfolding lookup
looks_up_lem p H s r h c o z =
    let st = standing p r H s h in
    let k = join_of width c H in
    let now = state_after p (slice c H) in
    let range : now < p.states = slice_range p r H h.history c in
    let same : state_after p (slice k H) ≡ now = ap (state_after p) (sym (slice_join_of width c H o)) in
    let found : lookup p s c ≡ taken (find_kept p k h.kept) =
    rw (
      r,
      holds-sound p r H s h,
      z,
      seen_of-holds p r H s h,
      kept_of-holds p r H s h,
      sees_join_of width H h.seen st.widths st.sees c o,
    ) in
    let states : (x : Kept) → In x h.kept → x.combination ≡ k → x.state ≡ now =
    λ x i q. ((st.follows x).0 i).0.state ∙ ap (λ (d : List ℕ). state_after p (slice d H)) q ∙ same in
    elim (decided (hopeful p now)) [
      | inl e ↦
          let row : Kept = record { combination = k; state = now } in
          let made : Made width H k = join_of_made width k H (join_seen_again width c (bindings H) o st.widths) in
          let there : In row h.kept = (st.follows row).1 (record { made = made; state = sym same }, unfold keeps in so e) in
          rw (found ∙ ap taken (find_kept-held p k now h.kept states row there refl)) (is_held ((hopeful_right p r now range).0 (so e)))
      | inr e ↦
          let none : (x : Kept) → In x h.kept → x.combination ≡ k → ⊥ =
          λ x i q. not_so e (let t : T (hopeful p x.state) = unfold keeps in ((st.follows x).0 i).1 in rw (states x i q) at t) in
          rw (found ∙ ap taken (find_kept_hopeless p k h.kept none)) (is_hopeless (λ l. not_so e ((hopeful_right p r now range).1 l)))
    ]
