-- The seen list stands for the history: it holds the distinct non-empty bindings in order, an event keeps it so, and joins
-- over it are joins over the history. Any width w.
-- Assumes nothing.
use Rattle.std.specs.Prelude.{ℕ, ◌≡◌, refl, ◌⊎◌, ◌↔◌, List, [], ◌∷◌, ◌++◌, length}
use Rattle.std.proofs.Common.{sym, ap, ◌∙◌, inl, inr}
use Rattle.document.specs.Lists.{In, equal}
use Rattle.document.specs.Combinations.{empty_of}
use Rattle.document.specs.Histories.{Event, IsBinding}
use Rattle.document.specs.OneEvent.{join_seen, see}
use Rattle.basics.specs.Tests.{decided}
use Rattle.slices.specs.TestsLaws.{so, not_so, equal_of, of_equal}
use Rattle.slices.specs.ListsLaws.{in_more, in_more_old, in_more_new}
use Rattle.slices.specs.JoinSeenLaws.{OfWidth, join_seen_same}
use Rattle.slices.specs.SeeLaws.{in_see}
pub use Rattle.slices.specs.SeeLaws.{see_ascends}
use Rattle.slices.specs.HistoriesLaws.{bindings, is_binding, join_of}

-- b is the binding of the last event or an earlier one's
binding_more : (H : List Event) (h : Event) (x : List ℕ) → IsBinding (H ++ (h ∷ [])) x → IsBinding H x ⊎ (x ≡ h.binding)
binding_more H h x m =
    elim (in_more H h m.event m.accepted) [
      | inl i ↦ inl (record { event = m.event; accepted = i; is = m.is })
      | inr q ↦ inr (sym m.is ∙ ap (λ (y : Event). y.binding) q)
    ]

binding_old : (H : List Event) (h : Event) (x : List ℕ) → IsBinding H x → IsBinding (H ++ (h ∷ [])) x
binding_old H h x m = record { event = m.event; accepted = in_more_old H h m.event m.accepted; is = m.is }

module _ (w : ℕ) where
  -- the list holds exactly the non-empty bindings of the history
  abbrev pub Sees : List Event → List (List ℕ) → Type 0
  Sees H seen = (x : List ℕ) → In x seen ↔ (IsBinding H x × (x ≡ empty_of w → ⊥))

  pub sees_join_of : (H : List Event) (seen : List (List ℕ)) → OfWidth w (bindings H) → Sees H seen
      → (c : List ℕ) → length c ≡ w → join_seen w c seen ≡ join_of w c H
  sees_join_of H seen o s c oc =
      join_seen_same w c seen (bindings H) oc (λ x i. o x ((is_binding H x).1 ((s x).0 i).0)) o
      (λ x i. inr ((is_binding H x).1 ((s x).0 i).0))
      (λ x i. elim (decided (equal x (empty_of w))) [
        | inl e ↦ inl (equal_of x (empty_of w) (so e))
        | inr e ↦ inr ((s x).1 ((is_binding H x).0 i, λ q. not_so e (of_equal x (empty_of w) q)))
      ])

  pub see_sees : (H : List Event) (seen : List (List ℕ)) (h : Event) → Sees H seen → Sees (H ++ (h ∷ [])) (see w h.binding seen)
  see_sees H seen h s x =
      let b = h.binding in
      let last : IsBinding (H ++ (h ∷ [])) b = record { event = h; accepted = in_more_new H h; is = refl } in (
        (λ i. elim ((in_see w b seen x).0 i) [
          | inl j ↦ let f = (s x).0 j in (binding_old H h x f.0, f.1)
          | inr f ↦ (rw f.0 last, f.1)
        ]),
        (λ f. (in_see w b seen x).1 (elim (binding_more H h x f.0) [
          | inl m ↦ inl ((s x).1 (m, f.1))
          | inr q ↦ inr (q, f.1)
        ])),
      )
