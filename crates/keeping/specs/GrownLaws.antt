-- Laws of the combinations that a new binding creates: each comes after the one that it is created from, and is new.
-- Assumes nothing.
use Rattle.std.specs.Prelude.{ℕ, ◌≡◌, ◌⊎◌, ◌↔◌, Bool, true, length}
use Rattle.std.proofs.Math.Path.{refl, ap}
use Rattle.std.proofs.Common.{sym, subst, ◌∙◌}
use Rattle.std.proofs.Math.Logic.{inl, inr}
use Rattle.std.proofs.Math.Bool.{false}
use mathlib.Core.List.{List, [], ◌∷◌}
use Rattle.std.proofs.Math.Dec.{T}
use Rattle.document.specs.Lists.{In}
use Rattle.document.specs.Limits.{width}
use Rattle.document.specs.Combinations.{precedes}
use Rattle.document.specs.OneEvent.{Kept, join_seen, moves, moved_from}
use Rattle.basics.specs.Tests.{decided}
use Rattle.slices.specs.TestsLaws.{so, not_so, true_of, and_of}
use Rattle.slices.specs.ListsLaws.{in_map, map_in}
use Rattle.slices.specs.OrderLaws.{precedes_irrefl, precedes_trans, Ascends, combinations, in_insert_seen, insert_kept-combinations, in_insert_kept}
use Rattle.slices.specs.MovesLaws.{moves_of}
use Rattle.slices.specs.AscendingLaws.{created_precedes}
use Rattle.tables.specs.OrderLaws.{insert_kept_ascends}
use Rattle.moves.specs.Steps.{is_new, in_place}
use Rattle.moves.specs.Ready.{Right}
use Rattle.moves.specs.MovesLaws.{old-moves, to_joins}
use Rattle.keeping.specs.Keeping.{creates, grows, grown_by, grown}

module _ (step : ℕ → ℕ → ℕ) (e : ℕ) (b : List ℕ) (seen : List (List ℕ)) (ob : length b ≡ width) where
  abbrev may : Kept → Bool
  may k = moves width step e b seen k

  abbrev to : Kept → Kept
  to k = moved_from width step e b seen k

  pub creates_of : (k : Kept) → T (creates step e b seen k) → (in_place step e b seen k ≡ false) × T (moves width step e b seen k)
  unfolding creates
  creates_of k t = elim (decided (in_place step e b seen k)) [ inl h ↦ absurd (rw h at t) | inr h ↦ (h, rw h at t) ]

  pub of_creates : (k : Kept) → in_place step e b seen k ≡ false → creates step e b seen k ≡ moves width step e b seen k
  unfolding creates
  of_creates k h = rw h

  pub not-creates : (k : Kept) → in_place step e b seen k ≡ true → creates step e b seen k ≡ false
  unfolding creates
  not-creates k h = rw h

  -- the combination that it creates comes after its own
  creates-after : (k : Kept) → T (creates step e b seen k) → T (precedes k.combination (to k).combination)
  unfolding moved_from
  creates-after k t =
      let h = creates_of k t in
      created_precedes b k.combination (moves_of width step e b seen k h.1).0 h.0

  module _ (keeps : Kept → Bool) where
    pub record Grows (l : List Kept) (r : Kept) : Type 0 where
      pub row : Kept
      pub member : In row l
      pub grows : grows step e b seen keeps row ≡ true
      pub is : r ≡ moved_from width step e b seen row

    pub grows_of : (k : Kept) → grows step e b seen keeps k ≡ true → T (creates step e b seen k) × T (keeps (to k))
    unfolding grows
    grows_of k h = and_of (creates step e b seen k) (keeps (to k)) (so h)

    pub in_grown : (l : List Kept) (r : Kept) → In r (grown step e b seen keeps l) ↔ (In r l ⊎ Grows l r)
    unfolding grown grown_by
    in_grown [] r = ((λ i. absurd i), (λ s. elim s [ inl i ↦ absurd i | inr g ↦ absurd g.member ]))
    in_grown (k ∷ l) r = elim (decided (grows step e b seen keeps k)) [
      | inl h ↦ rw h (
        (λ i. elim i [
          | inl q ↦ inl (inl q)
          | inr j ↦ elim ((in_insert_kept (to k) (grown step e b seen keeps l) r).0 j) [
            | inl q ↦ inr (record { row = k; member = inl refl; grows = h; is = q })
            | inr x ↦ later ((in_grown l r).0 x)
          ]
        ]),
        (λ s. elim s [
          | inl i ↦ elim i [ inl q ↦ inl q | inr j ↦ inr ((in_insert_kept (to k) (grown step e b seen keeps l) r).1 (inr ((in_grown l r).1 (inl j)))) ]
          | inr g ↦ elim g.member [
            | inl q ↦ inr ((in_insert_kept (to k) (grown step e b seen keeps l) r).1 (inl (g.is ∙ ap to q)))
            | inr j ↦ inr ((in_insert_kept (to k) (grown step e b seen keeps l) r).1 (inr ((in_grown l r).1 (inr (record { row = g.row; member = j; grows = g.grows; is = g.is })))))
          ]
        ]),
      )
      | inr h ↦ rw h (
        (λ i. elim i [ inl q ↦ inl (inl q) | inr x ↦ later ((in_grown l r).0 x) ]),
        (λ s. elim s [
          | inl i ↦ elim i [ inl q ↦ inl q | inr j ↦ inr ((in_grown l r).1 (inl j)) ]
          | inr g ↦ elim g.member [
            | inl q ↦ absurd (not_so h (so (sym (ap (grows step e b seen keeps) q) ∙ g.grows)))
            | inr j ↦ inr ((in_grown l r).1 (inr (record { row = g.row; member = j; grows = g.grows; is = g.is })))
          ]
        ]),
      )
    ]
      where
        later : In r l ⊎ Grows l r → In r (k ∷ l) ⊎ Grows (k ∷ l) r
        later (inl i) = inl (inr i)
        later (inr g) = inr (record { row = g.row; member = inr g.member; grows = g.grows; is = g.is })

    -- a created combination is none of the rows above its own, nor created by one of them
    pub created_new : (k : Kept) (l : List Kept) → ((x : Kept) → In x l → Right seen x) → ((y : List ℕ) → In y (combinations l) → T (precedes k.combination y))
        → grows step e b seen keeps k ≡ true → In (to k).combination (combinations (grown step e b seen keeps l)) → ⊥
    created_new k l f up h i =
        let m = (in_map (λ (r : Kept). r.combination) (grown step e b seen keeps l) (to k).combination).0 i in
        let g = grows_of k h in
        let c = creates_of k g.0 in
        let j : join_seen width (to k).combination seen ≡ k.combination = to_joins step e b seen ob k c.1 in
        elim ((in_grown l m.of).0 m.member) [
          | inl x ↦
              let q : k.combination ≡ m.of.combination = sym j ∙ ap (λ (z : List ℕ). join_seen width z seen) m.is ∙ (f m.of x).joins in
              precedes_irrefl k.combination (subst (λ (z : List ℕ). T (precedes k.combination z)) (sym q) (up m.of.combination (map_in (λ (r : Kept). r.combination) l m.of x)))
          | inr x ↦
              let d = creates_of x.row (grows_of x.row x.grows).0 in
              let y : (to k).combination ≡ (to x.row).combination = m.is ∙ ap (λ (r : Kept). r.combination) x.is in
              let q : k.combination ≡ x.row.combination = sym j ∙ ap (λ (z : List ℕ). join_seen width z seen) y ∙ to_joins step e b seen ob x.row d.1 in
              precedes_irrefl k.combination (subst (λ (z : List ℕ). T (precedes k.combination z)) (sym q) (up x.row.combination (map_in (λ (r : Kept). r.combination) l x.row x.member)))
        ]

    pub grown_ascends : (l : List Kept) → ((k : Kept) → In k l → Right seen k) → Ascends (combinations l) → Ascends (combinations (grown step e b seen keeps l))
    unfolding grown grown_by
    grown_ascends [] f a = tt
    grown_ascends (k ∷ l) f a =
        let rest = grown_ascends l (λ x i. f x (inr i)) a.1 in
        let above : (y : List ℕ) → In y (combinations (grown step e b seen keeps l)) → T (precedes k.combination y) = λ y i.
        let m = (in_map (λ (r : Kept). r.combination) (grown step e b seen keeps l) y).0 i in
        elim ((in_grown l m.of).0 m.member) [
          | inl x ↦ rw m.is (a.0 m.of.combination (map_in (λ (r : Kept). r.combination) l m.of x))
          | inr x ↦ rw (m.is ∙ ap (λ (r : Kept). r.combination) x.is) (precedes_trans k.combination x.row.combination (to x.row).combination
              (a.0 x.row.combination (map_in (λ (r : Kept). r.combination) l x.row x.member)) (creates-after x.row (grows_of x.row x.grows).0))
        ] in
        elim (decided (grows step e b seen keeps k)) [
          | inl h ↦ rw h (
            (λ y i. elim ((in_insert_seen (to k).combination (combinations (grown step e b seen keeps l)) y).0 (rw (insert_kept-combinations (to k) (grown step e b seen keeps l)) at i)) [
              | inl q ↦ rw q (creates-after k (grows_of k h).0)
              | inr j ↦ above y j
            ]),
            insert_kept_ascends (to k) (grown step e b seen keeps l) rest (created_new k l (λ x i. f x (inr i)) a.0 h),
          )
          | inr h ↦ rw h (above, rest)
        ]

    pub grows_when : (k : Kept) → in_place step e b seen k ≡ false → T (may k) → T (keeps (to k)) → grows step e b seen keeps k ≡ true
    unfolding grows
    grows_when k h m t = rw (of_creates k h, true_of (may k) m, true_of (keeps (to k)) t)

    -- a binding that is not new creates nothing
    pub grown-old : (l : List Kept) → ((k : Kept) → In k l → Right seen k) → is_new b seen ≡ false → grown step e b seen keeps l ≡ l
    unfolding grown grown_by grows
    grown-old [] f n = refl
    grown-old (k ∷ l) f n =
        let c : creates step e b seen k ≡ false = elim (decided (in_place step e b seen k)) [
          | inl h ↦ not-creates k h
          | inr h ↦ of_creates k h ∙ old-moves step e b seen ob k (f k (inl refl)).wide n h
        ] in
        rw (c, grown-old l (λ x i. f x (inr i)) n)
