-- One event over the kept rows: what the procedure of document 01 keeps and reports is what the history with that event says.
-- Any width, transitions, and tests of what is kept and reported; what the tests must obey is `back`.
-- Assumes nothing.
use Rattle.std.specs.Prelude.{ℕ, ◌≡◌, ◌⊎◌, ◌↔◌, Bool, false}
use Rattle.std.proofs.Math.Path.{refl, sym, ap}
use Rattle.std.proofs.Common.{◌∙◌, inl, inr}
use Rattle.std.proofs.Math.Bool.{true}
use mathlib.Core.List.{List, [], ◌∷◌, ◌++◌}
use mathlib.Core.List as list
use Rattle.std.proofs.Math.Dec.{T}
use Rattle.std.proofs.Math.ListN.{length}
use Rattle.document.specs.Lists.{In}
use Rattle.document.specs.Combinations.{includes, compatible, join}
use Rattle.document.specs.Histories.{Event, slice, Made}
use Rattle.document.specs.OneEvent.{Kept, join_seen, moves, moved_from, moved, kept_after, reports_after}
use Rattle.basics.specs.Tests.{decided}
use Rattle.slices.specs.TestsLaws.{so, true_of}
use Rattle.slices.specs.ListsLaws.{map_append, in_more}
use Rattle.slices.specs.CombinationsLaws.{join_includes_left, included_compatible, length-join}
use Rattle.slices.specs.MovesLaws
use Rattle.slices.specs.JoinSeenLaws.{OfWidth, includes-join_seen, join_seen_again}
use Rattle.slices.specs.HistoriesLaws.{bindings, slice_append, join_of, slice_join_of, join_of_made, length_made, made_join_of, join_of_more_in, join_of_more_out}

-- a made combination with the state of its slice
pub record Follows (w : ℕ) (state_of : List ℕ → ℕ) (H : List Event) (k : Kept) : Type 0 where
  pub made : Made w H k.combination
  pub state : k.state ≡ state_of (slice k.combination H)

-- the history with one event more
abbrev more : List Event → Event → List Event
more H h = H ++ (h ∷ [])

-- What is known before the event h: transitions by `step`, the state after a sequence by `state_of`; the rows of `seen` and of
-- `kept` stand for the history.
pub record Before (w : ℕ) (step : ℕ → ℕ → ℕ) (state_of : List ℕ → ℕ) (keeps reported : Kept → Bool)
    (H : List Event) (h : Event) (seen : List (List ℕ)) (kept : List Kept) : Type 0 where
  pub state_more : (l : List ℕ) (e : ℕ) → state_of (l ++ (e ∷ [])) ≡ step (state_of l) e
  pub widths : OfWidth w (bindings H)
  pub width : length h.binding ≡ w
  pub joins : (c : List ℕ) → length c ≡ w → join_seen w c seen ≡ join_of w c H
  pub exactly : (k : Kept) → In k kept ↔ (Follows w state_of H k × T (keeps k))
  -- the row from which one moves that is kept or reported was kept
  pub back : (k : Kept) → Follows w state_of H k → T (compatible h.binding k.combination)
      → T (keeps (moved_from w step h.event h.binding seen k)) ⊎ T (reported (moved_from w step h.event h.binding seen k))
      → T (keeps k)

module _ {w : ℕ} {step : ℕ → ℕ → ℕ} {state_of : List ℕ → ℕ} {keeps reported : Kept → Bool}
    {H : List Event} {h : Event} {seen : List (List ℕ)} {kept : List Kept}
    (known : Before w step state_of keeps reported H h seen kept) where
  more_widths : OfWidth w (bindings (more H h))
  more_widths b i =
      elim (in_more (bindings H) h.binding b (rw (map_append (λ (x : Event). x.binding) H (h ∷ [])) at i)) [
        | inl j ↦ known.widths b j
        | inr q ↦ rw q known.width
      ]

  -- The slice with the event -----------------------------------------------------------------------------------------------

  state_in_lem : (c : List ℕ) → includes c h.binding ≡ true → state_of (slice c (more H h)) ≡ step (state_of (slice c H)) h.event
  unfolding slice
  state_in_lem c e = rw (slice_append c H (h ∷ []), e) (known.state_more (slice c H) h.event)

  state_out : (c : List ℕ) → includes c h.binding ≡ false → state_of (slice c (more H h)) ≡ state_of (slice c H)
  unfolding slice
  state_out c e = rw (slice_append c H (h ∷ []), e, list.append-nil)

  -- Where a row moves ------------------------------------------------------------------------------------------------------

  abbrev may : Kept → Bool
  may k = moves w step h.event h.binding seen k

  abbrev to : Kept → Kept
  to k = moved_from w step h.event h.binding seen k

  abbrev moved_rows : List Kept
  moved_rows = moved w step h.event h.binding seen kept

  moves_of : (k : Kept) → T (may k)
      → T (compatible h.binding k.combination) × (join_seen w (join h.binding k.combination) seen ≡ k.combination)
  moves_of k t = MovesLaws.moves_of w step h.event h.binding seen k t

  of_moves : (k : Kept) → T (compatible h.binding k.combination)
      → join_seen w (join h.binding k.combination) seen ≡ k.combination → T (may k)
  of_moves k t q = MovesLaws.of_moves w step h.event h.binding seen k t q

  -- a row that may move follows its combination after the event
  to-follows : (k : Kept) → Follows w state_of H k → T (may k)
      → Follows w state_of (more H h) (to k) × T (includes (to k).combination h.binding)
  unfolding moved_from
  to-follows k f t =
      let b = h.binding in
      let c = join b k.combination in
      let m = moves_of k t in
      let ok : length k.combination ≡ w = length_made w H known.widths k.combination f.made in
      let oc : length c ≡ w = length-join w b k.combination known.width ok in
      let from : join_of w c H ≡ k.combination = sym (known.joins c oc) ∙ m.1 in
      let i : T (includes c b) = join_includes_left b k.combination m.0 in
      let e : includes c b ≡ true = true_of (includes c b) i in (
        record {
          made = join_of_made w c (more H h) (join_of_more_in w c H h oc more_widths e ∙ ap (join b) from);
          state = rw (state_in_lem c e, slice_join_of w c H oc, from, f.state);
        },
        i,
      )

  -- the row from which a made combination that includes the event's values came
  pub record From (r : Kept) : Type 0 where
    pub row : Kept
    pub follows : Follows w state_of H row
    pub compatible : T (compatible h.binding row.combination)
    pub moves : T (moves w step h.event h.binding seen row)
    pub is : r ≡ moved_from w step h.event h.binding seen row

  comes_from : (r : Kept) → Follows w state_of (more H h) r → T (includes r.combination h.binding) → From r
  unfolding moved_from
  comes_from r f t =
      let b = h.binding in
      let c = r.combination in
      let k = join_of w c H in
      let row : Kept = record { combination = k; state = state_of (slice k H) } in
      let oc : length c ≡ w = length_made w (more H h) more_widths c f.made in
      let e : includes c b ≡ true = true_of (includes c b) t in
      let both : T (compatible b k) = included_compatible c b k t (includes-join_seen w c (bindings H) oc) in
      let ce : join b k ≡ c = sym (join_of_more_in w c H h oc more_widths e) ∙ made_join_of w (more H h) more_widths c f.made in
      let se : r.state ≡ step (state_of (slice k H)) h.event =
      f.state ∙ state_in_lem c e ∙ ap (λ (l : List ℕ). step (state_of l) h.event) (slice_join_of w c H oc) in
      record {
        row = row;
        follows = record { made = join_of_made w k H (join_seen_again w c (bindings H) oc known.widths); state = refl };
        compatible = both;
        moves = of_moves row both (rw ce (known.joins c oc));
        is = λ i. record { combination = sym ce i; state = se i };
      }

  in_moved : (r : Kept) → T (keeps r) ⊎ T (reported r)
      → In r moved_rows ↔ (Follows w state_of (more H h) r × T (includes r.combination h.binding))
  in_moved r v =
      let members = MovesLaws.in_moved w step h.event h.binding seen kept r in (
        (λ i.
            let m = members.0 i in
            rw m.is (to-follows m.row ((known.exactly m.row).0 m.member).0 m.moves)),
        (λ f.
            let m = comes_from r f.0 f.1 in
            let t : T (keeps m.row) = known.back m.row m.follows m.compatible (rw m.is at v) in
            members.1 (record { row = m.row; member = (known.exactly m.row).1 (m.follows, t); moves = m.moves; is = m.is })),
      )

  -- What is reported and kept ----------------------------------------------------------------------------------------------

  -- "each accepted event reports exactly .."
  pub in_reports_after : (r : Kept) → In r (reports_after w step h.event h.binding seen reported kept)
      ↔ (Follows w state_of (more H h) r × T (includes r.combination h.binding) × T (reported r))
  in_reports_after r =
      let members = MovesLaws.reports_after_members w step h.event h.binding seen kept reported r in (
        (λ i. let f = members.0 i in let m = (in_moved r (inr f.1)).0 f.0 in (m.0, m.1, f.1)),
        (λ f. members.1 ((in_moved r (inr f.2)).1 (f.0, f.1), f.2)),
      )

  -- a combination that does not include the event's values is made, and its state the same, with the event and without
  follows_out : (r : Kept) → includes r.combination h.binding ≡ false → Follows w state_of (more H h) r ↔ Follows w state_of H r
  follows_out r e =
      let c = r.combination in (
        (λ f. record {
          made = join_of_made w c H (sym (join_of_more_out w c H h e) ∙ made_join_of w (more H h) more_widths c f.made);
          state = f.state ∙ state_out c e;
        }),
        (λ f. record {
          made = join_of_made w c (more H h) (join_of_more_out w c H h e ∙ made_join_of w H known.widths c f.made);
          state = f.state ∙ sym (state_out c e);
        }),
      )

  -- "Kept are exactly .."
  pub in_kept_after : (r : Kept) → In r (kept_after w step h.event h.binding seen keeps kept)
      ↔ (Follows w state_of (more H h) r × T (keeps r))
  in_kept_after r =
      let members = MovesLaws.kept_after_members w step h.event h.binding seen kept keeps r in (
        (λ i. elim (members.0 i) [
          | inl f ↦ (((in_moved r (inl f.1)).0 f.0).0, f.1)
          | inr f ↦ let v = (known.exactly r).0 f.0 in ((follows_out r f.1).1 v.0, v.1)
        ]),
        (λ f. members.1 (elim (decided (includes r.combination h.binding)) [
          | inl e ↦ inl ((in_moved r (inl f.1)).1 (f.0, so e), f.1)
          | inr e ↦ inr ((known.exactly r).1 ((follows_out r e).0 f.0, f.1), e)
        ])),
      )
