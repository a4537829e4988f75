-- Demands 2 and 3 together, proved: an event reports and keeps exactly what the customer asks for (specs/Together).
-- Assumes nothing.
use Rattle.std.specs.Prelude.{ℕ, ◌≡◌, refl, ◌↔◌, List, ◌∷◌, ◌++◌}
use Rattle.std.proofs.Common.{sym, inl, inr}
use Rattle.std.proofs.Math.Path.{subst₂}
use Rattle.std.proofs.Math.Dec.{T}
use Rattle.document.specs.Lists.{In}
use Rattle.document.specs.Refusals.{taken}
use Rattle.document.specs.Patterns.{TotalMatching, Among}
use Rattle.document.specs.Property.{Property, verdict, state_from, state_after, asks_for, is_asked}
use Rattle.document.specs.Translate.{translate}
use Rattle.document.specs.Histories.{Event, slice}
use Rattle.document.specs.OneEvent.{Kept}
use Rattle.document.specs.Session.{Session, Outcome, step_from, within_rooms}
use Rattle.document.specs.Demands.{Allowed, Means, Proper, extended, ComesTo, Reached}
use Rattle.slices.specs.Demand3.{demand_3}
use Rattle.basics.specs.Lists.{in_append}
use Rattle.slices.specs.ListsLaws.{in_map, map_in}
use Rattle.slices.specs.OrderLaws.{combinations}
use Rattle.slices.specs.PropertyLaws.{state_from_append}
use Rattle.slices.specs.HistoriesLaws.{in_slice}
use Rattle.slices.specs.EventLaws.{history_more}
use Rattle.demands.specs.Demand2.{demand_2}
use Rattle.demands.specs.Together.{verdict_single, Reports, Keeps, Says, Rightly}

module _ (events text : List ℕ) (p : Property) (e : translate events text ≡ taken p) (a : Allowed events text) where
  means : Means a p
  means = demand_2.means events text p e a

  -- the events of a slice are declared
  slice_declared : (H : List Event) → ((h : Event) → In h H → Proper p h.event h.binding) → (c : List ℕ) → Among p.events (slice c H)
  slice_declared H f c x i = let m = in_slice c H x i in rw m.2 (f m.0 m.1).declared

  right_rows : (H : List Event) (b : List ℕ) (o : Outcome) → ((h : Event) → In h H → Proper p h.event h.binding) → ComesTo p H b o
      → (c : List ℕ) (v : ℕ) → Says p o.rows c v ↔ Reports a.pattern a.asked H b c v
  unfolding is_asked
  right_rows H b o f g c v = (
    (λ s.
        let k = s.row in
        let m = (g.rows.exactly k).0 s.there in
        let st : k.state ≡ state_after p (slice c H) = rw s.combination at m.state in
        record {
          made = rw s.combination at m.made;
          concerned = rw s.combination at m.concerned;
          verdict = rw (← s.verdict, st) (means.verdicts (slice c H) (slice_declared H f c));
          asks = subst₂ (λ x y. T (asks_for x y)) means.asks s.verdict m.asked;
        }),
    (λ r.
        let k : Kept = record { combination = c; state = state_after p (slice c H) } in
        let q : verdict p k.state ≡ v = verdict_single a.pattern (slice c H) _ v (means.verdicts (slice c H) (slice_declared H f c)) r.verdict in
        record {
          row = k;
          there = (g.rows.exactly k).1 (record { made = r.made; concerned = r.concerned; state = refl; asked = subst₂ (λ x y. T (asks_for x y)) (sym means.asks) (sym q) r.asks });
          combination = refl;
          verdict = q;
        }),
  )

  -- events of a slice and declared events after them
  all_declared : (H : List Event) → ((h : Event) → In h H → Proper p h.event h.binding) → (c l : List ℕ) → Among p.events l
      → Among p.events (slice c H ++ l)
  all_declared H f c l g x i = elim ((in_append x (slice c H) l).0 i) [ inl j ↦ slice_declared H f c x j | inr j ↦ g x j ]

  -- the verdict of a slice and the events after it is that of the state to which they lead from the slice's state
  verdict_through : (H : List Event) → ((h : Event) → In h H → Proper p h.event h.binding) → (c l : List ℕ) → Among p.events l
      → TotalMatching a.pattern (slice c H ++ l) (verdict p (state_from p (state_after p (slice c H)) l))
  unfolding state_after
  verdict_through H f c l g = rw (← state_from_append p 0 (slice c H) l) (means.verdicts (slice c H ++ l) (all_declared H f c l g))

  right_kept : (H : List Event) (b : List ℕ) (o : Outcome) → ((h : Event) → In h H → Proper p h.event h.binding) → ComesTo p H b o
      → (c : List ℕ) → In c (combinations o.kept) ↔ Keeps a.pattern a.asked p.events H c
  unfolding is_asked
  right_kept H b o f g c = (
    (λ i.
        let m = (in_map (λ (k : Kept). k.combination) o.kept c).0 i in
        let k = m.of in
        let w = (g.kept.exactly k).0 m.member in
        let l = w.hopeful in
        let now = state_after p (slice c H) in
        let st : k.state ≡ now = rw (← m.is) at w.state in
        let v = verdict p (state_from p now (l.first ∷ l.rest)) in
        record {
          made = rw (← m.is) at w.made;
          first = l.first;
          rest = l.rest;
          declared = l.declared;
          verdict = v;
          matching = verdict_through H f c (l.first ∷ l.rest) l.declared;
          asks = subst₂ (λ x s. T (asks_for x (verdict p (state_from p s (l.first ∷ l.rest))))) means.asks st l.arrives;
        }),
    (λ r.
        let now = state_after p (slice c H) in
        let k : Kept = record { combination = c; state = now } in
        let l = r.first ∷ r.rest in
        let q : verdict p (state_from p now l) ≡ r.verdict = verdict_single a.pattern (slice c H ++ l) _ r.verdict (verdict_through H f c l r.declared) r.matching in
        map_in (λ (k : Kept). k.combination) o.kept k ((g.kept.exactly k).1 (record {
          made = r.made;
          state = refl;
          hopeful = record {
            first = r.first;
            rest = r.rest;
            declared = r.declared;
            permitted = λ x i. tt;
            arrives = subst₂ (λ x y. T (asks_for x y)) (sym means.asks) (sym q) r.asks;
          };
        }))),
  )

  -- the statement: what the event comes to is what the customer asks for, and the step's answer is that outcome within its rooms
  pub reports_rightly : (seen kept : List ℕ) (H : List Event) (s : Session) → Reached p seen kept H s
      → (from : ℕ) (reports : List ℕ) (n x : ℕ) (b : List ℕ) → Proper p x b
      → (o : Outcome) × (step_from from p s reports x b ≡ within_rooms from p s reports o) × Rightly a p (extended p H n x b) b o
  reports_rightly seen kept H s R from reports n x b q =
      let h = (demand_3.holds p seen kept H s R).0 in
      let t = demand_3.answers p H s means.usable h from reports n x b q in
      let f = history_more p H n x b h.history q in (
        t.0,
        t.2,
        record {
          reports_in_order = t.1.rows.order;
          reports = right_rows (extended p H n x b) b t.0 f t.1;
          kept_in_order = t.1.kept.order;
          kept = right_kept (extended p H n x b) b t.0 f t.1;
        },
      )
