-- Laws of the whole table: a shape has the lists of the pattern that it is the shape of, its table is the definition's, and the
-- property table has its fields.
-- Assumes nothing.
use Rattle.std.specs.Prelude.{ℕ, zero, suc, ◌≤◌, ◌<◌, ◌≡◌, refl, Bool, true, false, cond, List, [], ◌∷◌, length, get_or, take, set, ltb, None, Some}
use Rattle.std.proofs.Common.{arith, sym, ap, ◌∙◌, inl, inr, get_or-set_same, get_or-set_other, length-take-le, lt-ltb, le-ltb, ltb-true, ltb-false}
use mathlib.Core.List as list
use Rattle.std.proofs.lemmas.Option.{none-some, same_Some}
use Rattle.document.specs.Lists.{tabulate}
use Rattle.document.specs.Limits.{most_events, most_states}
use Rattle.document.specs.Patterns.{Pattern}
use Rattle.document.specs.Positions as positions
use Rattle.document.specs.Positions.{verdict_of}
use Rattle.document.specs.States.{Found, states_of}
use Rattle.sets.specs.declared.Shape.{Shape}
use Rattle.sets.specs.Shapes.{shape_of}
use Rattle.growing.specs.declared.Grown.{Grown}
use Rattle.states.specs.declared.Table.{Table}
use Rattle.growing.specs.Growing.{Reads, AllStates, TooMany}
use Rattle.states.specs.Tabling.{verdict_from, verdicts_from, table_of, Tabled}
use Rattle.document.specs.Declarations.{Declared}
use Rattle.document.specs.Reading.{Parsed}
use Rattle.document.specs.Translate.{property_of}
use Rattle.basics.specs.Tests.{decided}
use Rattle.basics.specs.Lists.{tabulate_at, length-tabulate, tabulate_same}
use Rattle.words.specs.Table.{map_at}

-- a pattern's shape has the pattern's lists
shape_reads : (shape : Shape) (base : ℕ) (p : Pattern) (anew : Bool) → shape ≡ shape_of p → base ≡ cond anew 1 0
    → Reads p anew (set shape.follow 0 shape.first) shape.named base
unfolding shape_of
shape_reads shape base p anew q b = record {
  nexts = λ k h. go k h;
  names = λ e h. ap (λ (x : Shape). get_or x.named e 0) q ∙ tabulate_at most_events (positions.named p) e 0 h;
  starts = b;
}
  where
    long : length shape.follow ≡ 32
    long = ap (λ (x : Shape). length x.follow) q ∙ length-tabulate 32 (positions.follows p)

    go : (k : ℕ) → k < 32 → get_or (set shape.follow 0 shape.first) k 0 ≡ positions.next p k
    go zero h = get_or-set_same shape.follow 0 shape.first 0 (let l = long in omega arith) ∙ ap (λ (x : Shape). x.first) q
    go (suc k) h =
        get_or-set_other shape.follow 0 (suc k) shape.first 0 (λ (e : suc k ≡ 0). omega arith)
        ∙ ap (λ (x : Shape). get_or x.follow (suc k) 0) q
        ∙ tabulate_at 32 (positions.follows p) (suc k) 0 h

map_past : (f : ℕ → ℕ) (l : List ℕ) (k : ℕ) → length l ≤ k → get_or (list.map f l) k 0 ≡ 0
map_past f [] k h = refl
map_past f (x ∷ l) zero h = absurd (omega arith)
map_past f (x ∷ l) (suc k) h = map_past f l k (omega arith)

verdict-is : (shape : Shape) (p : Pattern) (s : ℕ) → shape ≡ shape_of p → verdict_from shape.null shape.last s ≡ verdict_of p s
unfolding shape_of verdict_from verdict_of
verdict-is shape p s q = ap (λ (x : Shape). verdict_from x.null x.last s) q

verdicts_are : (shape : Shape) (p : Pattern) (sets : List ℕ) → shape ≡ shape_of p
    → verdicts_from shape.null shape.last (length sets) sets ≡ tabulate most_states (λ s. get_or (list.map (verdict_of p) sets) s 0)
unfolding verdicts_from
verdicts_are shape p sets q = tabulate_same most_states _ _ (λ s h. elim (decided (ltb s (length sets))) [
  | inl e ↦ rw e (verdict-is shape p (get_or sets s 0) q ∙ sym (map_at (verdict_of p) sets s (ltb-true s (length sets) e)))
  | inr e ↦ rw e (sym (map_past (verdict_of p) sets s (ltb-false s (length sets) e)))
])

pub tabled_none : (shape : Shape) (m base : ℕ) → TooMany (set shape.follow 0 shape.first) shape.named base m → Tabled shape m base None
unfolding table_of
tabled_none shape m base w = record {
  says = λ p anew q b.
      rw (lt-ltb most_states (length (states_of anew p m).sets) (w.over p anew (shape_reads shape base p anew q b)));
}

pub tabled_some : (shape : Shape) (m base : ℕ) (g : Grown) (verdicts : List ℕ) → AllStates (set shape.follow 0 shape.first) shape.named base m g
    → verdicts ≡ verdicts_from shape.null shape.last (length (take g.count g.sets)) (take g.count g.sets)
    → Tabled shape m base (Some (record { states = g.count; next = g.next; verdicts = verdicts }))
unfolding table_of
tabled_some shape m base g verdicts w v = record {
  says = λ p anew q b.
      let r = shape_reads shape base p anew q b in
      let s = w.sets p anew r in
      let long = w.long in
      let few = w.few in
      let c : length (take g.count g.sets) ≡ g.count = length-take-le g.count g.sets (omega arith) in
      let d : length (states_of anew p m).sets ≡ g.count = sym (ap length s) ∙ c in
      rw (le-ltb most_states (length (states_of anew p m).sets) (omega arith), ← w.next p anew r, d, ← s, v ∙ verdicts_are shape p (take g.count g.sets) q);
}

-- What a translator needs: no table where there are too many states (refusal 10), and else the property table by its fields.
pub table_over : (p : Pattern) (g : Found) → None ≡ table_of p g → ltb most_states (length g.sets) ≡ true
unfolding table_of
table_over p g q = elim (decided (ltb most_states (length g.sets))) [
  | inl e ↦ e
  | inr e ↦ absurd (none-some _ (rw e at q))
]

pub table_fits : (p : Pattern) (g : Found) (r : Table) → Some r ≡ table_of p g → ltb most_states (length g.sets) ≡ false
unfolding table_of
table_fits p g r q = elim (decided (ltb most_states (length g.sets))) [
  | inl e ↦ absurd (none-some r (sym (rw e at q)))
  | inr e ↦ e
]

pub table_property : (d : Declared) (t : Parsed) (g : Found) (r : Table) → Some r ≡ table_of t.pattern g
    → property_of d t g ≡ record {
      parameters = length d.parameters;
      events = length d.events;
      states = r.states;
      asked = t.asked;
      sets = tabulate most_events (λ e. get_or d.sets e 0);
      next = r.next;
      verdicts = r.verdicts;
    }
unfolding table_of property_of
table_property d t g r q =
    let z = same_Some _ _ (rw (table_fits t.pattern g r q) at q) in
    rw z
