-- What tables that stand for a history hold, in the words of the laws: widths, states in range, rows that follow their
-- combination and are hopeful, numbers past the parameters 0.
-- Assumes nothing.
use Rattle.std.specs.Prelude.{ℕ, ◌<◌, ◌≡◌, refl, ◌↔◌, true, List, [], ◌∷◌, T}
use Rattle.std.proofs.Common.{ap, ◌∙◌, inl, inr}
use mathlib.Core.List as list
use Rattle.document.specs.Lists.{In}
use Rattle.document.specs.Limits.{width}
use Rattle.document.specs.Combinations.{zero_past}
use Rattle.document.specs.Histories.{Event, slice, IsBinding, join_all, Made}
use Rattle.document.specs.OneEvent.{Kept}
use Rattle.document.specs.Property.{Property, in_range, state_after}
use Rattle.document.specs.Session.{Session, seen_of, kept_of, keeps}
use Rattle.document.specs.Demands.{Lists, itself, SeenIn, KeptIn, Proper, Holds}
use Rattle.slices.specs.CombinationsLaws.{zero_past_empty, zero_past-join}
use Rattle.slices.specs.OrderLaws.{Ascends, ascending_of, of_ascending, combinations}
use Rattle.slices.specs.JoinSeenLaws.{OfWidth}
use Rattle.slices.specs.HistoriesLaws.{bindings, is_binding, in_slice, length_made}
use Rattle.slices.specs.SeenLaws.{Sees}
use Rattle.slices.specs.OneEventLaws.{Follows}
use Rattle.slices.specs.PropertyLaws.{ranges, state_after_range}
use Rattle.slices.specs.ProperLaws.{proper_zero_past}
use Rattle.slices.specs.HopefulLaws.{hopeful_right}
use Rattle.slices.specs.SessionLaws.{Fits, seen_of_with, kept_of_with}

-- The history ----------------------------------------------------------------------------------------------------------

-- every event of the history is one of the property's, with values for exactly its set
abbrev pub ProperHistory : Property → List Event → Type 0
ProperHistory p H = (h : Event) → In h H → Proper p h.event h.binding

module _ (p : Property) (r : in_range p ≡ true) (H : List Event) (f : ProperHistory p H) where
  pub history_width : OfWidth width (bindings H)
  history_width b i = let m = (is_binding H b).0 i in rw (← m.is) (f m.event m.accepted).width

  pub slice_range : (c : List ℕ) → state_after p (slice c H) < p.states
  slice_range c = state_after_range p (ranges p r) (slice c H) (λ e i. let m = in_slice c H e i in rw m.2 (f m.0 m.1).declared)

  pub binding_zero_past : (b : List ℕ) → IsBinding H b → T (zero_past p.parameters b)
  binding_zero_past b m = rw (← m.is) (proper_zero_past p r m.event.event m.event.binding (f m.event m.accepted))

  pub made_zero_past : (c : List ℕ) → Made width H c → T (zero_past p.parameters c)
  made_zero_past c m = rw m.is (all m.bindings (λ b i. binding_zero_past b (m.from b i)))
    where
      all : (l : List (List ℕ)) → ((b : List ℕ) → In b l → T (zero_past p.parameters b))
          → T (zero_past p.parameters (join_all width l))
      all [] g = zero_past_empty p.parameters width
      all (b ∷ l) g = zero_past-join p.parameters b (join_all width l) (g b (inl refl)) (all l (λ x i. g x (inr i)))

  -- "the made combinations whose rows, followed by some one or more declared events, would have such a verdict"
  pub kept_follows : (k : Kept) → KeptIn p H k ↔ (Follows width (state_after p) H k × T (keeps p k))
  unfolding keeps
  kept_follows k = (
    (λ m.
        let s : k.state < p.states = rw m.state (slice_range k.combination) in
        (record { made = m.made; state = m.state }, (hopeful_right p r k.state s).1 m.hopeful)),
    (λ m.
        let s : k.state < p.states = rw m.0.state (slice_range k.combination) in
        record { made = m.0.made; state = m.0.state; hopeful = (hopeful_right p r k.state s).0 m.1 }),
  )

-- The tables -----------------------------------------------------------------------------------------------------------

map_itself : (l : List (List ℕ)) → list.map itself l ≡ l
map_itself [] = refl
map_itself (x ∷ l) = rw (map_itself l)

pub seen_lists_lem : (H : List Event) (seen : List (List ℕ)) → Lists itself (SeenIn H) seen ↔ (Sees width H seen × Ascends seen)
seen_lists_lem H seen = (
  (λ l. (
    (λ x. (
      (λ i. let m = (l.exactly x).0 i in (m.binding, m.bound)),
      (λ m. (l.exactly x).1 (record { binding = m.0; bound = m.1 })),
    )),
    ascending_of seen (rw (map_itself seen) at l.order),
  )),
  (λ m. record {
    order = rw (map_itself seen) (of_ascending seen m.1);
    exactly = λ x. (
      (λ i. let s = (m.0 x).0 i in record { binding = s.0; bound = s.1 }),
      (λ s. (m.0 x).1 (s.binding, s.bound)),
    );
  }),
)

-- what `Holds` says of the lists that it gives
pub record Standing (p : Property) (H : List Event) (s : Session) (seen : List (List ℕ)) (kept : List Kept) : Type 0 where
  pub widths : OfWidth width (bindings H)
  pub sees : Sees width H seen
  pub seen_order : Ascends seen
  pub follows : (k : Kept) → In k kept ↔ (Follows width (state_after p) H k × T (keeps p k))
  pub kept_order : Ascends (combinations kept)
  pub fits : Fits s seen kept

pub standing : (p : Property) → in_range p ≡ true → (H : List Event) (s : Session) (h : Holds p H s)
    → Standing p H s h.seen h.kept
standing p r H s h =
    let o = history_width p r H h.history in
    let seen = (seen_lists_lem H h.seen).0 h.seen_lists in
    record {
      widths = o;
      sees = seen.0;
      seen_order = seen.1;
      follows = λ k. (
        (λ i. (kept_follows p r H h.history k).0 ((h.kept_lists.exactly k).0 i)),
        (λ m. (h.kept_lists.exactly k).1 ((kept_follows p r H h.history k).1 m)),
      );
      kept_order = ascending_of (combinations h.kept) h.kept_lists.order;
      fits = record {
        seen_width = λ b i. o b ((is_binding H b).1 ((seen.0 b).0 i).0);
        kept_width = λ k i. length_made width H o k.combination ((h.kept_lists.exactly k).0 i).made;
        seen_rows = h.seen_rows;
        kept_rows = h.kept_rows;
      };
    }

-- the rows of the tables are the lists
module _ (p : Property) (r : in_range p ≡ true) (H : List Event) (s : Session) (h : Holds p H s) where
  pub seen_of-holds : seen_of s ≡ h.seen
  seen_of-holds = ap seen_of h.tables ∙ seen_of_with s h.seen h.kept (standing p r H s h).fits

  pub kept_of-holds : kept_of s ≡ h.kept
  kept_of-holds = ap kept_of h.tables ∙ kept_of_with s h.seen h.kept (standing p r H s h).fits
