-- The customer's demand 3 of the definitions: from a fresh start, and at every event, refused ones counting for nothing.
-- Assumes nothing.
use Rattle.std.specs.Prelude.{ℕ, ◌≤◌, ◌≡◌, refl, ◌↔◌, true, not, List, [], leb, ltb, length}
use Rattle.std.proofs.Common.{zero-le, sym, ◌∙◌, inl, inr, ltb-false, leb-false}
use Rattle.std.proofs.lemmas.Bool.{not-false}
use Rattle.document.specs.Limits.{width}
use Rattle.document.specs.Refusals.{badProperty, badSession, noSuchEvent, wrongValues, noRoomForKept, taken, refuse_if}
use Rattle.document.specs.Combinations.{empty_of, binds_exactly}
use Rattle.document.specs.Histories.{Event, slice}
use Rattle.document.specs.OneEvent.{Kept, join_seen}
use Rattle.document.specs.Property.{Property, in_range, set_of, state_from, state_after, hopeful}
use Rattle.document.specs.Tables.{seen_room, kept_room}
use Rattle.document.specs.Session.{Session, Happened, ascending, session_with, sound, first_kept, lent_tables, start, keeps, outcome, written, step_from, event, leaves}
use Rattle.document.specs.Demands.{Lists, itself, SeenIn, KeptIn, Proper, Holds, extended, Reached, fresh, accepted, refused_event, Demand3}
use Rattle.basics.specs.Tests.{decided}
use Rattle.basics.specs.Answers.{past_test, taken_one}
use Rattle.slices.specs.TestsLaws.{so, not_so}
use Rattle.slices.specs.HistoriesLaws.{is_binding, join_of_made, length_made, made_join_of}
use Rattle.slices.specs.OneEventLaws.{Follows}
use Rattle.slices.specs.SessionLaws.{Fits, seen_room_with, kept_room_with, seen_length_with, kept_length_with, with_again}
use Rattle.slices.specs.StepLaws.{stepped}
use Rattle.slices.specs.HoldsLaws.{ProperHistory, history_width, kept_follows}
use Rattle.slices.specs.EventLaws.{history_more, comes_to, event_steps}
use Rattle.slices.specs.LookupLaws.{looks_up_lem}
use Rattle.slices.specs.HopefulLaws.{hopeful_right}

-- rows that the history calls for have the width, so they fit tables with room for them
fits_of : (p : Property) → in_range p ≡ true → (H : List Event) (s : Session) (seen : List (List ℕ)) (kept : List Kept)
    → ProperHistory p H → Lists itself (SeenIn H) seen → Lists (λ k. k.combination) (KeptIn p H) kept
    → length seen ≤ seen_room s.seen → length kept ≤ kept_room s.kept → Fits s seen kept
fits_of p r H s seen kept f ls lk hs hk =
    let o = history_width p r H f in
    record {
      seen_width = λ b i. o b ((is_binding H b).1 ((ls.exactly b).0 i).binding);
      kept_width = λ k i. length_made width H o k.combination ((lk.exactly k).0 i).made;
      seen_rows = hs;
      kept_rows = hk;
    }

-- and put into them they stand for the history, in tables as long as before
pub record HoldsIn (p : Property) (H : List Event) (s : Session) (seen_length kept_length : ℕ) : Type 0 where
  pub holds : Holds p H s
  pub seen_same : length s.seen ≡ seen_length
  pub kept_same : length s.kept ≡ kept_length

holds_with : (p : Property) → in_range p ≡ true → (H : List Event) (s : Session) (seen : List (List ℕ)) (kept : List Kept)
    → ProperHistory p H → Lists itself (SeenIn H) seen → Lists (λ k. k.combination) (KeptIn p H) kept
    → length seen ≤ seen_room s.seen → length kept ≤ kept_room s.kept
    → HoldsIn p H (session_with s seen kept) (length s.seen) (length s.kept)
holds_with p r H s seen kept f ls lk hs hk =
    let fits = fits_of p r H s seen kept f ls lk hs hk in
    record {
      holds = record {
        history = f;
        seen = seen;
        kept = kept;
        seen_lists = ls;
        kept_lists = lk;
        seen_rows = rw (seen_room_with s seen kept fits) hs;
        kept_rows = rw (kept_room_with s seen kept fits) hk;
        tables = sym (with_again s seen kept fits seen kept);
      };
      seen_same = seen_length_with s seen kept fits;
      kept_same = kept_length_with s seen kept fits;
    }

-- Start ----------------------------------------------------------------------------------------------------------------

none : (p : Property) → ProperHistory p []
none p h i = absurd i

first_seen : Lists itself (SeenIn []) []
unfolding ascending
first_seen = record { order = refl; exactly = λ x. ((λ i. absurd i), (λ m. absurd m.binding.accepted)) }

-- only the empty combination is made of no events, in state 0
first_follows : (p : Property) (k : Kept)
    → Follows width (state_after p) [] k ↔ (k ≡ record { combination = empty_of width; state = 0 })
unfolding slice state_after state_from join_seen
first_follows p k = (
  (λ f.
      let c : k.combination ≡ empty_of width = sym (made_join_of width [] (λ b i. absurd i) k.combination f.made) in
      λ i. record { combination = c i; state = f.state i }),
  (λ q. rw q (record { made = join_of_made width (empty_of width) [] refl; state = refl })),
)

first_kept_lem : (p : Property) → in_range p ≡ true → Lists (λ k. k.combination) (KeptIn p []) (first_kept p)
unfolding first_kept ascending keeps
first_kept_lem p r =
    elim (decided (hopeful p 0)) [
      | inl e ↦ rw e (record {
        order = refl;
        exactly = λ k. (
          (λ i. elim i [ inl q ↦ (kept_follows p r [] (none p) k).1 ((first_follows p k).1 q, rw q (so e)) | inr z ↦ absurd z ]),
          (λ m. inl ((first_follows p k).0 ((kept_follows p r [] (none p) k).0 m).0)),
        );
      })
      | inr e ↦ rw e (record {
        order = refl;
        exactly = λ k. (
          (λ i. absurd i),
          (λ m. let f = (kept_follows p r [] (none p) k).0 m in not_so e (rw ((first_follows p k).0 f.0) at f.1)),
        );
      })
    ]

-- start answers by the room for what is kept at the start
starts : (p : Property) (seen kept : List ℕ) → in_range p ≡ true
    → (first : List Kept) × Lists (λ k. k.combination) (KeptIn p []) first
    × (start p seen kept ≡ refuse_if (ltb (kept_room kept) (length first)) noRoomForKept (taken (session_with (lent_tables seen kept) [] first)))
unfolding start
starts p seen kept r = (first_kept p, first_kept_lem p r, rw r)

-- a start that is taken had a table in range, and leaves tables that stand for no event
start_range : (p : Property) (seen kept : List ℕ) (s : Session) → start p seen kept ≡ taken s → in_range p ≡ true
unfolding start
start_range p seen kept s e =
    let full = ltb (kept_room kept) (length (first_kept p)) in
    let rest = refuse_if full noRoomForKept (taken (session_with (lent_tables seen kept) [] (first_kept p))) in
    not-false (in_range p) (past_test (not (in_range p)) badProperty rest s e).0

start-holds : (p : Property) (seen kept : List ℕ) (s : Session) → start p seen kept ≡ taken s → HoldsIn p [] s (length seen) (length kept)
unfolding start lent_tables
start-holds p seen kept s e =
    let lent = lent_tables seen kept in
    let full = ltb (kept_room kept) (length (first_kept p)) in
    let a = past_test (not (in_range p)) badProperty (refuse_if full noRoomForKept (taken (session_with lent [] (first_kept p)))) s e in
    let b = past_test full noRoomForKept (taken (session_with lent [] (first_kept p))) s a.1 in
    let r : in_range p ≡ true = not-false (in_range p) a.0 in
    rw (← taken_one b.1)
    (holds_with p r [] lent [] (first_kept p) (none p) first_seen (first_kept_lem p r) zero-le
    (ltb-false (kept_room kept) (length (first_kept p)) b.0))

-- An event that is taken -----------------------------------------------------------------------------------------------

-- an event that is taken is one of the property's, with values for exactly its set
taken_proper : (p : Property) (s : Session) (reports : List ℕ) (e : ℕ) (b : List ℕ) (h : Happened) → length b ≡ width
    → event p s reports e b ≡ taken h → Proper p e b
unfolding event
taken_proper p s reports e b h o q =
    let bad = not (binds_exactly (set_of p e) b) in
    let from-values = refuse_if bad wrongValues (step_from 0 p s reports e b) in
    let from-event = refuse_if (leb p.events e) noSuchEvent from-values in
    let h₁ = past_test (not (in_range p)) badProperty (refuse_if (not (sound p s)) badSession from-event) h q in
    let h₂ = past_test (not (sound p s)) badSession from-event h h₁.1 in
    let h₃ = past_test (leb p.events e) noSuchEvent from-values h h₂.1 in
    let h₄ = past_test bad wrongValues (step_from 0 p s reports e b) h h₃.1 in
    record { declared = leb-false p.events e h₃.0; width = o; values = not-false (binds_exactly (set_of p e) b) h₄.0 }

goes_on_lem : (p : Property) (H : List Event) (s : Session) → in_range p ≡ true → Holds p H s
    → (from : ℕ) (reports : List ℕ) (n e : ℕ) (b : List ℕ) (h : Happened) → Proper p e b → step_from from p s reports e b ≡ taken h
    → HoldsIn p (extended p H n e b) h.session (length s.seen) (length s.kept)
unfolding step_from written
goes_on_lem p H s r st from reports n e b h proper q =
    let o = outcome p s e b in
    let c = comes_to p H s r st n e b proper in
    let t = stepped from p s reports o h q in
    rw (← t.is)
    (holds_with p r (extended p H n e b) s o.seen o.kept (history_more p H n e b st.history proper) c.seen c.kept t.seen_rows t.kept_rows)

-- Sessions that are reached --------------------------------------------------------------------------------------------

reached_range : (p : Property) (seen kept : List ℕ) (H : List Event) (s : Session) → Reached p seen kept H s → in_range p ≡ true
reached_range p seen kept H s (fresh e) = start_range p seen kept s e
reached_range p seen kept H s (accepted {H = G} {s = t} reports n e b R o q) = reached_range p seen kept G t R
reached_range p seen kept H s (refused_event {H = G} {s = t} reports e b R q) = reached_range p seen kept G t R

reached_holds : (p : Property) (seen kept : List ℕ) (H : List Event) (s : Session) → Reached p seen kept H s
    → HoldsIn p H s (length seen) (length kept)
unfolding leaves
reached_holds p seen kept H s (fresh e) = start-holds p seen kept s e
reached_holds p seen kept H s (accepted {H = G} {s = t} {h = h} reports n e b R o q) =
    let r = reached_range p seen kept G t R in
    let ih = reached_holds p seen kept G t R in
    let proper = taken_proper p t reports e b h o q in
    let g = goes_on_lem p G t r ih.holds 0 reports n e b h proper (sym (event_steps p G t r ih.holds n e b proper reports) ∙ q) in
    record { holds = g.holds; seen_same = g.seen_same ∙ ih.seen_same; kept_same = g.kept_same ∙ ih.kept_same }
reached_holds p seen kept H s (refused_event {H = G} {s = t} reports e b R q) = rw q (reached_holds p seen kept G t R)

pub demand_3 : Demand3
unfolding step_from
demand_3 = record {
  starts = starts;
  holds = λ p seen kept H s R. let h = reached_holds p seen kept H s R in (h.holds, h.seen_same, h.kept_same);
  answers = λ p H s r h from reports n e b q. (outcome p s e b, comes_to p H s r h n e b q, refl);
  events = λ p H s r h reports e b q. event_steps p H s r h 0 e b q reports;
  goes_on = λ p H s r st from reports n e b h proper q. (goes_on_lem p H s r st from reports n e b h proper q).holds;
  looks_up = looks_up_lem;
  hopefuls = λ p s r h. hopeful_right p r s h;
}
