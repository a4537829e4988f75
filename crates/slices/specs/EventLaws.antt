-- An accepted event over tables that stand for a history: the answer is the one that the history with that event calls for.
-- Assumes nothing.
use Rattle.std.specs.Prelude.{ℕ, ◌≡◌, true, List}
use Rattle.std.proofs.Common.{inl, inr}
use borrow.Author.Tests.{lt-leb}
use Rattle.document.specs.Limits.{width}
use Rattle.document.specs.Histories.{Event}
use Rattle.document.specs.OneEvent.{Kept, see, moved_from, kept_after, reports_after}
use Rattle.document.specs.Property.{Property, in_range, next_state, state_after}
use Rattle.document.specs.Session.{Session, keeps, reported, outcome, step_from, event}
use Rattle.document.specs.Demands.{Lists, itself, SeenIn, KeptIn, ReportedIn, Proper, Holds, extended, ComesTo}
use Rattle.slices.specs.ListsLaws.{in_more}
use Rattle.slices.specs.OrderLaws.{of_ascending, combinations}
use Rattle.slices.specs.SeeLaws.{see_ascends}
use Rattle.slices.specs.SeenLaws.{sees_join_of, see_sees}
use Rattle.slices.specs.MovesLaws.{reports_after_ascends, kept_after_ascends}
use Rattle.slices.specs.OneEventLaws.{Before, in_reports_after, in_kept_after}
use Rattle.slices.specs.PropertyLaws.{state_after-more}
use Rattle.slices.specs.HopefulLaws.{hopeful_before}
use Rattle.slices.specs.HoldsLaws.{ProperHistory, slice_range, kept_follows, seen_lists_lem, Standing, standing, seen_of-holds, kept_of-holds}
use Rattle.slices.specs.SoundLaws.{holds-sound}

pub history_more : (p : Property) (H : List Event) (n e : ℕ) (b : List ℕ) → ProperHistory p H → Proper p e b
    → ProperHistory p (extended p H n e b)
history_more p H n e b f q h i =
    elim (in_more H (record { row = n; event = e; binding = b }) h i) [ inl j ↦ f h j | inr z ↦ rw z q ]

module _ (p : Property) (H : List Event) (s : Session) (r : in_range p ≡ true) (h : Holds p H s)
    (n e : ℕ) (b : List ℕ) (q : Proper p e b) where
  abbrev more : List Event
  more = extended p H n e b

  abbrev this : Event
  this = record { row = n; event = e; binding = b }

  st : Standing p H s h.seen h.kept
  st = standing p r H s h

  more_proper : ProperHistory p more
  more_proper = history_more p H n e b h.history q

  known : Before width (next_state p) (state_after p) (keeps p) (reported p) H this h.seen h.kept
  unfolding keeps reported moved_from
  known = record {
    state_more = state_after-more p;
    widths = st.widths;
    width = q.width;
    joins = λ c o. sees_join_of width H h.seen st.widths st.sees c o;
    exactly = st.follows;
    back = λ k f t v.
        hopeful_before p r k.state e (rw f.state (slice_range p r H h.history k.combination)) q.declared v;
  }

  abbrev seen_after : List (List ℕ)
  seen_after = see width b h.seen

  abbrev kept_rows : List Kept
  kept_rows = kept_after width (next_state p) e b h.seen (keeps p) h.kept

  abbrev report_rows : List Kept
  report_rows = reports_after width (next_state p) e b h.seen (reported p) h.kept

  seen_lists_after : Lists itself (SeenIn more) seen_after
  seen_lists_after =
      (seen_lists_lem more seen_after).1 (see_sees width H h.seen this st.sees, see_ascends width b h.seen st.seen_order)

  kept_lists_after : Lists (λ k. k.combination) (KeptIn p more) kept_rows
  kept_lists_after = record {
    order = of_ascending (combinations kept_rows) (kept_after_ascends width (next_state p) e b h.seen h.kept st.kept_order (keeps p));
    exactly = λ k. (
      (λ i. (kept_follows p r more more_proper k).1 ((in_kept_after known k).0 i)),
      (λ f. (in_kept_after known k).1 ((kept_follows p r more more_proper k).0 f)),
    );
  }

  report_lists_after : Lists (λ k. k.combination) (ReportedIn p more b) report_rows
  unfolding reported
  report_lists_after = record {
    order = of_ascending (combinations report_rows) (reports_after_ascends width (next_state p) e b h.seen h.kept st.kept_order (reported p));
    exactly = λ k. (
      (λ i.
          let f = (in_reports_after known k).0 i in
          record { made = f.0.made; concerned = f.1; state = f.0.state; asked = f.2 }),
      (λ f. (in_reports_after known k).1 (record { made = f.made; state = f.state }, f.concerned, f.asked)),
    );
  }

  -- what the event comes to, before anything is written
  pub comes_to : ComesTo p more b (outcome p s e b)
  unfolding outcome
  comes_to = rw (seen_of-holds p r H s h, kept_of-holds p r H s h) (record { seen = seen_lists_after; kept = kept_lists_after; rows = report_lists_after })

  -- and the call does not judge it otherwise than the step
  pub event_steps : (reports : List ℕ) → event p s reports e b ≡ step_from 0 p s reports e b
  unfolding event
  event_steps reports =
      let sound = holds-sound p r H s h in
      let declared = lt-leb p.events e q.declared in
      rw (r, sound, declared, q.values)
