-- Tables that stand for a history pass the session check: refusal 12 is never given in a session from a fresh start.
-- Assumes nothing.
use Rattle.std.specs.Prelude.{ℕ, ◌≡◌, true, List}
use Rattle.std.proofs.Common.{sym, subst, ◌∙◌}
use Rattle.document.specs.Limits.{width}
use Rattle.document.specs.Histories.{Event}
use Rattle.document.specs.OneEvent.{Kept}
use Rattle.document.specs.Property.{Property, in_range}
use Rattle.document.specs.Session.{Session, sound, keeps}
use Rattle.document.specs.Demands.{Holds}
use Rattle.slices.specs.HistoriesLaws.{length_made, made_join_of}
use Rattle.slices.specs.SeenLaws.{sees_join_of}
use Rattle.slices.specs.CheckLaws.{SoundRows, of_sounds}
use Rattle.slices.specs.HoldsLaws.{ProperHistory, slice_range, binding_zero_past, made_zero_past, Standing, standing}

pub standing_sounds : (p : Property) → in_range p ≡ true → (H : List Event) (s : Session) → ProperHistory p H
    → (seen : List (List ℕ)) (kept : List Kept) → Standing p H s seen kept → SoundRows p seen kept
unfolding keeps
standing_sounds p r H s f seen kept h = record {
  seen_order = h.seen_order;
  kept_order = h.kept_order;
  seen_bound = λ b i. ((h.sees b).0 i).1;
  seen_past = λ b i. binding_zero_past p r H f b ((h.sees b).0 i).0;
  kept_past = λ k i. made_zero_past p r H f k.combination ((h.follows k).0 i).0.made;
  range = λ k i. rw ((h.follows k).0 i).0.state (slice_range p r H f k.combination);
  hope = λ k i. ((h.follows k).0 i).1;
  joins = λ k i.
      let c = k.combination in
      let m = ((h.follows k).0 i).0.made in
      sees_join_of width H seen h.widths h.sees c (length_made width H h.widths c m) ∙ made_join_of width H h.widths c m;
}

pub holds-sound : (p : Property) → in_range p ≡ true → (H : List Event) (s : Session) → Holds p H s → sound p s ≡ true
holds-sound p r H s h =
    let st = standing p r H s h in
    subst (λ (t : Session). sound p t ≡ true) (sym h.tables)
    (of_sounds p s h.seen h.kept (standing_sounds p r H s h.history h.seen h.kept st) st.fits)
