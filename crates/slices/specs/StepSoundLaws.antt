-- A step over a session that passes the check leaves one that passes it, in tables as long as before: so a run that judges once
-- judges for every row.
-- Assumes nothing.
use Rattle.std.specs.Prelude.{ℕ, ◌<◌, ◌≡◌, true, List, length}
use Rattle.std.proofs.Common.{subst, sym}
use Rattle.std.proofs.Math.Logic.{inl, inr}
use Rattle.std.proofs.Math.Dec.{T}
use Rattle.document.specs.Lists.{In}
use Rattle.document.specs.Limits.{width}
use Rattle.document.specs.Refusals.{taken}
use Rattle.document.specs.Combinations.{zero_past}
use Rattle.document.specs.OneEvent.{Kept, see, moved_from, kept_after}
use Rattle.document.specs.Property.{Property, in_range, next_state}
use Rattle.document.specs.Session.{Session, seen_of, kept_of, Happened, keeps, reported, outcome, written, step_from, sound}
use Rattle.document.specs.Demands.{Proper}
use Rattle.slices.specs.CombinationsLaws.{zero_past-join}
use Rattle.slices.specs.JoinSeenLaws.{OfWidth}
use Rattle.slices.specs.SeeLaws.{in_see, see_ascends, see-width}
use Rattle.slices.specs.MovesLaws.{in_moved, kept_after_members, kept_after_ascends}
use Rattle.slices.specs.KeptJoinsLaws.{kept_after_joins, kept_after-width, reports_after-width}
use Rattle.slices.specs.PropertyLaws.{ranges}
use Rattle.slices.specs.ProperLaws.{proper_zero_past}
use Rattle.slices.specs.TablesLaws.{KeptWidth}
use Rattle.slices.specs.SessionLaws.{Fits, seen_length_with, kept_length_with}
use Rattle.slices.specs.StepLaws.{stepped, written-length}
use Rattle.slices.specs.CheckLaws.{SoundRows, sounds, of_sounds}

-- The rows -------------------------------------------------------------------------------------------------------------

module _ (p : Property) (r : in_range p ≡ true) (seen : List (List ℕ)) (kept : List Kept) (h : SoundRows p seen kept)
    (widths : OfWidth width seen) (e : ℕ) (b : List ℕ) (q : Proper p e b) where
  abbrev kept_rows : List Kept
  kept_rows = kept_after width (next_state p) e b seen (keeps p) kept

  -- what holds of the rows that move and are kept, and of those that stay, holds of what is kept
  after : (P : Kept → Type 0) → ((k : Kept) → In k kept → P k)
      → ((k : Kept) → In k kept → P (moved_from width (next_state p) e b seen k)) → (k : Kept) → In k kept_rows → P k
  after P stays moves k i =
      elim ((kept_after_members width (next_state p) e b seen kept (keeps p) k).0 i) [
        | inl f ↦
            let m = (in_moved width (next_state p) e b seen kept k).0 f.0 in
            subst P (sym m.is) (moves m.row m.member)
        | inr f ↦ stays k f.0
      ]

  pub rows-after : SoundRows p (see width b seen) (kept_after width (next_state p) e b seen (keeps p) kept)
  unfolding moved_from keeps
  rows-after = record {
    seen_order = see_ascends width b seen h.seen_order;
    kept_order = kept_after_ascends width (next_state p) e b seen kept h.kept_order (keeps p);
    seen_bound = λ x i. elim ((in_see width b seen x).0 i) [ inl j ↦ h.seen_bound x j | inr f ↦ f.1 ];
    seen_past = λ x i. elim ((in_see width b seen x).0 i) [ inl j ↦ h.seen_past x j | inr f ↦ rw f.0 (proper_zero_past p r e b q) ];
    kept_past =
        after (λ k. T (zero_past p.parameters k.combination)) h.kept_past (λ k i.
        zero_past-join p.parameters b k.combination (proper_zero_past p r e b q) (h.kept_past k i));
    range = after (λ k. k.state < p.states) h.range (λ k i. (ranges p r).next k.state e (h.range k i) q.declared);
    hope = λ k i. elim ((kept_after_members width (next_state p) e b seen kept (keeps p) k).0 i) [ inl f ↦ f.1 | inr f ↦ h.hope k f.0 ];
    joins = kept_after_joins width (next_state p) e b seen kept q.width widths h.joins (keeps p);
  }

-- The session ----------------------------------------------------------------------------------------------------------

-- what a step leaves: a session that passes the check, and every table as long as it was
pub record StepSounds (p : Property) (s : Session) (reports : List ℕ) (h : Happened) : Type 0 where
  pub sound : sound p h.session ≡ true
  pub seen_length : length h.session.seen ≡ length s.seen
  pub kept_length : length h.session.kept ≡ length s.kept
  pub reports_length : length h.reports ≡ length reports

pub step_sounds : (from : ℕ) (p : Property) (s : Session) (reports : List ℕ) (e : ℕ) (b : List ℕ) (h : Happened)
    → in_range p ≡ true → sound p s ≡ true → Proper p e b → step_from from p s reports e b ≡ taken h → StepSounds p s reports h
unfolding step_from written outcome
step_sounds from p s reports e b h r t q d =
    let f = sounds p s t in
    let seen = seen_of s in
    let kept = kept_of s in
    let o = outcome p s e b in
    let st = stepped from p s reports o h d in
    let fits : Fits s o.seen o.kept = record {
      seen_width = see-width width b seen q.width f.fits.seen_width;
      kept_width = kept_after-width width (next_state p) e b seen kept q.width f.fits.seen_width f.rows.joins (keeps p);
      seen_rows = st.seen_rows;
      kept_rows = st.kept_rows;
    } in
    let rows = rows-after p r seen kept f.rows f.fits.seen_width e b q in
    let wide : KeptWidth width o.rows =
    reports_after-width width (next_state p) e b seen kept q.width f.fits.seen_width f.rows.joins (reported p) in
    rw (← st.is) (record {
      sound = of_sounds p s o.seen o.kept rows fits;
      seen_length = seen_length_with s o.seen o.kept fits;
      kept_length = kept_length_with s o.seen o.kept fits;
      reports_length = written-length from p s reports o wide st.report_rows;
    })

pub step-sound : (from : ℕ) (p : Property) (s : Session) (reports : List ℕ) (e : ℕ) (b : List ℕ) (h : Happened)
    → in_range p ≡ true → sound p s ≡ true → Proper p e b → step_from from p s reports e b ≡ taken h → sound p h.session ≡ true
step-sound from p s reports e b h r t q d = (step_sounds from p s reports e b h r t q d).sound
