-- From the session check to what the step needs, and from the step over what a run works out to the document's step.
-- Assumes nothing.
use Rattle.std.specs.Prelude.{ℕ, zero, suc, ◌+◌, ◌-◌, ◌*◌, ◌<◌, ◌≤◌, ◌≡◌, refl, Bool, true, ◌&&◌, List, [], ◌∷◌, eqb, ltb, length, get_or, take, drop}
use Rattle.std.proofs.Common.{sym, ◌∙◌, inl, inr, arith, ltb→lt, length-take, length-drop, get_or-take, get_or-drop, eqb-true, lt-ltb}
use Rattle.std.proofs.Math.Path.{ap}
use Rattle.document.specs.Lists.{In, every, keep_if, equal}
use Rattle.document.specs.Limits.{width, seen_stride, kept_stride}
use Rattle.document.specs.Property.{Property, in_range, next_state, verdict, hopeful}
use Rattle.document.specs.OneEvent.{Kept, join_seen, in_order, moves, moved_from, moved, see, kept_after, reports_after}
use Rattle.document.specs.Tables.{seen_room, kept_room, seen_rows, kept_rows}
use Rattle.document.specs.Session.{Session, seen_of, kept_of, zero_between, kept_combinations, sound, keeps, reported, report_numbers, outcome, written, within_rooms, step_from}
use Rattle.words.specs.Range.{in_range_range}
use Rattle.slices.specs.TestsLaws.{so, true_of, and_of, equal_of, every_of}
use Rattle.slices.specs.ListsLaws.{in_keep_if, in_map}
use Rattle.slices.specs.OrderLaws.{combinations, ascending_of}
use Rattle.slices.specs.SessionLaws.{seen_room-holds, kept_room-holds}
use Rattle.slices.specs.SessionBackLaws.{kept_of-width}
use Rattle.hopes.specs.Hoping.{Asks, Hopes}
use Rattle.judge.specs.Sound.{rightly_kept_by, sound_by-sound, session_of}
use Rattle.judge.specs.SoundLaws.{Clauses, clauses_of}
use Rattle.tables.specs.Tables.{kept_from}
use Rattle.tables.specs.TablesLaws.{kept_rows_lem}
use Rattle.moves.specs.Steps.{step_of, state_in, outcome_by}
use Rattle.moves.specs.Ready.{Steady}
use Rattle.writing.specs.Writing.{report_numbers_by, written_by}
use Rattle.steps.specs.Steps.{within_rooms_by, step_by}

all_zero : (l : List ℕ) → every (λ x. eqb x 0) l ≡ true → (k : ℕ) → k < length l → get_or l k 0 ≡ 0
unfolding every
all_zero [] e k h = absurd (omega arith)
all_zero (x ∷ l) e zero h = eqb-true x 0 (true_of (eqb x 0) (and_of (eqb x 0) (every (λ x. eqb x 0) l) (so e)).0)
all_zero (x ∷ l) e (suc k) h = all_zero l (true_of (every (λ x. eqb x 0) l) (and_of (eqb x 0) (every (λ x. eqb x 0) l) (so e)).1) k (omega arith)

pub zero-between : (from to : ℕ) (t : List ℕ) → to ≤ length t → zero_between from to t ≡ true → (k : ℕ) → from ≤ k → k < to → get_or t k 0 ≡ 0
unfolding zero_between
zero-between from to t l e k g h =
    let q : from + (k - from) ≡ k = omega arith in
    ap (λ (x : ℕ). get_or t x 0) (sym q) ∙ sym (get_or-drop from t (k - from) 0) ∙ sym (get_or-take (to - from) (drop from t) (k - from) 0 (omega arith))
    ∙ all_zero (take (to - from) (drop from t)) e (k - from) (simp (length-take, length-drop) (omega arith))

-- The check gives what the step needs ----------------------------------------------------------------------------------

module _ (p : Property) (r : in_range p ≡ true) (n m : ℕ) (seen kept : List ℕ) (s : sound p (session_of n m seen kept) ≡ true) where
  c₀ : Clauses p.parameters p.states (hopeful p) (session_of n m seen kept)
  c₀ = clauses_of p.parameters p.states (hopeful p) (session_of n m seen kept) (sound_by-sound p (session_of n m seen kept) ∙ s)

  pub rightly : (k : Kept) → In k (kept_rows m kept) → (k.state < p.states) × (join_seen width k.combination (seen_rows n seen) ≡ k.combination)
  unfolding rightly_kept_by kept_of seen_of
  rightly k i =
      let e = every_of (rightly_kept_by p.states (hopeful p) (seen_rows n seen)) (kept_rows m kept) (so c₀.rightly) k i in
      let f = and_of (ltb k.state p.states && hopeful p k.state) (equal (join_seen width k.combination (seen_rows n seen)) k.combination) e in
      let g = and_of (ltb k.state p.states) (hopeful p k.state) f.0 in
      (ltb→lt k.state p.states g.0, equal_of (join_seen width k.combination (seen_rows n seen)) k.combination f.1)

  pub kept_range : (k : Kept) → In k (kept_rows m kept) → k.state < p.states
  kept_range k i = (rightly k i).0

  pub sound_steady : (e : ℕ) → e < p.events → Steady p.next p.states e n m seen kept
  unfolding seen_of kept_of kept_combinations step_of next_state
  sound_steady e h =
      let g = in_range_range p r in
      let in₀ : (k : Kept) → In k (kept_from m kept 0) → In k (kept_rows m kept) = λ k i. rw (kept_rows_lem m kept) at i in
      record {
        moves = record { few = g.few_states; event = let x = g.few_events in omega arith; onward = λ x y. g.next x e y h };
        table = record { inside = let x = c₀.seen_fits in let y = seen_room-holds seen in omega arith; order = c₀.seen_order };
        rows = record {
          inside = let x = c₀.kept_fits in let y = kept_room-holds kept in omega arith;
          order = rw (kept_rows_lem m kept) (ascending_of (combinations (kept_rows m kept)) c₀.kept_order);
          right = λ k i. record { wide = kept_of-width (session_of n m seen kept) k (in₀ k i); joins = (rightly k (in₀ k i)).1 };
          within = λ k i. (rightly k (in₀ k i)).0;
        };
        seen_fits = c₀.seen_fits;
        kept_fits = c₀.kept_fits;
        seen_zero = zero-between (n * seen_stride) (seen_room seen * seen_stride) seen (seen_room-holds seen) c₀.seen_zero;
        kept_zero = zero-between (m * kept_stride) (kept_room kept * kept_stride) kept (kept_room-holds kept) c₀.kept_zero;
      }

-- The step is the document's -------------------------------------------------------------------------------------------

keep_if_same : {A : Type 0} (p q : A → Bool) (l : List A) → ((x : A) → In x l → p x ≡ q x) → keep_if p l ≡ keep_if q l
unfolding keep_if
keep_if_same p q [] f = refl
keep_if_same p q (x ∷ l) f = rw (f x (inl refl), keep_if_same p q l (λ y i. f y (inr i)))

module _ (p : Property) (r : in_range p ≡ true) (hopes asks : ℕ) (h : Hopes p hopes) (a : Asks p asks) (s : Session)
    (range : (k : Kept) → In k (kept_of s) → k.state < p.states) (e : ℕ) (d : e < p.events) (b : List ℕ) where
  keeps_same : state_in hopes ≡ keeps p
  unfolding state_in keeps
  keeps_same = λ i k. h.says k.state i

  moved_range : (k : Kept) → In k (moved width (next_state p) e b (seen_of s) (kept_of s)) → k.state < p.states
  unfolding moved moved_from
  moved_range k i =
      let m = (in_map (moved_from width (next_state p) e b (seen_of s)) (keep_if (moves width (next_state p) e b (seen_of s)) (kept_of s)) k).0 i in
      let f = (in_keep_if (moves width (next_state p) e b (seen_of s)) (kept_of s) m.of).0 m.member in
      rw m.is ((in_range_range p r).next m.of.state e (range m.of f.0) d)

  reported_same : keep_if (state_in asks) (moved width (next_state p) e b (seen_of s) (kept_of s)) ≡ keep_if (reported p) (moved width (next_state p) e b (seen_of s) (kept_of s))
  unfolding state_in reported
  reported_same =
      keep_if_same (state_in asks) (reported p) (moved width (next_state p) e b (seen_of s) (kept_of s)) (λ k i.
      a.says k.state ∙ rw (lt-ltb k.state p.states (moved_range k i)))

  outcome_same : outcome_by p.next hopes asks (seen_of s) (kept_of s) e b ≡ outcome p s e b
  unfolding outcome_by outcome step_of next_state reports_after
  outcome_same =
      λ i. record {
        seen = see width b (seen_of s);
        kept = kept_after width (next_state p) e b (seen_of s) (keeps_same i) (kept_of s);
        rows = in_order (reported_same i);
      }

  pub step_same : (from : ℕ) (reports : List ℕ) → step_by p.next p.verdicts hopes asks from s reports e b ≡ step_from from p s reports e b
  unfolding step_by step_from within_rooms_by within_rooms written_by written report_numbers_by report_numbers verdict
  step_same from reports = ap (within_rooms_by p.verdicts from s reports) outcome_same
