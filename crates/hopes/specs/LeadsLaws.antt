-- Laws of the hopeful states: the turns of the loops over words of bits, what a round is to the definition's rounds, and
-- that a round which finds nothing new is the last that finds any.
-- Assumes nothing.
use Rattle.std.specs.Prelude.{ℕ, zero, suc, ◌+◌, ◌-◌, ◌*◌, ◌^◌, ◌≤◌, ◌<◌, ◌≡◌, refl, Bool, true, false, ◌&&◌, ◌||◌, List, length, get_or, take, set, replicate, ltb}
use Rattle.std.proofs.Common.{arith, add-one, sym, ap, ap₂, ◌∙◌, inl, inr, length-take-le, get_or-take, get_or-set_same, get_or-set_other, ext_get_or, pow_mono, lt-ltb, ltb-true, ltb-false}
use Rattle.std.proofs.Math.Decide.{ℕ_discrete}
use Rattle.std.proofs.Math.Bool.{or_comm, or-true, or-false}
use Rattle.std.proofs.lemmas.List.{length-replicate}
use Rattle.std.specs.Int.Bits.{bit_or}
use Rattle.document.specs.Lists.{every_below, some_below, tabulate}
use Rattle.document.specs.Limits.{most_events}
use Rattle.document.specs.Positions.{holds}
use Rattle.document.specs.Property.{Property, in_range, next_state, verdict, asks_for, is_asked, leads_in, leads_after, leads, every_event, hopeful}
use Rattle.basics.specs.Tests.{decided}
use Rattle.basics.specs.Sets.{holds_or, holds_high, holds-zero, holds_pow_same, holds_pow_other}
use Rattle.basics.specs.Lists.{tabulate_at, length-tabulate, tabulate-past, tabulate_same}
use Rattle.words.specs.Range.{InRange, in_range_range, below_every}
use Rattle.bits.specs.Bits.{meets}
use Rattle.bits.specs.BitsLaws.{meets-zero, meets_or, meets_pow}
use Rattle.hopes.specs.Hoping.{Asks, Leading, Hopes}
use Rattle.hopes.specs.Steps.{Those, Ways, AllWays, Round, Reached}

-- Tests of the numbers below n, by what each is.
pub some_same : (n : ℕ) (f g : ℕ → Bool) → ((k : ℕ) → k < n → f k ≡ g k) → some_below n f ≡ some_below n g
unfolding some_below
some_same zero f g h = refl
some_same (suc n) f g h = ap₂ ◌||◌ (h n (omega arith)) (some_same n f g (λ k l. h k (omega arith)))

some_next : (n : ℕ) (f : ℕ → Bool) → some_below (n + 1) f ≡ f n || some_below n f
unfolding some_below
some_next n f = rw add-one

none_down : (n s : ℕ) → get_or (replicate n false) s false ≡ false
none_down zero s = refl
none_down (suc n) zero = refl
none_down (suc n) (suc s) = none_down n s

-- The numbers below n that pass a test, one number more.
module _ (says : ℕ → Bool → Type 0) where
  pub those_none : Those says 0 0
  those_none = record { each = λ s h. absurd (omega arith); past = λ s h. holds-zero s }

  pub those_held : (n r one : ℕ) → Those says n r → says n true → one ≡ 2 ^ n → Those says (n + 1) (bit_or r one)
  those_held n r one t h o = record {
    each = λ s l. elim (ℕ_discrete s n) [
      | yes q ↦ let z : holds (bit_or r one) s ≡ true = rw (q, o) (holds_or r (2 ^ n) n ∙ ap (λ (b : Bool). holds r n || b) (holds_pow_same n) ∙ or-true (holds r n)) in rw (z, q) h
      | no q ↦ rw (other s q) (t.each s (omega arith))
    ];
    past = λ s l. other s (λ (q : s ≡ n). omega arith) ∙ t.past s (omega arith);
  }
    where
      other : (s : ℕ) → (s ≡ n → ⊥) → holds (bit_or r one) s ≡ holds r s
      other s q = rw o (holds_or r (2 ^ n) s ∙ ap (λ (b : Bool). holds r s || b) (holds_pow_other n s q) ∙ or-false (holds r s))

  pub those_other : (n r : ℕ) → Those says n r → says n false → Those says (n + 1) r
  those_other n r t h = record {
    each = λ s l. elim (ℕ_discrete s n) [
      | yes q ↦ rw (q, t.past n (omega arith)) h
      | no q ↦ t.each s (omega arith)
    ];
    past = λ s l. t.past s (omega arith);
  }

  pub those_all : (n m r : ℕ) → Those says n r → n ≤ m → m ≤ n → Those says m r
  those_all n m r t h l = let z : n ≡ m = omega arith in rw z at t

  -- what the set holds, where the test is a definition's
  those_says : (f : ℕ → Bool) (n r : ℕ) → Those says n r → ((s : ℕ) (b : Bool) → says s b → b ≡ f s) → (s : ℕ) → holds r s ≡ (ltb s n && f s)
  those_says f n r t e s = elim (decided (ltb s n)) [
    | inl l ↦ rw l (e s (holds r s) (t.each s (ltb-true s n l)))
    | inr l ↦ rw l (t.past s (ltb-false s n l))
  ]

  -- the states whose verdict is asked for; one round
  pub those_asked : (p : Property) (r : ℕ) → Those says p.states r → ((s : ℕ) (b : Bool) → says s b → b ≡ asks_for p.asked (get_or p.verdicts s 0)) → Asks p r
  unfolding is_asked verdict
  those_asked p r t e = record { says = those_says (λ s. asks_for p.asked (get_or p.verdicts s 0)) p.states r t e }

  pub those_meet : (ways : List ℕ) (goal n r : ℕ) → Those says n r → ((s : ℕ) (b : Bool) → says s b → b ≡ meets (get_or ways s 0) goal) → Round ways goal n r
  those_meet ways goal n r t e = record { says = those_says (λ s. meets (get_or ways s 0) goal) n r t e }

-- The ways from one state, and from all.
pub ways_none : (next : List ℕ) (allowed s : ℕ) → Ways next allowed 0 s 0
unfolding some_below
ways_none next allowed s = record { says = meets-zero }

pub ways_held : (next : List ℕ) (allowed e s found to one : ℕ) (h : Bool) → Ways next allowed e s found
    → to ≡ get_or next (s * most_events + e) 0 → h ≡ holds allowed e → h ≡ true → one ≡ 2 ^ to → Ways next allowed (e + 1) s (bit_or found one)
ways_held next allowed e s found to one h g q a t o = record {
  says = λ goal.
      meets_or found one goal
      ∙ ap₂ ◌||◌ (g.says goal) (ap (λ (x : ℕ). meets x goal) o ∙ meets_pow to goal ∙ ap (holds goal) q)
      ∙ or_comm (some_below e (λ i. holds allowed i && holds goal (get_or next (s * most_events + i) 0))) (holds goal (get_or next (s * most_events + e) 0))
      ∙ sym (some_next e (λ i. holds allowed i && holds goal (get_or next (s * most_events + i) 0))
      ∙ ap (λ (b : Bool). (b && holds goal (get_or next (s * most_events + e) 0)) || some_below e (λ i. holds allowed i && holds goal (get_or next (s * most_events + i) 0))) (sym a ∙ t));
}

pub ways_other : (next : List ℕ) (allowed e s found : ℕ) (h : Bool) → Ways next allowed e s found → h ≡ holds allowed e → h ≡ false
    → Ways next allowed (e + 1) s found
ways_other next allowed e s found h g a t = record {
  says = λ goal.
      g.says goal
      ∙ sym (some_next e (λ i. holds allowed i && holds goal (get_or next (s * most_events + i) 0))
      ∙ ap (λ (b : Bool). (b && holds goal (get_or next (s * most_events + e) 0)) || some_below e (λ i. holds allowed i && holds goal (get_or next (s * most_events + i) 0))) (sym a ∙ t));
}

pub ways_all : (next : List ℕ) (allowed n m s r : ℕ) → Ways next allowed n s r → n ≤ m → m ≤ n → Ways next allowed m s r
ways_all next allowed n m s r g h l = let z : n ≡ m = omega arith in rw z at g

pub all_ways_none : (next : List ℕ) (allowed events : ℕ) (r : List ℕ) → AllWays next allowed events 0 r
all_ways_none next allowed events r = record { way = λ s l. absurd (omega arith) }

pub all_ways_more : (next : List ℕ) (allowed events s v : ℕ) (r : List ℕ) → AllWays next allowed events s r → s < length r
    → Ways next allowed events s v → AllWays next allowed events (s + 1) (set r s v)
all_ways_more next allowed events s v r g l h = record {
  way = λ k b. elim (ℕ_discrete k s) [
    | yes q ↦ rw (q, get_or-set_same r s v 0 l) h
    | no q ↦ rw (get_or-set_other r s k v 0 q) (g.way k (omega arith))
  ];
}

pub all_ways_all : (next : List ℕ) (allowed events n m : ℕ) (r : List ℕ) → AllWays next allowed events n r → n ≤ m → m ≤ n → AllWays next allowed events m r
all_ways_all next allowed events n m r g h l = let z : n ≡ m = omega arith in rw z at g

-- The rounds: so many are done, and what was found is what the definition finds in them, whatever table has these ways.
pub record Rounds (ways : List ℕ) (states marked done found : ℕ) : Type 0 where
  pub few : done ≤ states
  pub finds : (p : Property) (allowed : ℕ) → states ≡ p.states → AllWays p.next allowed p.events states ways
      → (s : ℕ) → holds found s ≡ get_or (leads_after p (holds marked) (holds allowed) done) s false

pub rounds_begin : (ways : List ℕ) (states marked : ℕ) → Rounds ways states marked 0 0
unfolding leads_after
rounds_begin ways states marked = record {
  few = omega arith;
  finds = λ p allowed e a s. holds-zero s ∙ sym (none_down p.states s);
}

after-length : (p : Property) (marked allowed : ℕ → Bool) (n : ℕ) → length (leads_after p marked allowed n) ≡ p.states
unfolding leads_after
after-length p marked allowed zero = length-replicate p.states false
after-length p marked allowed (suc n) = length-tabulate p.states (leads_in p marked allowed (leads_after p marked allowed n))

-- a round on bits is a round of the definition
round_finds : (p : Property) (marked allowed found more n : ℕ) (ways : List ℕ) → AllWays p.next allowed p.events p.states ways
    → Round ways (bit_or marked found) p.states more
    → ((s : ℕ) → holds found s ≡ get_or (leads_after p (holds marked) (holds allowed) n) s false)
    → (s : ℕ) → holds more s ≡ get_or (leads_after p (holds marked) (holds allowed) (suc n)) s false
unfolding leads_after leads_in next_state
round_finds p marked allowed found more n ways a r f s = elim (decided (ltb s p.states)) [
  | inl l ↦
      let h = ltb-true s p.states l in
      r.says s
      ∙ ap (λ (t : Bool). t && meets (get_or ways s 0) (bit_or marked found)) l
      ∙ (a.way s h).says (bit_or marked found)
      ∙ some_same p.events _ _ (λ e m. ap (λ (t : Bool). holds allowed e && t)
      (holds_or marked found (get_or p.next (s * most_events + e) 0)
      ∙ ap (λ (t : Bool). holds marked (get_or p.next (s * most_events + e) 0) || t) (f (get_or p.next (s * most_events + e) 0))))
      ∙ sym (tabulate_at p.states (leads_in p (holds marked) (holds allowed) (leads_after p (holds marked) (holds allowed) n)) s false h)
  | inr l ↦
      r.says s
      ∙ ap (λ (t : Bool). t && meets (get_or ways s 0) (bit_or marked found)) l
      ∙ sym (tabulate-past p.states (leads_in p (holds marked) (holds allowed) (leads_after p (holds marked) (holds allowed) n)) s false (ltb-false s p.states l))
]

pub rounds_turn : (ways : List ℕ) (states marked done found more : ℕ) → Rounds ways states marked done found → done < states
    → Round ways (bit_or marked found) states more → Rounds ways states marked (done + 1) more
rounds_turn ways states marked done found more g h r = record {
  few = omega arith;
  finds = λ p allowed e a s. rw add-one (round_finds p marked allowed found more done ways (rw e at a) (rw e at r) (g.finds p allowed e a) s);
}

pub rounds_end : (ways : List ℕ) (states marked done found : ℕ) → Rounds ways states marked done found → states ≤ done → Reached ways states marked found
unfolding leads
rounds_end ways states marked done found g h = let few = g.few in record {
  says = λ p allowed e a.
      let z : done ≡ p.states = omega arith in
      record { says = λ s. rw z at (g.finds p allowed e a s) };
}

-- a round that finds nothing new is the last that does
after-stays : (p : Property) (marked allowed : ℕ → Bool) (n k : ℕ) → leads_after p marked allowed (suc n) ≡ leads_after p marked allowed n
    → leads_after p marked allowed (k + n) ≡ leads_after p marked allowed n
unfolding leads_after
after-stays p marked allowed n zero e = let z : 0 + n ≡ n = omega arith in rw z
after-stays p marked allowed n (suc k) e =
    let z : suc k + n ≡ suc (k + n) = omega arith in
    rw z (ap (λ (l : List Bool). tabulate p.states (leads_in p marked allowed l)) (after-stays p marked allowed n k e) ∙ e)

stays : (p : Property) (marked allowed done found more : ℕ) (ways : List ℕ) → done ≤ p.states → AllWays p.next allowed p.events p.states ways
    → Round ways (bit_or marked found) p.states more → more ≡ found
    → ((s : ℕ) → holds found s ≡ get_or (leads_after p (holds marked) (holds allowed) done) s false) → Leading p marked allowed found
unfolding leads
stays p marked allowed done found more ways few a r q f =
    let e : leads_after p (holds marked) (holds allowed) (suc done) ≡ leads_after p (holds marked) (holds allowed) done =
    ext_get_or false _ _ (after-length p (holds marked) (holds allowed) (suc done) ∙ sym (after-length p (holds marked) (holds allowed) done))
    (λ s l. sym (round_finds p marked allowed found more done ways a r f s) ∙ ap (λ (x : ℕ). holds x s) q ∙ f s) in
    let z : p.states - done + done ≡ p.states = omega arith in
    let g = rw z at (after-stays p (holds marked) (holds allowed) done (p.states - done) e) in
    record { says = λ s. f s ∙ ap (λ (l : List Bool). get_or l s false) (sym g) }

pub rounds_same : (ways : List ℕ) (states marked done found more : ℕ) → Rounds ways states marked done found
    → Round ways (bit_or marked found) states more → more ≡ found → Reached ways states marked found
rounds_same ways states marked done found more g r q = let few = g.few in record {
  says = λ p allowed e a.
      stays p marked allowed done found more ways (omega arith) (rw e at a) (rw e at r) q (g.finds p allowed e a);
}

pub reached_leads : (p : Property) (ways : List ℕ) (marked allowed r : ℕ) → AllWays p.next allowed p.events p.states ways
    → p.states ≤ length ways → Reached (take p.states ways) (length (take p.states ways)) marked r → Leading p marked allowed r
reached_leads p ways marked allowed r a l g =
    let n : length (take p.states ways) ≡ p.states = length-take-le p.states ways l in
    let b : AllWays p.next allowed p.events p.states (take p.states ways) = record { way = λ s h. rw (get_or-take p.states ways s 0 h) (a.way s h) } in
    g.says p allowed n (rw n b)

-- What is found depends on what is marked among the states and what is allowed among the events, and on nothing else.
pub leads_same : (p : Property) (marked marked' allowed allowed' : ℕ → Bool) → InRange p → ((s : ℕ) → s < p.states → marked s ≡ marked' s)
    → ((e : ℕ) → e < p.events → allowed e ≡ allowed' e) → (n : ℕ) → leads_after p marked allowed n ≡ leads_after p marked' allowed' n
unfolding leads_after leads_in
leads_same p marked marked' allowed allowed' g m a zero = refl
leads_same p marked marked' allowed allowed' g m a (suc n) =
    rw (leads_same p marked marked' allowed allowed' g m a n)
    (tabulate_same p.states _ _ (λ s h. some_same p.events _ _ (λ e l. ap₂ ◌&&◌ (a e l)
    (ap (λ (t : Bool). t || get_or (leads_after p marked' allowed' n) (next_state p s e) false) (m (next_state p s e) (g.next s e h l))))))

-- every event that can be declared is allowed
every-event : (e : ℕ) → e < most_events → holds 65535 e ≡ true
unfolding every_below
every-event e h = below_every 16 (holds 65535) refl e h

pub hopes_of : (p : Property) (marked r : ℕ) → in_range p ≡ true → Asks p marked → Leading p marked 65535 r → Hopes p r
unfolding hopeful leads
hopes_of p marked r h a l =
    let g = in_range_range p h in
    let few = g.few_events in
    let e = leads_same p (holds marked) (is_asked p) (holds 65535) every_event g
    (λ s m. a.says s ∙ ap (λ (t : Bool). t && is_asked p s) (lt-ltb s p.states m))
    (λ k m. every-event k (omega arith)) p.states in
    record { says = λ s. l.says s ∙ ap (λ (x : List Bool). get_or x s false) e }

-- The test whether a verdict is asked for.
pub asks_undecided : (asked v : ℕ) → v < 1 → false ≡ asks_for asked v
unfolding asks_for
asks_undecided asked zero h = refl
asks_undecided asked (suc v) h = absurd (omega arith)

pub asks_past : (asked v : ℕ) → asked < 256 → 8 < v → false ≡ asks_for asked v
unfolding asks_for
asks_past asked zero a h = refl
asks_past asked (suc v) a h = sym (holds_high asked v (omega (arith, pow_mono {i = 8} {j = v} (omega arith))))

pub asks_at : (asked v a w : ℕ) (r : Bool) → 1 ≤ v → a ≡ asked → w ≡ v → r ≡ holds a (w - 1) → r ≡ asks_for asked v
unfolding asks_for
asks_at asked zero a w r n p q e = absurd (omega arith)
asks_at asked (suc v) a w r n p q e = let z : suc v - 1 ≡ v = omega arith in e ∙ rw (p, q, z)
