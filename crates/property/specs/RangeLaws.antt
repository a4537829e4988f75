-- Laws of the property table's ranges: what a table that is taken has, and the turns of the loops that check it.
-- Assumes nothing.
use Rattle.std.specs.Prelude.{ℕ, zero, suc, ◌+◌, ◌*◌, ◌^◌, ◌≤◌, ◌<◌, ◌≡◌, refl, Bool, true, false, ◌&&◌, List, [], ◌∷◌, length, get_or, take, drop, ltb}
use Rattle.std.proofs.Common.{arith, sym, ap, ap₂, ◌∙◌, leb-true, length-drop}
use Rattle.std.specs.List.{list_all, range_with_len}
use Rattle.std.proofs.Math.Dec.{leb}
use Rattle.std.proofs.Math.Seq.{take-suc}
use Rattle.std.proofs.Math.Bool.{and_comm}
use Rattle.std.proofs.lemmas.List.{get_or-drop, take_all}
use Rattle.std.proofs.lemmas.List.FromFn.{length-range_with_len, get_or-range_with_len}
use Rattle.std.proofs.lemmas.List.Folds.{list_all-append}
use Rattle.document.specs.Lists.{every_below}
use Rattle.document.specs.Limits.{width, most_events, most_states}
use Rattle.document.specs.Property.{Property, in_range, set_of, next_state, verdict}
use Rattle.basics.specs.Tests.{and_left, and_right}
use Rattle.words.specs.Range.{in_range_range}
use Rattle.property.specs.Meaning.{counts_fit, sets_fit, row_fits, row_passes, rows_fit}
use Rattle.property.specs.Meaning.{Within}

-- a test over all numbers below n, as `all` makes it over the first n entries of a list, and over the numbers themselves
every-entry : (p : ℕ → Bool) (l : List ℕ) (n : ℕ) → n ≤ length l → every_below n (λ k. p (get_or l k 0)) ≡ list_all p (take n l)
unfolding every_below
every-entry p l zero h = refl
every-entry p l (suc n) h =
    rw (take-suc l n 0 h, list_all-append p (take n l) (get_or l n 0 ∷ []))
    (ap (λ (t : Bool). p (get_or l n 0) && t) (every-entry p l n (omega arith)) ∙ and_comm (p (get_or l n 0)) (list_all p (take n l)) ∙ ap (λ (t : Bool). list_all p (take n l) && t) (one (p (get_or l n 0))))
  where
    one : (t : Bool) → t ≡ t && true
    one true = refl
    one false = refl

every-same : (n : ℕ) (f g : ℕ → Bool) → ((k : ℕ) → k < n → f k ≡ g k) → every_below n f ≡ every_below n g
unfolding every_below
every-same zero f g h = refl
every-same (suc n) f g h = ap₂ ◌&&◌ (h n (omega arith)) (every-same n f g (λ k l. h k (omega arith)))

every-number : (p : ℕ → Bool) (n : ℕ) → list_all p (range_with_len 0 n) ≡ every_below n p
every-number p n =
    let l = length-range_with_len 0 n in
    ap (list_all p) (sym (take_all n (range_with_len 0 n) (omega arith)))
    ∙ sym (every-entry p (range_with_len 0 n) n (omega arith))
    ∙ every-same n _ _ (λ k h. ap p (get_or-range_with_len 0 n k 0 h ∙ (let z : 0 + k ≡ k = omega arith in z)))

-- the test is its three parts
in_range_parts : (p : Property) → in_range p ≡ counts_fit p.parameters p.events p.states p.asked
    && sets_fit p.sets p.events p.parameters && rows_fit p.next p.verdicts p.events p.states p.states
unfolding in_range counts_fit sets_fit rows_fit row_fits set_of next_state verdict
in_range_parts p = refl

pub in_range_within : (p : Property) → in_range p ≡ true → Within p.next p.events p.states
unfolding next_state
in_range_within p h = let g = in_range_range p h in record { few_events_lem = g.few_events; few_states_lem = g.few_states; entry = g.next }

-- The sets, and the states of a row, as `all` tests them.
pub sets_all : (sets : List ℕ) (n k bound : ℕ) (r : Bool) → n ≤ length sets → bound ≡ 2 ^ k
    → r ≡ list_all (λ (x : ℕ). ltb x bound) (take n sets) → r ≡ sets_fit sets n k
unfolding sets_fit
sets_all sets n k bound r h b q = q ∙ sym (every-entry (λ (x : ℕ). ltb x bound) sets n h) ∙ ap (λ (y : ℕ). every_below n (λ e. ltb (get_or sets e 0) y)) b

pub row_all : (next : List ℕ) (n m states s : ℕ) (r : Bool) → s * most_events + n ≤ length next → m ≡ n
    → r ≡ list_all (λ (x : ℕ). ltb x states) (take m (drop (s * most_events) next)) → r ≡ row_fits next n states s
unfolding row_fits
row_all next n m states s r h e q =
    q ∙ ap (λ (k : ℕ). list_all (λ (x : ℕ). ltb x states) (take k (drop (s * most_events) next))) e ∙ sym (every-entry (λ (x : ℕ). ltb x states) (drop (s * most_events) next) n (let l = length-drop (s * most_events) next in omega arith))
    ∙ every-same n _ _ (λ e l. ap (λ (x : ℕ). ltb x states) (get_or-drop (s * most_events) next e 0))

-- The whole check: the parts in their order.
pub in_range_is : (p : Property) (b d r : Bool) → b ≡ counts_fit p.parameters p.events p.states p.asked → b ≡ true
    → d ≡ sets_fit p.sets p.events p.parameters → d ≡ true → r ≡ list_all (row_passes p) (range_with_len 0 p.states) → r ≡ in_range p
unfolding rows_fit
in_range_is p b d r q t u v w = w ∙ every-number (row_passes p) p.states ∙ sym (in_range_parts p ∙ rw (sym q ∙ t, sym u ∙ v))

pub in_range_not : (p : Property) (b d : Bool) → b ≡ counts_fit p.parameters p.events p.states p.asked → b ≡ true
    → d ≡ sets_fit p.sets p.events p.parameters → d ≡ false → d ≡ in_range p
in_range_not p b d q t u v = v ∙ sym (in_range_parts p ∙ rw (sym q ∙ t, sym u ∙ v))

pub in_range_none : (p : Property) (b : Bool) → b ≡ counts_fit p.parameters p.events p.states p.asked → b ≡ false → false ≡ in_range p
in_range_none p b q t = sym (in_range_parts p ∙ rw (sym q ∙ t))

-- counts that fit are within the limits
pub counts_say : (p e s a : ℕ) (b : Bool) → b ≡ counts_fit p e s a → b ≡ true → (p ≤ width) × (e ≤ most_events) × (s ≤ most_states)
unfolding counts_fit
counts_say p e s a b q t =
    let x = leb p width in
    let y = leb 1 e && leb e most_events in
    let z = leb 1 s && leb s most_states in
    let d = and_left (x && y && z) (leb 1 a && leb a 3) (sym q ∙ t) in
    let f = and_left (x && y) z d in (
      leb-true p width (and_left x y f),
      leb-true e most_events (and_right (leb 1 e) (leb e most_events) (and_right x y f)),
      leb-true s most_states (and_right (leb 1 s) (leb s most_states) (and_right (x && y) z d)),
    )
