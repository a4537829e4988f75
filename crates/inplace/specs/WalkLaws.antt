-- The turns of the walk over the rows that may include the binding.
-- Assumes nothing.
use Rattle.std.specs.Prelude.{ℕ, zero, suc, ◌+◌, ◌-◌, ◌*◌, ◌<◌, ◌≤◌, ◌≡◌, refl, Bool, true, ◌&&◌, List, [], ◌∷◌, ◌++◌, length, get_or, set}
use Rattle.std.proofs.Math.Path.{sym, ap}
use Rattle.std.proofs.Common.{subst, ◌∙◌, arith, zero-add, length-set}
use Rattle.std.proofs.Math.Bool.{false}
use Rattle.document.specs.Lists.{In, cons_if}
use Rattle.document.specs.Limits.{width, kept_stride, most_states}
use Rattle.document.specs.Positions.{holds}
use Rattle.document.specs.Combinations.{includes}
use Rattle.document.specs.OneEvent.{Kept}
use Rattle.document.specs.Tables.{numbers_at}
use Rattle.slices.specs.TablesLaws.{kept_at}
use Rattle.ordered.specs.WritesLaws.{stays_put, state_put}
use Rattle.slices.specs.TestsLaws.{so, not_so}
use Rattle.tables.specs.Tables.{kept_from}
use Rattle.tables.specs.TablesLaws.{kept_more, row_move}
use Rattle.moves.specs.Steps.{step_of, state_in}
use Rattle.keeping.specs.Keeping.{SettleReady}
use Rattle.keeping.specs.SiftLaws.{settle_stays, settle_moves, sifting_ready, sifting_turn}
use Rattle.spans.specs.Spans.{Agree, Spans, LastBound, NextFound, Agrees, Movable}
use Rattle.inplace.specs.InPlace.{moved_on, told, Walking, WalksTo, MovedInPlace}
use Rattle.inplace.specs.ToldLaws.{told_append, told_none, sifted_none}
use Rattle.spans.specs.AgreeLaws.{differs, agree_bound, rows_in_lem}

-- One row --------------------------------------------------------------------------------------------------------------

module _ (next : List ℕ) (states hopes asks e m i : ℕ) (b t₀ t : List ℕ) (u : Walking next states hopes asks e m i b t₀ t) (h : i < m) where
  ready : SettleReady next states e i i b t
  ready = sifting_ready next states hopes e m i i b t₀ t u.sifts h

  row_same : kept_at width t (i * kept_stride) ≡ kept_at width t₀ (i * kept_stride)
  row_same = row_move t₀ t (i * kept_stride) (i * kept_stride) (λ k g. u.sifts.rest (i * kept_stride + k) (omega arith))

  told_more : told (step_of next) e b (state_in asks) (kept_from (i + 1) t₀ 0)
      ≡ told (step_of next) e b (state_in asks) (kept_from i t₀ 0)
      ++ cons_if (includes (numbers_at width t (i * kept_stride)) b && holds asks (step_of next (get_or t (i * kept_stride + width) 0) e))
      (record { combination = numbers_at width t (i * kept_stride); state = step_of next (get_or t (i * kept_stride + width) 0) e }) []
  unfolding told moved_on state_in
  told_more =
      ap (told (step_of next) e b (state_in asks)) (kept_more i t₀ 0 ∙ ap (λ (x : ℕ). kept_from i t₀ 0 ++ (kept_at width t₀ x ∷ [])) (zero-add (i * kept_stride)))
      ∙ told_append (step_of next) e b (state_in asks) (kept_from i t₀ 0) (kept_at width t₀ (i * kept_stride) ∷ [])
      ∙ ap (λ (k : Kept). told (step_of next) e b (state_in asks) (kept_from i t₀ 0) ++ told (step_of next) e b (state_in asks) (k ∷ [])) (sym row_same)

  pub walking_state : get_or t (i * kept_stride + width) 0 < most_states
  walking_state = let w = ready.within in let f = ready.moves.few in omega arith

  pub walking_onward : (to : ℕ) → to ≡ step_of next (get_or t (i * kept_stride + width) 0) e → to < most_states
  walking_onward to q =
      let w = ready.moves.onward (get_or t (i * kept_stride + width) 0) ready.within in
      let l = ready.moves.few in
      rw q (omega arith)

  pub walking_stays : includes (numbers_at width t (i * kept_stride)) b ≡ false → Walking next states hopes asks e m (i + 1) b t₀ t
  walking_stays z = record {
    sifts = sifting_turn next states hopes e m i i b t₀ t u.sifts t (i + 1) h refl
        (settle_stays next states hopes e i i b t ready false (sym z) refl t (stays_put i i t refl));
    silent = rw (z, u.silent) at told_more;
  }

  walking_moves : includes (numbers_at width t (i * kept_stride)) b ≡ true → (to : ℕ) → to ≡ step_of next (get_or t (i * kept_stride + width) 0) e → holds hopes to ≡ true
      → holds asks to ≡ false → Walking next states hopes asks e m (i + 1) b t₀ (set t (i * kept_stride + width) to)
  walking_moves z to q g y = record {
    sifts = sifting_turn next states hopes e m i i b t₀ t u.sifts (set t (i * kept_stride + width) to) (i + 1) h (length-set t (i * kept_stride + width) to)
        (settle_moves next states hopes e i i b t ready true (sym z) refl to (set t (i * kept_stride + width) to) (i + 1) q (record {
          goes = λ n. (refl, state_put (i * kept_stride) to t (let x = ready.inside in omega arith));
          drops = λ n. absurd (not_so n (so g));
        }));
    silent = rw (z, ← q, y, u.silent) at told_more;
  }

-- From row to row ------------------------------------------------------------------------------------------------------

module _ (next : List ℕ) (states hopes asks e m : ℕ) (b t₀ : List ℕ) where
  walking_passes : (n i : ℕ) (t : List ℕ) → Walking next states hopes asks e m i b t₀ t → i + n ≤ m
      → ((k : ℕ) → i ≤ k → k < i + n → includes (numbers_at width t (k * kept_stride)) b ≡ false) → Walking next states hopes asks e m (i + n) b t₀ t
  walking_passes zero i t u h f = subst (λ (x : ℕ). Walking next states hopes asks e m x b t₀ t) (omega arith) u
  walking_passes (suc n) i t u h f =
      let q : i + 1 + n ≡ i + suc n = omega arith in
      subst (λ (x : ℕ). Walking next states hopes asks e m x b t₀ t) q
      (walking_passes n (i + 1) t (walking_stays next states hopes asks e m i b t₀ t u (omega arith) (f i (omega arith) (omega arith))) (omega arith) (λ k g l. f k (omega arith) (omega arith)))

  -- the rows up to the next that has the binding's last number are passed
  walking_on : (last number i end r : ℕ) (t : List ℕ) → Walking next states hopes asks e m i b t₀ t → end ≤ m → LastBound b last → number ≡ get_or b last 0 → (number ≡ 0 → ⊥)
      → NextFound t i end last number r → Walking next states hopes asks e m r b t₀ t
  walking_on last number i end r t u h l q z f =
      let p = f.up in
      let w = f.within in
      let s : i + (r - i) ≡ r = omega arith in
      subst (λ (x : ℕ). Walking next states hopes asks e m x b t₀ t) s
      (walking_passes (r - i) i t u (omega arith) (λ k g y.
      differs t (k * kept_stride) b last l.within (λ x. z (q ∙ x)) (λ x. f.passed k g (omega arith) (x ∙ sym q))))

  pub walking_begins : (low : ℕ) → Movable next states e m b t₀ → low ≤ m → ((k : ℕ) → k < low → includes (numbers_at width t₀ (k * kept_stride)) b ≡ false)
      → Walking next states hopes asks e m low b t₀ t₀
  unfolding kept_from
  walking_begins low u h f =
      let none : (k : Kept) → In k (kept_from low t₀ 0) → includes k.combination b ≡ false = λ x j. rows_in_lem 0 low t₀ b (λ k g l. f k (omega arith)) x j in
      record {
        sifts = record {
          able = record { moves = u.moves; wide = u.wide; inside = u.inside; within = u.within };
          same = refl;
          within = h;
          rows = λ seen. sym (sifted_none (step_of next) e b seen (state_in hopes) (kept_from low t₀ 0) none);
          rest = λ k g. refl;
          fewer = omega arith;
        };
        silent = told_none (step_of next) e b (state_in asks) (kept_from low t₀ 0) none;
      }

-- The walk -------------------------------------------------------------------------------------------------------------

-- row i has the binding's last number, or it is the end
pub record Going (next : List ℕ) (states hopes asks e m i : ℕ) (b : List ℕ) (low end last number : ℕ) (t₀ t : List ℕ) : Type 0 where
  pub spans : Spans m b t₀ low end
  pub wide : length b ≡ width
  pub bound : LastBound b last
  pub is : number ≡ get_or b last 0
  pub some : number ≡ 0 → ⊥
  pub up : low ≤ i
  pub within : i ≤ end
  pub found : i < end → get_or t (i * kept_stride + last) 0 ≡ number
  pub walks : Walking next states hopes asks e m i b t₀ t

module _ (next : List ℕ) (states hopes asks e m : ℕ) (b : List ℕ) (low end last number : ℕ) (t₀ : List ℕ) where
  pub going_begins : (r : ℕ) → Movable next states e m b t₀ → Spans m b t₀ low end → length b ≡ width → LastBound b last → number ≡ get_or b last 0 → (number ≡ 0 → ⊥)
      → NextFound t₀ low end last number r → Going next states hopes asks e m r b low end last number t₀ t₀
  going_begins r u s o l q z f =
      let p = s.up in
      let w = s.within in
      record {
        spans = s;
        wide = o;
        bound = l;
        is = q;
        some = z;
        up = f.up;
        within = f.within;
        found = f.found;
        walks = walking_on next states hopes asks e m b t₀ last number low end r t₀ (walking_begins next states hopes asks e m b t₀ low u (omega arith) s.below) w l q z f;
      }

  pub walks_none : Movable next states e m b t₀ → Spans m b t₀ low end → WalksTo next states hopes asks e m b low end t₀ t₀ low
  walks_none u s =
      let p = s.up in
      let w = s.within in
      record { up = omega arith; within = p; walks = walking_begins next states hopes asks e m b t₀ low u (omega arith) s.below }

  module _ (i : ℕ) (t : List ℕ) (u : Going next states hopes asks e m i b low end last number t₀ t) where
    pub going_ends : WalksTo next states hopes asks e m b low end t₀ t i
    going_ends = record { up = u.up; within = u.within; walks = u.walks }

    module _ (h : i < end) where
      below : i < m
      below = let w = u.spans.within in omega arith

      pub going_state : get_or t (i * kept_stride + width) 0 < most_states
      going_state = walking_state next states hopes asks e m i b t₀ t u.walks below

      pub going_onward : (to : ℕ) → to ≡ step_of next (get_or t (i * kept_stride + width) 0) e → to < most_states
      going_onward to q = walking_onward next states hopes asks e m i b t₀ t u.walks below to q

      -- it agrees at the first parameter
      first : Agree t (i * kept_stride) b 0
      first = rw (u.walks.sifts.rest (i * kept_stride + 0) (omega arith)) (u.spans.first i u.up h)

      goes : (r : ℕ) (t' : List ℕ) → Walking next states hopes asks e m (i + 1) b t₀ t' → NextFound t' (i + 1) end last number r
          → Going next states hopes asks e m r b low end last number t₀ t'
      goes r t' v f =
          let p = f.up in
          let g = u.up in
          record {
            spans = u.spans;
            wide = u.wide;
            bound = u.bound;
            is = u.is;
            some = u.some;
            up = omega arith;
            within = f.within;
            found = f.found;
            walks = walking_on next states hopes asks e m b t₀ last number (i + 1) end r t' v u.spans.within u.bound u.is u.some f;
          }

      module _ (a : Bool) (v : Agrees t (i * kept_stride) b 1 last a) where
        pub going_out : a ≡ false → (r : ℕ) (t' : List ℕ) → t' ≡ t → NextFound t' (i + 1) end last number r → Going next states hopes asks e m r b low end last number t₀ t'
        going_out z r t' y f = goes r t' (rw y (walking_stays next states hopes asks e m i b t₀ t u.walks below (v.no z))) f

        pub going_in : a ≡ true → (to r : ℕ) (x y : Bool) → to ≡ step_of next (get_or t (i * kept_stride + width) 0) e → x ≡ holds hopes to → x ≡ true → y ≡ holds asks to → y ≡ false
            → (t' : List ℕ) → t' ≡ set t (i * kept_stride + width) to → NextFound t' (i + 1) end last number r → Going next states hopes asks e m r b low end last number t₀ t'
        going_in z to r x y q p n k l t' g f =
            goes r t' (rw g (walking_moves next states hopes asks e m i b t₀ t u.walks below
            (agree_bound t (i * kept_stride) b last number u.wide u.bound u.is first (u.found h) a v z) to q (sym p ∙ n) (sym k ∙ l))) f

-- All of it
pub moved_in_place : (next : List ℕ) (states hopes asks e m : ℕ) (b : List ℕ) (low end r : ℕ) (t t' : List ℕ) → Spans m b t low end
    → WalksTo next states hopes asks e m b low end t t' r → MovedInPlace next states hopes asks e m b t t' (record { row = r; end = end })
moved_in_place next states hopes asks e m b low end r t t' s w =
    let p = w.up in
    record { walks = w.walks; above = λ k h g. s.above k (omega arith) g; past = s.past }
