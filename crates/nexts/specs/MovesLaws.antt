-- Laws of the sets that the events lead to: an array made of another, entry by entry.
-- Assumes nothing.
use Rattle.std.specs.Prelude.{ℕ, zero, suc, ◌+◌, ◌<◌, ◌≡◌, List, get_or}
use Rattle.std.proofs.Common.{arith, sym, ap, ◌∙◌, ext_get_or, subst}
use denote.Param.Members.{Mut}
use Rattle.std.specs.Fn.{Called}
use Rattle.std.specs.Array.{IsMapOf, MapsFrom}
use Rattle.document.specs.Lists.{tabulate}
use Rattle.document.specs.Limits.{most_events}
use Rattle.basics.specs.Lists.{tabulate_at, length-tabulate}
use Rattle.nexts.specs.Nexts.{move_of, moves_of}

-- what a closure that stays as it is made of each entry of an array
module _ {F : Type 0} (g : Mut F (ℕ × Unit {0}) ℕ) (v : ℕ → ℕ) (f : F)
    (step : (x y : ℕ) (q : F) → Called g f (x, tt) y q → (y ≡ v x) × (q ≡ f)) where
  map_from : (xs ys : List ℕ) (i n k : ℕ) → MapsFrom g f xs ys i n → k < n → get_or ys (i + k) 0 ≡ v (get_or xs (i + k) 0)
  map_from xs ys i zero k h l = absurd (omega arith)
  map_from xs ys i (suc n) zero (q, x, y, a, b, c, h) l =
      let z : i + 0 ≡ i = omega arith in
      rw z (b.1 0 ∙ (step x y q c).0 ∙ ap v (sym (a.1 0)))
  map_from xs ys i (suc n) (suc k) (q, x, y, a, b, c, h) l =
      let z : i + suc k ≡ i + 1 + k = omega arith in
      let same = subst (λ (p : F). MapsFrom g p xs ys (i + 1) n) (step x y q c).1 h in
      rw z (map_from xs ys (i + 1) n k same (omega arith))

  pub map_at : (xs ys : List ℕ) (n k : ℕ) → IsMapOf g f xs ys n → k < n → get_or ys k 0 ≡ v (get_or xs k 0)
  map_at xs ys n k h l = let z : 0 + k ≡ k = omega arith in rw z at (map_from xs ys 0 n k h.each l)

  pub moves_made : (after named : List ℕ) (base set : ℕ) (to : List ℕ) → IsMapOf g f named to most_events
      → ((e : ℕ) → v (get_or named e 0) ≡ move_of after named base set e) → to ≡ moves_of after named base set
  unfolding moves_of
  moves_made after named base set to h e =
      ext_get_or 0 to (tabulate most_events (move_of after named base set)) (h.long ∙ sym (length-tabulate most_events (move_of after named base set)))
      (λ k l. let long = h.long in let b : k < most_events = omega arith in
      map_at named to most_events k h b ∙ e k ∙ sym (tabulate_at most_events (move_of after named base set) k 0 b))
