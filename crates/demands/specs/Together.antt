-- Demands 2 and 3 together, in the customer's words: in a session that is reached from a fresh start with the table of an
-- accepted text, an event reports exactly the combinations made so far that include its values and whose rows, picked out in
-- order, have a total-matching verdict of the pattern that the text asks for, each with that verdict, each once and in order;
-- and it keeps exactly those made so far whose rows, followed by some one or more declared events, would have such a verdict.
-- Assumes nothing.
use Rattle.std.specs.Prelude.{ℕ, zero, suc, ◌≤◌, ◌≡◌, refl, ◌↔◌, true, List, ◌∷◌, ◌++◌}
use Rattle.std.proofs.Common.{sym, ◌∙◌, arith}
use Rattle.std.proofs.Math.Dec.{T}
use Rattle.document.specs.Lists.{In}
use Rattle.document.specs.Limits.{width}
use Rattle.document.specs.Patterns.{Pattern, TotalMatching, Among, fail}
use Rattle.document.specs.Property.{Property, verdict, asks_for}
use Rattle.document.specs.Combinations.{includes}
use Rattle.document.specs.Histories.{Event, slice, Made}
use Rattle.document.specs.OneEvent.{Kept}
use Rattle.document.specs.Session.{Outcome, ascending}
use Rattle.document.specs.Demands.{Allowed}
use Rattle.slices.specs.OrderLaws.{combinations}

-- a sequence has one total-matching verdict
pub verdict_single : (r : Pattern) (w : List ℕ) (u v : ℕ) → TotalMatching r w u → TotalMatching r w v → u ≡ v
verdict_single r w u v a b = go u v a.verdict b.verdict a b
  where
    go : (u v : ℕ) → u ≤ 2 → v ≤ 2 → TotalMatching r w u → TotalMatching r w v → u ≡ v
    go zero zero h k a b = refl
    go zero (suc zero) h k a b = let z = a.matches.1 (b.matches.0 refl) in absurd (omega arith)
    go zero (suc (suc v)) h k a b = let e : suc (suc v) ≡ fail = omega arith in let z = a.fails.1 (b.fails.0 e) in absurd (omega arith)
    go (suc zero) v h k a b = sym (b.matches.1 (a.matches.0 refl))
    go (suc (suc u)) v h k a b = let e : suc (suc u) ≡ fail = omega arith in e ∙ sym (b.fails.1 (a.fails.0 e))

-- the combination c is rightly reported with the verdict v, by an event with binding b that ends the history H
pub record Reports (r : Pattern) (asked : ℕ) (H : List Event) (b c : List ℕ) (v : ℕ) : Type 0 where
  pub made : Made width H c
  pub concerned : T (includes c b)
  pub verdict : TotalMatching r (slice c H) v
  pub asks : T (asks_for asked v)

-- the combination c is rightly kept after the history H: its rows, followed by some one or more of the m declared events, have
-- a verdict asked for
pub record Keeps (r : Pattern) (asked m : ℕ) (H : List Event) (c : List ℕ) : Type 0 where
  pub made : Made width H c
  pub first : ℕ
  pub rest : List ℕ
  pub declared : Among m (first ∷ rest)
  pub verdict : ℕ
  pub matching : TotalMatching r (slice c H ++ (first ∷ rest)) verdict
  pub asks : T (asks_for asked verdict)

-- a row of the reports says the combination c and the verdict v
pub record Says (p : Property) (rows : List Kept) (c : List ℕ) (v : ℕ) : Type 0 where
  pub row : Kept
  pub there : In row rows
  pub combination : row.combination ≡ c
  pub verdict : verdict p row.state ≡ v

-- the outcome of an event with binding b that ends the history H is what the text asks for: its reports and what is kept, each
-- once and in order
pub record Rightly {events text : List ℕ} (a : Allowed events text) (p : Property) (H : List Event) (b : List ℕ) (o : Outcome) : Type 0 where
  pub reports_in_order : ascending (combinations o.rows) ≡ true
  pub reports : (c : List ℕ) (v : ℕ) → Says p o.rows c v ↔ Reports a.pattern a.asked H b c v
  pub kept_in_order : ascending (combinations o.kept) ≡ true
  pub kept : (c : List ℕ) → In c (combinations o.kept) ↔ Keeps a.pattern a.asked p.events H c
