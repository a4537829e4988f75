-- `spans::first_place` meets its contract: the rows part where they no longer begin with a lesser number.
-- Assumes nothing.
use Rattle.std.proofs.Common.{rules, arith, ◌≡◌, ◌≤◌, ◌/◌, ℕ, List, length, take}
use borrow.Author.Tests.{tests}
use Rattle.std.proofs.lemmas.List.{length-take-le}
use Rattle.std.proofs.lemmas.List.Sorted.{IsPartitionPoint-from_clause}
use Rattle.document.specs.Limits.{kept_stride}
use Rattle.spans.specs.SpanLaws.{begins_unbound, Below, rows_part, begins_of}
use Rattle.spans.proofs.first_place.Goals as goal

pub returns-then-least-eq0 : goal.returns-then-least-eq0
returns-then-least-eq0 c = search (rules, begins_unbound)

pub returns : goal.returns
returns c =
    let t = c.args.kept.now in
    let rows : List (List ℕ) = c.as_chunks.result.0.now in
    let k : ℕ = length t / kept_stride in
    let i = c.requires.inside in
    let h : c.args.m ≤ k = omega arith in
    let l = c.as_chunks.ensures.front_len in
    let n : c.args.m ≤ length rows = omega arith in
    let o : length (take c.args.m rows) ≡ c.args.m = length-take-le c.args.m rows n in
    begins_of c.args.m k t c.args.least rows c.as_chunks.ensures.front h o c.partition_point.result c.partition_point.ensures.bound
    (IsPartitionPoint-from_clause (Below c.args.least) (take c.args.m rows) c.partition_point.result c.partition_point.ensures.partitioned (rows_part c.args.m k t c.args.least rows c.as_chunks.ensures.front h o c.requires)
    (λ a r f q. search (rules, tests)))
