-- `finding::find_kept` meets its contract: a combination that is kept stands where the search ends.
-- Assumes nothing.
use Rattle.finding.specs.LookupLaws.{findable_searchable, find_none, find_differs, find_here, find_state}
use mathlib.Core.List.{[]}
use borrow.Author.Rules.{rules}
use Rattle.finding.proofs.find_kept.Goals.{then-m-row-via-then-m-row, then-m-row-via-else-m-row+then-not-equal}
use Rattle.finding.proofs.find_kept.Goals as goal

pub place-row-requires : goal.place-row-requires
place-row-requires c = search (rules, findable_searchable)

pub returns-then-m-row : goal.returns-then-m-row
returns-then-m-row c = elim c.then-m-row.branch [
  | then-m-row-via-then-m-row w ↦ search (rules, find_none)
  | then-m-row-via-else-m-row+then-not-equal w ↦ search (rules, find_differs)
]

pub bounds-known-state : goal.bounds-known-state
bounds-known-state c = let r = find_state [] _ _ _ _ c.requires c.place-row.ensures c.if-m-row.false in search rules

pub returns : goal.returns
returns c = search (rules, find_here)
