-- `heading::put_names` meets its contract.
-- Assumes nothing.
use native.Mathlib.Omega.{arith}
use Rattle.heading.specs.HeadingLaws.{names_within, names_room, names_written}
use Rattle.heading.proofs.put_names.Goals as goal

pub slice_bounds-put_bytes-count : goal.slice_bounds-put_bytes-count
slice_bounds-put_bytes-count c = omega (arith, names_within c.args.events.now _ c.requires.0 c.row_end-end.ensures)

pub slice_bounds-put_bytes-start : goal.slice_bounds-put_bytes-start
slice_bounds-put_bytes-start c = omega (arith, names_within c.args.events.now _ c.requires.0 c.row_end-end.ensures)

pub slice_bounds-put_bytes-end : goal.slice_bounds-put_bytes-end
slice_bounds-put_bytes-end c = omega (arith, names_within c.args.events.now _ c.requires.0 c.row_end-end.ensures)

pub put_bytes-requires : goal.put_bytes-requires
put_bytes-requires c = omega (arith, names_room c.args.events.now _ c.requires.0 c.row_end-end.ensures)

pub returns : goal.returns
returns c = names_written _ _ _ c.args.events.now _ _ c.requires.0 c.row_end-end.ensures c.put_bytes.ensures
