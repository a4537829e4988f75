-- `window::Window::after_row` is safe: a line end that is held has two bytes.
-- Assumes nothing.
use Rattle.std.proofs.Common.{rules}
use Rattle.window.specs.Places.{row_passed}
use Rattle.window.proofs.Window.after_row.Goals as goal

pub from-requires : goal.from-requires
from-requires c = let k = row_passed _ _ _ c.row_end-end.ensures (search rules) in search rules
