-- `printing::print` meets its contract: each refusal in the document's order, then row after row what is left to do comes to what
-- the whole comes to.
-- Assumes nothing.
use Rattle.printrow.specs.RowLaws.{row_fits_lem}
use Rattle.printing.specs.RowsLaws.{way_ended, way_full, way_goes, way_less, way_on}
use Rattle.printing.specs.CallLaws.{call_sure, call_refused, call_past, call_starts, call_ends}
use Rattle.printing.proofs.print.Goals as goal

pub returns-in-Err : goal.returns-in-Err
returns-in-Err c = call_refused _ _ _ _ _ _ _ _ _ _ _ _ c.in-Err.ensures _ c.number.ensures _ c.none_printed.ensures

pub returns-then-log-at : goal.returns-then-log-at
returns-then-log-at c =
    call_past _ _ _ _ _ _ _ _ _ _ _ _ c.in-Ok.ensures c.if-log-at.true _ c.number-then-log-at.ensures _ c.none_printed-then-log-at.ensures

pub loop-r-init : goal.loop-r-init
loop-r-init c = call_starts _ _ _ _ _ _ _ _ _ _ _ _ c.in-Ok.ensures c.if-log-at.false _ c.none_printed-r.ensures

pub print_row-r-requires : goal.print_row-r-requires
print_row-r-requires c = (
  way_goes _ _ (call_sure _ _ _ _ c.in-Ok.ensures) _ _ _ _ _ _ _ _ c.loop-r.invariant,
  row_fits_lem _ _ _ _ c.loop-r-test.true c.row_fits.ensures c.if-row_fits.true,
)

pub loop-r-smaller : goal.loop-r-smaller
loop-r-smaller c = way_less _ _ _ _ _ _ _ _ _ _ _ _ _ c.loop-r-test.true c.print_row-r.ensures

pub loop-r-preserved : goal.loop-r-preserved
loop-r-preserved c =
    way_on _ _ (call_sure _ _ _ _ c.in-Ok.ensures) _ _ _ _ _ _ _ _ c.loop-r.invariant _ c.loop-r-test.true c.row_fits.ensures c.if-row_fits.true
    _ _ _ _ _ c.print_row-r.ensures

pub returns-else-row_fits : goal.returns-else-row_fits
returns-else-row_fits c =
    call_ends _ _ _ _ _ _ _ _ _ _ _ _ c.in-Ok.ensures c.if-log-at.false _ _ _ _ _
    (way_full _ _ _ _ _ _ _ _ _ _ c.loop-r.invariant _ c.loop-r-test.true c.row_fits.ensures c.if-row_fits.false)

pub returns-after-loop-r : goal.returns-after-loop-r
returns-after-loop-r c =
    call_ends _ _ _ _ _ _ _ _ _ _ _ _ c.in-Ok.ensures c.if-log-at.false _ _ _ _ _
    (way_ended _ _ _ _ _ _ _ _ _ _ c.loop-r.invariant c.loop-r-test.false)
