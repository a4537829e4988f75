-- `translate::read` meets its contract: the refusals in their order, and the table.
-- Assumes nothing.
use Rattle.std.proofs.Common.{rules, ◌≡◌, Ok, Err}
use Rattle.readings.specs.Readings.{Reads}
use Rattle.translate.specs.TranslationsLaws.{translate_unread, translate_long, translate_stopped, translate_table}
use Rattle.translate.proofs.read.Goals as goal

pub returns-in_err-d : goal.returns-in_err-d
returns-in_err-d c =
    let e : c.from_residual.result ≡ Err c.in_err-d.field-0.0 = search rules in
    rw e (translate_unread _ _ c.read.result _ c.read.ensures (λ d q. let m = rw q at c.in_err-d.ensures.cases in cc) (λ r q. let m = rw q at c.in_err-d.ensures.cases in search rules))

pub returns-then-pattern-gt-TEXT_BYTES : goal.returns-then-pattern-gt-TEXT_BYTES
returns-then-pattern-gt-TEXT_BYTES c =
    let h : Reads c.args.declarations.now (Ok c.in_ok-d.d) = search rules in
    translate_long _ _ _ h _ c.if-pattern-gt-TEXT_BYTES.true c.refused_at.ensures

pub returns-in_err-t : goal.returns-in_err-t
returns-in_err-t c =
    let e : c.from_residual-in_err-t.result ≡ Err c.in_err-t.field-0.0 = search rules in
    let h : Reads c.args.declarations.now (Ok c.in_ok-d.d) = search rules in
    rw e (translate_stopped _ _ _ h c.if-pattern-gt-TEXT_BYTES.false _ c.in_err-t.ensures)

pub returns : goal.returns
returns c =
    let h : Reads c.args.declarations.now (Ok c.in_ok-d.d) = search rules in
    translate_table _ _ _ h c.if-pattern-gt-TEXT_BYTES.false _ _ c.in_ok-t.ensures c.table_of.ensures
