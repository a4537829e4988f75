-- `asking::parse` meets its contract: `ere`, `:`, an alternative, and what is asked for, each at the tokens that the one before it leaves.
-- Assumes nothing.
use Rattle.std.proofs.Common.{rules, sym, ◌≡◌, Err}
use denote.Enum.Bare.{differs_true, differs_false}
use Rattle.tokens.specs.contracts.Kind.{the_type}
use Rattle.asking.specs.TextsLaws.{start_begins, parse_no_ere, parse_no_colon, parse_refused, parse_asks}
use Rattle.asking.proofs.parse.Goals as goal

pub look-ere-requires : goal.look-ere-requires
look-ere-requires c = search (rules, start_begins)

pub returns-then-not-is_ere : goal.returns-then-not-is_ere
returns-then-not-is_ere c = parse_no_ere _ _ _ c.skip-start.ensures _ c.look-ere.ensures _ c.is_ere.ensures _ (search rules) c.refused_at.ensures

pub returns-then-ne : goal.returns-then-ne
returns-then-ne c =
    let k = differs_true the_type _ _ (sym c.if-ne.ensures) in
    parse_no_colon _ _ _ c.skip-start.ensures _ c.look-ere.ensures _ c.is_ere.ensures (search rules) _ c.look-colon.ensures _ k c.refused_at-then-ne.ensures

pub returns-in_err-a : goal.returns-in_err-a
returns-in_err-a c =
    let e : c.from_residual.result ≡ Err c.in_err-a.field-0.0 = search rules in
    let k = differs_false the_type tt _ _ (sym c.if-ne.ensures) in
    rw e (parse_refused _ _ _ c.skip-start.ensures _ c.look-ere.ensures _ c.is_ere.ensures (search rules) _ c.look-colon.ensures k _ c.in_err-a.ensures)

pub returns : goal.returns
returns c =
    let k = differs_false the_type tt _ _ (sym c.if-ne.ensures) in
    parse_asks _ _ _ c.skip-start.ensures _ c.look-ere.ensures _ c.is_ere.ensures (search rules) _ c.look-colon.ensures k _ _ c.in_ok-a.ensures c.asks.ensures
