-- `asking::is_ere` meets its contract: a name stands there, and it is `ere`.
-- Assumes nothing.
use Rattle.std.proofs.Common.{sym, ◌∙◌}
use denote.Enum.Bare.{same_true, same_false}
use Rattle.tokens.specs.contracts.Kind.{the_type}
use Rattle.asking.specs.TextsLaws.{ere_missing, ere_here}
use Rattle.asking.proofs.is_ere.Goals as goal

pub returns-then-eq : goal.returns-then-eq
returns-then-eq c = ere_here _ _ _ _ c.requires (same_true the_type tt _ _ (sym c.if-eq.ensures)) c.eq-then-eq.ensures

pub returns-else-eq : goal.returns-else-eq
returns-else-eq c = c.if-eq.false ∙ ere_missing _ _ _ c.requires (same_false the_type _ _ (sym c.if-eq.ensures))
