-- `asking::asks` meets its contract: what the tokens after the pattern ask for decides.
-- Assumes nothing.
use Rattle.std.proofs.Common.{refl, sym, ap, ◌∙◌}
use denote.Enum.Bare.{differs_true, differs_false}
use Rattle.verdicts.specs.contracts.Verdict.{the_type}
use Rattle.asking.specs.Texts.{asked_number}
use Rattle.asking.specs.TextsLaws.{set_is, asks_some, both_asked, none_asked, same_asked, asks_none, asks_one, asks_wrong, asks_more, asks_both}
use Rattle.asking.proofs.asks.Goals as goal
use Rattle.asking.proofs.asks.Goals.{in_default-asked_by-via-in-Some-asked_by+else-ne, in_default-asked_by-via-in_default-asked_by}

pub returns-in_default : goal.returns-in_default
returns-in_default c =
    asks_none _ _ _ c.look-t.ensures _ (ap asked_number (sym c.in_default.is ∙ c.asked_by.ensures)) _ c.requires refl c.refused_at.ensures

pub returns-then-text-t : goal.returns-then-text-t
returns-then-text-t c =
    let first = sym c.in-Some.is ∙ c.asked_by.ensures in
    let set = set_is _ _ _ first c.asked.ensures in
    asks_one _ _ _ c.look-t.ensures _ set (λ z. asks_some _ _ first (sym set ∙ z)) c.if-text-t.true

pub returns-in_default-asked_by : goal.returns-in_default-asked_by
returns-in_default-asked_by c =
    let first = sym c.in-Some.is ∙ c.asked_by.ensures in
    asks_wrong _ _ _ c.look-t.ensures _ refl (asks_some _ _ first) c.if-text-t.false _ c.look-u.ensures _ refl
    _ (elim c.in_default-asked_by.branch [
      | in_default-asked_by-via-in-Some-asked_by+else-ne w ↦
          same_asked _ _ _ _ first (sym w.in-Some-asked_by.is ∙ c.asked_by-2.ensures) (differs_false the_type tt _ _ (sym w.if-ne.ensures))
      | in_default-asked_by-via-in_default-asked_by w ↦ none_asked _ _ (sym w.in_default-asked_by.is ∙ c.asked_by-2.ensures)
    ]) c.refused_at-in_default-asked_by.ensures

pub returns-then-u-text : goal.returns-then-u-text
returns-then-u-text c =
    let first = sym c.in-Some.is ∙ c.asked_by.ensures in
    let second = sym c.in-Some-asked_by.is ∙ c.asked_by-2.ensures in
    let differs = differs_true the_type _ _ (sym c.if-ne.ensures) in
    asks_more _ _ _ c.look-t.ensures _ refl (asks_some _ _ first) c.if-text-t.false _ c.look-u.ensures _ refl (both_asked _ _ _ _ first second differs)
    _ c.if-u-text.true c.refused_at-then-u-text.ensures

pub returns : goal.returns
returns c =
    let first = sym c.in-Some.is ∙ c.asked_by.ensures in
    let second = sym c.in-Some-asked_by.is ∙ c.asked_by-2.ensures in
    let differs = differs_true the_type _ _ (sym c.if-ne.ensures) in
    asks_both _ _ _ c.look-t.ensures _ refl (asks_some _ _ first) c.if-text-t.false _ c.look-u.ensures _ refl (both_asked _ _ _ _ first second differs)
    c.if-u-text.false
