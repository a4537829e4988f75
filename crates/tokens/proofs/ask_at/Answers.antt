-- `tokens::ask_at` meets its contract: each word that was looked for decides what stands there.
-- Assumes nothing.
use Rattle.std.proofs.Common.{◌∙◌}
use Rattle.document.specs.Classes.{match_word, fail_word}
use Rattle.tokens.specs.LexingLaws.{begins_as, ask_match, ask_fail, ask_none}
use Rattle.tokens.proofs.ask_at.Goals as goal

pub returns-then-starts_with : goal.returns-then-starts_with
returns-then-starts_with c =
    let m = begins_as match_word c.args.s.now c.args.at _ c.starts_with.ensures.value in
    ask_match _ _ c.requires.0 (m ∙ c.if-starts_with.true)

pub returns-then-starts_with-2 : goal.returns-then-starts_with-2
returns-then-starts_with-2 c =
    let m = begins_as match_word c.args.s.now c.args.at _ c.starts_with.ensures.value in
    let f = begins_as fail_word c.args.s.now c.args.at _ c.starts_with-else-starts_with.ensures.value in
    ask_fail _ _ c.requires.0 (m ∙ c.if-starts_with.false) (f ∙ c.if-starts_with-2.true)

pub returns-else-starts_with-2 : goal.returns-else-starts_with-2
returns-else-starts_with-2 c =
    let m = begins_as match_word c.args.s.now c.args.at _ c.starts_with.ensures.value in
    let f = begins_as fail_word c.args.s.now c.args.at _ c.starts_with-else-starts_with.ensures.value in
    ask_none _ _ c.requires.0 (m ∙ c.if-starts_with.false) (f ∙ c.if-starts_with-2.false)
