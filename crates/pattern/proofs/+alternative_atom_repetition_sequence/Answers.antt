-- The four readers of `pattern` meet their contracts.
-- Assumes nothing.
use Rattle.std.proofs.Common.{rules, sym, ◌∙◌, ◌≡◌, false, Bool, not, Err}
use denote.Enum.Bare.{sameb, same_false, differs_true, differs_false}
use Rattle.tokens.specs.contracts.Kind.{the_type}
use Rattle.tokens.specs.declared.Kind.{Kind}
use Rattle.tokens.specs.declared.Kind.TheVariants.{Opening}
use Rattle.parts.specs.ReadersLaws.{alternative_refused, alternative_over, alternative_stopped, alternative_taken, repetition_refused, repetition_marked, sequence_refused, sequence_over, sequence_stopped, sequence_taken}
use Rattle.parts.specs.AtomsLaws.{atom_missing, atom_deep, atom_stopped, atom_open, atom_closed}
use Rattle.pattern.proofs.+alternative_atom_repetition_sequence.Goals as goal

opening_here : (k : Kind) (b : Bool) → b ≡ not (sameb the_type k Opening) → b ≡ false → k ≡ Opening
opening_here k b e z = differs_false the_type tt k Opening (sym e ∙ z)

pub alternative-returns-in_err-a : goal.alternative-returns-in_err-a
alternative-returns-in_err-a t c =
    let e : c.from_residual.result ≡ Err c.in_err-a.field-0.0 = search rules in
    rw e (alternative_refused _ _ _ _ _ _ c.in_err-a.ensures)

pub alternative-returns-then-ne : goal.alternative-returns-then-ne
alternative-returns-then-ne t c = alternative_over _ _ _ _ _ _ c.in_ok-a.ensures _ c.look-t.ensures (differs_true the_type _ _ (sym c.if-ne.ensures))

pub alternative-returns-in_err-b : goal.alternative-returns-in_err-b
alternative-returns-in_err-b t c =
    let e : c.from_residual-in_err-b.result ≡ Err c.in_err-b.field-0.0 = search rules in
    let k = differs_false the_type tt _ _ (sym c.if-ne.ensures) in
    rw e (alternative_stopped _ _ _ _ _ _ c.in_ok-a.ensures _ c.look-t.ensures k _ c.in_err-b.ensures)

pub alternative-returns : goal.alternative-returns
alternative-returns t c =
    let k = differs_false the_type tt _ _ (sym c.if-ne.ensures) in
    alternative_taken _ _ _ _ _ _ c.in_ok-a.ensures _ c.look-t.ensures k _ _ c.in_ok-b.ensures c.alternative-shape.ensures

pub atom-returns-then-ne : goal.atom-returns-then-ne
atom-returns-then-ne t c =
    let w = same_false the_type _ _ (sym c.if-eq.ensures) in
    let k = differs_true the_type _ _ (sym c.if-ne.ensures) in
    atom_missing _ _ _ _ _ _ c.look-t.ensures _ c.requires.begins w k c.refused_at.ensures

pub atom-returns-then-eq : goal.atom-returns-then-eq
atom-returns-then-eq t c = c.word.ensures c.args.depth

pub atom-returns-then-depth-ge-MOST_OPEN : goal.atom-returns-then-depth-ge-MOST_OPEN
atom-returns-then-depth-ge-MOST_OPEN t c = search (rules, atom_deep, opening_here)

pub atom-returns-in_err-a : goal.atom-returns-in_err-a
atom-returns-in_err-a t c =
    let e : c.from_residual.result ≡ Err c.in_err-a.field-0.0 = search rules in
    let k = differs_false the_type tt _ _ (sym c.if-ne.ensures) in
    rw e (atom_stopped _ _ _ _ _ _ c.look-t.ensures k c.if-depth-ge-MOST_OPEN.false _ c.in_err-a.ensures)

pub atom-returns-then-ne-2 : goal.atom-returns-then-ne-2
atom-returns-then-ne-2 t c =
    let k = differs_false the_type tt _ _ (sym c.if-ne.ensures) in
    let u = differs_true the_type _ _ (sym c.if-ne-2.ensures) in
    atom_open _ _ _ _ _ _ c.look-t.ensures k c.if-depth-ge-MOST_OPEN.false _ c.in_ok-a.ensures _ c.look-u.ensures _ u c.refused_at-then-ne-2.ensures

pub atom-returns : goal.atom-returns
atom-returns t c =
    let k = differs_false the_type tt _ _ (sym c.if-ne.ensures) in
    let u = differs_false the_type tt _ _ (sym c.if-ne-2.ensures) in
    atom_closed _ _ _ _ _ _ c.look-t.ensures k c.if-depth-ge-MOST_OPEN.false _ c.in_ok-a.ensures _ c.look-u.ensures u

pub repetition-returns-in_err-a : goal.repetition-returns-in_err-a
repetition-returns-in_err-a t c =
    let e : c.from_residual.result ≡ Err c.in_err-a.field-0.0 = search rules in
    rw e (repetition_refused _ _ _ _ _ _ c.in_err-a.ensures)

pub repetition-returns : goal.repetition-returns
repetition-returns t c = repetition_marked _ _ _ _ _ _ _ c.in_ok-a.ensures c.marks.ensures

pub sequence-returns-in_err-a : goal.sequence-returns-in_err-a
sequence-returns-in_err-a t c =
    let e : c.from_residual.result ≡ Err c.in_err-a.field-0.0 = search rules in
    rw e (sequence_refused _ _ _ _ _ _ c.in_err-a.ensures)

pub sequence-returns-then-not-begins_atom : goal.sequence-returns-then-not-begins_atom
sequence-returns-then-not-begins_atom t c =
    sequence_over _ _ _ _ _ _ c.in_ok-a.ensures _ c.look-t.ensures (sym c.begins_atom.ensures ∙ search rules)

pub sequence-returns-in_err-b : goal.sequence-returns-in_err-b
sequence-returns-in_err-b t c =
    let e : c.from_residual-in_err-b.result ≡ Err c.in_err-b.field-0.0 = search rules in
    rw e (sequence_stopped _ _ _ _ _ _ c.in_ok-a.ensures _ c.look-t.ensures (sym c.begins_atom.ensures ∙ search rules) _ c.in_err-b.ensures)

pub sequence-returns : goal.sequence-returns
sequence-returns t c =
    sequence_taken _ _ _ _ _ _ c.in_ok-a.ensures _ c.look-t.ensures (sym c.begins_atom.ensures ∙ search rules) _ _ c.in_ok-b.ensures c.sequence-shape.ensures
