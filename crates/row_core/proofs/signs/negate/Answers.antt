use Rattle.std.proofs.Common.{arith, sym, subst}
use Rattle.row_core.specs.Content.{IsPrimitive}
use Rattle.row_core.proofs.SignLemmas.{negated_within, primitive_negated}
use Rattle.row_core.proofs.signs.negate.Goals as goal

pub returns-clause-value : goal.returns-clause-value
returns-clause-value c = negated_within c.args.row.now c.loop-cell.row (omega arith)
    (λ j h. c.loop-cell.invariant.done j (omega (arith, h)))

pub returns-clause-primitive : goal.returns-clause-primitive
returns-clause-primitive c p = subst IsPrimitive
    (sym (negated_within c.args.row.now c.loop-cell.row (omega arith)
    (λ j h. c.loop-cell.invariant.done j (omega (arith, h))))) (primitive_negated c.args.row.now p)
