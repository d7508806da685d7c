use Rattle.std.proofs.Common.{get_or, arith, subst, below_more}
use Rattle.std.proofs.lemmas.List.Elements.{All-from_get_or}
use Rattle.row_core.specs.Content.{IsPrimitive}
use Rattle.row_core.specs.Lists.{row_at}
use Rattle.minimise.proofs.parts.are_primitive.Goals as goal

pub loop-index-preserved : goal.loop-index-preserved
loop-index-preserved c =
    below_more (λ k. IsPrimitive (row_at c.args.rows.now.rows (get_or c.args.kept.now k 0))) c.loop-index.index c.loop-index.invariant
    (subst IsPrimitive c.row.ensures.value (c.is_primitive.ensures.0 c.if-not-is_primitive.false))

pub returns : goal.returns
returns c = λ t. All-from_get_or (λ i. IsPrimitive (row_at c.args.rows.now.rows i)) c.args.kept.now 0 (λ k h. c.loop-index.invariant k (omega (arith, h, c.loop-index-test.false)))
