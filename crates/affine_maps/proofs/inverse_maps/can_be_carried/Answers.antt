use Rattle.std.proofs.Common.{◌≢◌, ◌∙◌, pos, ap, sym}
use Rattle.std.specs.Int.{w128}
use mir.Val.{of_z, to_z}
use Rattle.row_core.specs.Vectors.{cell}
use Rattle.row_core.specs.Range.{InRange}
use Rattle.row_core.proofs.Magnitudes.{back}
use Rattle.affine_maps.proofs.PairConversions.{carried_if}
use Rattle.affine_maps.proofs.inverse_maps.can_be_carried.Goals as goal

pub returns-then-expr-var-eq0 : goal.returns-then-expr-var-eq0
returns-then-expr-var-eq0 c =
    let part = cell c.args.expr.now c.args.var in
    let r : InRange part = c.requires.in_range c.args.var (pos 0) c.requires.var in
    λ can. can.part_is (sym (back part r) ∙ ap (to_z w128) c.if-expr-var-eq0.true)

pub returns : goal.returns
returns c =
    let part = cell c.args.expr.now c.args.var in
    let ne : part ≢ pos 0 = λ z. c.if-expr-var-eq0.false (ap (of_z w128) z) in
    carried_if c.args.p.now part c.can_start.result ne c.can_start.ensures
