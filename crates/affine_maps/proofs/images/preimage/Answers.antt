use Rattle.std.specs.Int.{w128}
use Rattle.std.proofs.lemmas.Int.{to_z-of_z}
use mir.Val.{to_z, of_z}
use Rattle.std.specs.List.{range_with_len}
use Rattle.affine_maps.specs.Relations.{moved}
use Rattle.affine_maps.proofs.RelatedResults.{relation_clause, relation_fewer}
use Rattle.affine_maps.proofs.EqualImages.{told_equal, told_other, equal_preimage_points, equal_preimage_stored, equal_preimage_leaves, other_preimage_points, equal_preimage_converts, other_preimage_converts, other_preimage_stored, other_preimage_leaves}
use Rattle.affine_maps.proofs.PairConversions.{preimage_fewer}
use Rattle.affine_maps.proofs.images.preimage.Goals as goal

pub returns-then-eq-clause-points : goal.returns-then-eq-clause-points
returns-then-eq-clause-points g c =
    let e = told_equal c.args.rel c.if-eq.ensures in
    equal_preimage_points c.args.rel c.args.var c.args.expr.now (to_z w128 (of_z w128 c.args.den)) c.args.den (to_z-of_z w128 c.args.den c.ranges.den) c.args.p.now c.substituted_preimage.result e c.requires.var c.requires.positive c.substituted_preimage.ensures.points

pub returns-then-eq-clause-stored : goal.returns-then-eq-clause-stored
returns-then-eq-clause-stored g c =
    let e = told_equal c.args.rel c.if-eq.ensures in
    equal_preimage_stored c.args.rel c.args.var c.args.expr.now (to_z w128 (of_z w128 c.args.den)) c.args.den (to_z-of_z w128 c.args.den c.ranges.den) c.args.p.now c.substituted_preimage.result e c.substituted_preimage.ensures.stored

pub returns-then-eq-clause-overflow : goal.returns-then-eq-clause-overflow
returns-then-eq-clause-overflow g c =
    let e = told_equal c.args.rel c.if-eq.ensures in
    equal_preimage_leaves c.args.rel c.args.var c.args.expr.now (to_z w128 (of_z w128 c.args.den)) c.args.den (to_z-of_z w128 c.args.den c.ranges.den) c.args.p.now c.substituted_preimage.result e c.substituted_preimage.ensures.overflow

pub returns-clause-points : goal.returns-clause-points
returns-clause-points g c = other_preimage_points c.args.rel c.args.var c.args.expr.now (to_z w128 (of_z w128 c.args.den)) c.args.den (to_z-of_z w128 c.args.den c.ranges.den) c.args.p.now c.related_preimage.result c.related_preimage.ensures.points

pub returns-clause-stored : goal.returns-clause-stored
returns-clause-stored g c =
    let ne = told_other c.args.rel c.if-eq.ensures in
    other_preimage_stored c.args.rel c.args.var c.args.expr.now (to_z w128 (of_z w128 c.args.den)) c.args.den (to_z-of_z w128 c.args.den c.ranges.den) c.args.p.now c.related_preimage.result ne c.related_preimage.ensures.stored

pub returns-clause-overflow : goal.returns-clause-overflow
returns-clause-overflow g c =
    let p = c.args.p.now in
    let ne = told_other c.args.rel c.if-eq.ensures in
    other_preimage_leaves c.args.rel c.args.var c.args.expr.now (to_z w128 (of_z w128 c.args.den)) c.args.den (to_z-of_z w128 c.args.den c.ranges.den) c.args.p.now c.related_preimage.result ne (relation_clause (moved p.cons.dim c.args.var) (range_with_len 0 p.cons.dim) c.args.rel c.args.expr.now (to_z w128 (of_z w128 c.args.den)) p c.args.steps.now c.related_preimage.new.steps c.related_preimage.result c.related_preimage.ensures.conversion)

pub returns-clause-no_fewer : goal.returns-clause-no_fewer
returns-clause-no_fewer g c =
    let p = c.args.p.now in
    relation_fewer (moved p.cons.dim c.args.var) (range_with_len 0 p.cons.dim) c.args.rel c.args.expr.now (to_z w128 (of_z w128 c.args.den)) p c.args.steps.now c.related_preimage.new.steps c.related_preimage.result c.related_preimage.ensures.conversion

pub returns-clause-conversion : goal.returns-clause-conversion
returns-clause-conversion g c =
    let ne = told_other c.args.rel c.if-eq.ensures in
    other_preimage_converts c.args.rel c.args.var c.args.expr.now (to_z w128 (of_z w128 c.args.den)) c.args.den (to_z-of_z w128 c.args.den c.ranges.den) c.args.p.now c.related_preimage.result ne c.args.steps.now c.related_preimage.new.steps c.related_preimage.ensures.conversion

pub returns-then-eq-clause-conversion : goal.returns-then-eq-clause-conversion
returns-then-eq-clause-conversion g c =
    let e = told_equal c.args.rel c.if-eq.ensures in
    equal_preimage_converts c.args.rel c.args.var c.args.expr.now (to_z w128 (of_z w128 c.args.den)) c.args.den (to_z-of_z w128 c.args.den c.ranges.den) c.args.p.now c.substituted_preimage.result e c.args.steps.now c.substituted_preimage.new.steps c.substituted_preimage.ensures.conversion

pub returns-then-eq-clause-no_fewer : goal.returns-then-eq-clause-no_fewer
returns-then-eq-clause-no_fewer g c = preimage_fewer c.args.var c.args.expr.now (to_z w128 (of_z w128 c.args.den)) c.args.p.now c.args.steps.now c.substituted_preimage.new.steps c.substituted_preimage.result c.substituted_preimage.ensures.conversion
