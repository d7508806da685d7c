use Rattle.std.specs.Int.{w128}
use Rattle.std.proofs.lemmas.Int.{to_z-of_z}
use mir.Val.{to_z, of_z}
use Rattle.mapped_systems.specs.Maps.{with_zeros}
use Rattle.affine_maps.specs.Relations.{image_columns}
use Rattle.affine_maps.proofs.RelatedResults.{relation_clause, relation_fewer}
use Rattle.affine_maps.proofs.EqualImages.{told_equal, told_other, equal_image_points, equal_image_stored, equal_image_leaves, other_image_points, equal_image_converts, other_image_converts, other_image_stored, other_image_leaves}
use Rattle.affine_maps.proofs.PairConversions.{image_fewer}
use Rattle.affine_maps.proofs.images.image.Goals as goal

pub returns-then-eq-clause-points : goal.returns-then-eq-clause-points
returns-then-eq-clause-points g c =
    let e = told_equal c.args.rel c.if-eq.ensures in
    equal_image_points c.args.rel c.args.var c.args.expr.now (to_z w128 (of_z w128 c.args.den)) c.args.den (to_z-of_z w128 c.args.den c.ranges.den) c.args.p.now c.substituted_image.result e c.requires.var c.requires.positive c.substituted_image.ensures.points

pub returns-then-eq-clause-stored : goal.returns-then-eq-clause-stored
returns-then-eq-clause-stored g c =
    let e = told_equal c.args.rel c.if-eq.ensures in
    equal_image_stored c.args.rel c.args.var c.args.expr.now (to_z w128 (of_z w128 c.args.den)) c.args.den (to_z-of_z w128 c.args.den c.ranges.den) c.args.p.now c.substituted_image.result e c.substituted_image.ensures.stored

pub returns-then-eq-clause-overflow : goal.returns-then-eq-clause-overflow
returns-then-eq-clause-overflow g c =
    let e = told_equal c.args.rel c.if-eq.ensures in
    equal_image_leaves c.args.rel c.args.var c.args.expr.now (to_z w128 (of_z w128 c.args.den)) c.args.den (to_z-of_z w128 c.args.den c.ranges.den) c.args.p.now c.substituted_image.result e c.substituted_image.ensures.overflow

pub returns-clause-points : goal.returns-clause-points
returns-clause-points g c = other_image_points c.args.rel c.args.var c.args.expr.now (to_z w128 (of_z w128 c.args.den)) c.args.den (to_z-of_z w128 c.args.den c.ranges.den) c.args.p.now c.related_image.result c.related_image.ensures.points

pub returns-clause-stored : goal.returns-clause-stored
returns-clause-stored g c =
    let ne = told_other c.args.rel c.if-eq.ensures in
    other_image_stored c.args.rel c.args.var c.args.expr.now (to_z w128 (of_z w128 c.args.den)) c.args.den (to_z-of_z w128 c.args.den c.ranges.den) c.args.p.now c.related_image.result ne c.related_image.ensures.stored

pub returns-clause-overflow : goal.returns-clause-overflow
returns-clause-overflow g c =
    let p = c.args.p.now in
    let ne = told_other c.args.rel c.if-eq.ensures in
    other_image_leaves c.args.rel c.args.var c.args.expr.now (to_z w128 (of_z w128 c.args.den)) c.args.den (to_z-of_z w128 c.args.den c.ranges.den) c.args.p.now c.related_image.result ne (relation_clause (with_zeros p.cons.dim 1) (image_columns p.cons.dim c.args.var) c.args.rel c.args.expr.now (to_z w128 (of_z w128 c.args.den)) p c.args.steps.now c.related_image.new.steps c.related_image.result c.related_image.ensures.conversion)

pub returns-clause-no_fewer : goal.returns-clause-no_fewer
returns-clause-no_fewer g c =
    let p = c.args.p.now in
    relation_fewer (with_zeros p.cons.dim 1) (image_columns p.cons.dim c.args.var) c.args.rel c.args.expr.now (to_z w128 (of_z w128 c.args.den)) p c.args.steps.now c.related_image.new.steps c.related_image.result c.related_image.ensures.conversion

pub returns-clause-conversion : goal.returns-clause-conversion
returns-clause-conversion g c =
    let ne = told_other c.args.rel c.if-eq.ensures in
    other_image_converts c.args.rel c.args.var c.args.expr.now (to_z w128 (of_z w128 c.args.den)) c.args.den (to_z-of_z w128 c.args.den c.ranges.den) c.args.p.now c.related_image.result ne c.args.steps.now c.related_image.new.steps c.related_image.ensures.conversion

pub returns-then-eq-clause-conversion : goal.returns-then-eq-clause-conversion
returns-then-eq-clause-conversion g c =
    let e = told_equal c.args.rel c.if-eq.ensures in
    equal_image_converts c.args.rel c.args.var c.args.expr.now (to_z w128 (of_z w128 c.args.den)) c.args.den (to_z-of_z w128 c.args.den c.ranges.den) c.args.p.now c.substituted_image.result e c.args.steps.now c.substituted_image.new.steps c.substituted_image.ensures.conversion

pub returns-then-eq-clause-no_fewer : goal.returns-then-eq-clause-no_fewer
returns-then-eq-clause-no_fewer g c = image_fewer c.args.var c.args.expr.now (to_z w128 (of_z w128 c.args.den)) c.args.p.now c.args.steps.now c.substituted_image.new.steps c.substituted_image.result c.substituted_image.ensures.conversion
