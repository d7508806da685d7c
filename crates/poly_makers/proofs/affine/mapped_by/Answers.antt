use Rattle.poly_makers.specs.Affine.{image_rel}
use Rattle.line_values.proofs.PerformedLemmas.{not_full}
use Rattle.poly_makers.proofs.FractionLemmas.{divisor_in_range, divisor_positive, allowed, mapping_refused, mapping_full, mapping_made, mapping_leaves}
use Rattle.std.specs.Prelude.{IfOk, IfErr, Result}
use Rattle.row_core.specs.declared.errors.ConvErr.{ConvErr}
use Rattle.row_core.specs.Refusals.{IsOverflowIn}
use Rattle.poly_pair.specs.Polyhedra.{Polyhedron}
use Rattle.line_values.specs.Refusals.{refusal_of_conversion}
use Rattle.poly_makers.specs.Affine.{mapped_by, IsSetOfMap, IsStoredOfMap, LeavesInMap}
use Rattle.poly_makers.proofs.MakerLemmas.{turned}
use Rattle.poly_makers.proofs.affine.mapped_by.Goals as goal

pub returns-in-Err : goal.returns-in-Err
returns-in-Err g c = mapping_refused c.args.map.by c.args.full c.args.map.v c.args.map.rel c.args.part.now c.args.p.now c.in-Err.cause c.in-Err.ensures

pub returns-then-full : goal.returns-then-full
returns-then-full g c = mapping_full c.args.map.by c.args.full c.args.map.v c.args.map.rel c.args.part.now c.args.p.now c.in-Ok.frac.expr c.in-Ok.frac.den c.in-Ok.ensures c.if-full.true

pub image_of-requires : goal.image_of-requires
image_of-requires g c =
    let read = c.in-Ok.ensures in
    let m = c.args.map in
    let p = c.args.p.now in
    record {
      var = read.within;
      rel = allowed p.topology m.rel read.faultless.1.1.1.0;
      wide = read.read.holds.sums.wide;
      den_in_range = divisor_in_range p.topology p.cons.dim m.v m.rel c.args.part.now c.in-Ok.frac.expr c.in-Ok.frac.den read;
      positive = divisor_positive p.topology p.cons.dim m.v m.rel c.args.part.now c.in-Ok.frac.expr c.in-Ok.frac.den read;
    }

pub returns : goal.returns
returns g c =
    let read = c.in-Ok.ensures in
    let room = not_full c.args.full c.if-full.false in
    let m = c.args.map in
    let p = c.args.p.now in
    let expr = c.in-Ok.frac.expr in
    let den = c.in-Ok.frac.den in
    turned (mapped_by m.by c.args.full m.v m.rel c.args.part.now p) refusal_of_conversion
    (λ (r : Result Polyhedron ConvErr). IfOk r (IsSetOfMap m.by (image_rel m.rel) m.v expr den p) × (IfOk r (IsStoredOfMap m.by (image_rel m.rel) m.v expr den p) × IfErr r (IsOverflowIn (LeavesInMap m.by (image_rel m.rel) m.v expr den p))))
    c.image_of.result c.map_err.result c.map_err.ensures.cases (c.image_of.ensures.points, (c.image_of.ensures.stored, c.image_of.ensures.overflow))
    (λ made is. mapping_made m.by c.args.full m.v m.rel c.args.part.now p expr den read made room (record { set = is.0; stored = is.1.0 }))
    (λ cause is. mapping_leaves m.by c.args.full m.v m.rel c.args.part.now p expr den read cause room is.1.1)
