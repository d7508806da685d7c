use Rattle.std.proofs.Common.{inl, inr, ℕ, ◌<◌, ℤ, pos, ◌<ℤ◌, refl, sym, ap, ◌∙◌, subst, ◌⊎◌, arith}
use Rattle.std.specs.Prelude.{⊤, Option, Ok, Err, IfSome, MatchOption}
use Rattle.poly_pair.specs.declared.topology.Topology.{Topology}
use Rattle.poly_pair.specs.Parts.{AreStoredOfGenerators}
use Rattle.std.proofs.lemmas.Result.{IfOk-weaker, IfErr-weaker, err_from_is_err_and}
use Rattle.std.specs.Int.{w128}
use Rattle.std.proofs.lemmas.Int.{to_z-of_z}
use mir.Val.{SFits, to_z, of_z}
use Rattle.row_core.specs.Range.{InRange}
use Rattle.gens_sys.specs.Generators.{Generators, FitDimension}
use Rattle.poly_pair.specs.TopologyLists.{list_width, generators_of}
use Rattle.poly_pair.specs.Refusals.{IsOverflowOn}
use Rattle.poly_pair.specs.Polyhedra.{Polyhedron, IsOfGenerators}
use Rattle.poly_pair.proofs.StoredLemmas.{kept_dim}
use Rattle.poly_pair.proofs.WorkLemmas.{overflow_clause}
use Rattle.mapped_systems.specs.Maps.{substituted}
use Rattle.mapped_systems.specs.MappedLists.{IsMappedSystem}
use Rattle.affine_maps.specs.SubstitutedSets.{IsSubstitutedImage, IsStoredOfSubstituted}
use Rattle.row_core.specs.Refusals.{IsOverflowIn}
use Rattle.mapped_systems.specs.Refusals.{SomeLeavesInImage}
use Rattle.affine_maps.specs.SubstitutedSets.{LeavesOnSubstituted}
use Rattle.poly_pair.specs.Work.{gens_work, conv_overflow, overflow_in, IsConversion}
use Rattle.mapped_systems.proofs.AfterPairs.{after_found, after_none}
use Rattle.affine_maps.proofs.PairConversions.{paired_image_leaves, mapped_in_vain}
use Rattle.affine_maps.proofs.MappedPolyhedra.{lent_generators, mapped_kinds, mapped_point, image_points, mapped_overflow, either_overflow}
use Rattle.affine_maps.proofs.images.substituted_image.Goals as goal

pub from_gens_with_point-requires-clause-kinds : goal.from_gens_with_point-requires-clause-kinds
from_gens_with_point-requires-clause-kinds g c =
    let den_fits : SFits w128 c.args.den = c.ranges.den in
    let p = c.args.p.now in
    let m : IsMappedSystem (substituted c.args.var c.args.expr.now c.args.den) p.cons.dim p.gens c.in-Ok.mapped = lent_generators (λ n. substituted c.args.var c.args.expr.now c.args.den) (λ n. n) p c.gens.result.now c.in-Ok.mapped c.gens.ensures.value c.gens.ensures.kept (simp to_z-of_z at c.in-Ok.ensures.system) in
    mapped_kinds (substituted c.args.var c.args.expr.now c.args.den) c.topology.result p.cons.dim p c.in-Ok.mapped c.topology.ensures.value c.topology.ensures.kept m

pub from_gens_with_point-requires-clause-point : goal.from_gens_with_point-requires-clause-point
from_gens_with_point-requires-clause-point g c =
    let den_fits : SFits w128 c.args.den = c.ranges.den in
    let p = c.args.p.now in
    let m : IsMappedSystem (substituted c.args.var c.args.expr.now c.args.den) p.cons.dim p.gens c.in-Ok.mapped = lent_generators (λ n. substituted c.args.var c.args.expr.now c.args.den) (λ n. n) p c.gens.result.now c.in-Ok.mapped c.gens.ensures.value c.gens.ensures.kept (simp to_z-of_z at c.in-Ok.ensures.system) in
    mapped_point (substituted c.args.var c.args.expr.now c.args.den) p.cons.dim p c.in-Ok.mapped c.gens.ensures.kept m

pub returns-clause-points : goal.returns-clause-points
returns-clause-points g c =
    let den_fits : SFits w128 c.args.den = c.ranges.den in
    let p = c.args.p.now in
    let m : IsMappedSystem (substituted c.args.var c.args.expr.now c.args.den) p.cons.dim p.gens c.in-Ok.mapped = lent_generators (λ n. substituted c.args.var c.args.expr.now c.args.den) (λ n. n) p c.gens.result.now c.in-Ok.mapped c.gens.ensures.value c.gens.ensures.kept (simp to_z-of_z at c.in-Ok.ensures.system) in
    IfOk-weaker c.from_gens_with_point.result (IsOfGenerators c.topology.result c.in-Ok.mapped) (IsSubstitutedImage c.args.var c.args.expr.now c.args.den p)
    (λ q o. image_points c.args.var c.args.expr.now c.args.den p c.in-Ok.mapped c.topology.result c.topology.ensures.value c.gens.ensures.kept (subst FitDimension c.gens.ensures.value c.in-Ok.ensures.fit) c.requires.var c.requires.positive m q o)
    c.from_gens_with_point.ensures.points

pub returns-clause-overflow : goal.returns-clause-overflow
returns-clause-overflow g c =
    let den_fits : SFits w128 c.args.den = c.ranges.den in
    let p = c.args.p.now in
    let new = c.in-Ok.mapped in
    let m : IsMappedSystem (substituted c.args.var c.args.expr.now c.args.den) p.cons.dim p.gens c.in-Ok.mapped = lent_generators (λ n. substituted c.args.var c.args.expr.now c.args.den) (λ n. n) p c.gens.result.now c.in-Ok.mapped c.gens.ensures.value c.gens.ensures.kept (simp to_z-of_z at c.in-Ok.ensures.system) in
    let none = paired_image_leaves c.args.var c.args.expr.now (to_z w128 (of_z w128 c.args.den)) p c.in-Ok.mapped c.args.steps.now c.paired_image.new.steps c.in_ok-image.field-0 c.in_default.not-Some c.in_ok-image.ensures.conversion in
    let pair = simp to_z-of_z at none in
    IfErr-weaker c.from_gens_with_point.result (IsOverflowOn (list_width c.topology.result new.dim) new.dim (generators_of c.topology.result new)) (IsOverflowIn (λ over. SomeLeavesInImage c.args.var c.args.expr.now c.args.den p.gens.list over ⊎ LeavesOnSubstituted c.args.var c.args.expr.now c.args.den p over))
    (λ e l. either_overflow (SomeLeavesInImage c.args.var c.args.expr.now c.args.den p.gens.list) (LeavesOnSubstituted c.args.var c.args.expr.now c.args.den p) e (mapped_overflow c.args.var c.args.expr.now c.args.den p new c.topology.result c.topology.ensures.value m pair e l))
    (overflow_clause _ _ _ c.from_gens_with_point.result c.from_gens_with_point.ensures.conversion)

pub returns-in-Some-clause-points : goal.returns-in-Some-clause-points
returns-in-Some-clause-points g c =
    let den_fits : SFits w128 c.args.den = c.ranges.den in
    let p = c.args.p.now in
    let m : IsMappedSystem (substituted c.args.var c.args.expr.now c.args.den) p.cons.dim p.gens c.in-Ok.mapped = lent_generators (λ n. substituted c.args.var c.args.expr.now c.args.den) (λ n. n) p c.gens.result.now c.in-Ok.mapped c.gens.ensures.value c.gens.ensures.kept (simp to_z-of_z at c.in-Ok.ensures.system) in
    let o : IsOfGenerators p.topology c.in-Ok.mapped c.in-Some.image = subst (λ (x : Option Polyhedron). MatchOption x ⊤ (IsOfGenerators p.topology c.in-Ok.mapped)) c.in-Some.is c.in_ok-image.ensures.points in
    image_points c.args.var c.args.expr.now c.args.den p c.in-Ok.mapped p.topology refl c.gens.ensures.kept (subst FitDimension c.gens.ensures.value c.in-Ok.ensures.fit) c.requires.var c.requires.positive m c.in-Some.image o

pub from_gens_with_point-requires-clause-narrow : goal.from_gens_with_point-requires-clause-narrow
from_gens_with_point-requires-clause-narrow g c = omega (arith, c.in-Ok.ensures.system.same_dim, ap (λ (gs : Generators). gs.dim) c.gens.ensures.value, kept_dim c.args.p.now c.gens.ensures.kept, c.gens.ensures.kept.narrow)

pub returns-in-Some-clause-stored : goal.returns-in-Some-clause-stored
returns-in-Some-clause-stored g c =
    let den_fits : SFits w128 c.args.den = c.ranges.den in
    let p = c.args.p.now in
    let m : IsMappedSystem (substituted c.args.var c.args.expr.now c.args.den) p.cons.dim p.gens c.in-Ok.mapped = lent_generators (λ n. substituted c.args.var c.args.expr.now c.args.den) (λ n. n) p c.gens.result.now c.in-Ok.mapped c.gens.ensures.value c.gens.ensures.kept (simp to_z-of_z at c.in-Ok.ensures.system) in
    record { system = c.in-Ok.mapped; mapped = m; stored = subst (λ (x : Option Polyhedron). IfSome x (AreStoredOfGenerators p.topology c.in-Ok.mapped)) c.in-Some.is c.in_ok-image.ensures.stored }

pub returns-clause-stored : goal.returns-clause-stored
returns-clause-stored g c =
    let den_fits : SFits w128 c.args.den = c.ranges.den in
    let p = c.args.p.now in
    let m : IsMappedSystem (substituted c.args.var c.args.expr.now c.args.den) p.cons.dim p.gens c.in-Ok.mapped = lent_generators (λ n. substituted c.args.var c.args.expr.now c.args.den) (λ n. n) p c.gens.result.now c.in-Ok.mapped c.gens.ensures.value c.gens.ensures.kept (simp to_z-of_z at c.in-Ok.ensures.system) in
    IfOk-weaker c.from_gens_with_point.result (AreStoredOfGenerators c.topology.result c.in-Ok.mapped) (IsStoredOfSubstituted c.args.var c.args.expr.now c.args.den p)
    (λ q h. record { system = c.in-Ok.mapped; mapped = m; stored = subst (λ (t : Topology). AreStoredOfGenerators t c.in-Ok.mapped q) c.topology.ensures.value h })
    c.from_gens_with_point.ensures.stored

pub image_generators-requires : goal.image_generators-requires
image_generators-requires g c =
    let back = sym (to_z-of_z w128 c.args.den c.ranges.den) in
    let dim = ap (λ (gs : Generators). gs.dim) c.gens.ensures.value ∙ kept_dim c.args.p.now c.gens.ensures.kept in
    record {
      var = subst (λ (n : ℕ). c.args.var < n) (sym dim) c.requires.var;
      wide = omega (arith, dim, c.requires.wide);
      expr_in_range = c.requires.in_range;
      den_in_range = subst InRange back c.requires.den_in_range;
      positive = subst (λ (z : ℤ). pos 0 <ℤ z) back c.requires.positive;
    }

pub paired_image-requires : goal.paired_image-requires
paired_image-requires g c =
    let back = sym (to_z-of_z w128 c.args.den c.ranges.den) in
    record {
      var = c.requires.var;
      wide = c.requires.wide;
      in_range = c.requires.in_range;
      den_in_range = subst InRange back c.requires.den_in_range;
      positive = subst (λ (z : ℤ). pos 0 <ℤ z) back c.requires.positive;
      mapped = lent_generators (λ n. substituted c.args.var c.args.expr.now (to_z w128 (of_z w128 c.args.den))) (λ n. n) c.args.p.now c.gens.result.now c.in-Ok.mapped c.gens.ensures.value c.gens.ensures.kept c.in-Ok.ensures.system;
    }

pub returns-in_err-image : goal.returns-in_err-image
returns-in_err-image g c =
    let e = err_from_is_err_and c.from_residual.result c.from_residual.ensures.1 in
    let den_fits : SFits w128 c.args.den = c.ranges.den in
    let p = c.args.p.now in
    let m : IsMappedSystem (substituted c.args.var c.args.expr.now c.args.den) p.cons.dim p.gens c.in-Ok.mapped = lent_generators (λ n. substituted c.args.var c.args.expr.now c.args.den) (λ n. n) p c.gens.result.now c.in-Ok.mapped c.gens.ensures.value c.gens.ensures.kept (simp to_z-of_z at c.in-Ok.ensures.system) in
    let carried = simp to_z-of_z at c.in_err-image.ensures.conversion in
    rw (e.1, e.2) (record { points = tt; stored = tt; overflow = tt; conversion = inr (record { system = c.in-Ok.mapped; mapped = m; pair = Err c.in_err-image.field-0.0; between = c.paired_image.new.steps; tried = carried; after = (refl, refl) }) })

pub returns-in-Err-clause-conversion : goal.returns-in-Err-clause-conversion
returns-in-Err-clause-conversion g c =
    let den_fits : SFits w128 c.args.den = c.ranges.den in
    let leaves = simp to_z-of_z at c.in-Err.ensures.overflow in
    inl (mapped_in_vain c.args.var c.args.expr.now c.args.den c.args.p.now c.gens.result.now c.args.steps.now c.in-Err.cause c.gens.ensures.value leaves)

pub returns-in-Some-clause-conversion : goal.returns-in-Some-clause-conversion
returns-in-Some-clause-conversion g c =
    let den_fits : SFits w128 c.args.den = c.ranges.den in
    let p = c.args.p.now in
    let m : IsMappedSystem (substituted c.args.var c.args.expr.now c.args.den) p.cons.dim p.gens c.in-Ok.mapped = lent_generators (λ n. substituted c.args.var c.args.expr.now c.args.den) (λ n. n) p c.gens.result.now c.in-Ok.mapped c.gens.ensures.value c.gens.ensures.kept (simp to_z-of_z at c.in-Ok.ensures.system) in
    let carried = simp to_z-of_z at c.in_ok-image.ensures.conversion in
    inr (record {
      system = c.in-Ok.mapped;
      mapped = m;
      pair = Ok c.in_ok-image.field-0;
      between = c.paired_image.new.steps;
      tried = carried;
      after = after_found (IsConversion (gens_work p.topology c.in-Ok.mapped)) c.in_ok-image.field-0 c.in-Some.image c.in-Some.is c.paired_image.new.steps;
    })

pub returns-clause-conversion : goal.returns-clause-conversion
returns-clause-conversion g c =
    let den_fits : SFits w128 c.args.den = c.ranges.den in
    let p = c.args.p.now in
    let m : IsMappedSystem (substituted c.args.var c.args.expr.now c.args.den) p.cons.dim p.gens c.in-Ok.mapped = lent_generators (λ n. substituted c.args.var c.args.expr.now c.args.den) (λ n. n) p c.gens.result.now c.in-Ok.mapped c.gens.ensures.value c.gens.ensures.kept (simp to_z-of_z at c.in-Ok.ensures.system) in
    let carried = simp to_z-of_z at c.in_ok-image.ensures.conversion in
    let over = overflow_in conv_overflow c.from_gens_with_point.result in
    let list = subst (λ (t : Topology). IsConversion (gens_work t c.in-Ok.mapped) c.paired_image.new.steps c.from_gens_with_point.new.steps over) c.topology.ensures.value c.from_gens_with_point.ensures.conversion in
    inr (record {
      system = c.in-Ok.mapped;
      mapped = m;
      pair = Ok c.in_ok-image.field-0;
      between = c.paired_image.new.steps;
      tried = carried;
      after = after_none (IsConversion (gens_work p.topology c.in-Ok.mapped)) c.in_ok-image.field-0 c.in_default.not-Some c.paired_image.new.steps c.from_gens_with_point.new.steps over list;
    })
