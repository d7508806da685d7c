use Rattle.std.proofs.Common.{◌+◌, inl, inr, refl, subst, arith}
use Rattle.std.specs.Prelude.{⊤, Option, Ok, Err, MatchOption}
use Rattle.std.proofs.lemmas.Result.{IfOk-weaker, IfErr-weaker, err_from_is_err_and}
use Rattle.gens_sys.specs.Generators.{FitDimension}
use Rattle.poly_pair.specs.Polyhedra.{Polyhedron, IsOfGenerators}
use Rattle.mapped_systems.specs.Maps.{with_zeros}
use Rattle.mapped_systems.specs.MappedLists.{IsMappedSystem}
use Rattle.poly_pair.specs.declared.topology.Topology.{Topology}
use Rattle.poly_pair.specs.Parts.{AreStoredOfGenerators}
use Rattle.dimensions.specs.Results.{IsProjection, IsStoredOfMapped}
use Rattle.row_core.specs.Refusals.{IsOverflowIn}
use Rattle.mapped_systems.proofs.LinearMaps.{padding_linear}
use Rattle.poly_pair.specs.Starts.{CanStart}
use Rattle.mapped_systems.proofs.StoredPairs.{always_in, any_error}
use Rattle.dimensions.specs.AddedVariables.{LeavesWithZeros}
use Rattle.dimensions.proofs.MappedResults.{lent_generators, mapped_kinds, mapped_point, image_points, mapped_overflow, projection_points}
use Rattle.poly_pair.specs.Work.{gens_work, conv_overflow, overflow_in, IsConversion}
use Rattle.mapped_systems.proofs.AfterPairs.{after_found, after_none}
use Rattle.dimensions.proofs.PairConversions.{zero_fewer, zero_leaves}
use Rattle.dimensions.proofs.changes.project.Goals as goal

pub from_gens_with_point-requires-clause-kinds : goal.from_gens_with_point-requires-clause-kinds
from_gens_with_point-requires-clause-kinds g c =
    let p = c.args.p.now in
    let m : IsMappedSystem (with_zeros p.cons.dim c.args.count) (p.cons.dim + c.args.count) p.gens c.in_ok-padded.padded = lent_generators (λ n. with_zeros n c.args.count) (λ n. n + c.args.count) p c.gens.result.now c.in_ok-padded.padded c.gens.ensures.value c.gens.ensures.kept c.in_ok-padded.ensures.system in
    mapped_kinds (with_zeros p.cons.dim c.args.count) c.topology.result (p.cons.dim + c.args.count) p c.in_ok-padded.padded c.topology.ensures.value c.topology.ensures.kept m

pub from_gens_with_point-requires-clause-point : goal.from_gens_with_point-requires-clause-point
from_gens_with_point-requires-clause-point g c =
    let p = c.args.p.now in
    let m : IsMappedSystem (with_zeros p.cons.dim c.args.count) (p.cons.dim + c.args.count) p.gens c.in_ok-padded.padded = lent_generators (λ n. with_zeros n c.args.count) (λ n. n + c.args.count) p c.gens.result.now c.in_ok-padded.padded c.gens.ensures.value c.gens.ensures.kept c.in_ok-padded.ensures.system in
    mapped_point (with_zeros p.cons.dim c.args.count) (p.cons.dim + c.args.count) p c.in_ok-padded.padded c.gens.ensures.kept m

pub returns-clause-points : goal.returns-clause-points
returns-clause-points g c =
    let p = c.args.p.now in
    let m : IsMappedSystem (with_zeros p.cons.dim c.args.count) (p.cons.dim + c.args.count) p.gens c.in_ok-padded.padded = lent_generators (λ n. with_zeros n c.args.count) (λ n. n + c.args.count) p c.gens.result.now c.in_ok-padded.padded c.gens.ensures.value c.gens.ensures.kept c.in_ok-padded.ensures.system in
    IfOk-weaker c.from_gens_with_point.result (IsOfGenerators c.topology.result c.in_ok-padded.padded) (IsProjection c.args.count p)
    (λ q o. projection_points p c.args.count q (image_points (with_zeros p.cons.dim c.args.count) (p.cons.dim + c.args.count) p c.in_ok-padded.padded c.topology.result c.topology.ensures.value c.gens.ensures.kept (subst FitDimension c.gens.ensures.value c.in_ok-padded.ensures.fit) (padding_linear p.cons.dim c.args.count) m q o))
    c.from_gens_with_point.ensures.points

pub returns-clause-stored : goal.returns-clause-stored
returns-clause-stored g c =
    let p = c.args.p.now in
    let new = c.in_ok-padded.padded in
    let m : IsMappedSystem (with_zeros p.cons.dim c.args.count) (p.cons.dim + c.args.count) p.gens new = lent_generators (λ n. with_zeros n c.args.count) (λ n. n + c.args.count) p c.gens.result.now new c.gens.ensures.value c.gens.ensures.kept c.in_ok-padded.ensures.system in
    IfOk-weaker c.from_gens_with_point.result (AreStoredOfGenerators c.topology.result new) (IsStoredOfMapped (with_zeros p.cons.dim c.args.count) (p.cons.dim + c.args.count) p)
    (λ q h. record { system = new; mapped = m; stored = subst (λ (t : Topology). AreStoredOfGenerators t new q) c.topology.ensures.value h })
    c.from_gens_with_point.ensures.stored

pub returns-clause-overflow : goal.returns-clause-overflow
returns-clause-overflow g c =
    let p = c.args.p.now in
    let new = c.in_ok-padded.padded in
    let m : IsMappedSystem (with_zeros p.cons.dim c.args.count) (p.cons.dim + c.args.count) p.gens c.in_ok-padded.padded = lent_generators (λ n. with_zeros n c.args.count) (λ n. n + c.args.count) p c.gens.result.now c.in_ok-padded.padded c.gens.ensures.value c.gens.ensures.kept c.in_ok-padded.ensures.system in
    mapped_overflow (with_zeros p.cons.dim c.args.count) (p.cons.dim + c.args.count) p new c.topology.result _ _ c.from_gens_with_point.result c.topology.ensures.value m c.from_gens_with_point.ensures.conversion

pub returns-in-Some-clause-points : goal.returns-in-Some-clause-points
returns-in-Some-clause-points g c =
    let p = c.args.p.now in
    let m : IsMappedSystem (with_zeros p.cons.dim c.args.count) (p.cons.dim + c.args.count) p.gens c.in_ok-padded.padded = lent_generators (λ n. with_zeros n c.args.count) (λ n. n + c.args.count) p c.gens.result.now c.in_ok-padded.padded c.gens.ensures.value c.gens.ensures.kept c.in_ok-padded.ensures.system in
    let o : IsOfGenerators p.topology c.in_ok-padded.padded c.in-Some.projection = subst (λ (x : Option Polyhedron). MatchOption x ⊤ (IsOfGenerators p.topology c.in_ok-padded.padded)) c.in-Some.is c.in_ok-projection.ensures.points in
    projection_points p c.args.count c.in-Some.projection (image_points (with_zeros p.cons.dim c.args.count) (p.cons.dim + c.args.count) p c.in_ok-padded.padded p.topology refl c.gens.ensures.kept (subst FitDimension c.gens.ensures.value c.in_ok-padded.ensures.fit) (padding_linear p.cons.dim c.args.count) m c.in-Some.projection o)

pub projected_pair-requires : goal.projected_pair-requires
projected_pair-requires g c = record {
  narrow = c.requires;
  mapped = lent_generators (λ n. with_zeros n c.args.count) (λ n. n + c.args.count) c.args.p.now c.gens.result.now c.in_ok-padded.padded c.gens.ensures.value c.gens.ensures.kept c.in_ok-padded.ensures.system;
}

pub returns-clause-pair : goal.returns-clause-pair
returns-clause-pair g c =
    let p = c.args.p.now in
    let none : CanStart p → LeavesWithZeros c.args.count p = zero_leaves c.args.count p c.args.steps.now c.projected_pair.new.steps c.in_ok-projection.field-0 c.in_default.not-Some c.in_ok-projection.ensures.conversion in
    IfErr-weaker c.from_gens_with_point.result (λ _. ⊤) (IsOverflowIn (λ _. CanStart p → LeavesWithZeros c.args.count p)) (λ e _. always_in (CanStart p → LeavesWithZeros c.args.count p) none e) (any_error c.from_gens_with_point.result)

pub returns-in_err-padded : goal.returns-in_err-padded
returns-in_err-padded g c =
    let r = err_from_is_err_and c.from_residual.result c.from_residual.ensures.1 in
    rw (r.1, r.2) (record { points = tt; stored = tt; overflow = tt; pair = tt; no_fewer = omega arith; conversion = inl (refl, refl) })

pub returns-in_err-projection : goal.returns-in_err-projection
returns-in_err-projection g c =
    let r = err_from_is_err_and c.from_residual-in_err-projection.result c.from_residual-in_err-projection.ensures.1 in
    let p = c.args.p.now in
    let new = c.in_ok-padded.padded in
    let m : IsMappedSystem (with_zeros p.cons.dim c.args.count) (p.cons.dim + c.args.count) p.gens new = lent_generators (λ n. with_zeros n c.args.count) (λ n. n + c.args.count) p c.gens.result.now new c.gens.ensures.value c.gens.ensures.kept c.in_ok-padded.ensures.system in
    rw (r.1, r.2) (record {
      points = tt;
      stored = tt;
      overflow = tt;
      pair = tt;
      no_fewer = zero_fewer c.args.count p c.args.steps.now c.projected_pair.new.steps c.projected_pair.result c.projected_pair.ensures.conversion;
      conversion = inr (record { system = new; mapped = m; pair = Err c.in_err-projection.field-0.0; between = c.projected_pair.new.steps; tried = c.in_err-projection.ensures.conversion; after = (refl, refl) });
    })

pub returns-in-Some-clause-conversion : goal.returns-in-Some-clause-conversion
returns-in-Some-clause-conversion g c =
    let p = c.args.p.now in
    let new = c.in_ok-padded.padded in
    let m : IsMappedSystem (with_zeros p.cons.dim c.args.count) (p.cons.dim + c.args.count) p.gens new = lent_generators (λ n. with_zeros n c.args.count) (λ n. n + c.args.count) p c.gens.result.now new c.gens.ensures.value c.gens.ensures.kept c.in_ok-padded.ensures.system in
    inr (record {
      system = new;
      mapped = m;
      pair = Ok c.in_ok-projection.field-0;
      between = c.projected_pair.new.steps;
      tried = c.in_ok-projection.ensures.conversion;
      after = after_found (IsConversion (gens_work p.topology new)) c.in_ok-projection.field-0 c.in-Some.projection c.in-Some.is c.projected_pair.new.steps;
    })

pub returns-in-Some-clause-no_fewer : goal.returns-in-Some-clause-no_fewer
returns-in-Some-clause-no_fewer g c = zero_fewer c.args.count c.args.p.now c.args.steps.now c.projected_pair.new.steps c.projected_pair.result c.projected_pair.ensures.conversion

pub returns-clause-conversion : goal.returns-clause-conversion
returns-clause-conversion g c =
    let p = c.args.p.now in
    let new = c.in_ok-padded.padded in
    let m : IsMappedSystem (with_zeros p.cons.dim c.args.count) (p.cons.dim + c.args.count) p.gens new = lent_generators (λ n. with_zeros n c.args.count) (λ n. n + c.args.count) p c.gens.result.now new c.gens.ensures.value c.gens.ensures.kept c.in_ok-padded.ensures.system in
    let over = overflow_in conv_overflow c.from_gens_with_point.result in
    let list = subst (λ (t : Topology). IsConversion (gens_work t new) c.projected_pair.new.steps c.from_gens_with_point.new.steps over) c.topology.ensures.value c.from_gens_with_point.ensures.conversion in
    inr (record {
      system = new;
      mapped = m;
      pair = Ok c.in_ok-projection.field-0;
      between = c.projected_pair.new.steps;
      tried = c.in_ok-projection.ensures.conversion;
      after = after_none (IsConversion (gens_work p.topology new)) c.in_ok-projection.field-0 c.in_default.not-Some c.projected_pair.new.steps c.from_gens_with_point.new.steps over list;
    })

pub returns-clause-no_fewer : goal.returns-clause-no_fewer
returns-clause-no_fewer g c = omega (arith, zero_fewer c.args.count c.args.p.now c.args.steps.now c.projected_pair.new.steps c.projected_pair.result c.projected_pair.ensures.conversion, c.from_gens_with_point.ensures.conversion.no_fewer)
