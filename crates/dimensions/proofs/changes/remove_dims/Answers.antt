use Rattle.std.proofs.Common.{length, subst, arith, inl, inr, refl}
use Rattle.std.proofs.lemmas.Result.{IfOk-weaker, err_from_is_err_and}
use Rattle.gens_sys.specs.Generators.{FitDimension}
use Rattle.poly_pair.specs.Work.{conv_overflow, overflow_in}
use Rattle.poly_pair.specs.Polyhedra.{IsOfGenerators}
use Rattle.mapped_systems.specs.Maps.{remaining, kept_variables}
use Rattle.mapped_systems.specs.MappedLists.{IsMappedSystem}
use Rattle.dimensions.specs.Results.{IsImage}
use Rattle.mapped_systems.proofs.KeptVariables.{kept_fewer}
use Rattle.mapped_systems.proofs.LinearMaps.{remaining_linear}
use Rattle.dimensions.proofs.MappedResults.{lent_generators, mapped_kinds, mapped_point, image_points, mapped_conversion}
use Rattle.dimensions.proofs.changes.remove_dims.Goals as goal

pub from_gens_with_point-requires-clause-narrow : goal.from_gens_with_point-requires-clause-narrow
from_gens_with_point-requires-clause-narrow g c =
    let p = c.args.p.now in
    let m : IsMappedSystem (remaining p.cons.dim c.args.vars.now) (length (kept_variables p.cons.dim c.args.vars.now)) p.gens c.in_ok-remaining.remaining = lent_generators (λ n. remaining n c.args.vars.now) (λ n. length (kept_variables n c.args.vars.now)) p c.gens.result.now c.in_ok-remaining.remaining c.gens.ensures.value c.gens.ensures.kept c.in_ok-remaining.ensures.system in
    omega (arith, m.same_dim, kept_fewer p.cons.dim c.args.vars.now, c.gens.ensures.kept.narrow)

pub from_gens_with_point-requires-clause-kinds : goal.from_gens_with_point-requires-clause-kinds
from_gens_with_point-requires-clause-kinds g c =
    let p = c.args.p.now in
    let m : IsMappedSystem (remaining p.cons.dim c.args.vars.now) (length (kept_variables p.cons.dim c.args.vars.now)) p.gens c.in_ok-remaining.remaining = lent_generators (λ n. remaining n c.args.vars.now) (λ n. length (kept_variables n c.args.vars.now)) p c.gens.result.now c.in_ok-remaining.remaining c.gens.ensures.value c.gens.ensures.kept c.in_ok-remaining.ensures.system in
    mapped_kinds (remaining p.cons.dim c.args.vars.now) c.topology.result (length (kept_variables p.cons.dim c.args.vars.now)) p c.in_ok-remaining.remaining c.topology.ensures.value c.topology.ensures.kept m

pub from_gens_with_point-requires-clause-point : goal.from_gens_with_point-requires-clause-point
from_gens_with_point-requires-clause-point g c =
    let p = c.args.p.now in
    let m : IsMappedSystem (remaining p.cons.dim c.args.vars.now) (length (kept_variables p.cons.dim c.args.vars.now)) p.gens c.in_ok-remaining.remaining = lent_generators (λ n. remaining n c.args.vars.now) (λ n. length (kept_variables n c.args.vars.now)) p c.gens.result.now c.in_ok-remaining.remaining c.gens.ensures.value c.gens.ensures.kept c.in_ok-remaining.ensures.system in
    mapped_point (remaining p.cons.dim c.args.vars.now) (length (kept_variables p.cons.dim c.args.vars.now)) p c.in_ok-remaining.remaining c.gens.ensures.kept m

pub returns-clause-points : goal.returns-clause-points
returns-clause-points g c =
    let p = c.args.p.now in
    let m : IsMappedSystem (remaining p.cons.dim c.args.vars.now) (length (kept_variables p.cons.dim c.args.vars.now)) p.gens c.in_ok-remaining.remaining = lent_generators (λ n. remaining n c.args.vars.now) (λ n. length (kept_variables n c.args.vars.now)) p c.gens.result.now c.in_ok-remaining.remaining c.gens.ensures.value c.gens.ensures.kept c.in_ok-remaining.ensures.system in
    IfOk-weaker c.from_gens_with_point.result (IsOfGenerators c.topology.result c.in_ok-remaining.remaining) (IsImage (remaining p.cons.dim c.args.vars.now) (length (kept_variables p.cons.dim c.args.vars.now)) p)
    (λ q o. image_points (remaining p.cons.dim c.args.vars.now) (length (kept_variables p.cons.dim c.args.vars.now)) p c.in_ok-remaining.remaining c.topology.result c.topology.ensures.value c.gens.ensures.kept (subst FitDimension c.gens.ensures.value c.in_ok-remaining.ensures.fit) (remaining_linear p.cons.dim c.args.vars.now) m q o)
    c.from_gens_with_point.ensures.points

pub returns-clause-conversion : goal.returns-clause-conversion
returns-clause-conversion g c =
    let p = c.args.p.now in
    let new = c.in_ok-remaining.remaining in
    let m : IsMappedSystem (remaining p.cons.dim c.args.vars.now) (length (kept_variables p.cons.dim c.args.vars.now)) p.gens c.in_ok-remaining.remaining = lent_generators (λ n. remaining n c.args.vars.now) (λ n. length (kept_variables n c.args.vars.now)) p c.gens.result.now c.in_ok-remaining.remaining c.gens.ensures.value c.gens.ensures.kept c.in_ok-remaining.ensures.system in
    inr (mapped_conversion (remaining p.cons.dim c.args.vars.now) (length (kept_variables p.cons.dim c.args.vars.now)) p new c.topology.result c.args.steps.now c.from_gens_with_point.new.steps (overflow_in conv_overflow c.from_gens_with_point.result) c.topology.ensures.value m c.from_gens_with_point.ensures.conversion)

pub returns-in_err-remaining-clause-conversion : goal.returns-in_err-remaining-clause-conversion
returns-in_err-remaining-clause-conversion g c = let p = err_from_is_err_and c.from_residual.result c.from_residual.ensures.1 in rw (p.1, p.2) (inl (refl, refl))
