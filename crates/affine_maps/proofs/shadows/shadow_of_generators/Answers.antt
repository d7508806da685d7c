use Rattle.std.proofs.Common.{ℕ, ◌≤◌, length, refl, sym, subst, inl}
use Rattle.std.proofs.lemmas.Result.{IfOk-weaker, err_from_is_err_and}
use Rattle.poly_pair.specs.Polyhedra.{IsOfGenerators}
use Rattle.poly_pair.specs.Work.{conv_overflow, overflow_in}
use Rattle.poly_pair.specs.Parts.{AreStoredOfGenerators}
use Rattle.poly_pair.specs.declared.topology.TheConstants.{MAX_DIM}
use Rattle.mapped_systems.specs.Maps.{picked}
use Rattle.affine_maps.specs.Shadows.{IsShadow, IsStoredOfShadow, SpanShadow, SpanShadowIfAny}
use Rattle.affine_maps.proofs.ShadowSets.{empty_shadow, shadow_points, shadow_stored, system_conversion}
use Rattle.affine_maps.proofs.shadows.shadow_of_generators.Goals as goal

pub returns-in_default-clause-points : goal.returns-in_default-clause-points
returns-in_default-clause-points g c =
    let cs = c.args.cons.now in
    let columns = c.args.columns.now in
    empty_shadow c.args.topology (picked columns cs.dim) (length columns) cs
    (subst (SpanShadowIfAny c.args.topology (picked columns cs.dim) (length columns) cs) c.in_default.is c.in_ok-generators.ensures) c.in_ok-empty.field-0 c.in_ok-empty.ensures

pub returns-in_default-clause-stored : goal.returns-in_default-clause-stored
returns-in_default-clause-stored g c =
    let cs = c.args.cons.now in
    let columns = c.args.columns.now in
    inl (subst (SpanShadowIfAny c.args.topology (picked columns cs.dim) (length columns) cs) c.in_default.is c.in_ok-generators.ensures)

pub from_gens_with_point-requires-clause-narrow : goal.from_gens_with_point-requires-clause-narrow
from_gens_with_point-requires-clause-narrow g c =
    let cs = c.args.cons.now in
    let columns = c.args.columns.now in
    let span : SpanShadow c.args.topology (picked columns cs.dim) (length columns) cs c.in-Some.mapped = subst (SpanShadowIfAny c.args.topology (picked columns cs.dim) (length columns) cs) c.in-Some.is c.in_ok-generators.ensures in
    subst (λ (n : ℕ). n ≤ MAX_DIM) (sym span.is_system.mapped.same_dim) c.requires.narrow

pub from_gens_with_point-requires-clause-kinds : goal.from_gens_with_point-requires-clause-kinds
from_gens_with_point-requires-clause-kinds g c =
    let cs = c.args.cons.now in
    let columns = c.args.columns.now in
    let span : SpanShadow c.args.topology (picked columns cs.dim) (length columns) cs c.in-Some.mapped = subst (SpanShadowIfAny c.args.topology (picked columns cs.dim) (length columns) cs) c.in-Some.is c.in_ok-generators.ensures in
    span.kinds

pub from_gens_with_point-requires-clause-point : goal.from_gens_with_point-requires-clause-point
from_gens_with_point-requires-clause-point g c =
    let cs = c.args.cons.now in
    let columns = c.args.columns.now in
    let span : SpanShadow c.args.topology (picked columns cs.dim) (length columns) cs c.in-Some.mapped = subst (SpanShadowIfAny c.args.topology (picked columns cs.dim) (length columns) cs) c.in-Some.is c.in_ok-generators.ensures in
    span.point

pub returns-clause-points : goal.returns-clause-points
returns-clause-points g c =
    let cs = c.args.cons.now in
    let columns = c.args.columns.now in
    IfOk-weaker c.from_gens_with_point.result (IsOfGenerators c.args.topology c.in-Some.mapped) (IsShadow c.args.topology (picked columns cs.dim) (length columns) cs)
    (shadow_points c.args.topology (picked columns cs.dim) (length columns) cs c.in-Some.mapped (subst (SpanShadowIfAny c.args.topology (picked columns cs.dim) (length columns) cs) c.in-Some.is c.in_ok-generators.ensures))
    c.from_gens_with_point.ensures.points

pub returns-clause-stored : goal.returns-clause-stored
returns-clause-stored g c =
    let cs = c.args.cons.now in
    let columns = c.args.columns.now in
    IfOk-weaker c.from_gens_with_point.result (AreStoredOfGenerators c.args.topology c.in-Some.mapped) (IsStoredOfShadow c.args.topology (picked columns cs.dim) (length columns) cs)
    (shadow_stored c.args.topology (picked columns cs.dim) (length columns) cs c.in-Some.mapped (subst (SpanShadowIfAny c.args.topology (picked columns cs.dim) (length columns) cs) c.in-Some.is c.in_ok-generators.ensures))
    c.from_gens_with_point.ensures.stored

pub returns-clause-conversion : goal.returns-clause-conversion
returns-clause-conversion g c =
    let cs = c.args.cons.now in
    let columns = c.args.columns.now in
    system_conversion c.args.topology (picked columns cs.dim) (length columns) cs c.in-Some.mapped (subst (SpanShadowIfAny c.args.topology (picked columns cs.dim) (length columns) cs) c.in-Some.is c.in_ok-generators.ensures)
    c.args.steps.now c.from_gens_with_point.new.steps (overflow_in conv_overflow c.from_gens_with_point.result) c.from_gens_with_point.ensures.conversion

pub returns-in_default-clause-conversion : goal.returns-in_default-clause-conversion
returns-in_default-clause-conversion g c = inl (refl, refl)

pub returns-in_err-generators-clause-conversion : goal.returns-in_err-generators-clause-conversion
returns-in_err-generators-clause-conversion g c = let p = err_from_is_err_and c.from_residual.result c.from_residual.ensures.1 in rw (p.1, p.2) (inl (refl, refl))

pub returns-in_err-empty-clause-conversion : goal.returns-in_err-empty-clause-conversion
returns-in_err-empty-clause-conversion g c = let p = err_from_is_err_and c.from_residual-in_err-empty.result c.from_residual-in_err-empty.ensures.1 in rw (p.1, p.2) (inl (refl, refl))
