use Rattle.std.proofs.Common.{Err, inl, inr, subst, arith}
use Rattle.std.proofs.lemmas.Result.{IfOk-weaker, IfErr-weaker}
use Rattle.cons_sys.specs.Constraints.{FitDimension}
use Rattle.lattice_ops.specs.Growing.{IsGrownBy}
use Rattle.affine_maps.specs.Posts.{SpanPostIfAny}
use Rattle.widening.specs.RunLaws.{IsFound}
use Rattle.poly_pair.specs.Refusals.{IsOverflowOn}
use Rattle.poly_pair.specs.Work.{added_gens}
use Rattle.poly_pair.proofs.WorkLemmas.{overflow_clause}
use Rattle.row_core.specs.Refusals.{IsOverflowIn}
use Rattle.row_core.proofs.RefusalLemmas.{overflow_weaker}
use Rattle.affine_maps.specs.PostLists.{LeavesOnSteps, AreOfStepsIfAny}
use Rattle.affine_maps.proofs.PairSets.{first_steps_clause}
use Rattle.fixpoint.specs.Runs.{IsHullWithSuccessors, LeavesByGenerators}
use Rattle.fixpoint.proofs.SystemTurns.{found_without, found_by_generators, growth_leaves}
use Rattle.fixpoint.proofs.PostConversions.{steps_fewer}
use Rattle.fixpoint.proofs.transitions.joined_by_generators.Goals as goal

pub returns-in_default-clause-found : goal.returns-in_default-clause-found
returns-in_default-clause-found g c =
    found_without c.args.source.now c.args.relation.now c.args.old.now c.requires.source c.requires.old (subst FitDimension c.cons.ensures.value c.dim-fit.ensures.rows)
    (subst (SpanPostIfAny c.args.source.now c.args.relation.now) c.in_default.is c.in-Ok.ensures.generators)

pub returns-clause-found : goal.returns-clause-found
returns-clause-found g c =
    let old = c.args.old.now in
    IfOk-weaker c.grown_by.result (IsGrownBy old c.in-Some.generators) (IsFound (IsHullWithSuccessors c.args.source.now c.args.relation.now old) old)
    (found_by_generators c.args.source.now c.args.relation.now old c.requires.source c.requires.old (subst FitDimension c.cons.ensures.value c.dim-fit.ensures.rows) c.in-Some.generators
    (subst (SpanPostIfAny c.args.source.now c.args.relation.now) c.in-Some.is c.in-Ok.ensures.generators)) c.grown_by.ensures.grown

pub returns-clause-overflow : goal.returns-clause-overflow
returns-clause-overflow g c =
    let old = c.args.old.now in
    let gens = c.in-Some.generators in
    let work = added_gens old gens in
    IfErr-weaker c.grown_by.result (IsOverflowOn work.width work.column work.rows) (IsOverflowIn (LeavesByGenerators c.args.source.now c.args.relation.now old))
    (growth_leaves c.args.source.now c.args.relation.now old gens (subst (SpanPostIfAny c.args.source.now c.args.relation.now) c.in-Some.is c.in-Ok.ensures.generators))
    (overflow_clause _ _ _ c.grown_by.result c.grown_by.ensures.conversion)

pub returns-in-Err-clause-overflow : goal.returns-in-Err-clause-overflow
returns-in-Err-clause-overflow g c =
    let source = c.args.source.now in
    let relation = c.args.relation.now in
    overflow_weaker (LeavesOnSteps source relation) (LeavesByGenerators source relation c.args.old.now) (λ over l. inl l) c.in-Err.cause
    (first_steps_clause source relation c.args.steps.now c.post_generators.new.steps (Err c.in-Err.cause) c.requires.relation.over.same_topology c.in-Err.ensures.conversion)

pub returns-in-Err-clause-conversion : goal.returns-in-Err-clause-conversion
returns-in-Err-clause-conversion g c = inl c.in-Err.ensures.conversion

pub returns-in-Err-clause-no_fewer : goal.returns-in-Err-clause-no_fewer
returns-in-Err-clause-no_fewer g c = steps_fewer c.args.source.now c.args.relation.now _ _ _ c.in-Err.ensures.conversion

pub returns-in_default-clause-conversion : goal.returns-in_default-clause-conversion
returns-in_default-clause-conversion g c = inl c.in-Ok.ensures.conversion

pub returns-in_default-clause-no_fewer : goal.returns-in_default-clause-no_fewer
returns-in_default-clause-no_fewer g c = steps_fewer c.args.source.now c.args.relation.now _ _ _ c.in-Ok.ensures.conversion

pub returns-clause-conversion : goal.returns-clause-conversion
returns-clause-conversion g c = inr (record {
  between = c.post_generators.new.steps;
  first = c.in-Ok.ensures.conversion;
  second = record { gens = c.in-Some.generators; of_steps = subst (AreOfStepsIfAny c.args.source.now c.args.relation.now) c.in-Some.is c.in-Ok.ensures.system; conversion = c.grown_by.ensures.conversion };
})

pub returns-clause-no_fewer : goal.returns-clause-no_fewer
returns-clause-no_fewer g c = omega (arith, steps_fewer c.args.source.now c.args.relation.now _ _ _ c.in-Ok.ensures.conversion, c.grown_by.ensures.conversion.no_fewer)
