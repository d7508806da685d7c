use Rattle.std.proofs.Common.{◌⊎◌, inl, inr, arith}
use Rattle.std.proofs.lemmas.Result.{IfOk-weaker, IfErr-weaker}
use Rattle.poly_pair.specs.TopologyLists.{list_width, generators_of}
use Rattle.poly_pair.specs.Refusals.{IsOverflowOn}
use Rattle.lattice_ops.specs.Sets.{both_generators}
use Rattle.lattice_ops.specs.Growing.{IsGrown}
use Rattle.row_core.specs.Refusals.{IsOverflowIn}
use Rattle.row_core.proofs.RefusalLemmas.{overflow_weaker}
use Rattle.widening.specs.RunLaws.{IsFound}
use Rattle.hybrid.specs.Steps.{IsTimePost, LeavesOnTime}
use Rattle.hybrid.specs.Turns.{IsHullWithPost, LeavesAfter, LeavesOnTimeTurn}
use Rattle.hybrid.proofs.Joined.{found_of, leaves_of}
use Rattle.poly_pair.proofs.WorkLemmas.{overflow_clause}
use Rattle.hybrid.proofs.turns.time_joined.Goals as goal

pub returns-clause-found : goal.returns-clause-found
returns-clause-found g c =
    IfOk-weaker c.grown.result (IsGrown c.args.old.now c.in-Ok.post) (IsFound (IsHullWithPost (IsTimePost c.args.old.now c.args.inv.now c.args.flow.now) c.args.old.now) c.args.old.now)
    (found_of (IsTimePost c.args.old.now c.args.inv.now c.args.flow.now) c.args.inv.now.cons.dim c.args.old.now c.requires.old c.in-Ok.post c.in-Ok.ensures.post) c.grown.ensures.grown

pub returns-clause-overflow : goal.returns-clause-overflow
returns-clause-overflow g c =
    IfErr-weaker c.grown.result (IsOverflowOn (list_width c.args.old.now.topology c.args.old.now.cons.dim) c.args.old.now.cons.dim (generators_of c.args.old.now.topology (both_generators c.args.old.now c.in-Ok.post))) (IsOverflowIn (λ over. LeavesOnTime c.args.old.now c.args.inv.now c.args.flow.now over ⊎ LeavesAfter (IsTimePost c.args.old.now c.args.inv.now c.args.flow.now) c.args.old.now over))
    (leaves_of (IsTimePost c.args.old.now c.args.inv.now c.args.flow.now) (LeavesOnTime c.args.old.now c.args.inv.now c.args.flow.now) c.args.old.now c.in-Ok.post c.in-Ok.ensures.post) (overflow_clause _ _ _ c.grown.result c.grown.ensures.conversion)

pub returns-in-Err-clause-conversion : goal.returns-in-Err-clause-conversion
returns-in-Err-clause-conversion g c = inl c.in-Err.ensures.conversion

pub returns-clause-conversion : goal.returns-clause-conversion
returns-clause-conversion g c = inr (record {
  between = c.time_post.new.steps;
  first = c.in-Ok.ensures.conversion;
  second = record { post = c.in-Ok.post; is_post = c.in-Ok.ensures.post; conversion = c.grown.ensures.conversion };
})

pub returns-clause-no_fewer : goal.returns-clause-no_fewer
returns-clause-no_fewer g c = omega (arith, c.in-Ok.ensures.no_fewer, c.grown.ensures.conversion.no_fewer)

pub returns-in-Err-clause-overflow : goal.returns-in-Err-clause-overflow
returns-in-Err-clause-overflow g c =
    let old = c.args.old.now in
    let inv = c.args.inv.now in
    let flow = c.args.flow.now in
    overflow_weaker (LeavesOnTime old inv flow) (LeavesOnTimeTurn old inv flow) (λ over l. inl l) c.in-Err.cause c.in-Err.ensures.overflow
