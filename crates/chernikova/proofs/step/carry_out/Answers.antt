use Rattle.std.proofs.Common.{subst}
use Rattle.chernikova.specs.declared.plan.Plan.{Plan}
use Rattle.chernikova.specs.Rooms.{IsReady}
use Rattle.chernikova.proofs.step.carry_out.Goals as goal

pub step_with_line-requires-clause-ready : goal.step_with_line-requires-clause-ready
step_with_line-requires-clause-ready g c =
    let P : Plan → Type 0 = λ p. IsReady c.args.rows.now.width c.args.rows.now.rows c.args.k p c.args.scratch.now c.args.cone.now in
    subst P c.in-Line.is c.requires.ready

pub keep_vectors-requires-clause-ready : goal.keep_vectors-requires-clause-ready
keep_vectors-requires-clause-ready g c =
    let P : Plan → Type 0 = λ p. IsReady c.args.rows.now.width c.args.rows.now.rows c.args.k p c.args.scratch.now c.args.cone.now in
    subst P c.in-Same.is c.requires.ready

pub step_with_pairs-requires-clause-ready : goal.step_with_pairs-requires-clause-ready
step_with_pairs-requires-clause-ready g c =
    let P : Plan → Type 0 = λ p. IsReady c.args.rows.now.width c.args.rows.now.rows c.args.k p c.args.scratch.now c.args.cone.now in
    subst P c.in-Ray.is c.requires.ready
