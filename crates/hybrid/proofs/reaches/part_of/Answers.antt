use Rattle.std.proofs.lemmas.Result.{IfOk-weaker, IfErr-weaker}
use Rattle.row_core.specs.declared.errors.ConvErr.{ConvErr}
use Rattle.row_core.specs.declared.errors.ConvErr.TheVariants as conversion
use Rattle.row_core.specs.Refusals.{IsOverflowIn}
use Rattle.hybrid.specs.Steps.{IsPartIn, LeavesOnMeet}
use Rattle.hybrid.specs.Reaches.{IsPartAt, LeavesInPart}
use Rattle.hybrid.proofs.ReachLaws.{part_at}
use Rattle.hybrid.proofs.reaches.part_of.Goals as goal

pub returns-clause-part : goal.returns-clause-part
returns-clause-part g c = IfOk-weaker c.part_in.result (IsPartIn c.set_of.result.now c.inv.result.now) (IsPartAt c.args.h.now.invariants c.args.sets.now c.args.location)
    (part_at c.args.h.now.invariants c.args.sets.now c.args.location c.inv.result.now c.set_of.result.now c.inv.ensures.value c.set_of.ensures) c.part_in.ensures.part

pub returns-clause-overflow : goal.returns-clause-overflow
returns-clause-overflow g c = IfErr-weaker c.part_in.result (IsOverflowIn (LeavesOnMeet c.set_of.result.now c.inv.result.now)) (IsOverflowIn (LeavesInPart c.args.h.now.invariants c.args.sets.now c.args.location)) by c.part_in.ensures.overflow
  where
    by : (e : ConvErr) → IsOverflowIn (LeavesOnMeet c.set_of.result.now c.inv.result.now) e → IsOverflowIn (LeavesInPart c.args.h.now.invariants c.args.sets.now c.args.location) e
    by (conversion.Overflow over) l = record { set = c.set_of.result.now; inv = c.inv.result.now; has_set = c.set_of.ensures; has_inv = c.inv.ensures.value; leaves = l }
    by conversion.Memory l = tt

pub returns-clause-conversion : goal.returns-clause-conversion
returns-clause-conversion g c = record { set = c.set_of.result.now; inv = c.inv.result.now; has_set = c.set_of.ensures; has_inv = c.inv.ensures.value; conversion = c.part_in.ensures.conversion }

pub returns-clause-no_fewer : goal.returns-clause-no_fewer
returns-clause-no_fewer g c = c.part_in.ensures.conversion.no_fewer
