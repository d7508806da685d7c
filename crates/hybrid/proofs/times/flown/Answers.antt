use Rattle.std.proofs.Common.{Err, inl, inr, arith}
use Rattle.std.proofs.lemmas.Result.{IfOk-weaker, IfErr-weaker}
use Rattle.row_core.specs.declared.errors.ConvErr.{ConvErr}
use Rattle.row_core.specs.declared.errors.ConvErr.TheVariants as conversion
use Rattle.row_core.specs.Refusals.{IsOverflowIn}
use Rattle.row_core.proofs.RefusalLemmas.{overflow_weaker}
use Rattle.elapse.specs.Elapses.{LeavesOnElapse}
use Rattle.elapse.proofs.ElapsedPolyhedra.{elapse_clause}
use Rattle.hybrid.specs.Steps.{IsPartIn, IsFlown, LeavesOnMeet, LeavesOnFlow}
use Rattle.hybrid.proofs.Conversions.{elapse_fewer}
use Rattle.hybrid.proofs.times.flown.Goals as goal

pub returns-clause-flown : goal.returns-clause-flown
returns-clause-flown g c = IfOk-weaker c.part_in.result (IsPartIn c.args.inv.now c.in-Ok.elapsed) (IsFlown c.args.start.now c.args.inv.now c.args.flow.now)
    (λ flown p. record { elapsed = c.in-Ok.elapsed; is_elapse = c.in-Ok.ensures.points; elapsed_kept = c.dim-kept.ensures.kept; is_part = p }) c.part_in.ensures.part

pub returns-clause-overflow : goal.returns-clause-overflow
returns-clause-overflow g c = IfErr-weaker c.part_in.result (IsOverflowIn (LeavesOnMeet c.args.inv.now c.in-Ok.elapsed)) (IsOverflowIn (LeavesOnFlow c.args.start.now c.args.inv.now c.args.flow.now)) by c.part_in.ensures.overflow
  where
    by : (e : ConvErr) → IsOverflowIn (LeavesOnMeet c.args.inv.now c.in-Ok.elapsed) e → IsOverflowIn (LeavesOnFlow c.args.start.now c.args.inv.now c.args.flow.now) e
    by (conversion.Overflow over) l = inr (record { elapsed = c.in-Ok.elapsed; is_elapse = c.in-Ok.ensures.points; elapsed_kept = c.dim-kept.ensures.kept; leaves = l })
    by conversion.Memory l = tt

pub returns-in-Err-clause-overflow : goal.returns-in-Err-clause-overflow
returns-in-Err-clause-overflow g c =
    let start = c.args.start.now in
    let flow = c.args.flow.now in
    overflow_weaker (LeavesOnElapse start flow) (LeavesOnFlow start c.args.inv.now flow) (λ over l. inl l) c.in-Err.cause
    (elapse_clause start flow c.args.steps.now c.time_elapse.new.steps (Err c.in-Err.cause) c.in-Err.ensures.conversion)

pub returns-in-Err-clause-conversion : goal.returns-in-Err-clause-conversion
returns-in-Err-clause-conversion g c = inl c.in-Err.ensures.conversion

pub returns-in-Err-clause-no_fewer : goal.returns-in-Err-clause-no_fewer
returns-in-Err-clause-no_fewer g c = elapse_fewer c.args.start.now c.args.flow.now _ _ _ c.in-Err.ensures.conversion

pub returns-clause-conversion : goal.returns-clause-conversion
returns-clause-conversion g c = inr (record {
  between = c.time_elapse.new.steps;
  first = c.in-Ok.ensures.conversion;
  second = record { elapsed = c.in-Ok.elapsed; is_elapse = c.in-Ok.ensures.points; elapsed_kept = c.dim-kept.ensures.kept; conversion = c.part_in.ensures.conversion };
})

pub returns-clause-no_fewer : goal.returns-clause-no_fewer
returns-clause-no_fewer g c = omega (arith, elapse_fewer c.args.start.now c.args.flow.now _ _ _ c.in-Ok.ensures.conversion, c.part_in.ensures.conversion.no_fewer)
