use Rattle.std.proofs.Common.{rules, inl, inr, arith}
use Rattle.std.proofs.lemmas.Result.{IfOk-weaker, IfErr-weaker}
use Rattle.row_core.specs.declared.errors.ConvErr.{ConvErr}
use Rattle.row_core.specs.declared.errors.ConvErr.TheVariants as conversion
use Rattle.poly_pair.specs.Polyhedra.{HasNoPoint}
use Rattle.row_core.specs.Refusals.{IsOverflowIn}
use Rattle.hybrid.specs.Steps.{IsFlown, IsTimePost, LeavesOnFlow, LeavesOnTime}
use Rattle.hybrid.proofs.times.time_post.Goals as goal

pub returns-clause-post : goal.returns-clause-post
returns-clause-post g c =
    let some : ¬ (HasNoPoint c.args.flow.now) = search (rules, c.is_empty.ensures.empty, c.if-is_empty.false) in
    IfOk-weaker c.flown.result (IsFlown c.in-Ok.start c.args.inv.now c.args.flow.now) (IsTimePost c.args.set.now c.args.inv.now c.args.flow.now)
    (λ post f. record { start = c.in-Ok.start; is_start = c.in-Ok.ensures.part; after = inr (some, f) }) c.flown.ensures.flown

pub returns-clause-overflow : goal.returns-clause-overflow
returns-clause-overflow g c = IfErr-weaker c.flown.result (IsOverflowIn (LeavesOnFlow c.in-Ok.start c.args.inv.now c.args.flow.now)) (IsOverflowIn (LeavesOnTime c.args.set.now c.args.inv.now c.args.flow.now)) by c.flown.ensures.overflow
  where
    some : ¬ (HasNoPoint c.args.flow.now)
    some = search (rules, c.is_empty.ensures.empty, c.if-is_empty.false)

    by : (e : ConvErr) → IsOverflowIn (LeavesOnFlow c.in-Ok.start c.args.inv.now c.args.flow.now) e → IsOverflowIn (LeavesOnTime c.args.set.now c.args.inv.now c.args.flow.now) e
    by (conversion.Overflow over) l = inr (record { some = some; start = c.in-Ok.start; is_start = c.in-Ok.ensures.part; leaves = l })
    by conversion.Memory l = tt

pub returns-in-Err-clause-conversion : goal.returns-in-Err-clause-conversion
returns-in-Err-clause-conversion g c = inl c.in-Err.ensures.conversion

pub returns-then-is_empty-clause-conversion : goal.returns-then-is_empty-clause-conversion
returns-then-is_empty-clause-conversion g c = inl c.in-Ok.ensures.conversion

pub returns-clause-conversion : goal.returns-clause-conversion
returns-clause-conversion g c =
    let some : ¬ (HasNoPoint c.args.flow.now) = search (rules, c.is_empty.ensures.empty, c.if-is_empty.false) in
    inr (record {
      between = c.part_in.new.steps;
      first = c.in-Ok.ensures.conversion;
      second = record { some = some; start = c.in-Ok.start; is_start = c.in-Ok.ensures.part; conversion = c.flown.ensures.conversion };
    })

pub returns-in-Err-clause-no_fewer : goal.returns-in-Err-clause-no_fewer
returns-in-Err-clause-no_fewer g c = c.in-Err.ensures.conversion.no_fewer

pub returns-then-is_empty-clause-no_fewer : goal.returns-then-is_empty-clause-no_fewer
returns-then-is_empty-clause-no_fewer g c = c.in-Ok.ensures.conversion.no_fewer

pub returns-clause-no_fewer : goal.returns-clause-no_fewer
returns-clause-no_fewer g c = omega (arith, c.in-Ok.ensures.conversion.no_fewer, c.flown.ensures.no_fewer)
