use Rattle.std.proofs.Common.{inl, inr, arith}
use Rattle.std.proofs.lemmas.Result.{IfOk-weaker, IfErr-weaker}
use Rattle.row_core.specs.declared.errors.ConvErr.{ConvErr}
use Rattle.row_core.specs.declared.errors.ConvErr.TheVariants as conversion
use Rattle.row_core.specs.Refusals.{IsOverflowIn}
use Rattle.row_core.proofs.RefusalLemmas.{overflow_weaker}
use Rattle.hybrid.specs.Steps.{IsPartIn, IsJumpPost, LeavesOnMeet, LeavesOnEmbeddedPost, LeavesOnJump}
use Rattle.hybrid.proofs.jumps.jump_post.Goals as goal

pub returns-clause-post : goal.returns-clause-post
returns-clause-post g c = IfOk-weaker c.part_in-2.result (IsPartIn c.args.target_inv.now c.in-Ok-post.successors) (IsJumpPost c.args.set.now c.args.inv.now c.args.relation.now c.args.target_inv.now)
    (λ post p. record { start = c.in-Ok.start; is_start = c.in-Ok.ensures.part; successors = c.in-Ok-post.successors; is_post = c.in-Ok-post.ensures.post; successors_kept = c.dim-kept.ensures.kept; is_part = p }) c.part_in-2.ensures.part

pub returns-clause-overflow : goal.returns-clause-overflow
returns-clause-overflow g c = IfErr-weaker c.part_in-2.result (IsOverflowIn (LeavesOnMeet c.args.target_inv.now c.in-Ok-post.successors)) (IsOverflowIn (LeavesOnJump c.args.set.now c.args.inv.now c.args.relation.now c.args.target_inv.now)) by c.part_in-2.ensures.overflow
  where
    by : (e : ConvErr) → IsOverflowIn (LeavesOnMeet c.args.target_inv.now c.in-Ok-post.successors) e → IsOverflowIn (LeavesOnJump c.args.set.now c.args.inv.now c.args.relation.now c.args.target_inv.now) e
    by (conversion.Overflow over) l = inr (inr (record { start = c.in-Ok.start; is_start = c.in-Ok.ensures.part; successors = c.in-Ok-post.successors; is_post = c.in-Ok-post.ensures.post; successors_kept = c.dim-kept.ensures.kept; leaves = l }))
    by conversion.Memory l = tt

pub returns-in-Err-clause-conversion : goal.returns-in-Err-clause-conversion
returns-in-Err-clause-conversion g c = inl c.in-Err.ensures.conversion

pub returns-in-Err-post-clause-conversion : goal.returns-in-Err-post-clause-conversion
returns-in-Err-post-clause-conversion g c = inr (record {
  between = c.part_in.new.steps;
  first = c.in-Ok.ensures.conversion;
  second = inl (record { start = c.in-Ok.start; is_start = c.in-Ok.ensures.part; conversion = c.in-Err-post.ensures.conversion });
})

pub returns-clause-conversion : goal.returns-clause-conversion
returns-clause-conversion g c = inr (record {
  between = c.part_in.new.steps;
  first = c.in-Ok.ensures.conversion;
  second = inr (record {
    between = c.post.new.steps;
    first = record { start = c.in-Ok.start; is_start = c.in-Ok.ensures.part; conversion = c.in-Ok-post.ensures.conversion };
    second = record { start = c.in-Ok.start; is_start = c.in-Ok.ensures.part; successors = c.in-Ok-post.successors; is_post = c.in-Ok-post.ensures.post; successors_kept = c.dim-kept.ensures.kept; conversion = c.part_in-2.ensures.conversion };
  });
})

pub returns-in-Err-clause-no_fewer : goal.returns-in-Err-clause-no_fewer
returns-in-Err-clause-no_fewer g c = c.in-Err.ensures.conversion.no_fewer

pub returns-in-Err-post-clause-no_fewer : goal.returns-in-Err-post-clause-no_fewer
returns-in-Err-post-clause-no_fewer g c = omega (arith, c.in-Ok.ensures.conversion.no_fewer, c.in-Err-post.ensures.no_fewer)

pub returns-clause-no_fewer : goal.returns-clause-no_fewer
returns-clause-no_fewer g c = omega (arith, c.in-Ok.ensures.conversion.no_fewer, c.in-Ok-post.ensures.no_fewer, c.part_in-2.ensures.conversion.no_fewer)

pub returns-in-Err-post-clause-overflow : goal.returns-in-Err-post-clause-overflow
returns-in-Err-post-clause-overflow g c =
    let relation = c.args.relation.now in
    overflow_weaker (LeavesOnEmbeddedPost c.in-Ok.start relation) (LeavesOnJump c.args.set.now c.args.inv.now relation c.args.target_inv.now)
    (λ over l. inr (inl (record { start = c.in-Ok.start; is_start = c.in-Ok.ensures.part; leaves = l }))) c.in-Err-post.cause c.in-Err-post.ensures.overflow
