use Rattle.std.proofs.Common.{Err, inl, inr, refl, arith}
use Rattle.std.proofs.lemmas.Result.{IfErr-weaker}
use Rattle.row_core.specs.Refusals.{IsOverflowIn}
use Rattle.row_core.proofs.RefusalLemmas.{overflow_weaker}
use Rattle.affine_maps.proofs.PairSets.{steps_clause}
use Rattle.hybrid.specs.Steps.{LeavesOnEmbedding, LeavesOnEmbeddedPost}
use Rattle.hybrid.proofs.Conversions.{steps_fewer}
use Rattle.hybrid.proofs.posts.post.Goals as goal

pub returns-clause-overflow : goal.returns-clause-overflow
returns-clause-overflow g c =
    let set = c.args.set.now in
    let relation = c.args.relation.now in
    let by_steps = rw c.in-Err-Overflow.field-0-is at (steps_clause set relation c.args.steps.now c.post_from.new.steps (Err c.in-Err-Overflow.field-0) c.requires.relation.over.same_topology c.in-Err-Overflow.ensures.conversion) in
    IfErr-weaker c.post_of_embedded.result (IsOverflowIn (LeavesOnEmbedding set relation)) (IsOverflowIn (LeavesOnEmbeddedPost set relation))
    (overflow_weaker (LeavesOnEmbedding set relation) (LeavesOnEmbeddedPost set relation) (λ over l. record { first = _; by_steps = by_steps; by_embedding = l }))
    c.post_of_embedded.ensures.overflow

pub returns-in-Ok-clause-conversion : goal.returns-in-Ok-clause-conversion
returns-in-Ok-clause-conversion g c = inl (refl, c.in-Ok.ensures.conversion)

pub returns-in-Err-Memory-clause-conversion : goal.returns-in-Err-Memory-clause-conversion
returns-in-Err-Memory-clause-conversion g c = inl (refl, rw c.in-Err-Memory.field-0-is at c.in-Err-Memory.ensures.conversion)

pub returns-clause-conversion : goal.returns-clause-conversion
returns-clause-conversion g c =
    let by_steps = rw c.in-Err-Overflow.field-0-is at c.in-Err-Overflow.ensures.conversion in
    inr (record { between = c.post_from.new.steps; refused = _; first = by_steps; second = c.post_of_embedded.ensures.conversion })

pub returns-in-Ok-clause-no_fewer : goal.returns-in-Ok-clause-no_fewer
returns-in-Ok-clause-no_fewer g c = steps_fewer c.args.set.now c.args.relation.now _ _ _ c.in-Ok.ensures.conversion

pub returns-in-Err-Memory-clause-no_fewer : goal.returns-in-Err-Memory-clause-no_fewer
returns-in-Err-Memory-clause-no_fewer g c = steps_fewer c.args.set.now c.args.relation.now _ _ _ c.in-Err-Memory.ensures.conversion

pub returns-clause-no_fewer : goal.returns-clause-no_fewer
returns-clause-no_fewer g c = omega (arith, steps_fewer c.args.set.now c.args.relation.now _ _ _ c.in-Err-Overflow.ensures.conversion, c.post_of_embedded.ensures.no_fewer)
