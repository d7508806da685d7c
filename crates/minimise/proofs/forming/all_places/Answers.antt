use Rattle.std.proofs.Common.{◌∷◌, ◌++◌, [], List, ℕ, sym, ap, ◌∙◌, arith}
use Rattle.std.specs.List.{range_with_len}
use Rattle.ray_order.proofs.Rankings.{range_more}
use Rattle.minimise.proofs.forming.all_places.Goals as goal

pub loop-place-preserved : goal.loop-place-preserved
loop-place-preserved c = c.in_ok-push.ensures.items ∙ ap (λ (is : List ℕ). is ++ c.loop-place.place ∷ []) c.loop-place.invariant ∙ sym (range_more c.loop-place.place)

pub returns : goal.returns
returns c = c.loop-place.invariant ∙ ap (range_with_len 0) (omega (arith, c.loop-place-test.false))
