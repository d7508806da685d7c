use Rattle.std.proofs.Common.{ℕ, ◌+◌, List, [], ◌∷◌, ◌++◌, ap, sym, ◌∙◌}
use Rattle.affine_maps.proofs.PairSets.{range_more}
use Rattle.affine_maps.proofs.posts.later_variables.Goals as goal

pub loop-place-preserved : goal.loop-place-preserved
loop-place-preserved c = c.in_ok-push.ensures.items ∙ ap (λ (xs : List ℕ). xs ++ (c.args.count + c.loop-place.place) ∷ []) c.loop-place.invariant ∙ sym (range_more c.args.count c.loop-place.place)
