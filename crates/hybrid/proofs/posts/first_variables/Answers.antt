use Rattle.std.proofs.Common.{ℕ, List, [], ◌∷◌, ◌++◌, ap, sym, ◌∙◌}
use Rattle.affine_maps.proofs.RelatedResults.{range_push}
use Rattle.hybrid.proofs.posts.first_variables.Goals as goal

pub loop-var-preserved : goal.loop-var-preserved
loop-var-preserved c = c.in_ok-push.ensures.items ∙ ap (λ (xs : List ℕ). xs ++ c.loop-var.var ∷ []) c.loop-var.invariant ∙ sym (range_push c.loop-var.var)
