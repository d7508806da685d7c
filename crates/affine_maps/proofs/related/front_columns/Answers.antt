use Rattle.std.proofs.Common.{ℕ, List, [], ◌∷◌, ◌++◌, sym, ap, ◌∙◌}
use Rattle.affine_maps.proofs.RelatedResults.{range_push}
use Rattle.affine_maps.proofs.related.front_columns.Goals as goal

pub loop-column-preserved : goal.loop-column-preserved
loop-column-preserved c = c.in_ok-push.ensures.items ∙ ap (λ (xs : List ℕ). xs ++ c.loop-column.column ∷ []) c.loop-column.invariant ∙ sym (range_push c.loop-column.column)
