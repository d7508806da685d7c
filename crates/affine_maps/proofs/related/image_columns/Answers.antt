use Rattle.std.proofs.Common.{ℕ, List, [], ◌∷◌, ◌++◌, length, sym, ap, ◌∙◌, arith}
use Rattle.std.proofs.lemmas.List.FromFn.{length-range_with_len}
use Rattle.affine_maps.proofs.RelatedResults.{range_push}
use Rattle.affine_maps.proofs.related.image_columns.Goals as goal

pub loop-column-preserved : goal.loop-column-preserved
loop-column-preserved c = c.in_ok-push.ensures.items ∙ ap (λ (xs : List ℕ). xs ++ c.loop-column.column ∷ []) c.loop-column.invariant ∙ sym (range_push c.loop-column.column)

pub index_mut-requires : goal.index_mut-requires
index_mut-requires c = omega (arith, ap length c.loop-column.invariant, length-range_with_len 0 c.loop-column.column)
