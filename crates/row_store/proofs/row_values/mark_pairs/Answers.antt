use Rattle.std.proofs.Common.{Bool, true, List, ◌++◌, ◌∷◌, [], replicate, ap, ◌∙◌, append_assoc}
use Rattle.std.proofs.lemmas.List.{replicate_more}
use Rattle.row_store.proofs.row_values.mark_pairs.Goals as goal

pub loop-pair-preserved : goal.loop-pair-preserved
loop-pair-preserved c =
    c.in_ok-push.ensures.ok ∙ ap (λ (bs : List Bool). bs ++ true ∷ []) c.loop-pair.invariant ∙ append_assoc c.args.marks.now.items (replicate c.loop-pair._pair true) (true ∷ [])
    ∙ ap (λ (bs : List Bool). c.args.marks.now.items ++ bs) (replicate_more c.loop-pair._pair true)
