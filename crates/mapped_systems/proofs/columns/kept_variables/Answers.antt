use Rattle.std.proofs.Common.{ℕ, List, [], ◌∷◌, ◌++◌, sym, ap, ◌∙◌, Vec, Global}
use Rattle.mapped_systems.proofs.KeptVariables.{kept_more, named_more}
use Rattle.mapped_systems.proofs.columns.kept_variables.Goals as goal
use Rattle.mapped_systems.proofs.columns.kept_variables.Goals.{then-not-contains+in_ok-push, else-not-contains}

pub loop-variable-preserved : goal.loop-variable-preserved
loop-variable-preserved c =
    let n = c.loop-variable.variable-counter in
    elim c.if-not-contains.branch [
      | then-not-contains+in_ok-push w ↦ ap (λ (v : Vec ℕ Global). v.items) w.kept-is ∙ w.in_ok-push.ensures.items ∙ ap (λ (xs : List ℕ). xs ++ n ∷ []) c.loop-variable.invariant ∙ sym (kept_more n c.args.named.now (sym c.contains.ensures.value ∙ w.if-not-contains.true))
      | else-not-contains w ↦ ap (λ (v : Vec ℕ Global). v.items) w.kept-is ∙ c.loop-variable.invariant ∙ sym (named_more n c.args.named.now (sym c.contains.ensures.value ∙ w.if-not-contains.false))
    ]
