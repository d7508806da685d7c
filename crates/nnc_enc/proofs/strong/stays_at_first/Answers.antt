use Rattle.std.specs.Prelude.{List, ℤ}
use Rattle.std.proofs.Common.{◌∙◌, sym, subst}
use Rattle.std.proofs.lemmas.Bool.{false≢true}
use Rattle.nnc_enc.specs.StrongRows.{HasVariable}
use Rattle.nnc_enc.proofs.MarkLemmas.{told_not}
use Rattle.nnc_enc.proofs.strong.stays_at_first.Goals as goal

pub returns-then-has_variable : goal.returns-then-has_variable
returns-then-has_variable c =
    let clear = told_not c.is_marked_clear.result _ c.is_marked_clear.ensures in
    (λ t. (subst (λ (v : List ℤ). HasVariable c.args.dim v) c.row.ensures.value (c.has_variable.ensures.0 c.if-has_variable.true), clear.0 t), λ s. clear.1 s.1)

pub returns-else-has_variable : goal.returns-else-has_variable
returns-else-has_variable c =
    (λ t. absurd (false≢true (sym c.if-has_variable.false ∙ t)), λ s. c.has_variable.ensures.1 (subst (λ (v : List ℤ). HasVariable c.args.dim v) (sym c.row.ensures.value) s.0))
