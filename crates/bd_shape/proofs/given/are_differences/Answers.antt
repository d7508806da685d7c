use Rattle.std.specs.Prelude.{ℕ, List, ℤ}
use Rattle.std.proofs.Common.{sym, subst, below_more, ◌∙◌}
use Rattle.bd_shape.specs.Forms.{IsOther}
use Rattle.bd_shape.proofs.FormOnce.{form_not_other}
use Rattle.std.proofs.lemmas.Bool.{false≢true}
use Rattle.bd_shape.proofs.given.are_differences.Goals as goal

pub loop-k-preserved : goal.loop-k-preserved
loop-k-preserved c = below_more _ _ c.loop-k.invariant (λ o.
    form_not_other c.dim.result c.row.result.now c.form_of.result c.form_of.ensures
    (λ e. false≢true (sym c.if-is_other.false ∙ c.is_other.ensures.1 e))
    (subst (λ (n : ℕ). IsOther n c.row.result.now) (sym c.dim.ensures.value) (subst (λ (v : List ℤ). IsOther c.args.cons.now.dim v) (sym c.row.ensures.value) o)))
