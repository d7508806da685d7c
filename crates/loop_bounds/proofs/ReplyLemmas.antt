-- Bounds that are written are read back.
use Rattle.std.proofs.Common.{◌≡◌, ◌∙◌, ℕ, subst}
use Rattle.cons_sys.specs.Constraints.{Constraints, FitDimension}
use Rattle.expr_text.specs.ReadBack.{ConstraintsAreReadBack}
use Rattle.loop_analysis.specs.declared.analysis.Bounds.{Bounds}
use Rattle.loop_analysis.specs.Loops.{WhileLoop}
use Rattle.loop_analysis.specs.Analysis.{AreBoundsOf}
use Rattle.loop_bounds.specs.Replies.{IsReadAs}

read_as : (dim : ℕ) (cs : Constraints) → ConstraintsAreReadBack → FitDimension cs → cs.dim ≡ dim → IsReadAs dim cs
read_as dim cs law fit e = subst (λ (d : ℕ). IsReadAs d cs) e (λ read. law cs read fit)

pub head_is_read : (l : WhileLoop) (b : Bounds) → ConstraintsAreReadBack → FitDimension b.head → AreBoundsOf l b → IsReadAs l.dim b.head
head_is_read l b law fit is = read_as l.dim b.head law fit (is.head_bounds.same_dim ∙ is.head_closed.over.same_dim)

pub behind_is_read : (l : WhileLoop) (b : Bounds) → ConstraintsAreReadBack → FitDimension b.behind → AreBoundsOf l b → IsReadAs l.dim b.behind
behind_is_read l b law fit is = read_as l.dim b.behind law fit (is.behind_bounds.same_dim ∙ is.is_behind.is_difference.over.same_dim ∙ is.is_behind.is_open.over.same_dim ∙ is.head_closed.over.same_dim)
