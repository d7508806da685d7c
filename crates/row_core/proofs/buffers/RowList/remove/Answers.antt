use Rattle.std.proofs.Common.{sym, subst}
use Rattle.row_core.specs.Lists.{FitWidth}
use Rattle.row_core.proofs.RowListLemmas.{FitWidth-remove}
use Rattle.row_core.proofs.buffers.RowList.remove.Goals as goal

pub invariant_of-self : goal.invariant_of-self
invariant_of-self c =
    subst (λ rows. FitWidth (record { width = c.self.inside.width; rows = rows }))
    (sym c.remove.ensures)
    (FitWidth-remove c.self.inside.width c.self.inside.marked c.args.i c.self.invariant)
