use Rattle.std.proofs.Common.{subst}
use Rattle.row_core.specs.Lists.{FitWidth}
use Rattle.row_core.proofs.RowListLemmas.{IsRow-row_at}
use Rattle.row_core.proofs.buffers.RowList.row.Goals as goal

pub returns-clause-wide : goal.returns-clause-wide
returns-clause-wide c =
    (IsRow-row_at c.args.self.now c.args.i (subst FitWidth c.self.view_is c.self.invariant)
    c.requires).wide

pub returns-clause-in_range : goal.returns-clause-in_range
returns-clause-in_range c =
    (IsRow-row_at c.args.self.now c.args.i (subst FitWidth c.self.view_is c.self.invariant)
    c.requires).in_range
