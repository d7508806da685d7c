use Rattle.std.proofs.Common.{sym, ap, ◌∙◌}
use Rattle.row_core.specs.MarkedCells.{cells_of}
use Rattle.row_core.proofs.MarkedCellLemmas.{cells_of-marked_rows}
use Rattle.row_core.proofs.marked.MarkedRows.into_cells.Goals as goal

pub returns-clause-value : goal.returns-clause-value
returns-clause-value g c =
    sym (cells_of-marked_rows c.self.inside.width c.self.inside.cells.items c.self.inside.marks.items
    c.self.invariant.taken)
    ∙ ap (λ rows. cells_of rows) c.self.view_is
