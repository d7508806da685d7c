use Rattle.std.specs.Prelude.{List, ℤ, length}
use Rattle.std.proofs.Common.{sym, ap, subst, ◌∙◌}
use Rattle.row_core.specs.MarkedCells.{cells_of, IsLaid}
use Rattle.row_core.proofs.RowListLemmas.{IsLaid-cells_of}
use Rattle.row_core.proofs.buffers.RowList.into_cells.Goals as goal

pub returns-clause-laid : goal.returns-clause-laid
returns-clause-laid c =
    let same = c.into_cells.ensures.value ∙ ap (λ rows. cells_of rows) c.into_marked.ensures.value in
    subst (λ (cells : List ℤ). IsLaid c.args.self.width (length c.args.self.rows) cells) (sym same)
    (IsLaid-cells_of c.args.self c.into_marked.ensures.fit)
