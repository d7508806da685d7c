use Rattle.std.specs.Prelude.{◌==◌}
use Rattle.std.proofs.Common.{ℕ, ap, ◌∙◌, arith}
use Rattle.row_core.proofs.MarkedCellLemmas.{counted}
use Rattle.row_core.proofs.marked.MarkedRows.is_empty.Goals as goal

pub returns : goal.returns
returns g c =
    let count = counted c.self.inside.width c.self.inside.cells.items c.self.inside.marks.items
    c.args.self.now c.self.view_is in
    c.is_empty.ensures ∙ ap (λ (n : ℕ). n == 0) (omega (arith, count, c.self.inside.marks.ok.0))
