use Rattle.std.proofs.Common.{arith}
use Rattle.row_core.proofs.MarkedCellLemmas.{counted}
use Rattle.row_core.proofs.marked.MarkedRows.len.Goals as goal

pub returns : goal.returns
returns g c =
    omega (
      arith,
      c.len.ensures,
      c.self.inside.marks.ok.0,
      counted c.self.inside.width c.self.inside.cells.items c.self.inside.marks.items
          c.args.self.now c.self.view_is,
    )
