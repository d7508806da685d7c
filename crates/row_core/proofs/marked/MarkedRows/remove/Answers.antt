use Rattle.std.proofs.Common.{arith}
use Rattle.row_core.proofs.MarkedCellLemmas.{counted, row_within, remove_rows, remove_laid}
use Rattle.row_core.proofs.marked.MarkedRows.remove.Goals as goal

pub overflow_mul-i : goal.overflow_mul-i
overflow_mul-i g c =
    omega (
      arith,
      row_within c.self.inside.width c.self.inside.cells.items c.self.inside.marks.items
          c.args.self.now c.args.i c.self.invariant c.self.view_is c.requires,
      c.self.inside.cells.ok.0,
    )

pub remove_row-requires : goal.remove_row-requires
remove_row-requires g c =
    row_within c.self.inside.width c.self.inside.cells.items c.self.inside.marks.items
    c.args.self.now c.args.i c.self.invariant c.self.view_is c.requires

pub remove-mark-requires : goal.remove-mark-requires
remove-mark-requires g c =
    omega (
      arith,
      counted c.self.inside.width c.self.inside.cells.items c.self.inside.marks.items
          c.args.self.now c.self.view_is,
      c.requires,
      c.self.inside.marks.ok.0,
    )

pub invariant_of-self : goal.invariant_of-self
invariant_of-self g c =
    remove_laid c.self.inside.width c.self.inside.cells.items c.self.inside.marks.items
    c.args.self.now c.args.i c.self.invariant c.self.view_is c.requires _ _
    c.remove_row.ensures c.remove-mark.ensures.items

pub returns : goal.returns
returns g c =
    remove_rows c.self.inside.width c.self.inside.cells.items c.self.inside.marks.items
    c.args.self.now c.args.i c.self.invariant c.self.view_is c.requires _ _
    c.remove_row.ensures c.remove-mark.ensures.items
