use Rattle.std.proofs.Common.{arith}
use Rattle.row_core.proofs.MarkedCellLemmas.{row_within, put_within, put_rows, put_laid}
use Rattle.row_core.proofs.marked.MarkedRows.put.Goals as goal

pub overflow_mul-i : goal.overflow_mul-i
overflow_mul-i g c =
    omega (
      arith,
      row_within c.self.inside.width c.self.inside.cells.items c.self.inside.marks.items
          c.args.self.now c.args.i c.self.invariant c.self.view_is
          c.requires.place,
      c.self.inside.cells.ok.0,
    )

pub put_row-requires : goal.put_row-requires
put_row-requires g c =
    put_within c.self.inside.width c.self.inside.cells.items c.self.inside.marks.items
    c.args.self.now c.args.i c.self.invariant c.self.view_is
    c.requires.place c.args.row.now c.requires.wide

pub invariant_of-self : goal.invariant_of-self
invariant_of-self g c =
    put_laid c.self.inside.width c.self.inside.cells.items c.self.inside.marks.items
    c.args.self.now c.args.i c.self.invariant c.self.view_is
    c.requires.place c.args.row.now c.requires.wide _ c.put_row.ensures c.requires.in_range

pub returns : goal.returns
returns g c d =
    put_rows c.self.inside.width c.self.inside.cells.items c.self.inside.marks.items
    c.args.self.now c.args.i c.self.invariant c.self.view_is
    c.requires.place c.args.row.now c.requires.wide _ d c.put_row.ensures
