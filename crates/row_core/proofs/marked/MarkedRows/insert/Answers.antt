use Rattle.std.specs.Prelude.{length}
use Rattle.std.proofs.Common.{refl, ap, arith}
use Rattle.row_core.proofs.MarkedCellLemmas.{counted, insert_within, insert_rows, insert_laid}
use Rattle.row_core.proofs.marked.MarkedRows.insert.Goals as goal

pub overflow_mul-i : goal.overflow_mul-i
overflow_mul-i g c =
    omega (
      arith,
      insert_within c.self.inside.width (length c.args.row.now) c.self.inside.cells.items
          c.self.inside.marks.items c.args.self.now c.self.invariant c.self.view_is c.requires.wide
          c.args.i c.requires.place,
      c.self.inside.cells.ok.0,
    )

pub insert_row-requires-clause-within : goal.insert_row-requires-clause-within
insert_row-requires-clause-within g c =
    omega (
      arith,
      insert_within c.self.inside.width (length c.args.row.now) c.self.inside.cells.items
          c.self.inside.marks.items c.args.self.now c.self.invariant c.self.view_is c.requires.wide
          c.args.i c.requires.place,
      ap length c.make_room.ensures.items,
    )

pub insert-requires : goal.insert-requires
insert-requires g c =
    omega (
      arith,
      counted c.self.inside.width c.self.inside.cells.items c.self.inside.marks.items
          c.args.self.now c.self.view_is,
      c.requires.place,
      c.reserve.ensures.len,
      c.self.inside.marks.ok.0,
    )

pub invariant_of-self-2 : goal.invariant_of-self-2
invariant_of-self-2 g c =
    insert_laid c.self.inside.width (length c.args.row.now) c.self.inside.cells.items
    c.self.inside.marks.items c.args.self.now c.self.invariant c.self.view_is c.requires.wide _
    c.args.row.now _ _ _ c.args.mark c.args.i c.requires.place refl c.make_room.ensures.items
    c.insert_row.ensures c.reserve.ensures.items c.in_ok-insert.ensures.items
    c.requires.in_range c.requires.narrow

pub returns : goal.returns
returns g c =
    insert_rows c.self.inside.width (length c.args.row.now) c.self.inside.cells.items
    c.self.inside.marks.items c.args.self.now c.self.invariant c.self.view_is c.requires.wide _
    c.args.row.now _ _ _ c.args.mark c.args.i c.requires.place refl c.make_room.ensures.items
    c.insert_row.ensures c.reserve.ensures.items c.in_ok-insert.ensures.items
