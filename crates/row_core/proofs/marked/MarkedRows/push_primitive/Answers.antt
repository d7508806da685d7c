use Rattle.std.specs.Prelude.{length}
use Rattle.row_core.proofs.MarkedCellLemmas.{push_rows, push_laid}
use Rattle.row_core.proofs.marked.MarkedRows.push_primitive.Goals as goal

pub invariant_of-self-2 : goal.invariant_of-self-2
invariant_of-self-2 g c =
    let made = c.append_primitive.ensures.cells in
    push_laid c.self.inside.width (length c.args.row.now) c.self.inside.cells.items
    c.self.inside.marks.items c.args.self.now c.self.invariant c.self.view_is c.requires.wide _
    made.stored _ _ _ c.args.mark made.wide c.make_room.ensures.items made.cells
    c.reserve.ensures.items c.push_reserved.ensures.items made.in_range c.requires.narrow

pub returns : goal.returns
returns g c =
    let made = c.append_primitive.ensures.cells in
    record {
      stored = made.stored;
      primitive = made.primitive;
      in_range = made.in_range;
      wide = made.wide;
      list = push_rows c.self.inside.width (length c.args.row.now) c.self.inside.cells.items
          c.self.inside.marks.items c.args.self.now c.self.invariant c.self.view_is
          c.requires.wide _ made.stored _ _ _ c.args.mark made.wide c.make_room.ensures.items
          made.cells c.reserve.ensures.items c.push_reserved.ensures.items;
    }
