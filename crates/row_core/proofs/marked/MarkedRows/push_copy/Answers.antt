use Rattle.std.specs.Prelude.{length}
use Rattle.std.proofs.Common.{refl}
use Rattle.row_core.proofs.MarkedCellLemmas.{push_rows, push_laid}
use Rattle.row_core.proofs.marked.MarkedRows.push_copy.Goals as goal

pub invariant_of-self-2 : goal.invariant_of-self-2
invariant_of-self-2 g c =
    push_laid c.self.inside.width (length c.args.row.now) c.self.inside.cells.items
    c.self.inside.marks.items c.args.self.now c.self.invariant c.self.view_is c.requires.wide _
    c.args.row.now _ _ _ c.args.mark refl c.make_room.ensures.items c.append_slice.ensures.items
    c.reserve.ensures.items c.push_reserved.ensures.items c.requires.in_range c.requires.narrow

pub returns : goal.returns
returns g c =
    push_rows c.self.inside.width (length c.args.row.now) c.self.inside.cells.items
    c.self.inside.marks.items c.args.self.now c.self.invariant c.self.view_is c.requires.wide _
    c.args.row.now _ _ _ c.args.mark refl c.make_room.ensures.items c.append_slice.ensures.items
    c.reserve.ensures.items c.push_reserved.ensures.items
