use Rattle.std.specs.Prelude.{◌<◌, length}
use Rattle.std.proofs.Common.{sym, ◌∙◌, arith}
use Rattle.std.proofs.lemmas.List.{get_or_read}
use Rattle.row_core.proofs.MarkedCellLemmas.{counted, read_mark}
use Rattle.row_core.proofs.marked.MarkedRows.mark.Goals as goal

pub index-requires : goal.index-requires
index-requires g c =
    omega (
      arith,
      counted c.self.inside.width c.self.inside.cells.items c.self.inside.marks.items
          c.args.self.now c.self.view_is,
      c.requires,
      c.self.inside.marks.ok.0,
    )

pub returns : goal.returns
returns g c d =
    let within : c.args.i < length c.self.inside.marks.items =
    omega (
      arith,
      counted c.self.inside.width c.self.inside.cells.items c.self.inside.marks.items
          c.args.self.now c.self.view_is,
      c.requires,
    ) in
    get_or_read c.self.inside.marks.items c.args.i c.index.result.now within c.index.ensures d.1 ∙
    sym (read_mark c.self.inside.width c.self.inside.cells.items c.self.inside.marks.items
    c.args.self.now c.args.i c.self.invariant c.self.view_is c.requires d)
