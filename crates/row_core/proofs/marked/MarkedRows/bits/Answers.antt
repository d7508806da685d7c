use Rattle.std.proofs.Common.{◌^◌, sym, subst, ◌∙◌}
use Rattle.row_core.specs.MarkedCells.{marked_rows}
use Rattle.row_core.specs.Sizes.{HaveBits, AreBelow, AllHaveBits, AllAreBelow}
use Rattle.row_core.proofs.SizeLemmas.{AllHaveBits-marked_rows, AreBelow-cells_of}
use Rattle.row_core.proofs.MarkedCellLemmas.{cells_of-marked_rows}
use Rattle.row_core.proofs.marked.MarkedRows.bits.Goals as goal

pub returns-clause-within : goal.returns-clause-within
returns-clause-within g c =
    subst (AllHaveBits c.bits.result) c.self.view_is
    (AllHaveBits-marked_rows c.bits.result c.self.inside.width c.self.inside.cells.items
    c.self.inside.marks.items (subst (HaveBits c.bits.result) c.as_slice.ensures.value c.bits.ensures.within))

pub returns-clause-least : goal.returns-clause-least
returns-clause-least g c n below =
    let rows = marked_rows c.self.inside.width c.self.inside.cells.items c.self.inside.marks.items in
    let same = cells_of-marked_rows c.self.inside.width c.self.inside.cells.items
    c.self.inside.marks.items c.self.invariant.taken in
    c.bits.ensures.least n (subst (AreBelow (2 ^ n)) (same ∙ sym c.as_slice.ensures.value)
    (AreBelow-cells_of (2 ^ n) rows (subst (AllAreBelow (2 ^ n)) (sym c.self.view_is) below)))
