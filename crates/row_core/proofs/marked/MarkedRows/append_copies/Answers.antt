use Rattle.std.specs.Prelude.{length}
use Rattle.std.proofs.Common.{rules, inl, inr}
use Rattle.row_core.proofs.MarkedCellLemmas.{IsChosen, append_rows, append_laid}
use Rattle.row_core.proofs.marked.MarkedRows.append_copies.Given.{Over}
use Rattle.row_core.proofs.marked.MarkedRows.append_copies.Goals.{then-is_empty, else-is_empty}
use Rattle.row_core.proofs.marked.MarkedRows.append_copies.Goals as goal

-- the width is that of a list that has a row
choice : (g : Over) (c : goal.After-append_slice-2 g) →
    IsChosen (length c.self.inside.marks.items) c.self.inside.width c.later.inside.width
    c.if-is_empty.width
choice g c = elim c.if-is_empty.branch [
  | then-is_empty w ↦ inl (search rules, w.width-is)
  | else-is_empty w ↦ inr (search rules, w.width-is)
]

pub invariant_of-self-2 : goal.invariant_of-self-2
invariant_of-self-2 g c =
    append_laid c.self.inside.width c.later.inside.width c.if-is_empty.width
    c.self.inside.cells.items c.later.inside.cells.items c.self.inside.marks.items
    c.later.inside.marks.items c.args.self.now c.args.later.now c.self.invariant
    c.later.invariant c.self.view_is c.later.view_is c.requires (choice g c) _ _ _ _ _ _
    c.reserve.ensures.items c.as_slice.ensures.value c.append_slice.ensures.items
    c.reserve-2.ensures.items c.as_slice-2.ensures.value c.append_slice-2.ensures.items

pub returns : goal.returns
returns g c =
    append_rows c.self.inside.width c.later.inside.width c.if-is_empty.width
    c.self.inside.cells.items c.later.inside.cells.items c.self.inside.marks.items
    c.later.inside.marks.items c.args.self.now c.args.later.now c.self.invariant
    c.later.invariant c.self.view_is c.later.view_is c.requires (choice g c) _ _ _ _ _ _
    c.reserve.ensures.items c.as_slice.ensures.value c.append_slice.ensures.items
    c.reserve-2.ensures.items c.as_slice-2.ensures.value c.append_slice-2.ensures.items
