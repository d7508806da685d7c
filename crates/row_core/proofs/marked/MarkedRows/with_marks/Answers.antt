use Rattle.std.specs.Prelude.{◌≡◌, length}
use Rattle.std.proofs.Common.{sym, ap, subst, ◌∙◌}
use Rattle.row_core.specs.MarkedCells.{remarked, IsLaid}
use Rattle.row_core.proofs.MarkedCellLemmas.{counted, remarked-marked_rows}
use Rattle.row_core.proofs.marked.MarkedRows.with_marks.Given.{Over}
use Rattle.row_core.proofs.marked.MarkedRows.with_marks.Goals as goal

-- as many marks as before
as_many : (g : Over) (c : goal.After-drop-self-inside g) →
    length c.args.marks.items ≡ length c.self.inside.marks.items
as_many g c = c.requires ∙ counted c.self.inside.width c.self.inside.cells.items
    c.self.inside.marks.items c.args.self c.self.view_is

pub invariant_of-result : goal.invariant_of-result
invariant_of-result g c =
    subst (λ n. IsLaid c.self.inside.width n c.self.inside.cells.items) (sym (as_many g c))
    c.self.invariant

pub returns : goal.returns
returns g c =
    remarked-marked_rows c.self.inside.width c.self.inside.cells.items c.self.inside.marks.items
    c.args.marks.items (as_many g c)
    ∙ ap (λ rows. remarked rows c.args.marks.items) c.self.view_is
