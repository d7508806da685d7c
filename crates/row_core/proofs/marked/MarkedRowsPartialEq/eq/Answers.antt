use Rattle.std.specs.Prelude.{Bool, ◌&&◌}
use Rattle.std.specs.Ordering.{int_eq}
use Rattle.std.specs.Cmp.Lexicographic.{pointwise}
use Rattle.std.proofs.Common.{sym, ap, ◌∙◌}
use Rattle.row_core.specs.Sameness.{is_same_marked}
use Rattle.row_core.proofs.SamenessLemmas.{same_marked_rows}
use Rattle.row_core.proofs.marked.MarkedRowsPartialEq.eq.Goals as goal

pub returns-then-eq : goal.returns-then-eq
returns-then-eq g c =
    let cells : Bool = pointwise int_eq c.self.inside.cells.items c.other.inside.cells.items in
    c.eq-then-eq.ensures ∙ ap (λ (b : Bool). b && cells) (sym c.if-eq.true ∙ c.eq.ensures) ∙
    same_marked_rows g.M.PartialEq.eq c.self.inside.width c.other.inside.width
    c.self.inside.cells.items c.other.inside.cells.items c.self.inside.marks.items
    c.other.inside.marks.items c.self.invariant.taken c.other.invariant.taken ∙
    (λ k. pointwise (is_same_marked g.M.PartialEq.eq) (c.self.view_is k) (c.other.view_is k))

pub returns-else-eq : goal.returns-else-eq
returns-else-eq g c =
    let cells : Bool = pointwise int_eq c.self.inside.cells.items c.other.inside.cells.items in
    c.if-eq.false ∙ ap (λ (b : Bool). b && cells) (sym c.if-eq.false ∙ c.eq.ensures) ∙
    same_marked_rows g.M.PartialEq.eq c.self.inside.width c.other.inside.width
    c.self.inside.cells.items c.other.inside.cells.items c.self.inside.marks.items
    c.other.inside.marks.items c.self.invariant.taken c.other.invariant.taken ∙
    (λ k. pointwise (is_same_marked g.M.PartialEq.eq) (c.self.view_is k) (c.other.view_is k))
