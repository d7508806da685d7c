use Rattle.std.specs.Prelude.{◌≡◌, ℕ, Bool, length, replicate}
use Rattle.std.proofs.Common.{refl, sym, ap, subst, ◌∙◌, arith}
use Rattle.std.proofs.lemmas.List.Elements.{All-same, All-replicate}
use Rattle.row_core.specs.Lists.{FitWidth, AreMarked}
use Rattle.row_core.specs.MarkedCells.{cells_of, IsLaid}
use Rattle.row_core.proofs.MarkedCellLemmas.{length-marked_rows, cells_of-marked_rows, AreMarked-marked_rows}
use Rattle.row_core.proofs.RowListLemmas.{FitWidth-marked_rows}
use Rattle.row_core.proofs.buffers.RowList.of_cells.Goals as goal

-- so many marks were made
as_many : (c : goal.After-of_cells) → length c.in_ok-marks.marks.items ≡ c.args.rows
as_many c = omega (arith, c.in_ok-marks.ensures.len, c.in_ok-marks.marks.ok.0)

-- the cells are those of so many rows
laid : (c : goal.After-of_cells) →
    IsLaid c.args.width (length c.in_ok-marks.marks.items) c.args.cells.items
laid c = subst (λ (n : ℕ). IsLaid c.args.width n c.args.cells.items) (sym (as_many c)) c.requires

pub invariant_of-result : goal.invariant_of-result
invariant_of-result c =
    subst (λ rows. FitWidth (record { width = c.args.width; rows = rows })) (sym c.of_cells.ensures)
    (FitWidth-marked_rows c.args.width c.args.cells.items c.in_ok-marks.marks.items (laid c))

pub returns-clause-as_many : goal.returns-clause-as_many
returns-clause-as_many c =
    ap length c.of_cells.ensures ∙
    length-marked_rows c.args.width c.args.cells.items c.in_ok-marks.marks.items ∙ as_many c

pub returns-clause-cells : goal.returns-clause-cells
returns-clause-cells c =
    ap (λ rows. cells_of rows) c.of_cells.ensures ∙
    cells_of-marked_rows c.args.width c.args.cells.items c.in_ok-marks.marks.items (laid c).taken

pub returns-clause-marked : goal.returns-clause-marked
returns-clause-marked c =
    let marks : c.in_ok-marks.marks.items ≡ replicate c.args.rows c.args.eq =
    c.in_ok-marks.ensures.items_if_clones_equal (λ y e. e) in
    subst (AreMarked c.args.eq) (sym c.of_cells.ensures)
    (AreMarked-marked_rows c.args.width c.args.cells.items c.in_ok-marks.marks.items c.args.eq
    (All-same (λ (mark : Bool). mark ≡ c.args.eq) c.in_ok-marks.marks.items
    (replicate c.args.rows c.args.eq) marks
    (All-replicate (λ (mark : Bool). mark ≡ c.args.eq) c.args.rows c.args.eq refl)))
