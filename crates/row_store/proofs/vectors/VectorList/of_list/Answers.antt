use Rattle.std.specs.Prelude.{◌≡◌}
use Rattle.std.proofs.Common.{sym, ◌∙◌}
use Rattle.row_core.specs.MarkedCells.{AreWide}
use Rattle.row_store.specs.Vectors.{with_mark}
use Rattle.row_store.proofs.TakenCells.{rows_from_cells}
use Rattle.row_store.proofs.vectors.VectorList.of_list.Goals as goal

pub invariant_of-result : goal.invariant_of-result
invariant_of-result c = c.bits.ensures

pub returns-clause-rows : goal.returns-clause-rows
returns-clause-rows c =
    let store = c.of_cells-store.result in
    let width : c.of_cells-store.result.width ≡ c.args.list.width = c.of_cells-store.ensures.width ∙ c.width-width.ensures.value in
    let wide : AreWide c.of_cells-store.result.width c.args.list.rows = λ i d below. (c.width-width.ensures.rows.each i d below).wide ∙ sym width in
    let same : c.args.list.rows ≡ with_mark c.args.eq c.of_cells-store.result.rows =
    rows_from_cells c.args.eq store c.into_cells.result.items c.args.list.rows c.of_cells-store.ensures.cells wide c.requires (sym (c.of_cells-store.ensures.as_many ∙ c.len-count.ensures)) (sym c.into_cells.ensures.value) in
    let rows = sym same in
    λ i. record { width = width i; rows = rows i }
