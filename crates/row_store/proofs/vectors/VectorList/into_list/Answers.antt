use Rattle.std.specs.Prelude.{◌≡◌}
use Rattle.std.proofs.Common.{ap, ◌∙◌, arith}
use Rattle.row_core.specs.Range.{InRange}
use Rattle.row_core.specs.MarkedCells.{AreWide}
use Rattle.flat_rows.proofs.Flat.{All-cells}
use Rattle.row_store.specs.Vectors.{as_rows, with_mark}
use Rattle.row_store.proofs.TakenCells.{rows_from_cells}
use Rattle.row_store.proofs.vectors.VectorList.into_list.Goals as goal

pub of_cells-requires : goal.of_cells-requires
of_cells-requires c = record {
  taken = rw (c.width-width.ensures.value, c.len-count.ensures) c.into_cells.ensures.cells.taken;
  narrow = omega (arith, c.width-width.ensures.value, c.width-width.ensures.narrow);
  in_range = All-cells InRange c.self.inside.store c.into_cells.result.items c.into_cells.ensures.cells c.into_cells.ensures.kept.in_range;
}

pub returns : goal.returns
returns c =
    let store = c.self.inside.store in
    let list = c.in_ok-list.list in
    let width : c.in_ok-list.list.width ≡ c.self.inside.store.width = c.in_ok-list.ensures.width ∙ c.width-width.ensures.value in
    let wide : AreWide c.self.inside.store.width c.in_ok-list.list.rows = λ i d below. (c.width-width-2.ensures.rows.each i d below).wide ∙ width in
    let rows : c.in_ok-list.list.rows ≡ with_mark c.self.inside.eq c.self.inside.store.rows =
    rows_from_cells c.self.inside.eq store c.into_cells.result.items list.rows c.into_cells.ensures.cells wide c.in_ok-list.ensures.marked (c.in_ok-list.ensures.as_many ∙ c.len-count.ensures) c.in_ok-list.ensures.cells in
    let same : c.in_ok-list.list ≡ record { width = c.self.inside.store.width; rows = with_mark c.self.inside.eq c.self.inside.store.rows } = λ i. record { width = width i; rows = rows i } in
    same ∙ ap as_rows c.self.view_is
