use Rattle.std.proofs.Common.{◌<◌, IsTrue, length, arith}
use Rattle.flat_rows.proofs.Flat.{row_end}
use Rattle.sat_bits.specs.Places.{place}
use Rattle.sat_matrix.specs.Columns.{IsColumnMarked}
use Rattle.sat_matrix.proofs.BitRows.{seen_in}
use Rattle.sat_matrix.proofs.WordCells.{IsLeft, column_marked}
use Rattle.flat_rows.specs.Flat.{with_cells}
use Rattle.sat_matrix.proofs.matrix.SatMatrix.mark_column.Goals as goal

pub mark_column-requires-clause-column : goal.mark_column-requires-clause-column
mark_column-requires-clause-column c = omega (arith, c.width-width.ensures.value, c.requires.column, c.self.invariant.within, (seen_in c.self.inside.columns c.self.inside.words c.args.self.now c.self.view_is).wide)

pub mark_column-requires-clause-within : goal.mark_column-requires-clause-within
mark_column-requires-clause-within c = λ i t.
    let below : i < length c.self.inside.words.rows = omega (arith, c.requires.within i t, (seen_in c.self.inside.columns c.self.inside.words c.args.self.now c.self.view_is).count) in
    rw c.width-width.ensures.value (omega (arith, c.cells_mut.ensures.cells.taken, row_end c.self.inside.words.width (length c.self.inside.words.rows) i below))

left : (c : goal.After-self-1) → IsLeft c.self.inside.columns (with_cells c.self.inside.words c.mark_column.new.cells) (λ new. IsColumnMarked c.args.column (λ i. IsTrue (place c.args.words.now i)) c.args.self.now new)
left c = column_marked c.self.inside.columns c.self.inside.words c.cells_mut.result.now c.mark_column.new.cells c.args.self.now c.width-width.result c.args.column _ c.self.invariant c.cells_mut.ensures.cells c.self.view_is c.width-width.ensures.value c.requires.column c.requires.within c.mark_column.ensures

pub invariant_of-self : goal.invariant_of-self
invariant_of-self c = (left c).table

pub returns : goal.returns
returns c = (left c).says
