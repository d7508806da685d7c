use Rattle.std.proofs.Common.{◌≡◌, ◌<◌, ◌++◌, true, length, set, drop, replicate, arith}
use Rattle.flat_rows.proofs.Flat.{row_end}
use Rattle.flat_rows.specs.Flat.{with_cells}
use Rattle.sat_matrix.specs.Tables.{bits_of}
use Rattle.sat_matrix.proofs.BitRows.{seen_in}
use Rattle.sat_matrix.proofs.WordCells.{IsLeft, front_filled}
use Rattle.sat_matrix.proofs.matrix.SatMatrix.fill_front.Goals as goal

pub fill_front-requires-clause-row : goal.fill_front-requires-clause-row
fill_front-requires-clause-row c =
    let below : c.args.row < length c.self.inside.words.rows = omega (arith, c.requires.row, (seen_in c.self.inside.columns c.self.inside.words c.args.self.now c.self.view_is).count) in
    rw c.width-width.ensures.value (omega (arith, c.cells_mut.ensures.cells.taken, row_end c.self.inside.words.width (length c.self.inside.words.rows) c.args.row below))

pub fill_front-requires-clause-count : goal.fill_front-requires-clause-count
fill_front-requires-clause-count c = omega (arith, c.width-width.ensures.value, c.requires.count, c.self.invariant.within, (seen_in c.self.inside.columns c.self.inside.words c.args.self.now c.self.view_is).wide)

left : (c : goal.After-self-1) → IsLeft c.self.inside.columns (with_cells c.self.inside.words c.fill_front.new.cells) (λ new. new ≡ record c.args.self.now { rows = set c.args.self.now.rows c.args.row (replicate c.args.count true ++ drop c.args.count (bits_of c.args.self.now.rows c.args.row)) })
left c = front_filled c.self.inside.columns c.self.inside.words c.cells_mut.result.now c.fill_front.new.cells c.args.self.now c.width-width.result c.args.row c.args.count c.self.invariant c.cells_mut.ensures.cells c.self.view_is c.width-width.ensures.value c.requires.row c.requires.count c.fill_front.ensures

pub invariant_of-self : goal.invariant_of-self
invariant_of-self c = (left c).table

pub returns : goal.returns
returns c = (left c).says
