use Rattle.std.proofs.Common.{◌≡◌, ◌<◌, ◌-◌, ◌++◌, true, length, set, replicate, arith}
use Rattle.flat_rows.proofs.Flat.{row_end}
use Rattle.flat_rows.specs.Flat.{with_cells}
use Rattle.sat_matrix.specs.Words.{bits_in}
use Rattle.sat_matrix.proofs.BitRows.{seen_in}
use Rattle.sat_matrix.proofs.WordCells.{IsLeft, row_behind, none_in_row}
use Rattle.sat_matrix.proofs.matrix.SatMatrix.write_behind.Goals as goal

pub write_behind-requires-clause-row : goal.write_behind-requires-clause-row
write_behind-requires-clause-row c =
    let below : c.args.row < length c.self.inside.words.rows = omega (arith, c.requires.row, (seen_in c.self.inside.columns c.self.inside.words c.args.self.now c.self.view_is).count) in
    rw c.width-width.ensures.value (omega (arith, c.cells_mut.ensures.cells.taken, row_end c.self.inside.words.width (length c.self.inside.words.rows) c.args.row below))

pub write_behind-requires-clause-front : goal.write_behind-requires-clause-front
write_behind-requires-clause-front c = omega (arith, c.width-width.ensures.value, c.requires.front, c.self.invariant.within, (seen_in c.self.inside.columns c.self.inside.words c.args.self.now c.self.view_is).wide)

pub write_behind-requires-clause-none : goal.write_behind-requires-clause-none
write_behind-requires-clause-none c = λ p within.
    none_in_row c.self.inside.columns c.self.inside.words c.cells_mut.result.now c.args.self.now c.width-width.result c.args.row p c.self.invariant c.cells_mut.ensures.cells c.self.view_is c.width-width.ensures.value c.requires.row c.requires.none within

pub write_behind-requires-clause-within : goal.write_behind-requires-clause-within
write_behind-requires-clause-within c = λ j t.
    omega (arith, c.width-width.ensures.value, c.requires.within j t, c.self.invariant.within, (seen_in c.self.inside.columns c.self.inside.words c.args.self.now c.self.view_is).wide)

left : (c : goal.After-self-1) → IsLeft c.self.inside.columns (with_cells c.self.inside.words c.write_behind.new.cells) (λ new. new ≡ record c.args.self.now { rows = set c.args.self.now.rows c.args.row (replicate c.args.front true ++ bits_in (c.args.self.now.columns - c.args.front) c.args.words.now) })
left c = row_behind c.self.inside.columns c.self.inside.words c.cells_mut.result.now c.write_behind.new.cells c.args.self.now c.width-width.result c.args.row c.args.front c.args.words.now c.self.invariant c.cells_mut.ensures.cells c.self.view_is c.width-width.ensures.value c.requires.row c.requires.front c.requires.within c.write_behind.ensures

pub invariant_of-self : goal.invariant_of-self
invariant_of-self c = (left c).table

pub returns : goal.returns
returns c = (left c).says

pub write_behind-requires-clause-fits : goal.write_behind-requires-clause-fits
write_behind-requires-clause-fits c = λ j t. omega (arith, c.requires.within j t, c.columns-columns.ensures.value, c.columns-columns.type_inv)
