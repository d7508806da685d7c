use Rattle.std.proofs.Common.{◌≡◌, ◌*◌, ℕ, length, sym, ap, ◌∙◌, arith}
use Rattle.sat_matrix.specs.Columns.{HasLastZeros}
use Rattle.sat_matrix.proofs.BitRows.{seen_in}
use Rattle.sat_matrix.proofs.WordCells.{IsLeft, zeros_told_last}
use Rattle.flat_rows.specs.Flat.{with_cells}
use Rattle.sat_matrix.proofs.matrix.SatMatrix.mark_last.Goals as goal

pub mark_zeros-requires-clause-column : goal.mark_zeros-requires-clause-column
mark_zeros-requires-clause-column c = omega (arith, c.width-width.ensures.value, c.requires.columns, c.self.invariant.within, (seen_in c.self.inside.columns c.self.inside.words c.args.self.now c.self.view_is).wide)

pub mark_zeros-requires-clause-rows : goal.mark_zeros-requires-clause-rows
mark_zeros-requires-clause-rows c =
    let as_many : length c.args.values.now ≡ length c.self.inside.words.rows = c.requires.as_many ∙ (seen_in c.self.inside.columns c.self.inside.words c.args.self.now c.self.view_is).count in
    let all : length c.args.values.now * c.width-width.result ≡ length c.cells_mut.result.now =
    ap (λ (n : ℕ). n * c.width-width.result) as_many ∙ ap (λ (n : ℕ). length c.self.inside.words.rows * n) c.width-width.ensures.value ∙ sym c.cells_mut.ensures.cells.taken in
    omega (arith, all)

left : (c : goal.After-self-1) → IsLeft c.self.inside.columns (with_cells c.self.inside.words c.mark_zeros.new.cells) (λ new. HasLastZeros c.args.values.now c.args.self.now new)
left c = zeros_told_last c.self.inside.columns c.self.inside.words c.cells_mut.result.now c.mark_zeros.new.cells c.args.self.now _ c.args.values.now c.self.invariant c.cells_mut.ensures.cells c.self.view_is c.width-width.ensures.value c.requires.columns c.requires.as_many c.mark_zeros.ensures

pub invariant_of-self : goal.invariant_of-self
invariant_of-self c = (left c).table

pub returns : goal.returns
returns c = (left c).says
