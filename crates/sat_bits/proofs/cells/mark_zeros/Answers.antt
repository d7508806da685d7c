use Rattle.std.specs.Prelude.{◌≡◌, pos}
use Rattle.std.specs.Int.{w128}
use Rattle.std.specs.Ordering.{int_eq}
use Rattle.std.proofs.Common.{◌+◌, ◌*◌, ◌≤◌, length, get_or, arith, rules}
use mir.Val.{of_z}
use lib.Dec.{eqb}
use Rattle.sat_bits.proofs.CellLemmas.{cell_set, zero_more, row_ends}
use Rattle.sat_bits.proofs.cells.mark_zeros.Goals as goal

pub loop-row-preserved : goal.loop-row-preserved
loop-row-preserved c =
    let inv = c.loop-row.invariant in
    let row = c.loop-row.row in
    let values = c.args.values.now in
    let zero : eqb (of_z w128 (get_or values row (pos 0))) 0 ≡ int_eq (get_or values row (pos 0)) (pos 0) = search rules in
    let within : row * c.args.width + c.args.width ≤ length c.loop-row.cells = omega (arith, inv.len, c.requires.rows, row_ends c.args.width (length values) row c.loop-row-test.true) in
    zero_more c.args.width c.args.column row values c.args.cells.now c.loop-row.cells _ _ c.requires.column inv
    (cell_set c.loop-row.cells c.args.width row c.args.column c.with_bit.result _ within c.requires.column c.with_bit.ensures.same c.with_bit.ensures.others) zero
