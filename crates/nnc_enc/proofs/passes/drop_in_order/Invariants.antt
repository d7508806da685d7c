use Rattle.std.proofs.Common.{◌≡◌, length}
use Rattle.sat_matrix.specs.Tables.{bits_of}
use Rattle.nnc_enc.specs.Passes.{IsPassed}
use Rattle.nnc_enc.proofs.passes.drop_in_order.Given as goal

abbrev pub invariant-loop-i : goal.invariant-loop-i
invariant-loop-i l = record {
  length : length l.keep ≡ length l.fn.keep;
  passed : IsPassed (bits_of l.table.rows l.level) l.marks l.table.rows l.fn.keep l.keep l.i;
}
