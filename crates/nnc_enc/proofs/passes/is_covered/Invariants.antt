use Rattle.std.proofs.Common.{ℕ, ◌<◌}
use Rattle.sat_matrix.specs.Tables.{bits_of}
use Rattle.nnc_enc.specs.Passes.{IsCover}
use Rattle.nnc_enc.proofs.passes.is_covered.Given as goal

abbrev pub invariant-loop-t : goal.invariant-loop-t
invariant-loop-t l = (t : ℕ) → t < l.t → ¬ (IsCover (bits_of l.table.rows l.level) l.marks l.table.rows l.keep l.fn.i t)
