use Rattle.sat_matrix.specs.Tables.{bits_of}
use Rattle.nnc_enc.specs.Passes.{IsClear}
use Rattle.nnc_enc.proofs.passes.is_clear.Given as goal

abbrev pub invariant-loop-place : goal.invariant-loop-place
invariant-loop-place l = IsClear l.columns (bits_of l.sat.rows l.fn.i) l.place
