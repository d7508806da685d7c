use Rattle.std.proofs.Common.{◌≡◌, ◌<◌, ℕ, pos}
use Rattle.row_core.specs.Vectors.{cell}
use Rattle.nnc_enc.proofs.marks.has_variable.Given as goal

abbrev pub invariant-loop-column : goal.invariant-loop-column
invariant-loop-column l = (j : ℕ) → j < l.column → cell l.row j ≡ pos 0
