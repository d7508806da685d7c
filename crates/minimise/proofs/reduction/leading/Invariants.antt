use Rattle.std.proofs.Common.{◌≡◌, ℕ, ◌<◌, pos}
use Rattle.row_core.specs.Vectors.{cell}
use Rattle.minimise.proofs.reduction.leading.Given as goal

abbrev pub invariant-loop-column : goal.invariant-loop-column
invariant-loop-column l = (i : ℕ) → i < l.column → cell l.row i ≡ pos 0
