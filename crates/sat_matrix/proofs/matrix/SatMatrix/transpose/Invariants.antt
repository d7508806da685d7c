use Rattle.sat_matrix.proofs.Columns.{IsTurned}
use Rattle.sat_matrix.proofs.matrix.SatMatrix.transpose.Given as goal

abbrev pub invariant-loop-row : goal.invariant-loop-row
invariant-loop-row l = IsTurned l.self l.turned l.row
