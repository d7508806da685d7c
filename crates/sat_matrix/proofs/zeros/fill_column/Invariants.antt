use Rattle.std.specs.Prelude.{length, replicate, true}
use Rattle.sat_matrix.specs.Tables.{Table}
use Rattle.sat_matrix.specs.TableSteps.{HasFalseColumn, IsAsLarge}
use Rattle.sat_matrix.proofs.TableLemmas.{IsColumnUpto}
use Rattle.sat_matrix.proofs.zeros.fill_column.Given as goal

abbrev pub invariant-loop-row : goal.invariant-loop-row
invariant-loop-row l = record {
  column : (before : Table) → HasFalseColumn before l.fn.zeros → IsColumnUpto (replicate (length before.rows) true) before l.zeros l.last l.row;
  kept : IsAsLarge l.fn.zeros l.zeros;
}
