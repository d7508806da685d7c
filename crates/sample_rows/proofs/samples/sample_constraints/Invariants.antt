use Rattle.std.proofs.Common.{◌≡◌, ◌<◌, ◌^◌}
use Rattle.row_core.specs.Lists.{Pointwise}
use Rattle.sample_rows.specs.Draws.{before_row}
use Rattle.sample_rows.specs.Samples.{IsInequalityOf, sample_rows}
use Rattle.sample_rows.proofs.samples.sample_constraints.Given as goal

abbrev pub invariant-loop-row : goal.invariant-loop-row
invariant-loop-row l = record {
  dim : l.cons.dim ≡ 3;
  list : Pointwise IsInequalityOf (sample_rows l.row) l.cons.list;
  number : l.draws.number ≡ before_row l.row;
  small : l.draws.number < 2 ^ 31;
}
