use Rattle.std.proofs.Common.{◌≡◌}
use Rattle.nnc_enc.proofs.MarkRows.{HasMarksUpto}
use Rattle.nnc_enc.proofs.passes.with_marks.Given as goal

abbrev pub invariant-loop-column : goal.invariant-loop-column
invariant-loop-column l = record {
  columns : l.table.columns ≡ l.sat.columns;
  marked : HasMarksUpto l.marks l.sat.rows l.table.rows l.column;
}
