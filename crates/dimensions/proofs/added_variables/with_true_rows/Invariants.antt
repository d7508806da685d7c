use Rattle.std.proofs.Common.{◌≡◌, ◌+◌, ◌≤◌, ◌++◌, true, replicate}
use Rattle.dimensions.proofs.added_variables.with_true_rows.Given as goal

abbrev pub invariant-loop-row : goal.invariant-loop-row
invariant-loop-row l = record {
  columns : l.longer.columns ≡ l.table.columns;
  rows : l.longer.rows ≡ l.table.rows ++ replicate l._row (replicate l.table.columns true);
  spare : l.fn.count ≤ l.longer.spare + l._row;
}
