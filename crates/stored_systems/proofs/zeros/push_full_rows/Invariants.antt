use Rattle.std.proofs.Common.{◌≡◌, ◌+◌, ◌≤◌, ◌++◌, replicate, true}
use Rattle.stored_systems.proofs.zeros.push_full_rows.Given as goal

abbrev pub invariant-loop-row : goal.invariant-loop-row
invariant-loop-row l = record {
  columns : l.table.columns ≡ l.initial.table.columns;
  rows : l.table.rows ≡ l.initial.table.rows ++ replicate l._row (replicate l.initial.table.columns true);
  spare : l.count ≤ l._row + l.table.spare;
}
