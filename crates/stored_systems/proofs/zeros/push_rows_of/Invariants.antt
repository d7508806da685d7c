use Rattle.std.proofs.Common.{◌≡◌, ◌+◌, ◌≤◌, ◌++◌, length, take}
use Rattle.stored_systems.proofs.zeros.push_rows_of.Given as goal

abbrev pub invariant-loop-row : goal.invariant-loop-row
invariant-loop-row l = record {
  columns : l.table.columns ≡ l.initial.table.columns;
  rows : l.table.rows ≡ l.initial.table.rows ++ take l.row l.other.rows;
  spare : length l.other.rows ≤ l.row + l.table.spare;
}
