use Rattle.std.proofs.Common.{◌≡◌, ◌≤◌, ◌+◌, take, map, length, slice_index_or}
use Rattle.sat_matrix.specs.Tables.{bits_of}
use Rattle.minimise.specs.SecondSystems.{behind_lines}
use Rattle.minimise.proofs.second_table.second_table.Given as goal

abbrev pub invariant-loop-index : goal.invariant-loop-index
invariant-loop-index l = record {
  columns : l.table.columns ≡ l.lines + l.zeros.columns;
  spare : length l.order ≤ l.table.spare + l.index;
  rows : l.table.rows ≡ map (λ i. behind_lines l.lines (bits_of l.zeros.rows (slice_index_or l.places i 0))) (take l.index l.order);
}
