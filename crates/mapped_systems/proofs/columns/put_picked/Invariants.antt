use Rattle.std.proofs.Common.{◌≡◌, ◌+◌, ◌≤◌, length, take, map, vec_len, vec_capacity}
use Rattle.row_core.specs.Vectors.{cell}
use Rattle.row_core.specs.Range.{AllInRange}
use Rattle.mapped_systems.proofs.columns.put_picked.Given as goal

abbrev pub invariant-loop-column : goal.invariant-loop-column
invariant-loop-column l = record {
  count : vec_len l.buffer ≡ l.column-index;
  room : length l.columns + 1 ≤ vec_capacity l.buffer;
  entries : l.buffer.items ≡ map (cell l.row) (take l.column-index l.columns);
  in_range : AllInRange l.buffer.items;
}
