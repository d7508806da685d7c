use Rattle.std.proofs.Common.{◌≤◌, length}
use Rattle.sat_matrix.specs.Pairs.{AreOn}
use Rattle.sat_matrix.proofs.adjacency.list_side.Given as goal

abbrev pub invariant-loop-index : goal.invariant-loop-index
invariant-loop-index l = record {
  len : length l.indices.items ≤ l.index;
  room : length l.values ≤ l.indices.capacity;
  sides : AreOn l.side l.values l.index l.indices.items;
}
