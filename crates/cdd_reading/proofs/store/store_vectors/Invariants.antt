use Rattle.std.proofs.Common.{◌≡◌, ◌+◌, List}
use Rattle.cdd_reading.specs.Tables.{AreStored}
use Rattle.row_core.specs.Lists.{Row}
use Rattle.cdd_reading.proofs.StoreLaws.{Taken}
use Rattle.cdd_reading.proofs.store.store_vectors.Given as goal

abbrev pub invariant-loop-marked : goal.invariant-loop-marked
invariant-loop-marked l = record {
  done : (before : List Row) × Taken l.table.width l.marked-index l.table.marks.items l.table.values.items l.rest before × AreStored before l.system.list;
  dim : l.table.width ≡ l.system.dim + 1;
}
