use Rattle.std.proofs.Common.{◌≡◌, ◌++◌, map, take}
use Rattle.row_core.specs.Range.{AllInRange}
use Rattle.cdd_reading.specs.Tables.{times_of}
use Rattle.cdd_reading.proofs.values.push_scaled.Given as goal

abbrev pub invariant-loop-number : goal.invariant-loop-number
invariant-loop-number l = record {
  items : l.values.items ≡ l.fn.values.items ++ map (times_of l.multiple) (take l.number-index l.row);
  in_range : AllInRange (map (times_of l.multiple) (take l.number-index l.row));
}
