use Rattle.std.proofs.Common.{◌≡◌, take}
use Rattle.std.specs.Prelude.{All}
use Rattle.row_core.specs.Range.{InRange}
use Rattle.row_core.specs.Lists.{vectors}
use Rattle.row_store.specs.Values.{values_on}
use Rattle.row_store.proofs.row_values.summed_values.Given as goal

abbrev pub invariant-loop-index : goal.invariant-loop-index
invariant-loop-index l = record {
  values : l.place.items ≡ values_on l.row (vectors (take l.index l.list.rows));
  in_range : All InRange l.place.items;
}
