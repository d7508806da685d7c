use Rattle.std.proofs.Common.{◌≡◌, ◌≤◌, length, take}
use Rattle.std.specs.Prelude.{All}
use Rattle.row_core.specs.Range.{InRange}
use Rattle.row_core.specs.Lists.{vectors}
use Rattle.row_store.specs.Values.{values_on}
use Rattle.row_store.proofs.row_values.word_values.Given as goal

abbrev pub invariant-loop-index : goal.invariant-loop-index
invariant-loop-index l = record {
  len : length l.place.items ≡ l.index;
  room : length l.list.rows ≤ l.place.capacity;
  values : l.place.items ≡ values_on l.row (vectors (take l.index l.list.rows));
  in_range : All InRange l.place.items;
}
