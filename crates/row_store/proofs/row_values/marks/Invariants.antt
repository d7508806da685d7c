use Rattle.std.proofs.Common.{◌≡◌, ◌≤◌, length, take, map}
use Rattle.row_core.specs.Signs.{stays}
use Rattle.row_store.proofs.row_values.marks.Given as goal

abbrev pub invariant-loop-value : goal.invariant-loop-value
invariant-loop-value l = record {
  len : length l.place.items ≡ l.value-index;
  room : length l.values ≤ l.place.capacity;
  marks : l.place.items ≡ map (λ value. stays l.eq value) (take l.value-index l.values);
}
