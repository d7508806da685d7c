use Rattle.std.proofs.Common.{◌≡◌, ◌≤◌, length}
use Rattle.std.specs.Vec.Iter.{into_iter_items, into_iter_len}
use Rattle.indexmap.specs.IndexMap.{spare}
use Rattle.name_table.specs.Table.{put_each}
use Rattle.name_table.specs.Keys.{named}
use Rattle.name_table.proofs.numbering.put_within.Given as goal

abbrev pub invariant-loop-name : goal.invariant-loop-name
invariant-loop-name g l = record {
  room : length (into_iter_items l.name-iterator) ≤ spare l.map;
  len : into_iter_len l.name-iterator ≡ length (into_iter_items l.name-iterator);
  entries : put_each (named l.map.entries) (named (into_iter_items l.name-iterator)) ≡ put_each (named l.fn.map.entries) (named l.fn.entries.items);
}
