use Rattle.std.proofs.Common.{◌≡◌, ◌++◌, length}
use Rattle.std.specs.Vec.Iter.{into_iter_items, into_iter_len}
use Rattle.name_table.specs.Table.{numbered_entries}
use Rattle.name_table.specs.Keys.{named}
use Rattle.name_table.proofs.numbering.numbered_entries.Given as goal

abbrev pub invariant-loop-entry : goal.invariant-loop-entry
invariant-loop-entry g l = record {
  len : into_iter_len l.entry-iterator ≡ length (into_iter_items l.entry-iterator);
  under : named l.under.items ++ numbered_entries l.prefix (length l.under.items) (into_iter_items l.entry-iterator) ≡ numbered_entries l.prefix 0 l.fn.entries.items;
}
