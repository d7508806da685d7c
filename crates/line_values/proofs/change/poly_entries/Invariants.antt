use Rattle.std.proofs.Common.{◌≡◌, ◌++◌, length, map}
use Rattle.std.specs.Vec.Iter.{into_iter_items, into_iter_len}
use Rattle.line_values.proofs.change.poly_entries.Given as goal

abbrev pub invariant-loop-set : goal.invariant-loop-set
invariant-loop-set g l = record {
  len : into_iter_len l.set-iterator ≡ length (into_iter_items l.set-iterator);
  entries : l.entries.items ++ map g.E.PolyEntry.of_poly (into_iter_items l.set-iterator) ≡ map g.E.PolyEntry.of_poly l.fn.sets.items;
}
