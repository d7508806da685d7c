use Rattle.std.proofs.Common.{◌≡◌, take, flat_map}
use Rattle.enclosures.specs.Ways.{ways_of}
use Rattle.enclosures.proofs.ways.ways.Given as goal

abbrev pub invariant-loop-index : goal.invariant-loop-index
invariant-loop-index l = record {
  dim : l.system.dim ≡ l.cons.dim;
  list : l.system.list ≡ flat_map ways_of (take l.index l.cons.list);
}
