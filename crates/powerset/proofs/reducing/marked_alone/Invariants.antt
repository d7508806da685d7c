use Rattle.std.proofs.Common.{◌≡◌, ◌≤◌, ◌++◌, length, take, drop}
use Rattle.flat_rows.specs.Flat.{marked}
use Rattle.powerset.proofs.reducing.marked_alone.Given as goal

abbrev pub invariant-loop-index : goal.invariant-loop-index
invariant-loop-index l = record {
  below : l.index ≤ length l.fn.members.items;
  part : l.part.items ≡ take l.index l.fn.members.items ++ marked (drop l.index l.keep) (drop l.index l.fn.members.items);
}

abbrev pub decreases-loop-index : goal.decreases-loop-index
decreases-loop-index l = l.index
