use Rattle.std.proofs.Common.{◌-◌, ◌≤◌, length}
use Rattle.sat_matrix.specs.Pairs.{AreFound}
use Rattle.sat_matrix.proofs.adjacency.Search.push_pairs.Given as goal

abbrev pub invariant-loop-next : goal.invariant-loop-next
invariant-loop-next l = record {
  within : l.next ≤ length l.self.inner.now;
  found : AreFound l.self.side l.self.zeros.now l.self.outer.now l.self.inner.now l.position l.next l.pairs.items;
}

abbrev pub decreases-loop-next : goal.decreases-loop-next
decreases-loop-next l = length l.self.inner.now - l.next
