use Rattle.std.proofs.Common.{◌-◌, ◌≤◌}
use Rattle.sat_matrix.specs.Pairs.{AreFound}
use Rattle.sat_matrix.specs.NearStates.{AreKept}
use Rattle.sat_matrix.proofs.narrowing.+push_group.Given as goal

abbrev pub decreases-push_group : goal.decreases-push_group
decreases-push_group l = l.to - l.from

abbrev pub invariant-loop-first : goal.invariant-loop-first
invariant-loop-first l = record {
  from : l.from ≤ l.first;
  to : l.first ≤ l.to;
  kept : AreKept l.initial.near l.near;
  found : AreFound l.search.side l.search.zeros.now l.search.outer.now l.search.inner.now l.first 0 l.pairs.items;
}

abbrev pub decreases-loop-first : goal.decreases-loop-first
decreases-loop-first l = l.to - l.first
