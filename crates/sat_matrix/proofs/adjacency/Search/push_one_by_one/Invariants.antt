use Rattle.sat_matrix.specs.Pairs.{AreFound}
use Rattle.sat_matrix.proofs.adjacency.Search.push_one_by_one.Given as goal

abbrev pub invariant-loop-position : goal.invariant-loop-position
invariant-loop-position l = AreFound l.self.side l.self.zeros.now l.self.outer.now l.self.inner.now l.position 0 l.pairs.items
