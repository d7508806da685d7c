use Rattle.sat_matrix.proofs.NearPairs.{IsFoundUpto}
use Rattle.sat_matrix.proofs.narrowing.push_near.Given as goal

abbrev pub invariant-loop-index : goal.invariant-loop-index
invariant-loop-index l = IsFoundUpto l.search.side l.search.zeros.now l.search.outer.now l.search.inner.now l.position l.start l.index l.list l.pairs.items
