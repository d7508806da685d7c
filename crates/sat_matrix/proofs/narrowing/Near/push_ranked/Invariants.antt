use Rattle.std.specs.Prelude.{◌≡◌, ◌⊎◌, []}
use Rattle.sat_matrix.specs.Pairs.{index_at}
use Rattle.sat_matrix.specs.Ranking.{AreRanked}
use Rattle.sat_matrix.specs.NearStates.{AreKept}
use Rattle.sat_matrix.proofs.NearPairs.{IsFoundUpto}
use Rattle.sat_matrix.proofs.narrowing.Near.push_ranked.Given as goal

abbrev pub invariant-loop-index : goal.invariant-loop-index
invariant-loop-index l = record {
  kept : AreKept l.initial.self l.self;
  ranked : (l.self.ranked.items ≡ []) ⊎ AreRanked l.search.zeros.now (index_at l.search.outer.now l.position) l.search.least l.self.ranked.items;
  found : IsFoundUpto l.search.side l.search.zeros.now l.search.outer.now l.search.inner.now l.position l.level.inner l.index l.initial.self.inner.items l.pairs.items;
}
