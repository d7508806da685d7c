use Rattle.std.specs.Prelude.{◌+◌}
use Rattle.std.proofs.Common.{arith}
use Rattle.sat_matrix.proofs.Apart.{found_next}
use Rattle.sat_matrix.proofs.FoundPairs.{found_row}
use Rattle.sat_matrix.proofs.adjacency.Search.push_pairs.Goals as goal

pub loop-next-init : goal.loop-next-init
loop-next-init c = record {
  within = c.next_sharing-next.ensures.within;
  found = found_next c.args.self.now.side c.args.self.now.zeros.now c.args.self.now.outer.now c.args.self.now.inner.now c.args.position 0 c.next_sharing-next.result c.args.self.now.least c.args.pairs.now.items c.requires.search.decide c.requires.search.outer_rises c.requires.search.inner_rises c.requires.position c.next_sharing-next.ensures c.requires.before;
}

pub loop-next-preserved : goal.loop-next-preserved
loop-next-preserved c = record {
  within = c.next_sharing-next-in-loop-next.ensures.within;
  found = found_next c.args.self.now.side c.args.self.now.zeros.now c.args.self.now.outer.now c.args.self.now.inner.now c.args.position (c.loop-next.next + 1) c.next_sharing-next-in-loop-next.result c.args.self.now.least c.push_pair.new.pairs.items c.requires.search.decide c.requires.search.outer_rises c.requires.search.inner_rises c.requires.position c.next_sharing-next-in-loop-next.ensures c.in_ok-push_pair.ensures;
}

pub returns : goal.returns
returns c = found_row c.args.self.now.side c.args.self.now.zeros.now c.args.self.now.outer.now c.args.self.now.inner.now c.args.position c.loop-next.next c.loop-next.pairs.items c.loop-next.invariant.found (omega (arith, c.loop-next.invariant.within, c.loop-next-test.false))

pub next_sharing-next-requires-in-loop-next-clause-among : goal.next_sharing-next-requires-in-loop-next-clause-among
next_sharing-next-requires-in-loop-next-clause-among c = c.requires.search.inner_rises.within

pub next_sharing-next-requires-in-loop-next-clause-row : goal.next_sharing-next-requires-in-loop-next-clause-row
next_sharing-next-requires-in-loop-next-clause-row c = c.requires.search.outer_rises.within c.args.position c.requires.position
