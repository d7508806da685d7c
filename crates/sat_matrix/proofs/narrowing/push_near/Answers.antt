use Rattle.sat_matrix.proofs.NearPairs.{upto_none, upto_next, upto_more, upto_all}
use Rattle.sat_matrix.proofs.narrowing.push_near.Goals as goal

pub push_pair-requires-clause-before : goal.push_pair-requires-clause-before
push_pair-requires-clause-before c =
    upto_next c.args.search.now.side c.args.search.now.zeros.now c.args.search.now.outer.now c.args.search.now.inner.now c.args.search.now.least c.requires.search c.args.position c.args.start c.args.list.now c.requires.position c.requires.near
    c.loop-index.index c.loop-index.pairs.items c.loop-index.auto.index c.loop-index.invariant c.loop-index-test.true

pub returns : goal.returns
returns c =
    upto_all c.args.search.now.side c.args.search.now.zeros.now c.args.search.now.outer.now c.args.search.now.inner.now c.args.search.now.least c.requires.search c.args.position c.args.start c.args.list.now c.requires.position c.requires.near
    c.loop-index.index c.loop-index.pairs.items c.loop-index.auto.index c.loop-index.invariant c.loop-index-test.false

pub loop-index-init : goal.loop-index-init
loop-index-init c = upto_none c.args.search.now.side c.args.search.now.zeros.now c.args.search.now.outer.now c.args.search.now.inner.now c.args.search.now.least c.requires.search c.args.position c.args.start c.args.list.now c.requires.position c.requires.near c.args.pairs.now.items c.requires.before

pub push_pair-requires-clause-search : goal.push_pair-requires-clause-search
push_pair-requires-clause-search c = c.requires.search

pub push_pair-requires-clause-next : goal.push_pair-requires-clause-next
push_pair-requires-clause-next c = c.requires.near.rising.within c.loop-index.index c.loop-index.auto.index c.loop-index-test.true

pub loop-index-preserved : goal.loop-index-preserved
loop-index-preserved c =
    upto_more c.args.search.now.side c.args.search.now.zeros.now c.args.search.now.outer.now c.args.search.now.inner.now c.args.search.now.least c.requires.search c.args.position c.args.start c.args.list.now c.requires.position c.requires.near
    c.loop-index.index c.loop-index.pairs.items c.loop-index.auto.index c.loop-index.invariant c.push_pair.new.pairs.items c.loop-index-test.true c.in_ok-push_pair.ensures
