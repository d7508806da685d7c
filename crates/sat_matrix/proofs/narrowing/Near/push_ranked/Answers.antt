use Rattle.std.specs.Prelude.{ℕ, ◌+◌, ◌<◌, List, length}
use Rattle.std.specs.List.{range_with_len}
use Rattle.std.proofs.Common.{sym, ap, subst, arith, inl, refl, ◌∙◌}
use Rattle.sat_matrix.specs.Pairs.{AreFound}
use Rattle.sat_matrix.specs.Near.{IsNear}
use Rattle.sat_matrix.proofs.KeptPositions.{read_same}
use Rattle.sat_matrix.proofs.NearPairs.{upto_none, upto_next, upto_more, upto_all}
use Rattle.sat_matrix.proofs.narrowing.Near.push_ranked.Goals as goal

pub is_adjacent_near-requires-clause-search : goal.is_adjacent_near-requires-clause-search
is_adjacent_near-requires-clause-search c = c.requires.search

pub is_adjacent_near-requires-clause-next : goal.is_adjacent_near-requires-clause-next
is_adjacent_near-requires-clause-next c =
    let inside : c.loop-index.index < length c.args.self.now.inner.items = omega (arith, c.loop-index-test.true, c.len-index-end.ensures) in
    let here = read_same c.args.self.now.inner.items c.loop-index.self.inner.items c.loop-index.index c.index-next.result.now inside c.loop-index.invariant.kept.inner c.index-next.ensures in
    omega (arith, here, c.requires.near.near.rising.within c.loop-index.index c.loop-index.auto.index inside)

pub is_adjacent_near-requires-clause-start : goal.is_adjacent_near-requires-clause-start
is_adjacent_near-requires-clause-start c =
    let same = c.deref.ensures.value ∙ c.loop-index.invariant.kept.rays in
    omega (arith, c.requires.near.rays_start, ap (λ (list : List ℕ). length list) same)

pub is_adjacent_near-requires-clause-near : goal.is_adjacent_near-requires-clause-near
is_adjacent_near-requires-clause-near c =
    let all : List ℕ = range_with_len 0 (length c.args.search.now.zeros.now.rows) in
    let P : List ℕ → Type 0 = λ list. IsNear c.args.search.now.zeros.now c.args.search.now.outer.now all c.args.search.now.least c.args.position (c.args.position + 1) c.args.level.rays list in
    subst P (sym (c.deref.ensures.value ∙ c.loop-index.invariant.kept.rays)) (c.requires.near.near_rays c.requires.whole)

pub is_adjacent_near-requires-clause-ranked : goal.is_adjacent_near-requires-clause-ranked
is_adjacent_near-requires-clause-ranked c = c.loop-index.invariant.ranked

pub push_if-requires-clause-search : goal.push_if-requires-clause-search
push_if-requires-clause-search c = c.requires.search

pub push_if-requires-clause-next : goal.push_if-requires-clause-next
push_if-requires-clause-next c =
    let inside : c.loop-index.index < length c.args.self.now.inner.items = omega (arith, c.loop-index-test.true, c.len-index-end.ensures) in
    let here = read_same c.args.self.now.inner.items c.loop-index.self.inner.items c.loop-index.index c.index-next.result.now inside c.loop-index.invariant.kept.inner c.index-next.ensures in
    omega (arith, here, c.requires.near.near.rising.within c.loop-index.index c.loop-index.auto.index inside)

pub push_if-requires-clause-before : goal.push_if-requires-clause-before
push_if-requires-clause-before c =
    let inside : c.loop-index.index < length c.args.self.now.inner.items = omega (arith, c.loop-index-test.true, c.len-index-end.ensures) in
    let here = read_same c.args.self.now.inner.items c.loop-index.self.inner.items c.loop-index.index c.index-next.result.now inside c.loop-index.invariant.kept.inner c.index-next.ensures in
    let P : ℕ → Type 0 = λ n. AreFound c.args.search.now.side c.args.search.now.zeros.now c.args.search.now.outer.now c.args.search.now.inner.now c.args.position n c.loop-index.pairs.items in
    subst P (sym here)
    (upto_next c.args.search.now.side c.args.search.now.zeros.now c.args.search.now.outer.now c.args.search.now.inner.now c.args.search.now.least c.requires.search c.args.position c.args.level.inner c.args.self.now.inner.items c.requires.position c.requires.near.near
    c.loop-index.index c.loop-index.pairs.items c.loop-index.auto.index c.loop-index.invariant.found inside)

pub loop-index-preserved : goal.loop-index-preserved
loop-index-preserved c =
    let inside : c.loop-index.index < length c.args.self.now.inner.items = omega (arith, c.loop-index-test.true, c.len-index-end.ensures) in
    let here = read_same c.args.self.now.inner.items c.loop-index.self.inner.items c.loop-index.index c.index-next.result.now inside c.loop-index.invariant.kept.inner c.index-next.ensures in
    let P : ℕ → Type 0 = λ n. AreFound c.args.search.now.side c.args.search.now.zeros.now c.args.search.now.outer.now c.args.search.now.inner.now c.args.position (n + 1) c.push_if.new.pairs.items in
    record {
      kept = record {
        all = c.loop-index.invariant.kept.all;
        inner = c.loop-index.invariant.kept.inner;
        rays = c.loop-index.invariant.kept.rays;
      };
      ranked = c.in_ok-adjacent.ensures.ranked;
      found =
          upto_more c.args.search.now.side c.args.search.now.zeros.now c.args.search.now.outer.now c.args.search.now.inner.now c.args.search.now.least c.requires.search c.args.position c.args.level.inner c.args.self.now.inner.items c.requires.position c.requires.near.near
          c.loop-index.index c.loop-index.pairs.items c.loop-index.auto.index c.loop-index.invariant.found c.push_if.new.pairs.items inside (subst P here c.in_ok-push_if.ensures);
    }

pub returns-clause-found : goal.returns-clause-found
returns-clause-found c =
    upto_all c.args.search.now.side c.args.search.now.zeros.now c.args.search.now.outer.now c.args.search.now.inner.now c.args.search.now.least c.requires.search c.args.position c.args.level.inner c.args.self.now.inner.items c.requires.position c.requires.near.near
    c.loop-index.index c.loop-index.pairs.items c.loop-index.auto.index c.loop-index.invariant.found (omega (arith, c.loop-index-test.false, c.len-index-end.ensures))

pub loop-index-init : goal.loop-index-init
loop-index-init c = record {
  kept = record { all = refl; inner = refl; rays = refl };
  ranked = inl c.clear.ensures.items;
  found =
      upto_none c.args.search.now.side c.args.search.now.zeros.now c.args.search.now.outer.now c.args.search.now.inner.now c.args.search.now.least c.requires.search c.args.position c.args.level.inner c.args.self.now.inner.items c.requires.position c.requires.near.near c.args.pairs.now.items c.requires.before;
}

pub returns-clause-kept : goal.returns-clause-kept
returns-clause-kept c = record { all = c.loop-index.invariant.kept.all; inner = c.loop-index.invariant.kept.inner; rays = c.loop-index.invariant.kept.rays }
