use Rattle.std.specs.Prelude.{◌≡◌, ℕ, ◌+◌, take, OnOk}
use Rattle.std.proofs.Common.{arith, refl, ap, subst, ◌∙◌}
use Rattle.sat_matrix.specs.Pairs.{AreFound}
use Rattle.sat_matrix.specs.Levels.{IsNearAt}
use Rattle.sat_matrix.proofs.NearLists.{level_part}
use Rattle.sat_matrix.proofs.NearPairs.{found_group}
use native.Mathlib.Nat.{le_antisymm}
use Rattle.sat_matrix.proofs.narrowing.+push_group.Goals as goal

pub returns-then-len-level-clause-kept : goal.returns-then-len-level-clause-kept
returns-then-len-level-clause-kept t c = record { all = refl; inner = refl; rays = refl }

pub returns-then-len-level-clause-found : goal.returns-then-len-level-clause-found
returns-then-len-level-clause-found t c =
    found_group c.args.search.now.side c.args.search.now.zeros.now c.args.search.now.outer.now c.args.search.now.inner.now c.args.search.now.least c.requires.search c.args.from c.args.to c.args.level.inner c.args.near.now.inner.items c.args.pairs.now.items
    (omega (arith, c.requires.to.0)) c.requires.to.1 c.requires.near.near (omega (arith, c.if-len-level.true, c.len.ensures)) c.requires.before

pub push_ray-requires-clause-search : goal.push_ray-requires-clause-search
push_ray-requires-clause-search t c = c.requires.search

pub push_ray-requires-clause-near : goal.push_ray-requires-clause-near
push_ray-requires-clause-near t c =
    let P : ℕ → Type 0 = λ to. IsNearAt c.args.search.now.zeros.now c.args.search.now.outer.now c.args.search.now.inner.now c.args.search.now.least c.args.from to c.args.level c.args.near.now.inner.items c.args.near.now.rays.items in
    subst P (let e : c.args.to ≡ c.args.from + 1 = omega (arith, c.requires.to.0, c.if-to-from-eq1.true) in e) c.requires.near

pub push_ray-requires-clause-before : goal.push_ray-requires-clause-before
push_ray-requires-clause-before t c = c.requires.before

pub returns-then-to-from-eq1-clause-kept : goal.returns-then-to-from-eq1-clause-kept
returns-then-to-from-eq1-clause-kept t c = c.push_ray.ensures.kept

pub returns-then-to-from-eq1-clause-found : goal.returns-then-to-from-eq1-clause-found
returns-then-to-from-eq1-clause-found t c =
    let P : ℕ → Type 0 = λ to. OnOk c.push_ray.result (AreFound c.args.search.now.side c.args.search.now.zeros.now c.args.search.now.outer.now c.args.search.now.inner.now to 0 c.push_ray.new.pairs.items) in
    subst P (let e : c.args.from + 1 ≡ c.args.to = omega (arith, c.requires.to.0, c.if-to-from-eq1.true) in e) c.push_ray.ensures.found

pub loop-first-init : goal.loop-first-init
loop-first-init t c = record {
  from = omega arith;
  to = omega (arith, c.requires.to.0);
  kept = record { all = refl; inner = refl; rays = refl };
  found = c.requires.before;
}

pub narrow-requires-clause-search : goal.narrow-requires-clause-search
narrow-requires-clause-search t c = c.requires.search

pub narrow-requires-clause-all : goal.narrow-requires-clause-all
narrow-requires-clause-all t c = λ whole. c.loop-first.invariant.kept.all ∙ c.requires.all whole

pub narrow-requires-clause-near : goal.narrow-requires-clause-near
narrow-requires-clause-near t c =
    level_part c.args.search.now.zeros.now c.args.search.now.outer.now c.args.search.now.inner.now c.args.search.now.least c.args.from c.args.to c.args.level c.args.near.now.inner.items c.args.near.now.rays.items _ _
    c.loop-first.invariant.kept.inner c.loop-first.invariant.kept.rays _ _ c.loop-first.invariant.from (omega arith) c.requires.near

pub loop-first-preserved : goal.loop-first-preserved
loop-first-preserved t c = record {
  from = omega arith;
  to = omega arith;
  kept = record {
    all = c.leave.ensures.all ∙ c.in_ok-push_group.ensures.kept.all ∙ c.in_ok-next.ensures.begun.all ∙ c.loop-first.invariant.kept.all;
    inner = c.leave.ensures.inner ∙ ap (take _) c.in_ok-push_group.ensures.kept.inner ∙ c.in_ok-next.ensures.begun.inner ∙ c.loop-first.invariant.kept.inner;
    rays = c.leave.ensures.rays ∙ ap (take _) c.in_ok-push_group.ensures.kept.rays ∙ c.in_ok-next.ensures.begun.rays ∙ c.loop-first.invariant.kept.rays;
  };
  found = c.in_ok-push_group.ensures.found;
}

pub returns-clause-kept : goal.returns-clause-kept
returns-clause-kept t c = record { all = c.loop-first.invariant.kept.all; inner = c.loop-first.invariant.kept.inner; rays = c.loop-first.invariant.kept.rays }

pub returns-clause-found : goal.returns-clause-found
returns-clause-found t c =
    let P : ℕ → Type 0 = λ n. AreFound c.args.search.now.side c.args.search.now.zeros.now c.args.search.now.outer.now c.args.search.now.inner.now n 0 c.loop-first.pairs.items in
    subst P (le_antisymm c.loop-first.invariant.to c.loop-first-test.false) c.loop-first.invariant.found
