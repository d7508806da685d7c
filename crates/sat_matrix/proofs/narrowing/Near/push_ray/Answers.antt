use Rattle.std.specs.Prelude.{ℕ, ◌+◌, List}
use Rattle.std.proofs.Common.{refl, sym, subst}
use Rattle.std.proofs.lemmas.Result.{on_ok_weaker}
use Rattle.sat_matrix.specs.Near.{IsNear}
use Rattle.sat_matrix.proofs.narrowing.Near.push_ray.Goals as goal

pub push_ranked-requires-clause-search : goal.push_ranked-requires-clause-search
push_ranked-requires-clause-search c = c.requires.search

pub push_ranked-requires-clause-near : goal.push_ranked-requires-clause-near
push_ranked-requires-clause-near c = c.requires.near

pub push_ranked-requires-clause-before : goal.push_ranked-requires-clause-before
push_ranked-requires-clause-before c = c.requires.before

pub returns-then-level-clause-kept : goal.returns-then-level-clause-kept
returns-then-level-clause-kept c = c.push_ranked.ensures.kept

pub returns-then-level-clause-found : goal.returns-then-level-clause-found
returns-then-level-clause-found c = c.push_ranked.ensures.found

pub push_near-requires-clause-search : goal.push_near-requires-clause-search
push_near-requires-clause-search c = c.requires.search

pub push_near-requires-clause-near : goal.push_near-requires-clause-near
push_near-requires-clause-near c =
    let P : List ℕ → Type 0 = λ list. IsNear c.args.search.now.zeros.now c.args.search.now.outer.now c.args.search.now.inner.now c.args.search.now.least c.args.position (c.args.position + 1) c.args.level.inner list in
    subst P (sym c.deref.ensures.value) c.requires.near.near

pub push_near-requires-clause-before : goal.push_near-requires-clause-before
push_near-requires-clause-before c = c.requires.before

pub returns-clause-kept : goal.returns-clause-kept
returns-clause-kept c = on_ok_weaker c.push_near.result (λ _. record { all = refl; inner = refl; rays = refl }) c.push_near.ensures

pub returns-clause-found : goal.returns-clause-found
returns-clause-found c = c.push_near.ensures
