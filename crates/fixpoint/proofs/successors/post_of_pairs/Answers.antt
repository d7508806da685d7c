use Rattle.std.proofs.Common.{ℕ, inl, refl, rules, subst, IfOk}
use Rattle.std.proofs.lemmas.Result.{IfOk-weaker, err_from_is_err_and}
use Rattle.affine_maps.specs.Posts.{IsPost}
use Rattle.affine_maps.specs.Posts.{AreSuccessors}
use Rattle.affine_maps.specs.PostLists.{IsPairSystem}
use Rattle.affine_maps.proofs.PairSets.{pairs_closed, post_of_successors}
use Rattle.fixpoint.specs.PostLists.{ConvertsPairs}
use Rattle.fixpoint.proofs.PostConversions.{pair_list_conversion}
use Rattle.fixpoint.proofs.successors.post_of_pairs.Goals as goal

pub successors-requires-clause-closed : goal.successors-requires-clause-closed
successors-requires-clause-closed g c =
    let pairs : IsPairSystem c.args.p.now.cons c.args.relation.now.cons c.in_ok-pairs.pairs = search (rules, c.in_ok-pairs.ensures, c.cons.ensures.value, c.cons-2.ensures.value) in
    pairs_closed c.args.p.now c.args.relation.now c.in_ok-pairs.pairs c.requires.closed c.requires.closed_relation c.cons.ensures.kept c.cons-2.ensures.kept pairs

pub returns-clause-points : goal.returns-clause-points
returns-clause-points g c =
    let pairs : IsPairSystem c.args.p.now.cons c.args.relation.now.cons c.in_ok-pairs.pairs = search (rules, c.in_ok-pairs.ensures, c.cons.ensures.value, c.cons-2.ensures.value) in
    let found : IfOk c.successors.result (AreSuccessors c.args.p.now.cons.dim c.in_ok-pairs.pairs) = search rules in
    IfOk-weaker c.successors.result (AreSuccessors c.args.p.now.cons.dim c.in_ok-pairs.pairs) (IsPost c.args.p.now c.args.relation.now)
    (post_of_successors c.args.p.now c.args.relation.now c.in_ok-pairs.pairs c.requires.dim pairs) found

pub returns-clause-conversion : goal.returns-clause-conversion
returns-clause-conversion g c =
    let p = c.args.p.now in
    let pairs : IsPairSystem p.cons c.args.relation.now.cons c.in_ok-pairs.pairs = search (rules, c.in_ok-pairs.ensures, c.cons.ensures.value, c.cons-2.ensures.value) in
    let made = subst (λ (n : ℕ). ConvertsPairs n c.in_ok-pairs.pairs c.args.steps.now c.successors.new.steps c.successors.result) c.dim.ensures.value c.successors.ensures.conversion in
    pair_list_conversion p c.args.relation.now c.in_ok-pairs.pairs pairs c.args.steps.now c.successors.new.steps c.successors.result made

pub returns-in_err-pairs : goal.returns-in_err-pairs
returns-in_err-pairs g c = let e = err_from_is_err_and c.from_residual.result c.from_residual.ensures.1 in rw (e.1, e.2) (record { points = tt; overflow = tt; conversion = inl (refl, refl) })
