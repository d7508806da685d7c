use Rattle.std.proofs.Common.{◌+◌}
use Rattle.std.proofs.lemmas.Result.{IfOk-weaker, IfErr-weaker}
use Rattle.poly_pair.specs.TopologyLists.{list_width, generators_of}
use Rattle.poly_pair.specs.Refusals.{IsOverflowOn}
use Rattle.row_core.specs.Refusals.{IsOverflowIn}
use Rattle.lattice_ops.specs.Sets.{IsHull, both_generators}
use Rattle.enclosures.specs.Differences.{IsJoinTo, LeavesAt}
use Rattle.enclosures.proofs.JoinLemmas.{one_joined, join_leaves}
use Rattle.poly_pair.proofs.WorkLemmas.{overflow_clause}
use Rattle.enclosures.proofs.differences.joined.Goals as goal

pub returns-clause-points : goal.returns-clause-points
returns-clause-points g c =
    let ways = c.args.ways.now.list in
    let made = c.args.made.now in
    let part = c.in_ok-part.part in
    IfOk-weaker c.hull.result (IsHull made part) (IsJoinTo c.args.p.now ways (c.args.index + 1))
    (λ r h. one_joined c.args.p.now ways c.args.index made part r c.requires.made c.in_ok-part.ensures.points h) c.hull.ensures.points

pub returns-clause-overflow : goal.returns-clause-overflow
returns-clause-overflow g c =
    let ways = c.args.ways.now.list in
    let made = c.args.made.now in
    let part = c.in_ok-part.part in
    IfErr-weaker c.hull.result (IsOverflowOn (list_width made.topology made.cons.dim) made.cons.dim (generators_of made.topology (both_generators made part))) (IsOverflowIn (LeavesAt c.args.p.now ways c.args.index))
    (join_leaves c.args.p.now ways c.args.index made part c.requires.made c.dim-kept.ensures.kept c.in_ok-part.ensures.points c.in_ok-part.ensures.kept) (overflow_clause _ _ _ c.hull.result c.hull.ensures.conversion)
