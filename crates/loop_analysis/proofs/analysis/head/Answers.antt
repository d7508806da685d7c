use Rattle.std.proofs.Common.{◌≡◌, rules, sym, ◌∙◌}
use Rattle.loop_analysis.proofs.TurnLemmas.{hull_leaves}
use Rattle.loop_analysis.proofs.AnalysisLemmas.{hull_closed, last_round_leaves, last_hull_leaves}
use Rattle.poly_pair.proofs.WorkLemmas.{refused_overflow}
use Rattle.loop_analysis.proofs.analysis.head.Goals as goal

pub returns-in_err-states-clause-overflow : goal.returns-in_err-states-clause-overflow
returns-in_err-states-clause-overflow g c =
    let leaves = last_round_leaves c.args.program.now c.args.start.now c.in_ok-invariant.invariant c.in_ok-invariant.ensures.invariant c.in_err-states.field-0.0 c.in_err-states.ensures.overflow in
    search (rules, leaves)

pub hull-requires-clause-topology : goal.hull-requires-clause-topology
hull-requires-clause-topology g c = c.requires.over.same_topology ∙ sym c.in_ok-states.ensures.closed.over.same_topology

pub hull-requires-clause-dim : goal.hull-requires-clause-dim
hull-requires-clause-dim g c = c.requires.over.same_dim ∙ sym c.in_ok-states.ensures.closed.over.same_dim

pub returns-in_err-made-clause-overflow : goal.returns-in_err-made-clause-overflow
returns-in_err-made-clause-overflow g c =
    let l = c.args.program.now in
    let invariant = c.in_ok-invariant.invariant in
    let e = c.in_err-made.field-0.0 in
    let leaves = last_hull_leaves l c.args.start.now invariant c.in_ok-invariant.ensures.invariant e
    (hull_leaves l invariant c.args.start.now c.in_ok-states.states c.requires.over.same_topology c.in_ok-states.ensures.round c.in_ok-states.ensures.closed.kept e (refused_overflow _ _ _ e c.in_err-made.ensures.conversion)) in
    search (rules, leaves)

pub returns-clause-head : goal.returns-clause-head
returns-clause-head g c = record {
  invariant = c.in_ok-invariant.invariant;
  is_invariant = c.in_ok-invariant.ensures.invariant;
  closed = c.in_ok-invariant.ensures.closed;
  stable = c.in_ok-invariant.ensures.stable;
  round = c.in_ok-states.states;
  is_round = c.in_ok-states.ensures.round;
  round_kept = c.in_ok-states.ensures.closed.kept;
  is_hull = c.in_ok-made.ensures.points;
}

pub returns-clause-closed : goal.returns-clause-closed
returns-clause-closed g c = hull_closed c.args.program.now c.args.start.now c.in_ok-states.states c.in_ok-made.made c.requires c.in_ok-made.ensures.points c.dim-kept.ensures.kept
