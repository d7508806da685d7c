use Rattle.std.proofs.Common.{◌≡◌, rules, inl, inr, arith, sym, ◌∙◌}
use Rattle.std.proofs.lemmas.Result.{IfOk-weaker, IfErr-weaker, err_from_is_err_and}
use Rattle.row_core.specs.declared.errors.ConvErr.{ConvErr}
use Rattle.row_core.specs.Refusals.{IsOverflowIn}
use Rattle.poly_pair.specs.TopologyLists.{list_width, generators_of}
use Rattle.poly_pair.specs.Refusals.{IsOverflowOn}
use Rattle.lattice_ops.specs.Sets.{both_generators}
use Rattle.lattice_ops.specs.Growing.{IsGrown}
use Rattle.widening.specs.RunLaws.{IsFound}
use Rattle.loop_analysis.specs.Rounds.{IsJoined, LeavesInJoin}
use Rattle.loop_analysis.proofs.RunLemmas.{round_leaves, last_leaves}
use Rattle.loop_analysis.proofs.TurnLemmas.{found_of, hull_leaves}
use Rattle.poly_pair.proofs.WorkLemmas.{overflow_clause}
use Rattle.loop_analysis.proofs.rounds.joined.Goals as goal

pub returns-in_err-states-clause-overflow : goal.returns-in_err-states-clause-overflow
returns-in_err-states-clause-overflow g c =
    let leaves = round_leaves c.args.program.now c.args.set.now c.in_err-states.field-0.0 c.in_err-states.ensures.overflow in
    search (rules, leaves)

pub grown-requires-clause-closed : goal.grown-requires-clause-closed
grown-requires-clause-closed g c = c.requires.over.same_topology

pub grown-requires-clause-topology : goal.grown-requires-clause-topology
grown-requires-clause-topology g c = c.requires.over.same_topology ∙ sym c.in_ok-states.ensures.closed.over.same_topology

pub grown-requires-clause-dim : goal.grown-requires-clause-dim
grown-requires-clause-dim g c = c.requires.over.same_dim ∙ sym c.in_ok-states.ensures.closed.over.same_dim

pub returns-clause-found : goal.returns-clause-found
returns-clause-found g c =
    let set = c.args.set.now in
    IfOk-weaker c.grown.result (IsGrown set c.in_ok-states.states) (IsFound (IsJoined c.args.program.now set) set)
    (found_of c.args.program.now set c.in_ok-states.states c.requires c.in_ok-states.ensures.round c.in_ok-states.ensures.closed.kept) c.grown.ensures.grown

pub returns-clause-overflow : goal.returns-clause-overflow
returns-clause-overflow g c =
    let set = c.args.set.now in
    let l = c.args.program.now in
    let states = c.in_ok-states.states in
    IfErr-weaker c.grown.result (IsOverflowOn (list_width set.topology set.cons.dim) set.cons.dim (generators_of set.topology (both_generators set states))) (IsOverflowIn (LeavesInJoin l set))
    (λ (e : ConvErr) h. last_leaves l set e (hull_leaves l set set states c.requires.over.same_topology c.in_ok-states.ensures.round c.in_ok-states.ensures.closed.kept e h)) (overflow_clause _ _ _ c.grown.result c.grown.ensures.conversion)

pub returns-clause-conversion : goal.returns-clause-conversion
returns-clause-conversion g c = inr (record {
  between = c.round.new.steps;
  first = c.in_ok-states.ensures.conversion;
  second = record { round = c.in_ok-states.states; is_round = c.in_ok-states.ensures.round; round_kept = c.in_ok-states.ensures.closed.kept; conversion = c.grown.ensures.conversion };
})

pub returns-clause-no_fewer : goal.returns-clause-no_fewer
returns-clause-no_fewer g c = omega (arith, c.in_ok-states.ensures.no_fewer, c.grown.ensures.conversion.no_fewer)

pub returns-in_err-states-clause-conversion : goal.returns-in_err-states-clause-conversion
returns-in_err-states-clause-conversion g c = let p = err_from_is_err_and c.from_residual.result c.from_residual.ensures.1 in rw (p.1, p.2) (inl c.in_err-states.ensures.conversion)
