use Rattle.std.proofs.Common.{◌≡◌, ◌<◌, ℕ, length, None, rules, inl, inr, refl, sym, ap, ◌∙◌, subst, arith}
use Rattle.std.proofs.lemmas.Result.{err_from_is_err_and}
use Rattle.row_core.specs.Refusals.{IsOverflowIn}
use Rattle.cons_sys.specs.Constraints.{Constraints}
use Rattle.stored_systems.specs.PointSets.{AreClosed}
use Rattle.poly_pair.specs.declared.topology.Topology.{Topology}
use Rattle.poly_pair.specs.TopologyLists.{AreConstraintsFor, list_width, constraints_of}
use Rattle.poly_pair.specs.Polyhedra.{IsOfConstraints}
use Rattle.poly_pair.specs.Additions.{with_constraints}
use Rattle.poly_pair.specs.Refusals.{IsOverflowOn}
use Rattle.poly_pair.specs.Work.{added_cons, IsConversion}
use Rattle.lattice_ops.specs.Sequences.{begins, takes}
use Rattle.loop_analysis.specs.Rounds.{LeavesInRound}
use Rattle.loop_analysis.proofs.RunLemmas.{guarded_of, guarded_closed, image_closed, images_next, all_images, fits_set, guard_leaves, body_leaves}
use Rattle.poly_pair.proofs.WorkLemmas.{refused_overflow}
use Rattle.loop_analysis.proofs.rounds.round.Goals as goal

pub add_cons-requires-clause-dim : goal.add_cons-requires-clause-dim
add_cons-requires-clause-dim g c = ap (λ (cs : Constraints). cs.dim) c.guard.ensures.value ∙ c.guard.ensures.kept.guard_dim ∙ sym c.requires.over.same_dim

pub add_cons-requires-clause-kinds : goal.add_cons-requires-clause-kinds
add_cons-requires-clause-kinds g c =
    subst (λ (t : Topology). AreConstraintsFor t c.guard.result.now) (sym c.requires.over.same_topology)
    (subst AreClosed (sym c.guard.ensures.value) c.guard.ensures.kept.guard_closed)

pub returns-in_err-states-clause-overflow : goal.returns-in_err-states-clause-overflow
returns-in_err-states-clause-overflow g c =
    let set = c.args.set.now in
    let leaves = guard_leaves c.args.program.now set c.args.program.now.dim c.requires c.in_err-states.field-0.0
    (subst (λ (cs : Constraints). IsOverflowOn (list_width set.topology set.cons.dim) set.cons.dim (constraints_of set.topology (with_constraints set cs)) c.in_err-states.field-0.0) c.guard.ensures.value (refused_overflow _ _ _ c.in_err-states.field-0.0 c.in_err-states.ensures.conversion)) in
    search (rules, leaves)

pub loop-index-init : goal.loop-index-init
loop-index-init g c = record {
  closed = guarded_closed c.args.program.now.dim c.args.set.now c.guard.result.now c.in_ok-states.states c.requires c.in_ok-states.ensures.points c.dim-kept.ensures.kept;
  images = refl;
  counted = begins;
  no_fewer = omega arith;
}

pub assigned-requires : goal.assigned-requires
assigned-requires g c = record { fits = fits_set c.args.program.now.dim c.assignment.result.now c.loop-index.states c.loop-index.invariant.closed c.assignment.ensures.fits }

pub returns-in_err-states-2-clause-overflow : goal.returns-in_err-states-2-clause-overflow
returns-in_err-states-2-clause-overflow g c =
    let set = c.args.set.now in
    let of = guarded_of c.args.program.now.dim set (with_constraints set c.args.program.now.guard) c.in_ok-states.states c.requires
    (subst (λ (cs : Constraints). IsOfConstraints set.topology (with_constraints set cs) c.in_ok-states.states) c.guard.ensures.value c.in_ok-states.ensures.points) in
    let leaves = body_leaves c.args.program.now set c.in_ok-states.states c.loop-index.states c.loop-index.index c.assignment.result.now of c.dim-kept.ensures.kept c.assignment.ensures.value c.loop-index.invariant.images c.in_err-states-2.field-0.0 c.in_err-states-2.ensures.overflow in
    search (rules, leaves)

pub loop-index-preserved : goal.loop-index-preserved
loop-index-preserved g c =
    let below : c.loop-index.index < length c.args.program.now.body = omega arith in
    record {
      closed = image_closed c.args.program.now.dim c.assignment.result.now c.loop-index.states c.in_ok-states-2.states c.loop-index.invariant.closed c.in_ok-states-2.ensures.image;
      images = images_next c.args.program.now.body c.loop-index.index c.assignment.result.now c.in_ok-states.states c.loop-index.states c.in_ok-states-2.states below c.assignment.ensures.value c.loop-index.invariant.images c.in_ok-states-2.ensures.image;
      counted = takes c.loop-index.invariant.counted (record { a = c.assignment.result.now; at = c.assignment.ensures.value; set = c.loop-index.states; images = c.loop-index.invariant.images; conversion = c.in_ok-states-2.ensures.conversion });
      no_fewer = omega (arith, c.loop-index.invariant.no_fewer, c.in_ok-states-2.ensures.no_fewer);
    }

pub returns-clause-round : goal.returns-clause-round
returns-clause-round g c =
    let set = c.args.set.now in
    let many : c.loop-index.index ≡ length c.args.program.now.body = omega arith in
    record {
      guarded = c.in_ok-states.states;
      is_guarded = guarded_of c.args.program.now.dim set (with_constraints set c.args.program.now.guard) c.in_ok-states.states c.requires
          (subst (λ (cs : Constraints). IsOfConstraints set.topology (with_constraints set cs) c.in_ok-states.states) c.guard.ensures.value c.in_ok-states.ensures.points);
      kept = c.dim-kept.ensures.kept;
      images = all_images c.args.program.now.body c.loop-index.index c.in_ok-states.states c.loop-index.states many c.loop-index.invariant.images;
    }

pub returns-clause-closed : goal.returns-clause-closed
returns-clause-closed g c = c.loop-index.invariant.closed

pub returns-clause-conversion : goal.returns-clause-conversion
returns-clause-conversion g c = inr (record {
  between = c.add_cons.new.steps;
  first = subst (λ (cs : Constraints). IsConversion (added_cons c.args.set.now cs) c.args.steps.now c.add_cons.new.steps None) c.guard.ensures.value c.in_ok-states.ensures.conversion;
  second = record {
    guarded = c.in_ok-states.states;
    is_guarded = guarded_of c.args.program.now.dim c.args.set.now (with_constraints c.args.set.now c.args.program.now.guard) c.in_ok-states.states c.requires
        (subst (λ (cs : Constraints). IsOfConstraints c.args.set.now.topology (with_constraints c.args.set.now cs) c.in_ok-states.states) c.guard.ensures.value c.in_ok-states.ensures.points);
    kept = c.dim-kept.ensures.kept;
    conversions = record { index = c.loop-index.index; within = omega arith; between = c.loop-index.steps; before = c.loop-index.invariant.counted; rest = inl (refl, refl) };
  };
})

pub returns-clause-no_fewer : goal.returns-clause-no_fewer
returns-clause-no_fewer g c = omega (arith, c.loop-index.invariant.no_fewer, c.in_ok-states.ensures.conversion.no_fewer)

pub returns-in_err-states-2-clause-conversion : goal.returns-in_err-states-2-clause-conversion
returns-in_err-states-2-clause-conversion g c =
    let p = err_from_is_err_and c.from_residual-in_err-states-2.result c.from_residual-in_err-states-2.ensures.1 in
    rw (p.1, p.2) (inr (record {
      between = c.add_cons.new.steps;
      first = subst (λ (cs : Constraints). IsConversion (added_cons c.args.set.now cs) c.args.steps.now c.add_cons.new.steps None) c.guard.ensures.value c.in_ok-states.ensures.conversion;
      second = record {
        guarded = c.in_ok-states.states;
        is_guarded = guarded_of c.args.program.now.dim c.args.set.now (with_constraints c.args.set.now c.args.program.now.guard) c.in_ok-states.states c.requires
            (subst (λ (cs : Constraints). IsOfConstraints c.args.set.now.topology (with_constraints c.args.set.now cs) c.in_ok-states.states) c.guard.ensures.value c.in_ok-states.ensures.points);
        kept = c.dim-kept.ensures.kept;
        conversions = record {
          index = c.loop-index.index;
          within = omega arith;
          between = c.loop-index.steps;
          before = c.loop-index.invariant.counted;
          rest = inr (omega arith, record { a = c.assignment.result.now; at = c.assignment.ensures.value; set = c.loop-index.states; images = c.loop-index.invariant.images; conversion = c.in_err-states-2.ensures.conversion });
        };
      };
    }))
