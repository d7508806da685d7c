use Rattle.std.proofs.Common.{◌≡◌, ◌≤◌, ℕ, rules, sym, ap, ◌∙◌, subst}
use Rattle.cons_sys.specs.Constraints.{Constraints}
use Rattle.poly_pair.specs.declared.topology.Topology.TheVariants.{Nnc}
use Rattle.poly_pair.specs.declared.topology.TheConstants.{MAX_DIM}
use Rattle.poly_pair.specs.Polyhedra.{IsOfConstraints}
use Rattle.row_core.specs.Refusals.{IsOverflowIn}
use Rattle.poly_pair.specs.TopologyLists.{list_width, constraints_of}
use Rattle.poly_pair.specs.Refusals.{IsOverflowOn}
use Rattle.enclosures.specs.Differences.{IsDifference, LeavesInDifference}
use Rattle.loop_analysis.proofs.AnalysisLemmas.{open_leaves, outside_leaves}
use Rattle.poly_pair.proofs.WorkLemmas.{refused_overflow}
use Rattle.loop_analysis.proofs.analysis.behind.Goals as goal

pub from_cons-requires-clause-narrow : goal.from_cons-requires-clause-narrow
from_cons-requires-clause-narrow g c = subst (λ (cs : Constraints). cs.dim ≤ MAX_DIM) (sym c.cons.ensures.value) c.requires.kept.narrow

pub difference-requires-clause-topology : goal.difference-requires-clause-topology
difference-requires-clause-topology g c = c.in_ok-opened.ensures.points.over.same_topology

pub difference-requires-clause-dim : goal.difference-requires-clause-dim
difference-requires-clause-dim g c =
    ap (λ (cs : Constraints). cs.dim) c.guard.ensures.value ∙ c.guard.ensures.kept.guard_dim ∙ sym c.requires.over.same_dim
    ∙ sym (ap (λ (cs : Constraints). cs.dim) c.cons.ensures.value) ∙ sym c.in_ok-opened.ensures.points.over.same_dim

pub returns-clause-behind : goal.returns-clause-behind
returns-clause-behind g c = record {
  opened = c.in_ok-opened.opened;
  is_open = subst (λ (cs : Constraints). IsOfConstraints Nnc cs c.in_ok-opened.opened) c.cons.ensures.value c.in_ok-opened.ensures.points;
  is_difference = subst (λ (cs : Constraints). IsDifference c.in_ok-opened.opened cs c.in_ok-made.made) c.guard.ensures.value c.in_ok-made.ensures.points;
  kept = c.dim-kept.ensures.kept;
}

pub returns-in_err-opened-clause-overflow : goal.returns-in_err-opened-clause-overflow
returns-in_err-opened-clause-overflow g c =
    let leaves = open_leaves c.args.program.now c.args.head.now c.in_err-opened.field-0.0
    (subst (λ (cs : Constraints). IsOverflowOn (list_width Nnc cs.dim) cs.dim (constraints_of Nnc cs) c.in_err-opened.field-0.0) c.cons.ensures.value (refused_overflow _ _ _ c.in_err-opened.field-0.0 c.in_err-opened.ensures.conversion)) in
    search (rules, leaves)

pub returns-in_err-made-clause-overflow : goal.returns-in_err-made-clause-overflow
returns-in_err-made-clause-overflow g c =
    let leaves = outside_leaves c.args.program.now c.args.head.now c.in_ok-opened.opened
    (subst (λ (cs : Constraints). IsOfConstraints Nnc cs c.in_ok-opened.opened) c.cons.ensures.value c.in_ok-opened.ensures.points) c.in_err-made.field-0.0
    (subst (λ (cs : Constraints). IsOverflowIn (LeavesInDifference c.in_ok-opened.opened cs) c.in_err-made.field-0.0) c.guard.ensures.value c.in_err-made.ensures.overflow) in
    search (rules, leaves)
