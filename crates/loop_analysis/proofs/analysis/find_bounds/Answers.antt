use Rattle.std.proofs.Common.{◌≡◌, ◌≤◌, ℕ, rules, sym, subst}
use Rattle.cons_sys.specs.Constraints.{Constraints}
use Rattle.stored_systems.specs.PointSets.{AreClosed}
use Rattle.poly_pair.specs.declared.topology.Topology.TheVariants.{Closed}
use Rattle.poly_pair.specs.declared.topology.TheConstants.{MAX_DIM}
use Rattle.poly_pair.specs.TopologyLists.{list_width, constraints_of}
use Rattle.poly_pair.specs.Polyhedra.{IsOfConstraints}
use Rattle.poly_pair.specs.Refusals.{IsOverflowOn}
use Rattle.loop_analysis.specs.Analysis.{IsStart}
use Rattle.loop_analysis.proofs.RunLemmas.{head_holds, behind_holds}
use Rattle.loop_analysis.proofs.AnalysisLemmas.{start_of, start_leaves, head_leaves, behind_leaves, head_box_leaves, behind_box_leaves}
use Rattle.poly_pair.proofs.WorkLemmas.{refused_overflow}
use Rattle.loop_analysis.proofs.analysis.find_bounds.Goals as goal

pub from_cons-requires-clause-narrow : goal.from_cons-requires-clause-narrow
from_cons-requires-clause-narrow g c = subst (λ (cs : Constraints). cs.dim ≤ MAX_DIM) (sym c.start.ensures.value) (subst (λ (n : ℕ). n ≤ MAX_DIM) (sym c.start.ensures.kept.start_dim) c.start.ensures.kept.narrow)

pub from_cons-requires-clause-kinds : goal.from_cons-requires-clause-kinds
from_cons-requires-clause-kinds g c = subst AreClosed (sym c.start.ensures.value) c.start.ensures.kept.start_closed

pub returns-in_err-start-clause-overflow : goal.returns-in_err-start-clause-overflow
returns-in_err-start-clause-overflow g c =
    let e = c.in_err-start.field-0.0 in
    let leaves = start_leaves c.args.program.now e (subst (λ (cs : Constraints). IsOverflowOn (list_width Closed cs.dim) cs.dim (constraints_of Closed cs) e) c.start.ensures.value (refused_overflow _ _ _ e c.in_err-start.ensures.conversion)) in
    search (rules, leaves)

pub head-requires : goal.head-requires
head-requires g c =
    let of = subst (λ (cs : Constraints). IsOfConstraints Closed cs c.in_ok-start.start) c.start.ensures.value c.in_ok-start.ensures.points in
    (start_of c.args.program.now c.in_ok-start.start c.start.ensures.kept of c.dim-kept.ensures.kept).closed

pub returns-in_err-head-clause-overflow : goal.returns-in_err-head-clause-overflow
returns-in_err-head-clause-overflow g c =
    let of = subst (λ (cs : Constraints). IsOfConstraints Closed cs c.in_ok-start.start) c.start.ensures.value c.in_ok-start.ensures.points in
    let s : IsStart c.args.program.now c.in_ok-start.start = start_of c.args.program.now c.in_ok-start.start c.start.ensures.kept of c.dim-kept.ensures.kept in
    let leaves = head_leaves c.args.program.now c.in_ok-start.start s c.in_err-head.field-0.0 c.in_err-head.ensures.overflow in
    search (rules, leaves)

pub behind-requires : goal.behind-requires
behind-requires g c = c.in_ok-head.ensures.closed

pub returns-in_err-behind-clause-overflow : goal.returns-in_err-behind-clause-overflow
returns-in_err-behind-clause-overflow g c =
    let of = subst (λ (cs : Constraints). IsOfConstraints Closed cs c.in_ok-start.start) c.start.ensures.value c.in_ok-start.ensures.points in
    let s : IsStart c.args.program.now c.in_ok-start.start = start_of c.args.program.now c.in_ok-start.start c.start.ensures.kept of c.dim-kept.ensures.kept in
    let leaves = behind_leaves c.args.program.now c.in_ok-start.start s c.in_ok-head.head c.in_ok-head.ensures.head c.in_err-behind.field-0.0 c.in_err-behind.ensures.overflow in
    search (rules, leaves)

pub returns-in_err-head_bounds-clause-overflow : goal.returns-in_err-head_bounds-clause-overflow
returns-in_err-head_bounds-clause-overflow g c =
    let of = subst (λ (cs : Constraints). IsOfConstraints Closed cs c.in_ok-start.start) c.start.ensures.value c.in_ok-start.ensures.points in
    let s : IsStart c.args.program.now c.in_ok-start.start = start_of c.args.program.now c.in_ok-start.start c.start.ensures.kept of c.dim-kept.ensures.kept in
    let leaves = head_box_leaves c.args.program.now c.in_ok-start.start s c.in_ok-head.head c.in_ok-head.ensures.head c.in_err-head_bounds.field-0.0 c.in_err-head_bounds.ensures.overflow in
    search (rules, leaves, c.from_residual-in_err-head_bounds.ensures)

pub returns-in_err-behind_bounds-clause-overflow : goal.returns-in_err-behind_bounds-clause-overflow
returns-in_err-behind_bounds-clause-overflow g c =
    let of = subst (λ (cs : Constraints). IsOfConstraints Closed cs c.in_ok-start.start) c.start.ensures.value c.in_ok-start.ensures.points in
    let s : IsStart c.args.program.now c.in_ok-start.start = start_of c.args.program.now c.in_ok-start.start c.start.ensures.kept of c.dim-kept.ensures.kept in
    let leaves = behind_box_leaves c.args.program.now c.in_ok-start.start s c.in_ok-head.head c.in_ok-behind.behind c.in_ok-head.ensures.head c.in_ok-behind.ensures.behind c.in_err-behind_bounds.field-0.0 c.in_err-behind_bounds.ensures.overflow in
    search (rules, leaves, c.from_residual-in_err-behind_bounds.ensures)

pub returns-clause-head : goal.returns-clause-head
returns-clause-head g c =
    let of = subst (λ (cs : Constraints). IsOfConstraints Closed cs c.in_ok-start.start) c.start.ensures.value c.in_ok-start.ensures.points in
    let s : IsStart c.args.program.now c.in_ok-start.start = start_of c.args.program.now c.in_ok-start.start c.start.ensures.kept of c.dim-kept.ensures.kept in
    head_holds c.args.program.now c.in_ok-start.start c.in_ok-head.head c.in_ok-head_bounds.head_bounds s c.in_ok-head.ensures.head c.in_ok-head.ensures.closed c.in_ok-head_bounds.ensures.includes

pub returns-clause-behind : goal.returns-clause-behind
returns-clause-behind g c =
    let of = subst (λ (cs : Constraints). IsOfConstraints Closed cs c.in_ok-start.start) c.start.ensures.value c.in_ok-start.ensures.points in
    let s : IsStart c.args.program.now c.in_ok-start.start = start_of c.args.program.now c.in_ok-start.start c.start.ensures.kept of c.dim-kept.ensures.kept in
    behind_holds c.args.program.now c.in_ok-start.start c.in_ok-head.head c.in_ok-behind.behind c.in_ok-behind_bounds.behind_bounds s c.in_ok-head.ensures.head c.in_ok-head.ensures.closed c.in_ok-behind.ensures.behind c.in_ok-behind_bounds.ensures.includes

pub returns-clause-exact : goal.returns-clause-exact
returns-clause-exact g c =
    let of = subst (λ (cs : Constraints). IsOfConstraints Closed cs c.in_ok-start.start) c.start.ensures.value c.in_ok-start.ensures.points in
    record {
      start = c.in_ok-start.start;
      is_start = start_of c.args.program.now c.in_ok-start.start c.start.ensures.kept of c.dim-kept.ensures.kept;
      head = c.in_ok-head.head;
      is_head = c.in_ok-head.ensures.head;
      head_closed = c.in_ok-head.ensures.closed;
      head_bounds = c.in_ok-head_bounds.ensures.bounds;
      behind = c.in_ok-behind.behind;
      is_behind = c.in_ok-behind.ensures.behind;
      behind_bounds = c.in_ok-behind_bounds.ensures.bounds;
    }
