-- What the analysis finds, and its overflows.
use Rattle.std.proofs.Common.{◌≡◌, ◌⊎◌, inl, inr, ℕ, List, [], ◌∷◌, ap, sym, ◌∙◌, subst}
use Rattle.row_core.specs.Refusals.{IsOverflowIn}
use Rattle.row_core.specs.declared.errors.Overflow.{Overflow}
use Rattle.row_core.specs.declared.errors.ConvErr.{ConvErr}
use Rattle.row_core.specs.declared.errors.ConvErr.TheVariants as conversion
use Rattle.poly_pair.specs.declared.topology.Topology.TheVariants.{Closed, Nnc}
use Rattle.poly_pair.specs.TopologyLists.{list_width, constraints_of}
use Rattle.poly_pair.specs.Polyhedra.{Polyhedron, IsKept, IsOfConstraints}
use Rattle.poly_pair.specs.ClosedPolyhedra.{IsClosedOver}
use Rattle.poly_pair.specs.Refusals.{IsOverflowOn}
use Rattle.lattice_ops.specs.Sets.{IsHull}
use Rattle.widening.specs.RunOverflows.{LeavesInRun}
use Rattle.enclosures.specs.Boxes.{LeavesInBox}
use Rattle.enclosures.specs.Differences.{LeavesInDifference}
use Rattle.loop_analysis.specs.declared.analysis.TheConstants.{DELAY}
use Rattle.loop_analysis.specs.Loops.{WhileLoop, IsLoop}
use Rattle.loop_analysis.specs.Rounds.{LeavesInRound, LeavesOnHull, turns_of}
use Rattle.loop_analysis.specs.Analysis.{IsStart, IsInvariant, IsHead, IsBehind, LeavesAtStart, LeavesInLastRound, LeavesInHead, LeavesBehind, LeavesAfterHead, LeavesAfterBehind, LeavesAfterStart, LeavesInAnalysis}

-- a cause that leads to another
weaker : (P Q : Overflow → Type 0) → ((over : Overflow) → P over → Q over) → (e : ConvErr) → IsOverflowIn P e → IsOverflowIn Q e
weaker P Q f (conversion.Overflow over) h = f over h
weaker P Q f conversion.Memory h = tt

module _ (l : WhileLoop) where
  pub start_of : (start : Polyhedron) → IsLoop l → IsOfConstraints Closed l.start start → IsKept start → IsStart l start
  start_of start kept of k = record { points = of; closed = record { kept = k; over = record { same_topology = of.over.same_topology; same_dim = of.over.same_dim ∙ kept.start_dim } } }

  pub hull_closed : (p q r : Polyhedron) → IsClosedOver l.dim p → IsHull p q r → IsKept r → IsClosedOver l.dim r
  hull_closed p q r c h k = record { kept = k; over = record { same_topology = h.over.same_topology ∙ c.over.same_topology; same_dim = h.over.same_dim ∙ c.over.same_dim } }

  pub start_leaves : (e : ConvErr) → IsOverflowOn (list_width Closed l.start.dim) l.start.dim (constraints_of Closed l.start) e → IsOverflowIn (LeavesInAnalysis l) e
  start_leaves (conversion.Overflow over) h = inl h
  start_leaves conversion.Memory h = tt

  module _ (start : Polyhedron) where
    pub run_leaves : (e : ConvErr) → IsOverflowIn (LeavesInRun (turns_of l) (start ∷ []) DELAY) e → IsOverflowIn (LeavesInHead l start) e
    run_leaves = weaker (LeavesInRun (turns_of l) (start ∷ []) DELAY) (LeavesInHead l start) (λ over h. inl h)

    pub last_round_leaves : (invariant : Polyhedron) → IsInvariant l start invariant → (e : ConvErr) → IsOverflowIn (LeavesInRound l invariant) e → IsOverflowIn (LeavesInHead l start) e
    last_round_leaves invariant is = weaker (LeavesInRound l invariant) (LeavesInHead l start) (λ over h. inr (record { invariant = invariant; is_invariant = is; leaves = inl h }))

    pub last_hull_leaves : (invariant : Polyhedron) → IsInvariant l start invariant → (e : ConvErr) → IsOverflowIn (LeavesOnHull l invariant start) e → IsOverflowIn (LeavesInHead l start) e
    last_hull_leaves invariant is = weaker (LeavesOnHull l invariant start) (LeavesInHead l start) (λ over h. inr (record { invariant = invariant; is_invariant = is; leaves = inr h }))

    module _ (s : IsStart l start) where
      pub head_leaves : (e : ConvErr) → IsOverflowIn (LeavesInHead l start) e → IsOverflowIn (LeavesInAnalysis l) e
      head_leaves = weaker (LeavesInHead l start) (LeavesInAnalysis l) (λ over h. inr (record { start = start; is_start = s; leaves = inl h }))

      pub behind_leaves : (head : Polyhedron) → IsHead l start head → (e : ConvErr) → IsOverflowIn (LeavesBehind l head) e → IsOverflowIn (LeavesInAnalysis l) e
      behind_leaves head is = weaker (LeavesBehind l head) (LeavesInAnalysis l) (λ over h. inr (record { start = start; is_start = s; leaves = inr (inl (record { head = head; is_head = is; leaves = inl h })) }))

      pub head_box_leaves : (head : Polyhedron) → IsHead l start head → (e : ConvErr) → IsOverflowIn (LeavesInBox head) e → IsOverflowIn (LeavesInAnalysis l) e
      head_box_leaves head is = weaker (LeavesInBox head) (LeavesInAnalysis l) (λ over h. inr (record { start = start; is_start = s; leaves = inr (inl (record { head = head; is_head = is; leaves = inr h })) }))

      pub behind_box_leaves : (head behind : Polyhedron) → IsHead l start head → IsBehind l head behind → (e : ConvErr) → IsOverflowIn (LeavesInBox behind) e → IsOverflowIn (LeavesInAnalysis l) e
      behind_box_leaves head behind is outside = weaker (LeavesInBox behind) (LeavesInAnalysis l) (λ over h. inr (record { start = start; is_start = s; leaves = inr (inr (record { head = head; is_head = is; behind = behind; is_behind = outside; leaves = h })) }))

  pub open_leaves : (head : Polyhedron) (e : ConvErr) → IsOverflowOn (list_width Nnc head.cons.dim) head.cons.dim (constraints_of Nnc head.cons) e → IsOverflowIn (LeavesBehind l head) e
  open_leaves head (conversion.Overflow over) h = inl h
  open_leaves head conversion.Memory h = tt

  pub outside_leaves : (head opened : Polyhedron) → IsOfConstraints Nnc head.cons opened → (e : ConvErr) → IsOverflowIn (LeavesInDifference opened l.guard) e → IsOverflowIn (LeavesBehind l head) e
  outside_leaves head opened of = weaker (LeavesInDifference opened l.guard) (LeavesBehind l head) (λ over h. inr (record { opened = opened; is_open = of; leaves = h }))
