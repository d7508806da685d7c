-- What the analysis of a loop finds.
use Rattle.std.specs.Prelude.{◌≡◌, ◌⊎◌, ℕ, List, [], ◌∷◌, slice_get, Some}
use Rattle.row_core.specs.declared.errors.Overflow.{Overflow}
use Rattle.stored_systems.specs.WorkLists.{LeavesOn, LeavesOnClosed, constraint_list}
use Rattle.poly_pair.specs.declared.topology.Topology.TheVariants.{Closed, Nnc}
use Rattle.poly_pair.specs.TopologyLists.{list_width, constraints_of}
use Rattle.poly_pair.specs.Polyhedra.{Polyhedron, IsKept, IsOfConstraints, IsIncluded}
use Rattle.poly_pair.specs.ClosedPolyhedra.{IsClosedOver}
use Rattle.lattice_ops.specs.Sets.{IsHull}
use Rattle.widening.specs.Runs.{HasLimit}
use Rattle.widening.specs.RunOverflows.{LeavesInRun}
use Rattle.enclosures.specs.Boxes.{IsBox, LeavesInBox}
use Rattle.enclosures.specs.Differences.{IsDifference, LeavesInDifference}
use Rattle.loop_analysis.specs.declared.analysis.Bounds.{Bounds}
use Rattle.loop_analysis.specs.declared.analysis.TheConstants.{DELAY}
use Rattle.loop_analysis.specs.Loops.{WhileLoop}
use Rattle.loop_analysis.specs.Rounds.{IsRound, IsJoined, LeavesInRound, LeavesOnHull, turns_of}

-- the points of the start
pub record IsStart (l : WhileLoop) (start : Polyhedron) : Type 0 where
  pub points : IsOfConstraints Closed l.start start
  pub closed : IsClosedOver l.dim start

-- the set has the states of the start, and a round from its own states doesn't leave it
pub record IsStable (l : WhileLoop) (start set : Polyhedron) : Type 0 where
  pub includes : IsIncluded start set
  pub joined : Polyhedron
  pub is_joined : IsJoined l set joined
  pub within : IsIncluded joined set

-- the limit of rounds from the start, with this delay before the widening
abbrev pub IsInvariant : WhileLoop → Polyhedron → Polyhedron → Type 0
IsInvariant l start set = HasLimit (turns_of l) (start ∷ []) DELAY (set ∷ [])

-- the hull of the start and of a round from the invariant
pub record IsHead (l : WhileLoop) (start head : Polyhedron) : Type 0 where
  pub invariant : Polyhedron
  pub is_invariant : IsInvariant l start invariant
  pub closed : IsClosedOver l.dim invariant
  pub stable : IsStable l start invariant
  pub round : Polyhedron
  pub is_round : IsRound l invariant round
  pub round_kept : IsKept round
  pub is_hull : IsHull start round head

-- the smallest polyhedron, not needing to be closed, with the states of the head at which the
-- guard doesn't hold
pub record IsBehind (l : WhileLoop) (head behind : Polyhedron) : Type 0 where
  pub opened : Polyhedron
  pub is_open : IsOfConstraints Nnc head.cons opened
  pub is_difference : IsDifference opened l.guard behind
  pub kept : IsKept behind

-- the bounds of the variables at the head and behind
pub record AreBoundsOf (l : WhileLoop) (b : Bounds) : Type 0 where
  pub start : Polyhedron
  pub is_start : IsStart l start
  pub head : Polyhedron
  pub is_head : IsHead l start head
  pub head_closed : IsClosedOver l.dim head
  pub head_bounds : IsBox head b.head
  pub behind : Polyhedron
  pub is_behind : IsBehind l head behind
  pub behind_bounds : IsBox behind b.behind

-- ---- overflows
abbrev pub LeavesAtStart : WhileLoop → Overflow → Type 0
LeavesAtStart l over = LeavesOnClosed l.start.dim (constraint_list l.start) over

-- one of a round from the invariant, or of its hull with the start
pub record LeavesInLastRound (l : WhileLoop) (start : Polyhedron) (over : Overflow) : Type 0 where
  pub invariant : Polyhedron
  pub is_invariant : IsInvariant l start invariant
  pub leaves : LeavesInRound l invariant over ⊎ LeavesOnHull l invariant start over

abbrev pub LeavesInHead : WhileLoop → Polyhedron → Overflow → Type 0
LeavesInHead l start over =
    LeavesInRun (turns_of l) (start ∷ []) DELAY over ⊎ LeavesInLastRound l start over

pub record LeavesOutside (l : WhileLoop) (head : Polyhedron) (over : Overflow) : Type 0 where
  pub opened : Polyhedron
  pub is_open : IsOfConstraints Nnc head.cons opened
  pub leaves : LeavesInDifference opened l.guard over

abbrev pub LeavesBehind : WhileLoop → Polyhedron → Overflow → Type 0
LeavesBehind l head over =
    LeavesOn (list_width Nnc head.cons.dim) head.cons.dim (constraints_of Nnc head.cons) over
    ⊎ LeavesOutside l head over

-- one behind the start, the head or both
pub record LeavesAfterHead (l : WhileLoop) (start : Polyhedron) (over : Overflow) : Type 0 where
  pub head : Polyhedron
  pub is_head : IsHead l start head
  pub leaves : LeavesBehind l head over ⊎ LeavesInBox head over

pub record LeavesAfterBehind (l : WhileLoop) (start : Polyhedron) (over : Overflow) : Type 0 where
  pub head : Polyhedron
  pub is_head : IsHead l start head
  pub behind : Polyhedron
  pub is_behind : IsBehind l head behind
  pub leaves : LeavesInBox behind over

pub record LeavesAfterStart (l : WhileLoop) (over : Overflow) : Type 0 where
  pub start : Polyhedron
  pub is_start : IsStart l start
  pub leaves : LeavesInHead l start over
      ⊎ (LeavesAfterHead l start over ⊎ LeavesAfterBehind l start over)

-- one of the conversion of the start, of the run or the last round, of what is behind, or of the
-- search for a bound
abbrev pub LeavesInAnalysis : WhileLoop → Overflow → Type 0
LeavesInAnalysis l over = LeavesAtStart l over ⊎ LeavesAfterStart l over
