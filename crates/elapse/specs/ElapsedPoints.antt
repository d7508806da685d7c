use Rattle.std.specs.Prelude.{◌≡◌, ℕ, ◌<◌, List, ℤ, pos, ◌+ℤ◌, ◌≤ℤ◌, ◌<ℤ◌}
use Rattle.std.proofs.Math.IntN.{◌*ℤ◌}
use Rattle.row_core.specs.Vectors.{cell}
use Rattle.row_core.specs.Points.{IsPoint}
use Rattle.cons_sys.specs.Constraints.{Constraint, Constraints, Satisfies}
use Rattle.stored_systems.specs.PointSets.{IsWithin}
use Rattle.poly_pair.specs.declared.topology.Topology.{Topology}
use Rattle.poly_pair.specs.TopologyConstraints.{IsConstraintFor}

-- coordinate j of the point v is that of x plus num / den times that of y, multiplied out: the
-- coordinates of the vectors are fractions over their last entries
abbrev pub IsMovedAt : ℕ → List ℤ → List ℤ → ℤ → ℤ → List ℤ → ℕ → Type 0
IsMovedAt dim x y num den v j = (cell x dim *ℤ den *ℤ cell y dim) *ℤ cell v j ≡ cell v
    dim *ℤ (cell x j *ℤ den *ℤ cell y dim +ℤ num *ℤ cell y j *ℤ cell x dim)

-- the vector is the point x + t*y, where t is a fraction of at least 0
pub record IsMoved (dim : ℕ) (x y v : List ℤ) : Type 0 where
  pub point : IsPoint dim v
  pub num : ℤ
  pub den : ℤ
  pub least : pos 0 ≤ℤ num
  pub positive : pos 0 <ℤ den
  pub columns : (j : ℕ) → j < dim → IsMovedAt dim x y num den v j

-- the vector is such a point x + t*y, where x is a point of the one set and y one of the other
pub record IsElapsed (cs ds : Constraints) (v : List ℤ) : Type 0 where
  pub start : List ℤ
  pub start_within : IsWithin cs start
  pub velocity : List ℤ
  pub velocity_within : IsWithin ds velocity
  pub moved : IsMoved cs.dim start velocity v

-- the constraint holds at each of these points
abbrev pub IsTrueElapsed : Constraints → Constraints → Constraint → Type 0
IsTrueElapsed cs ds c = (v : List ℤ) → IsElapsed cs ds v → Satisfies v c

-- each constraint of the topology that holds at all of them holds at the vector
abbrev pub IsInElapse : Topology → Constraints → Constraints → List ℤ → Type 0
IsInElapse topology cs ds v = (c : Constraint) → IsConstraintFor topology cs.dim c
    → IsTrueElapsed cs ds c → Satisfies v c
