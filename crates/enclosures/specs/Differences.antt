use Rattle.std.specs.Prelude.{◌⊎◌, ◌↔◌, ℕ, ◌<◌, List, [], ◌∷◌, length, ℤ}
use Rattle.row_core.specs.Points.{IsPoint}
use Rattle.row_core.specs.declared.errors.Overflow.{Overflow}
use Rattle.cons_sys.specs.Constraints.{Constraint, Constraints, constraint_at, In, Satisfies}
use Rattle.stored_systems.specs.WorkLists.{LeavesOn}
use Rattle.poly_pair.specs.declared.topology.Topology.TheVariants.{Nnc}
use Rattle.poly_pair.specs.TopologyLists.{list_width, constraints_of, generators_of}
use Rattle.poly_pair.specs.TopologyConstraints.{IsConstraintFor}
use Rattle.poly_pair.specs.Polyhedra.{Polyhedron, IsKept, IsOver}
use Rattle.poly_pair.specs.Additions.{with_constraints}
use Rattle.lattice_ops.specs.Sets.{both_generators}
use Rattle.enclosures.specs.Ways.{ways}

-- the constraint holds at each point of the polyhedron at which the given constraints
-- don't all hold
abbrev pub IsValidOutside : Polyhedron → Constraints → Constraint → Type 0
IsValidOutside p cs c = (v : List ℤ) → IsPoint p.cons.dim v → In p.cons v → ¬ (In cs v)
    → Satisfies v c

-- the smallest polyhedron with these points: the points at which each constraint holds
-- that is so valid
pub record IsDifference (p : Polyhedron) (cs : Constraints) (r : Polyhedron) : Type 0 where
  pub over : IsOver Nnc p.cons.dim r
  pub points : (v : List ℤ) → IsPoint p.cons.dim v → In r.cons v
      ↔ ((c : Constraint) → IsConstraintFor Nnc p.cons.dim c → IsValidOutside p cs c
      → Satisfies v c)

-- ---- part by part
-- the points of the polyhedron at which the constraint holds
pub record IsPart (p : Polyhedron) (way : Constraint) (r : Polyhedron) : Type 0 where
  pub over : IsOver Nnc p.cons.dim r
  pub points : (v : List ℤ) → IsPoint p.cons.dim v → In r.cons v ↔ In p.cons v × Satisfies v way

-- the constraint holds at each point of the polyhedron at which one of the first n ways does
abbrev pub IsValidTo : Polyhedron → List Constraint → ℕ → Constraint → Type 0
IsValidTo p list n c = (v : List ℤ) → IsPoint p.cons.dim v → In p.cons v → (k : ℕ) → k < n
    → Satisfies v (constraint_at list k) → Satisfies v c

-- the smallest polyhedron with these points
pub record IsJoinTo (p : Polyhedron) (list : List Constraint) (n : ℕ)
    (r : Polyhedron) : Type 0 where
  pub over : IsOver Nnc p.cons.dim r
  pub points : (v : List ℤ) → IsPoint p.cons.dim v → In r.cons v
      ↔ ((c : Constraint) → IsConstraintFor Nnc p.cons.dim c → IsValidTo p list n c → Satisfies v c)

-- ---- overflows
-- the conversion of the constraint list of a part, or of its second list, leaves the range
abbrev pub LeavesOnPart : Polyhedron → Constraint → Overflow → Type 0
LeavesOnPart p way over = LeavesOn (list_width Nnc p.cons.dim) p.cons.dim
    (constraints_of Nnc (with_constraints p (record { dim = p.cons.dim; list = way ∷ [] }))) over

-- that of the generator list of the first parts and the next, or of its second list, does
pub record LeavesOnJoin (p : Polyhedron) (list : List Constraint) (n : ℕ)
    (over : Overflow) : Type 0 where
  pub made : Polyhedron
  pub is_made : IsJoinTo p list n made
  pub made_kept : IsKept made
  pub part : Polyhedron
  pub is_part : IsPart p (constraint_at list n) part
  pub part_kept : IsKept part
  pub leaves : LeavesOn (list_width Nnc p.cons.dim) p.cons.dim
      (generators_of Nnc (both_generators made part)) over

abbrev pub LeavesAt : Polyhedron → List Constraint → ℕ → Overflow → Type 0
LeavesAt p list n over = LeavesOnPart p (constraint_at list n) over ⊎ LeavesOnJoin p list n over

-- one of these does at some way
pub record LeavesInDifference (p : Polyhedron) (cs : Constraints) (over : Overflow) : Type 0 where
  pub index : ℕ
  pub below : index < length (ways cs).list
  pub leaves : LeavesAt p (ways cs).list index over
