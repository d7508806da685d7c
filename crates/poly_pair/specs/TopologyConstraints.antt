use Rattle.std.specs.Prelude.{◌≡◌, ◌+◌, ℕ, length, ⊤}
use Rattle.cons_sys.specs.declared.kind.ConKind.{ConKind}
use Rattle.cons_sys.specs.Constraints.{Constraint}
use Rattle.stored_systems.specs.PointSets.{IsClosedKind}
use Rattle.poly_pair.specs.declared.topology.Topology.{Topology}
use Rattle.poly_pair.specs.declared.topology.Topology.TheVariants.{Closed, Nnc}

-- the kinds of constraints that a polyhedron of the topology may have
abbrev pub IsKindFor : Topology → ConKind → Type 0
IsKindFor Closed kind = IsClosedKind kind
IsKindFor Nnc kind = ⊤

-- a constraint of the topology over so many variables
pub record IsConstraintFor (topology : Topology) (dim : ℕ) (c : Constraint) : Type 0 where
  pub wide : length c.0 ≡ dim + 1
  pub kind : IsKindFor topology c.1
