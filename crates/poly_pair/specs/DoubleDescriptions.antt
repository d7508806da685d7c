use Rattle.std.specs.Prelude.{◌≡◌, ◌+◌}
use Rattle.row_core.specs.declared.errors.Overflow.{Overflow}
use Rattle.cone_laws.specs.Canon.{IsSystem}
use Rattle.cone_laws.specs.Duality.{lines_of, rays_of}
use Rattle.cone_laws.specs.Members.{ConeOf}
use Rattle.cons_sys.specs.Constraints.{Constraints}
use Rattle.gens_sys.specs.Generators.{Generators}
use Rattle.sat_matrix.specs.Tables.{Table}
use Rattle.stored_systems.specs.PointSets.{AreClosed, AreClosedKinds}
use Rattle.stored_systems.specs.WorkLists.{constraint_list, generator_list, LeavesOnSecond}
use Rattle.stored_systems.specs.Zeros.{ArePairZeros}
use Rattle.poly_pair.specs.declared.topology.Topology.TheVariants.{Closed}
use Rattle.poly_pair.specs.FirstLists.{HasPointKind}
use Rattle.poly_pair.specs.Parts.{AreStoredOfRows, AreStoredOfGenerators}
use Rattle.poly_pair.specs.Polyhedra.{Polyhedron, IsOfConstraints, IsOfGenerators}

-- constraints of a set with a point, generators that are the system of their list, and the table of
-- the zeros of the one on the other
pub record IsDoubleDescription (cs : Constraints) (gs : Generators) (table : Table) : Type 0 where
  pub same_dim : gs.dim ≡ cs.dim
  pub closed : AreClosed cs
  pub kinds : AreClosedKinds gs
  pub system : IsSystem (ConeOf (cs.dim + 1) (constraint_list cs)) (lines_of (generator_list gs))
      (rays_of (generator_list gs))
  pub point : HasPointKind gs.list
  pub zeros : ArePairZeros cs gs table

-- the closed polyhedron of both: its points, and what is stored
pub record IsOfBoth (cs : Constraints) (gs : Generators) (p : Polyhedron) : Type 0 where
  pub constraints : IsOfConstraints Closed cs p
  pub generators : IsOfGenerators Closed gs p
  pub stored_of_constraints : AreStoredOfRows Closed cs.dim (constraint_list cs) p
  pub stored_of_generators : AreStoredOfGenerators Closed gs p

-- the conversion of the second list of the constraint list leaves the range
pub record HasPairOverflow (cs : Constraints) : Type 0 where
  pub over : Overflow
  pub leaves : LeavesOnSecond (cs.dim + 1) cs.dim (constraint_list cs) over
