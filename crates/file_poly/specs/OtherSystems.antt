use Rattle.std.specs.Prelude.{◌≡◌}
use Rattle.cons_sys.specs.Constraints.{Constraints}
use Rattle.gens_sys.specs.Generators.{Generators}
use Rattle.poly_pair.specs.declared.topology.Topology.TheVariants.{Closed}
use Rattle.poly_pair.specs.Polyhedra.{Polyhedron, IsKept, IsOfConstraints, IsOfGenerators}

-- the generators that the closed polyhedron of the points at which the constraints hold stores
pub record AreStoredGenerators (cs : Constraints) (gs : Generators) : Type 0 where
  pub polyhedron : Polyhedron
  pub kept : IsKept polyhedron
  pub set : IsOfConstraints Closed cs polyhedron
  pub gens : polyhedron.gens ≡ gs

-- the constraints that the closed polyhedron of the points that the generators generate stores
pub record AreStoredConstraints (gs : Generators) (cs : Constraints) : Type 0 where
  pub polyhedron : Polyhedron
  pub kept : IsKept polyhedron
  pub set : IsOfGenerators Closed gs polyhedron
  pub cons : polyhedron.cons ≡ cs
