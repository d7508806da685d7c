-- What a command puts under its name: a set, and of which systems what is stored of it is.
use Rattle.cons_sys.specs.Constraints.{Constraints}
use Rattle.gens_sys.specs.Generators.{Generators}
use Rattle.poly_pair.specs.declared.topology.Topology.{Topology}
use Rattle.poly_pair.specs.Polyhedra.{Polyhedron, IsOfConstraints, IsOfGenerators}
use Rattle.poly_pair.specs.Parts.{AreStoredOfRows, AreStoredOfGenerators}
use Rattle.poly_pair.specs.TopologyLists.{constraints_of}
use Rattle.lattice_ops.specs.Sets.{IsClosure, closure_list}

-- what is said of a result: its set, and the lists of whose systems it is stored
pub record IsResult (IsSet IsStored : Polyhedron → Type 0) (r : Polyhedron) : Type 0 where
  pub set : IsSet r
  pub stored : IsStored r

-- the points at which the constraints hold, stored of their list
abbrev pub IsResultOfConstraints : Topology → Constraints → Polyhedron → Type 0
IsResultOfConstraints topology cs =
    IsResult (IsOfConstraints topology cs)
    (AreStoredOfRows topology cs.dim (constraints_of topology cs))

-- the points that the generators generate, stored of their list
abbrev pub IsResultOfGenerators : Topology → Generators → Polyhedron → Type 0
IsResultOfGenerators topology gs =
    IsResult (IsOfGenerators topology gs) (AreStoredOfGenerators topology gs)

-- the closure, stored of the list of the constraints that aren't strict
abbrev pub IsResultOfClosure : Polyhedron → Polyhedron → Type 0
IsResultOfClosure p =
    IsResult (IsClosure p) (AreStoredOfRows p.topology p.cons.dim (closure_list p))
