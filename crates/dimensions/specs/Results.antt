use Rattle.std.specs.Prelude.{◌≡◌, ℕ, ◌+◌, ◌<◌, ◌≤◌, ◌↔◌, List, drop, ℤ, pos}
use Rattle.row_core.specs.Vectors.{cell}
use Rattle.row_core.specs.Points.{IsPoint}
use Rattle.cons_sys.specs.Constraints.{Constraints, In}
use Rattle.gens_sys.specs.Generators.{Generators}
use Rattle.poly_pair.specs.TopologyLists.{constraints_of}
use Rattle.poly_pair.specs.Parts.{AreStoredOfRows, AreStoredOfGenerators}
use Rattle.poly_pair.specs.Polyhedra.{Polyhedron, IsOver}
use Rattle.mapped_systems.specs.Maps.{without}
use Rattle.mapped_systems.specs.Sources.{HasSource}
use Rattle.mapped_systems.specs.MappedLists.{IsMappedSystem, IsPulledSystem, IsJoinedSystem}

-- ---- sets
-- the polyhedron of the points that the map gives of those of the set
pub record IsImage (f : List ℤ → List ℤ) (dim : ℕ) (p image : Polyhedron) : Type 0 where
  pub over : IsOver p.topology dim image
  pub points : (v : List ℤ) → IsPoint dim v → In image.cons v ↔ HasSource f p.cons v

-- of the points that the map takes into the set
pub record IsPreimage (f : List ℤ → List ℤ) (dim : ℕ) (p preimage : Polyhedron) : Type 0 where
  pub over : IsOver p.topology dim preimage
  pub points : (v : List ℤ) → IsPoint dim v → In preimage.cons v ↔ In p.cons (f v)

-- the columns from the first up to the end are 0, and without them the vector is in the set
pub record IsPadded (first end : ℕ) (p : Polyhedron) (v : List ℤ) : Type 0 where
  pub zero : (j : ℕ) → first ≤ j → j < end → cell v j ≡ pos 0
  pub within : In p.cons (without first end v)

-- the points of the set with that many variables behind, all 0
pub record IsProjection (count : ℕ) (p projection : Polyhedron) : Type 0 where
  pub over : IsOver p.topology (p.cons.dim + count) projection
  pub points : (v : List ℤ) → IsPoint (p.cons.dim + count) v → In projection.cons v
      ↔ IsPadded p.cons.dim (p.cons.dim + count) p v

-- the first variables, with the divisor, are in the one set, and the others, with the divisor, in
-- the other
pub record IsOfBoth (p q : Polyhedron) (v : List ℤ) : Type 0 where
  pub front : In p.cons (without p.cons.dim (p.cons.dim + q.cons.dim) v)
  pub back : In q.cons (drop p.cons.dim v)

pub record IsProduct (p q product : Polyhedron) : Type 0 where
  pub over : IsOver p.topology (p.cons.dim + q.cons.dim) product
  pub points : (v : List ℤ) → IsPoint (p.cons.dim + q.cons.dim) v → In product.cons v
      ↔ IsOfBoth p q v

-- ---- what is stored
-- of the list of the mapped generators, and nothing where there are none
pub record IsStoredOfMapped (f : List ℤ → List ℤ) (dim : ℕ) (p image : Polyhedron) : Type 0 where
  pub system : Generators
  pub mapped : IsMappedSystem f dim p.gens system
  pub stored : AreStoredOfGenerators p.topology system image

-- of the list of the mapped constraints
pub record IsStoredOfPulled (f : List ℤ → List ℤ) (dim : ℕ) (p preimage : Polyhedron) : Type 0 where
  pub system : Constraints
  pub pulled : IsPulledSystem f dim p.cons system
  pub stored : AreStoredOfRows p.topology dim (constraints_of p.topology system) preimage

-- of the list of the constraints of both
pub record IsStoredOfJoined (p q product : Polyhedron) : Type 0 where
  pub system : Constraints
  pub joined : IsJoinedSystem p.cons q.cons system
  pub stored : AreStoredOfRows p.topology (p.cons.dim + q.cons.dim)
      (constraints_of p.topology system) product
