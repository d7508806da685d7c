use Rattle.std.specs.Prelude.{◌↔◌, ℕ, List, ℤ}
use Rattle.row_core.specs.Vectors.{cell}
use Rattle.row_core.specs.Points.{IsPoint}
use Rattle.row_core.specs.declared.errors.Overflow.{Overflow}
use Rattle.cons_sys.specs.Constraints.{Constraints, In}
use Rattle.gens_sys.specs.Generators.{Generators}
use Rattle.stored_systems.specs.WorkLists.{LeavesOn}
use Rattle.poly_pair.specs.TopologyLists.{list_width, constraints_of, generators_of}
use Rattle.poly_pair.specs.Parts.{AreStoredOfRows, AreStoredOfGenerators}
use Rattle.poly_pair.specs.Polyhedra.{Polyhedron, IsOver}
use Rattle.mapped_systems.specs.Maps.{substituted, pulled_back}
use Rattle.mapped_systems.specs.MappedLists.{IsMappedSystem, IsPulledSystem}
use Rattle.mapped_systems.specs.Sources.{HasSource}
use Rattle.affine_maps.specs.CarriedPairs.{CanBeCarried, ImagePairLeaves}

-- ---- sets
-- the polyhedron of the points that those of the set become where the variable is replaced
pub record IsSubstitutedImage (var : ℕ) (expr : List ℤ) (den : ℤ)
    (p image : Polyhedron) : Type 0 where
  pub over : IsOver p.topology p.cons.dim image
  pub points : (v : List ℤ) → IsPoint p.cons.dim v → In image.cons v
      ↔ HasSource (substituted var expr den) p.cons v

-- of the points that are in the set once the variable is replaced
pub record IsSubstitutedPreimage (var : ℕ) (expr : List ℤ) (den : ℤ)
    (p preimage : Polyhedron) : Type 0 where
  pub over : IsOver p.topology p.cons.dim preimage
  pub points : (v : List ℤ) → IsPoint p.cons.dim v → In preimage.cons v
      ↔ In p.cons (substituted var expr den v)

-- ---- what is stored
-- of the list of the generators with the variable replaced, and nothing where there are none
pub record IsStoredOfSubstituted (var : ℕ) (expr : List ℤ) (den : ℤ)
    (p image : Polyhedron) : Type 0 where
  pub system : Generators
  pub mapped : IsMappedSystem (substituted var expr den) p.cons.dim p.gens system
  pub stored : AreStoredOfGenerators p.topology system image

-- of the list of the constraints that say the same of a point with the variable replaced
pub record IsStoredOfPulledBack (var : ℕ) (expr : List ℤ) (den : ℤ)
    (p preimage : Polyhedron) : Type 0 where
  pub system : Constraints
  pub pulled : IsPulledSystem (pulled_back var expr den) p.cons.dim p.cons system
  pub stored : AreStoredOfRows p.topology p.cons.dim (constraints_of p.topology system) preimage

-- ---- refusals
-- the conversion of the list of those generators, or of its second list, leaves the range, and so
-- does the stored pair where it can be mapped
pub record LeavesOnSubstituted (var : ℕ) (expr : List ℤ) (den : ℤ) (p : Polyhedron)
    (over : Overflow) : Type 0 where
  pub system : Generators
  pub mapped : IsMappedSystem (substituted var expr den) p.cons.dim p.gens system
  pub leaves : LeavesOn (list_width p.topology p.cons.dim) p.cons.dim
      (generators_of p.topology system) over
  pub pair : CanBeCarried p (cell expr var) → ImagePairLeaves var expr den p system

-- that of those constraints does
pub record LeavesOnPulledBack (var : ℕ) (expr : List ℤ) (den : ℤ) (p : Polyhedron)
    (over : Overflow) : Type 0 where
  pub system : Constraints
  pub pulled : IsPulledSystem (pulled_back var expr den) p.cons.dim p.cons system
  pub leaves : LeavesOn (list_width p.topology p.cons.dim) p.cons.dim
      (constraints_of p.topology system) over
