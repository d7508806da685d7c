use Rattle.std.specs.Prelude.{◌≢◌, ◌⊎◌, ℕ, List, ℤ, pos, unsigned_abs}
use Rattle.row_core.specs.Vectors.{cell}
use Rattle.row_core.specs.declared.errors.Overflow.{Overflow}
use Rattle.cons_sys.specs.Constraints.{Constraints}
use Rattle.gens_sys.specs.Generators.{Generators}
use Rattle.affine_maps.specs.Carrying.{HaveNoLine, LeavesInPair}
use Rattle.poly_pair.specs.DoubleDescriptions.{HasPairOverflow}
use Rattle.poly_pair.specs.Polyhedra.{Polyhedron}
use Rattle.poly_pair.specs.Starts.{CanStart}
use Rattle.mapped_systems.specs.Maps.{pulled_back}
use Rattle.mapped_systems.specs.MappedLists.{IsPulledSystem}
use Rattle.mapped_systems.specs.CarriedSystems.{IsInverseRow}
use Rattle.mapped_systems.specs.Refusals.{SomeLeavesInImage, SomeLeavesInPullback}

-- a closed set with a point, and a map whose variable has a part in its expression
pub record CanBeCarried (p : Polyhedron) (part : ℤ) : Type 0 where
  pub start : CanStart p
  pub part_is : part ≢ pos 0

-- the constraints with the variable replaced by the row over the size, which with the generators
-- leave the range on the way to canonical form; without a line the second list does so too
pub record LeavesOnTurned (var : ℕ) (row : List ℤ) (size : ℤ) (p : Polyhedron)
    (gs : Generators) : Type 0 where
  pub system : Constraints
  pub pulled : IsPulledSystem (pulled_back var row size) p.cons.dim p.cons system
  pub leaves : LeavesInPair system gs
  pub second : HaveNoLine gs.list → HasPairOverflow system

-- some constraint's map does
pub record LeavesInTurned (var : ℕ) (row : List ℤ) (size : ℤ) (p : Polyhedron) : Type 0 where
  pub over : Overflow
  pub leaves : SomeLeavesInPullback var row size p.cons.list over

-- some generator's map does
pub record LeavesInMapped (var : ℕ) (row : List ℤ) (size : ℤ) (p : Polyhedron) : Type 0 where
  pub over : Overflow
  pub leaves : SomeLeavesInImage var row size p.gens.list over

-- the pair of a mapped polyhedron isn't found in the range: its constraints are mapped by the
-- expression that undoes the map, beside the mapped generators
pub record ImagePairLeaves (var : ℕ) (expr : List ℤ) (den : ℤ) (p : Polyhedron)
    (gs : Generators) : Type 0 where
  pub row : List ℤ
  pub inverse : IsInverseRow var expr den row (pos (unsigned_abs (cell expr var)))
  pub leaves : LeavesInTurned var row (pos (unsigned_abs (cell expr var))) p
      ⊎ LeavesOnTurned var row (pos (unsigned_abs (cell expr var))) p gs
