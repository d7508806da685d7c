use Rattle.std.specs.Prelude.{List, ℤ}
use Rattle.row_core.specs.Points.{IsSamePoint}
use Rattle.cons_sys.specs.Constraints.{Constraints}
use Rattle.stored_systems.specs.PointSets.{IsWithin}

-- the vector is the same point as what the map gives of some point at which the constraints hold
pub record HasSource (f : List ℤ → List ℤ) (cs : Constraints) (v : List ℤ) : Type 0 where
  pub source : List ℤ
  pub within : IsWithin cs source
  pub same : IsSamePoint v (f source)
