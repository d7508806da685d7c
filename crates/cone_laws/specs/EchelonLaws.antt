use Rattle.std.specs.Prelude.{ℕ, List, [], ℤ, All}
use Rattle.row_core.specs.Content.{IsPrimitive}
use Rattle.row_core.specs.Lists.{Row}
use Rattle.cone_laws.specs.Canon.{IsEchelon}
use Rattle.cone_laws.specs.Steps.{AreUnits, IsLineStep, IsRayStep}

-- the unit vectors in order, as lines without a ray, are in reduced echelon form and primitive
abbrev pub UnitsAreEchelon : Type 0
UnitsAreEchelon = (width : ℕ) (lines : List (List ℤ)) →
    AreUnits width lines →
    IsEchelon lines [] × All IsPrimitive lines

-- a step with a line that crosses the row keeps the reduced echelon form
abbrev pub LineStepKeepsEchelon : Type 0
LineStepKeepsEchelon = (row : Row) (lines rays new_lines new_rays : List (List ℤ)) →
    IsEchelon lines rays →
    IsLineStep row lines rays new_lines new_rays →
    IsEchelon new_lines new_rays

-- a step that combines rays keeps the reduced echelon form
abbrev pub RayStepKeepsEchelon : Type 0
RayStepKeepsEchelon = (rows : List Row) (k : ℕ) (row : Row) (lines rays new : List (List ℤ)) →
    IsEchelon lines rays →
    IsRayStep rows k row rays new →
    IsEchelon lines new
