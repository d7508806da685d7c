use Rattle.std.specs.Prelude.{ℕ, ◌⊎◌, ⊤, List, length, ℤ}
use Rattle.row_core.specs.Vectors.{dot}
use Rattle.row_core.specs.Range.{DotStays, IsFirstToLeave}
use Rattle.row_core.specs.Lists.{Row, row_at}
use Rattle.cone_laws.specs.Leaves.{IsLineCase, IsRayCase}
use Rattle.row_core.specs.Combinations.{CombinationLeaves}
use Rattle.row_store.specs.declared.fault.ValueFault.{ValueFault}
use Rattle.row_store.specs.declared.fault.ValueFault.TheVariants.{Memory, Dot}
use Rattle.row_store.specs.declared.fault.CombineFault.{CombineFault}
use Rattle.row_store.specs.declared.fault.Place.{Place}
use Rattle.row_store.specs.Faults.{IsPlace, vector_of}

-- the dot of the vector and the row leaves the range first at the column
pub record IsDotFault (a : List ℤ) (lines rays : List (List ℤ)) (vector : Place) (column : ℕ)
    : Type 0 where
  pub within : IsPlace lines rays vector
  pub leaves : IsFirstToLeave (DotStays a (vector_of lines rays vector)) (length a) column

-- no memory for the values on a row, or the dot of a vector and the row leaves the range
abbrev pub IsPositionFault : List ℤ → List (List ℤ) → List (List ℤ) → ValueFault → Type 0
IsPositionFault a lines rays Memory = ⊤
IsPositionFault a lines rays (Dot vector column) = IsDotFault a lines rays vector column

-- the step with row k must combine the two vectors
abbrev pub IsNeeded : List Row → ℕ → List (List ℤ) → List (List ℤ) → List ℤ → List ℤ → Type 0
IsNeeded rows k lines rays left right =
    IsLineCase (row_at rows k) lines rays left right
    ⊎ IsRayCase rows k (row_at rows k) lines rays left right

-- the combination of the two vectors by their values on a row leaves the range first at the column
abbrev pub HasLeavingPair : List ℤ → List ℤ → List ℤ → ℕ → Type 0
HasLeavingPair a left right column = CombinationLeaves (dot a left) (dot a right) left right column

-- a combination that the step with row k must make leaves the range first at the column
pub record IsCombineFault (rows : List Row) (k : ℕ) (lines rays : List (List ℤ))
    (fault : CombineFault) : Type 0 where
  pub left_within : IsPlace lines rays fault.left
  pub right_within : IsPlace lines rays fault.right
  pub needed : IsNeeded rows k lines rays
      (vector_of lines rays fault.left) (vector_of lines rays fault.right)
  pub leaves : HasLeavingPair (row_at rows k)
      (vector_of lines rays fault.left) (vector_of lines rays fault.right) fault.column
