use Rattle.std.specs.Prelude.{◌≡◌, ◌≢◌, ℕ, ◌<◌, ◌⊎◌, List, length, ℤ, pos, Contains}
use Rattle.row_core.specs.Vectors.{dot}
use Rattle.row_core.specs.Range.{DotStays, IsFirstToLeave}
use Rattle.row_core.specs.Lists.{Row, row_at, vector_at}
use Rattle.row_core.specs.Combinations.{CombinationLeaves}
use Rattle.row_core.specs.declared.errors.Overflow.{Overflow}
use Rattle.row_core.specs.declared.errors.OverKind.{OverKind}
use Rattle.row_core.specs.declared.errors.OverKind.TheVariants.{Dot, Combine, Scale, Compare}
use Rattle.cone_laws.specs.Cones.{Upto}
use Rattle.cone_laws.specs.Canon.{IsSystem}
use Rattle.cone_laws.specs.Steps.{NoThird, IsOpposite, IsLastCrossing}

-- the vector is a line with another index, or a ray
abbrev pub IsOther : List (List ℤ) → List (List ℤ) → ℕ → List ℤ → Type 0
IsOther lines rays index v =
    ((i : ℕ) × (i < length lines) × (i ≢ index) × (vector_at lines i ≡ v)) ⊎ Contains rays v

-- the left vector is the last line on which the row isn't 0,
-- and the right one another vector of the system
pub record IsLineCase (a : List ℤ) (lines rays : List (List ℤ)) (left right : List ℤ) : Type 0 where
  pub index : ℕ
  pub crossing : IsLastCrossing a lines index
  pub left_is : vector_at lines index ≡ left
  pub other : IsOther lines rays index right

-- the row is 0 on every line, and the two are adjacent rays on its two sides
pub record IsRayCase (rows : List Row) (k : ℕ) (a : List ℤ) (lines rays : List (List ℤ))
    (left right : List ℤ) : Type 0 where
  pub flat : (i : ℕ) → i < length lines → dot a (vector_at lines i) ≡ pos 0
  pub first : ℕ
  pub second : ℕ
  pub left_is : vector_at rays first ≡ left
  pub right_is : vector_at rays second ≡ right
  pub opposite : IsOpposite a rays first second ⊎ IsOpposite a rays second first
  pub adjacent : NoThird rows k rays first second

-- the dot of a vector of the system and the row leaves the range first at the column
pub record ShowsDot (a : List ℤ) (lines rays : List (List ℤ)) (left right : List ℤ)
    (column : ℕ) : Type 0 where
  pub vector : Contains lines left ⊎ Contains rays left
  pub row : right ≡ a
  pub leaves : IsFirstToLeave (DotStays a left) (length a) column

-- the combination of two vectors of the system, which the step must make,
-- leaves the range first at the column
pub record ShowsCombination (rows : List Row) (k : ℕ) (a : List ℤ) (lines rays : List (List ℤ))
    (left right : List ℤ) (column : ℕ) : Type 0 where
  pub needed : IsLineCase a lines rays left right ⊎ IsRayCase rows k a lines rays left right
  pub leaves : CombinationLeaves (dot a left) (dot a right) left right column

-- what an overflow at the step with row k shows of the system of the first k rows
abbrev pub Shows : OverKind → List Row → ℕ → List (List ℤ) → List (List ℤ) →
    List ℤ → List ℤ → ℕ → Type 0
Shows Dot rows k lines rays left right column =
    ShowsDot (row_at rows k) lines rays left right column
Shows Combine rows k lines rays left right column =
    ShowsCombination rows k (row_at rows k) lines rays left right column
Shows Scale rows k lines rays left right column = ⊥
Shows Compare rows k lines rays left right column = ⊥

-- the overflow shows a number outside the range in the conversion of the rows:
-- its left vector is a line or ray of the system of the rows before its step
pub record Leaves (width : ℕ) (rows : List Row) (over : Overflow) : Type 0 where
  pub step : over.step < length rows
  pub lines : List (List ℤ)
  pub rays : List (List ℤ)
  pub system : IsSystem (Upto width rows over.step) lines rays
  pub shown : Shows over.kind rows over.step lines rays over.left over.right over.column
