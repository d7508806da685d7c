-- What an overflow of two shapes shows.
use Rattle.std.specs.Prelude.{◌≡◌, ◌⊎◌, ℕ, ◌+◌, Some}
use Rattle.row_core.specs.declared.errors.Overflow.{Overflow}
use Rattle.difference_bounds.specs.Walks.{Bounds}
use Rattle.difference_bounds.specs.Tables.{Table, bounds_of}
use Rattle.difference_bounds.specs.Overflows.{LeavesInClosing}
use Rattle.difference_bounds.specs.Combining.{AreLesser, LeavesInLowering, LeavesInRaising, LeavesInCovering}
use Rattle.bd_shape.specs.Shapes.{DifferenceShape}

-- two shapes with points, whose bounds leave the range so
pub record LeavesInBounds (Leaves : Bounds → Bounds → ℕ → Overflow → Type 0) (s t : DifferenceShape)
    (over : Overflow) : Type 0 where
  pub left : Table
  pub right : Table
  pub is_left : s.bounds ≡ Some left
  pub is_right : t.bounds ≡ Some right
  pub leaves : Leaves (bounds_of left) (bounds_of right) (s.dim + 1) over

-- a bound of the first is compared with that of the second, for the greater of both
abbrev pub LeavesInHull : DifferenceShape → DifferenceShape → Overflow → Type 0
LeavesInHull s t over = LeavesInBounds LeavesInRaising s t over

-- for whether it is at least that, where all bounds before are
abbrev pub LeavesInInclusion : DifferenceShape → DifferenceShape → Overflow → Type 0
LeavesInInclusion s t over = LeavesInBounds LeavesInCovering s t over

-- the search for the least totals over the lesser bounds of both
pub record LeavesInLeastTotals (s t : DifferenceShape) (over : Overflow) : Type 0 where
  pub left : Table
  pub right : Table
  pub is_left : s.bounds ≡ Some left
  pub is_right : t.bounds ≡ Some right
  pub lesser : Table
  pub are_lesser : AreLesser (bounds_of left) (bounds_of right) (s.dim + 1) (bounds_of lesser)
  pub leaves : LeavesInClosing (bounds_of lesser) (s.dim + 1) over

-- a bound of the second is compared with that of the first, for the lesser of both, or that
-- search leaves the range
abbrev pub LeavesInMeet : DifferenceShape → DifferenceShape → Overflow → Type 0
LeavesInMeet s t over = LeavesInBounds LeavesInLowering s t over ⊎ LeavesInLeastTotals s t over
