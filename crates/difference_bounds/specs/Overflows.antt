-- What an overflow shows.
use Rattle.std.specs.Prelude.{◌≡◌, ◌⊎◌, ℕ, ◌<◌, Some}
use Rattle.row_core.specs.Range.{IsFirstToLeave}
use Rattle.row_core.specs.declared.errors.Overflow.{Overflow}
use Rattle.row_core.specs.declared.errors.OverKind.{OverKind}
use Rattle.row_core.specs.declared.errors.OverKind.TheVariants.{Scale, Compare}
use Rattle.difference_bounds.specs.declared.fraction.Fraction.{Fraction}
use Rattle.difference_bounds.specs.Fractions.{pair_of, sum, IsLowestOf, SumStays, CompareStays}
use Rattle.difference_bounds.specs.Walks.{Bound, Bounds, IsLeast, IsNonnegative}

-- the overflow shows the two fractions, each as the row of its numerator and its
-- denominator, and the column
pub record IsOverflowOf (kind : OverKind) (left right : Fraction) (column : ℕ)
    (over : Overflow) : Type 0 where
  pub same_kind : over.kind ≡ kind
  pub step : over.step ≡ 0
  pub left_is : over.left ≡ pair_of left
  pub right_is : over.right ≡ pair_of right
  pub column_is : over.column ≡ column

-- the sum of the two leaves the range first at the column
pub record LeavesInSum (left right : Fraction) (over : Overflow) : Type 0 where
  pub shown : IsOverflowOf Scale left right over.column over
  pub column : IsFirstToLeave (SumStays left right) 2 over.column

-- the two products by which they are compared leave the range first at the column
pub record LeavesInCompare (left right : Fraction) (over : Overflow) : Type 0 where
  pub shown : IsOverflowOf Compare left right over.column over
  pub column : IsFirstToLeave (CompareStays left right) 2 over.column

-- the comparison of a fraction with a bound leaves the range
pub record LeavesInLesser (bound : Bound) (f : Fraction) (over : Overflow) : Type 0 where
  pub other : Fraction
  pub is_bound : bound ≡ Some other
  pub leaves : LeavesInCompare f other over

-- that of two bounds does
pub record LeavesInBoth (left right : Bound) (over : Overflow) : Type 0 where
  pub first : Fraction
  pub second : Fraction
  pub is_left : left ≡ Some first
  pub is_right : right ≡ Some second
  pub leaves : LeavesInCompare first second over

-- the sum of two bounds leaves the range, or the comparison of this sum in lowest terms
-- with a bound does
pub record LeavesInRelaxing (bound first second : Bound) (over : Overflow) : Type 0 where
  pub left : Fraction
  pub right : Fraction
  pub is_first : first ≡ Some left
  pub is_second : second ≡ Some right
  pub leaves : LeavesInSum left right over
      ⊎ ((s : Fraction) × IsLowestOf (sum left right) s × LeavesInLesser bound s over)

-- at a place k, where no closed walk over places below k is negative, the sum of the least totals
-- to k and from k leaves the range, or its comparison with the least total without k does
pub record LeavesInClosing (b : Bounds) (m : ℕ) (over : Overflow) : Type 0 where
  pub k : ℕ
  pub i : ℕ
  pub j : ℕ
  pub k_below : k < m
  pub i_below : i < m
  pub j_below : j < m
  pub nonnegative : IsNonnegative b m k
  pub bound : Bound
  pub to : Bound
  pub from : Bound
  pub bound_least : IsLeast b k i j bound
  pub to_least : IsLeast b k i k to
  pub from_least : IsLeast b k k j from
  pub leaves : LeavesInRelaxing bound to from over
