-- Why constraints give no shape.
use Rattle.std.specs.Prelude.{◌⊎◌, ℕ, ◌+◌, ◌<◌, ⊤, length}
use Rattle.row_core.specs.declared.errors.Overflow.{Overflow}
use Rattle.row_core.specs.declared.errors.ConvErr.{ConvErr}
use Rattle.row_core.specs.declared.errors.ConvErr.TheVariants as conversion
use Rattle.cons_sys.specs.Constraints.{Constraints, constraint_at}
use Rattle.difference_bounds.specs.declared.fraction.Fraction.{Fraction}
use Rattle.difference_bounds.specs.Walks.{Bounds}
use Rattle.difference_bounds.specs.Fractions.{IsLowestOf}
use Rattle.difference_bounds.specs.Tables.{Table, bounds_of}
use Rattle.difference_bounds.specs.Overflows.{LeavesInCompare, LeavesInLesser, LeavesInClosing}
use Rattle.bd_shape.specs.Given.{GivesBound, IsGiven, IsTableOf, HasOther}
use Rattle.bd_shape.specs.declared.refusal.ShapeErr.{ShapeErr}
use Rattle.bd_shape.specs.declared.refusal.ShapeErr.TheVariants as shape

-- the refusal of a search for least totals
abbrev pub as_shape_err : ConvErr → ShapeErr
as_shape_err (conversion.Overflow over) = shape.Overflow over
as_shape_err conversion.Memory = shape.Memory

-- the comparison of a bound that a constraint gives with one of the same places that an earlier
-- constraint gives leaves the range
pub record LeavesInTwoGiven (cs : Constraints) (over : Overflow) : Type 0 where
  pub later : ℕ
  pub below : later < length cs.list
  pub i : ℕ
  pub j : ℕ
  pub first : Fraction
  pub second : Fraction
  pub first_given : GivesBound cs.dim (constraint_at cs.list later) i j first
  pub second_given : IsGiven cs later i j second
  pub leaves : LeavesInCompare first second over

-- the search for the least totals over the least of the bounds that the constraints give does
pub record LeavesInGivenTotals (cs : Constraints) (over : Overflow) : Type 0 where
  pub given : Table
  pub is_given : IsTableOf cs given
  pub leaves : LeavesInClosing (bounds_of given) (cs.dim + 1) over

abbrev pub LeavesInConstraints : Constraints → Overflow → Type 0
LeavesInConstraints cs over = LeavesInTwoGiven cs over ⊎ LeavesInGivenTotals cs over

-- why constraints give no shape: one is no bound of a difference, or a number leaves the range, or
-- there is no memory
abbrev pub IsRefusalOf : Constraints → ShapeErr → Type 0
IsRefusalOf cs shape.NotDifference = HasOther cs
IsRefusalOf cs (shape.Overflow over) = LeavesInConstraints cs over
IsRefusalOf cs shape.Memory = ⊤

-- a fraction, in lowest terms, can't be compared with the bound of its places
pub record LeavesInTaking (old : Bounds) (i j : ℕ) (given : Fraction)
    (over : Overflow) : Type 0 where
  pub bound : Fraction
  pub lowest : IsLowestOf given bound
  pub leaves : LeavesInLesser (old i j) bound over
