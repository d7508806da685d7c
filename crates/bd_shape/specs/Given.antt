-- The bounds that constraints give.
use Rattle.std.specs.Prelude.{◌≡◌, ◌≢◌, ◌⊎◌, ℕ, ◌+◌, ◌<◌, List, length, ℤ, neg_ℤ, Some}
use Rattle.row_core.specs.Vectors.{cell}
use Rattle.row_core.specs.Points.{IsPoint}
use Rattle.cons_sys.specs.Constraints.{Constraint, Constraints, constraint_at, row_at, Satisfies}
use Rattle.cons_sys.specs.declared.kind.ConKind.TheVariants.{Eq}
use Rattle.difference_bounds.specs.declared.fraction.Fraction.{Fraction}
use Rattle.difference_bounds.specs.Fractions.{IsFraction, IsLowestOf}
use Rattle.difference_bounds.specs.Walks.{Bounds}
use Rattle.difference_bounds.specs.Tables.{Table, HasZeros, bounds_of, Differs}
use Rattle.difference_bounds.specs.Laws.{IsLesser, IsCovered}
use Rattle.bd_shape.specs.Forms.{IsDifference, IsOther}

-- ---- rows
-- where the row is at least 0 the value of place i less that of place j is at most the fraction
pub record IsUpper (dim : ℕ) (row : List ℤ) (i j : ℕ) (f : Fraction) : Type 0 where
  pub factor : ℤ
  pub difference : IsDifference dim row j i factor
  pub lowest : IsLowestOf (record { num = cell row dim; den = factor }) f

-- where it is at most 0
pub record IsLower (dim : ℕ) (row : List ℤ) (i j : ℕ) (f : Fraction) : Type 0 where
  pub factor : ℤ
  pub difference : IsDifference dim row i j factor
  pub lowest : IsLowestOf (record { num = neg_ℤ (cell row dim); den = factor }) f

-- the constraint gives the bound of place i less place j: an equality that of both signs
abbrev pub GivesBound : ℕ → Constraint → ℕ → ℕ → Fraction → Type 0
GivesBound dim c i j f = IsUpper dim c.0 i j f ⊎ ((c.1 ≡ Eq) × IsLower dim c.0 i j f)

-- ---- lists
-- one of the first n constraints gives the bound
pub record IsGiven (cs : Constraints) (n i j : ℕ) (f : Fraction) : Type 0 where
  pub constraint : ℕ
  pub before : constraint < n
  pub gives : GivesBound cs.dim (constraint_at cs.list constraint) i j f

-- each bound of two different places is one of the given, and at most each other
pub record AreLeastOf (Given : ℕ → ℕ → Fraction → Type 0) (m : ℕ) (b : Bounds) : Type 0 where
  pub given : (i j : ℕ) (f : Fraction) → i < m → j < m → i ≢ j → b i j ≡ Some f → Given i j f
  pub least : (i j : ℕ) (f : Fraction) → i < m → j < m → i ≢ j → Given i j f
      → IsCovered (Some f) (b i j)

-- the least of the bounds that the constraints give, and 0 from each place to itself
pub record IsTableOf (cs : Constraints) (t : Table) : Type 0 where
  pub zeros : HasZeros (bounds_of t) (cs.dim + 1)
  pub least : AreLeastOf (IsGiven cs (length cs.list)) (cs.dim + 1) (bounds_of t)

-- some constraint has three variables, or two whose coefficients aren't each other's negative
pub record HasOther (cs : Constraints) : Type 0 where
  pub constraint : ℕ
  pub below : constraint < length cs.list
  pub other : IsOther cs.dim (row_at cs.list constraint)

-- none has
abbrev pub AreDifferences : Constraints → Type 0
AreDifferences cs = (k : ℕ) → k < length cs.list → ¬ (IsOther cs.dim (row_at cs.list k))

-- ---- reading
-- the bound of place i less place j is lowered to the fraction in lowest terms
pub record IsLowered (old new : Table) (i j : ℕ) (given : Fraction) : Type 0 where
  pub bound : Fraction
  pub lowest : IsLowestOf given bound
  pub fraction : IsFraction bound
  pub here : IsLesser (bounds_of old i j) bound (bounds_of new i j)
  pub elsewhere : (p q : ℕ) → p < old.places → q < old.places → Differs i j p q
      → bounds_of new p q ≡ bounds_of old p q

-- the row bounds some difference
pub record HasUpper (dim : ℕ) (row : List ℤ) : Type 0 where
  pub i : ℕ
  pub j : ℕ
  pub bound : Fraction
  pub upper : IsUpper dim row i j bound

pub record HasLower (dim : ℕ) (row : List ℤ) : Type 0 where
  pub i : ℕ
  pub j : ℕ
  pub bound : Fraction
  pub lower : IsLower dim row i j bound

-- the constraint gives its bounds, or holds at each point
abbrev pub IsRead : ℕ → Constraint → Type 0
IsRead dim c = (HasUpper dim c.0 × (c.1 ≡ Eq → HasLower dim c.0))
    ⊎ ((p : List ℤ) → IsPoint dim p → Satisfies p c)

-- it holds at none
abbrev pub HoldsNowhere : ℕ → Constraint → Type 0
HoldsNowhere dim c = (p : List ℤ) → IsPoint dim p → ¬ (Satisfies p c)

-- the table has the least of the bounds that the first n constraints give
pub record IsReading (cs : Constraints) (n : ℕ) (t : Table) : Type 0 where
  pub places : t.places ≡ cs.dim + 1
  pub zeros : HasZeros (bounds_of t) (cs.dim + 1)
  pub least : AreLeastOf (IsGiven cs n) (cs.dim + 1) (bounds_of t)
  pub read : (k : ℕ) → k < n → IsRead cs.dim (constraint_at cs.list k)
