-- What a row says of the difference of two places.
use Rattle.std.specs.Prelude.{◌≡◌, ◌≢◌, ◌⊎◌, ◌↔◌, ℕ, ◌+◌, ◌<◌, List, length, ℤ, pos, neg_ℤ, ◌+ℤ◌, ◌≤ℤ◌, ◌<ℤ◌}
use Rattle.std.specs.Prelude.{cond, int_lt}
use Rattle.row_core.specs.Vectors.{cell, dot}
use Rattle.difference_bounds.specs.declared.fraction.Fraction.{Fraction}
use Rattle.difference_bounds.specs.Fractions.{IsLowestOf}
use Rattle.difference_bounds.specs.Values.{IsWithin}
use Rattle.bd_shape.specs.Shapes.{values_at}
use Rattle.bd_shape.specs.Differences.{with_place}
use Rattle.bd_shape.specs.Rows.{constant_row}
use Rattle.bd_shape.specs.declared.forms.Form.{Form}
use Rattle.bd_shape.specs.declared.forms.Form.TheVariants.{Constant, Difference, Other}

-- the factor times the value of place i less that of place j, and a constant
abbrev pub scaled_row : ℕ → ℕ → ℕ → ℤ → ℤ → List ℤ
scaled_row dim i j c b = with_place (with_place (constant_row dim b) i c) j (neg_ℤ c)

-- the row is that of a difference of two places
pub record IsDifference (dim : ℕ) (row : List ℤ) (i j : ℕ) (c : ℤ) : Type 0 where
  pub first : i < dim + 1
  pub second : j < dim + 1
  pub apart : i ≢ j
  pub positive : pos 0 <ℤ c
  pub same : row ≡ scaled_row dim i j c (cell row dim)

-- three variables
pub record HasThree (dim : ℕ) (row : List ℤ) : Type 0 where
  pub first : ℕ
  pub second : ℕ
  pub third : ℕ
  pub before : first < second
  pub between : second < third
  pub within : third < dim
  pub first_one : cell row first ≢ pos 0
  pub second_one : cell row second ≢ pos 0
  pub third_one : cell row third ≢ pos 0

-- two variables whose coefficients aren't each other's negative
pub record HasUnequal (dim : ℕ) (row : List ℤ) : Type 0 where
  pub first : ℕ
  pub second : ℕ
  pub before : first < second
  pub within : second < dim
  pub first_one : cell row first ≢ pos 0
  pub second_one : cell row second ≢ pos 0
  pub unequal : cell row first +ℤ cell row second ≢ pos 0

-- the row is no difference
abbrev pub IsOther : ℕ → List ℤ → Type 0
IsOther dim row = HasThree dim row ⊎ HasUnequal dim row

-- the form of a row
abbrev pub IsForm : ℕ → List ℤ → Form → Type 0
IsForm dim row Constant = row ≡ constant_row dim (cell row dim)
IsForm dim row (Difference plus minus factor) = IsDifference dim row plus minus factor
IsForm dim row Other = IsOther dim row

-- the form of the difference of two places with a coefficient
abbrev pub signed_form : ℕ → ℕ → ℤ → Form
signed_form plus minus c =
    cond (int_lt (pos 0) c) (Difference plus minus c) (Difference minus plus (neg_ℤ c))

-- a row of a difference is at least 0 at a point exactly where the value of the second place less
-- that of the first is at most the constant over the factor
abbrev pub RowBounds : Type 0
RowBounds = (dim i j : ℕ) (c b : ℤ) (f : Fraction) (p : List ℤ) → i < dim + 1 → j < dim + 1 → i ≢ j
    → length p ≡ dim + 1 → IsLowestOf (record { num = b; den = c }) f
    → (pos 0 ≤ℤ dot (scaled_row dim i j c b) p) ↔ IsWithin (values_at dim p) j i f
