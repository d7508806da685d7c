use Rattle.std.specs.Prelude.{◌≡◌, ℕ, ◌+◌, List, length, ℤ, pos, ◌<ℤ◌}
use Rattle.row_core.specs.Vectors.{cell, scale}

-- the vector `(x1, .., xn, d)` stands for the point `(x1/d, .., xn/d)`: its divisor d is positive
pub record IsPoint (dim : ℕ) (v : List ℤ) : Type 0 where
  pub wide : length v ≡ dim + 1
  pub positive : pos 0 <ℤ cell v dim

-- a positive multiple of the one equals a positive multiple of the other
pub record IsSamePoint (u v : List ℤ) : Type 0 where
  pub left : ℤ
  pub right : ℤ
  pub left_positive : pos 0 <ℤ left
  pub right_positive : pos 0 <ℤ right
  pub same : scale left u ≡ scale right v
