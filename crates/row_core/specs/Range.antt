use Rattle.std.specs.Prelude.{ℕ, ◌+◌, ◌^◌, ◌<◌, List, take, ℤ, ◌+ℤ◌, All, unsigned_abs}
use Rattle.std.proofs.Math.IntN.{◌*ℤ◌}
use Rattle.row_core.specs.Vectors.{cell, dot}

-- the number is from -(2^127 - 1) to 2^127 - 1
pub record InRange (z : ℤ) : Type 0 where
  pub size : unsigned_abs z < 2 ^ 127

-- each number is in the range
abbrev pub AllInRange : List ℤ → Type 0
AllInRange v = All InRange v

-- in a dot of two rows, the product at column j and the sum of those up to it are in the range
pub record DotStays (u v : List ℤ) (j : ℕ) : Type 0 where
  pub product : InRange (cell u j *ℤ cell v j)
  pub sum : InRange (dot (take (j + 1) u) (take (j + 1) v))

-- s times x, t times y and their sum are in the range
pub record ColumnStays (s x t y : ℤ) : Type 0 where
  pub left : InRange (s *ℤ x)
  pub right : InRange (t *ℤ y)
  pub sum : InRange (s *ℤ x +ℤ t *ℤ y)

-- in s times u plus t times v, what is computed at column j is in the range
abbrev pub CombineStays : List ℤ → ℤ → List ℤ → ℤ → ℕ → Type 0
CombineStays u s v t j = ColumnStays s (cell u j) t (cell v j)

-- of n columns, j is the first at which the range is left
pub record IsFirstToLeave (Stays : ℕ → Type 0) (n j : ℕ) : Type 0 where
  pub column : j < n
  pub leaves : ¬ (Stays j)
  pub before : (i : ℕ) → i < j → Stays i

-- at none of n columns the range is left
abbrev pub AllStay : (ℕ → Type 0) → ℕ → Type 0
AllStay Stays n = (i : ℕ) → i < n → Stays i
