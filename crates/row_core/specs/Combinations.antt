use Rattle.std.specs.Prelude.{◌≡◌, ℕ, ◌*◌, List, length, ℤ, pos, ◌+ℤ◌, ◌-ℤ◌, ◌<ℤ◌, unsigned_abs}
use Rattle.std.specs.Int.{IsGcd}
use Rattle.std.proofs.Math.IntN.{◌*ℤ◌}
use Rattle.row_core.specs.Vectors.{cell}
use Rattle.row_core.specs.Content.{IsPrimitive}
use Rattle.row_core.specs.Range.{CombineStays, IsFirstToLeave}
use Rattle.row_core.specs.Signs.{sign}

-- the primitive combination, 0 on a row, of two vectors with the values u and v on it
pub record IsCombined (u v : ℤ) (left right result : List ℤ) : Type 0 where
  pub times : ℤ
  pub positive : pos 0 <ℤ times
  pub same : (j : ℕ) →
      times *ℤ cell result j ≡ pos (unsigned_abs u) *ℤ cell right j -ℤ (sign u *ℤ v) *ℤ cell left j
  pub wide : length result ≡ length right
  pub primitive : IsPrimitive result

-- the least factors by which two vectors, with the values u and v on a row, combine to 0 on it
pub record AreFactors (u v second first : ℤ) : Type 0 where
  pub divisor : ℕ
  pub greatest : IsGcd (unsigned_abs u) (unsigned_abs v) divisor
  pub second_is : second *ℤ pos divisor ≡ pos (unsigned_abs u)
  pub first_is : unsigned_abs first * divisor ≡ unsigned_abs v
  pub zero : second *ℤ v +ℤ first *ℤ u ≡ pos 0

-- the combination of two vectors that is 0 on a row leaves the range, at column j first
pub record CombinationLeaves (u v : ℤ) (left right : List ℤ) (j : ℕ) : Type 0 where
  pub second : ℤ
  pub first : ℤ
  pub factors : AreFactors u v second first
  pub column : IsFirstToLeave (CombineStays right second left first) (length right) j
