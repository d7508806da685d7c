-- Laws of tables of bounds.
use Rattle.std.specs.Prelude.{◌≡◌, ◌↔◌, ℕ, ◌<◌, ◌≤◌, ℤ, pos, ◌<ℤ◌, ⊤, Some, None}
use Rattle.std.proofs.Math.IntN.{◌*ℤ◌}
use Rattle.difference_bounds.specs.Fractions.{sum, IsAtMost}
use Rattle.difference_bounds.specs.Walks.{Bound, Bounds, IsNegative}
use Rattle.difference_bounds.specs.Values.{Values, Meets, IsTight, HasNone}
use Rattle.difference_bounds.specs.Tables.{Table, AreFractions, bounds_of, HasZeros}

-- the first bound is at most the sum of the two others
abbrev pub IsAtMostSum : Bound → Bound → Bound → Type 0
IsAtMostSum a None c = ⊤
IsAtMostSum a (Some g) None = ⊤
IsAtMostSum None (Some g) (Some h) = ⊥
IsAtMostSum (Some f) (Some g) (Some h) = IsAtMost f (sum g h)

-- 0 from each place to itself, and the triangle inequality
pub record HasTriangles (b : Bounds) (m : ℕ) : Type 0 where
  pub zeros : HasZeros b m
  pub triangle : (i k j : ℕ) → i < m → k < m → j < m → IsAtMostSum (b i j) (b i k) (b k j)

-- each bound is the greatest difference exactly where the table has the triangle inequality
abbrev pub TightByTriangles : Type 0
TightByTriangles = (t : Table) (m : ℕ) → AreFractions t.cells
    → IsTight (bounds_of t) m ↔ HasTriangles (bounds_of t) m

-- the values of the first k places are as before, over another divisor
pub record Extends (v w : Values) (k : ℕ) : Type 0 where
  pub times : ℤ
  pub positive : pos 0 <ℤ times
  pub divisor : w.divisor ≡ times *ℤ v.divisor
  pub same : (i : ℕ) → i < k → w.at i ≡ times *ℤ v.at i

-- the values have values of all places that meet the bounds
pub record HasExtension (b : Bounds) (k m : ℕ) (v : Values) : Type 0 where
  pub values : Values
  pub extends : Extends v values k
  pub meets : Meets b m values

-- values of the first k places that meet the bounds of a table with the triangle inequality extend
-- to all its places
abbrev pub ExtendsValues : Type 0
ExtendsValues = (t : Table) (m k : ℕ) (v : Values) → AreFractions t.cells → k ≤ m
    → HasTriangles (bounds_of t) m → Meets (bounds_of t) k v → HasExtension (bounds_of t) k m v

-- no values meet the bounds exactly where a closed walk is negative
abbrev pub NoneByNegative : Type 0
NoneByNegative = (t : Table) (m : ℕ) → AreFractions t.cells → HasZeros (bounds_of t) m
    → HasNone (bounds_of t) m ↔ IsNegative (bounds_of t) m m
