-- The integers of a row.
use Rattle.std.specs.Prelude.{◌≡◌, ℕ, ◌*◌, ◌<◌, ◌≤◌, List, All, ℤ, pos, ◌*ℤ◌}
use Prim.Native.Nat.{◌∣◌}
use Rattle.std.specs.List.{AllZip}
use Rattle.cdd_reading.specs.Tokens.{is_negative}
use Rattle.cdd_reading.specs.Fractions.{numerator, denominator, signed, common, integers, AllDivide}

-- the integer is so many times the number
abbrev pub IsTimes : ℕ → List ℕ → ℤ → Type 0
IsTimes n t z = z *ℤ pos (denominator t) ≡ pos n *ℤ signed (is_negative t) (numerator t)

-- where no denominator of a row is 0, its integers are its numbers times one positive number, and
-- times no smaller one all are integers
abbrev pub RowsAreScaled : Type 0
RowsAreScaled =
    (row : List (List ℕ)) → AllDivide row
    → (0 < common row) × AllZip (IsTimes (common row)) row (integers row)
    × ((n : ℕ) → 0 < n → All (λ t. denominator t ∣ n * numerator t) row → common row ≤ n)
