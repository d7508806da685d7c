-- Numbers of a file, as fractions and as integers.
use Rattle.std.specs.Prelude.{ℕ, zero, suc, ◌*◌, ◌/◌, ◌%◌, ◌^◌, ◌<◌, ◌==◌, ◌&&◌, List, [], ◌∷◌, length, map, Bool, true, false, if◌then◌else◌, codes, All, ℤ, pos}
use Rattle.std.proofs.Math.IntN.{neg_ℤ}
use Rattle.std.specs.List.{flat_map, list_any, before_first, after_first}
use Rattle.std.specs.Simd.{first_chunks}
use Rattle.row_core.specs.Range.{AllInRange}
use Rattle.cdd_reading.specs.Tokens.{is_integer, is_negative, unsigned}
use Rattle.plain_text.specs.Digits.{is_nat, number}

-- ---- divisors
-- the greatest number up to n that passes the test, and 0 where none does
unfoldable pub greatest : (ℕ → Bool) → ℕ → ℕ
greatest test zero = 0
greatest test (suc n) = if test (suc n) then suc n else greatest test n

-- whether the number divides both
abbrev pub divides_both : ℕ → ℕ → ℕ → Bool
divides_both a b d = (a % d == 0) && (b % d == 0)

-- the greatest common divisor of a number and a positive one
unfoldable pub gcd : ℕ → ℕ → ℕ
gcd a b = greatest (divides_both a b) b

-- the least common multiple of two positive numbers
unfoldable pub lcm : ℕ → ℕ → ℕ
lcm a b = a * (b / gcd a b)

-- that of all of them
abbrev pub lcm_of : List ℕ → ℕ
lcm_of [] = 1
lcm_of (d ∷ ds) = lcm d (lcm_of ds)

-- ---- fractions
abbrev pub is_slash : ℕ → Bool
is_slash b = b == 47

-- what stands before the first `/`, or all where there is none
abbrev pub dividend : List ℕ → List ℕ
dividend t = before_first is_slash t

-- what stands behind it, and 1 where there is none
abbrev pub divisor : List ℕ → List ℕ
divisor t = if list_any is_slash t then after_first is_slash t else codes "1"

-- an integer, or an integer, `/` and digits
abbrev pub is_fraction : List ℕ → Bool
is_fraction t = is_integer (dividend t) && is_nat (divisor t)

-- the size of the numerator, and the denominator, as they're written
abbrev pub numerator : List ℕ → ℕ
numerator t = number (unsigned (dividend t))

abbrev pub denominator : List ℕ → ℕ
denominator t = number (divisor t)

-- the denominator in lowest terms
abbrev pub lowest : List ℕ → ℕ
lowest t = denominator t / gcd (numerator t) (denominator t)

abbrev pub signed : Bool → ℕ → ℤ
signed true n = neg_ℤ (pos n)
signed false n = pos n

-- n times the number
abbrev pub times : ℕ → List ℕ → ℤ
times n t = signed (is_negative t) (n * numerator t / denominator t)

-- ---- rows
-- the least common multiple of the denominators of a row's numbers, each in lowest terms
abbrev pub common : List (List ℕ) → ℕ
common row = lcm_of (map lowest row)

-- a row's numbers times that
abbrev pub integers : List (List ℕ) → List ℤ
integers row = map (times (common row)) row

-- numbers as rows of one width
abbrev pub cut_rows : ℕ → List (List ℕ) → List (List (List ℕ))
cut_rows width numbers = first_chunks width (length numbers / width) numbers

-- the integers of the rows, one row behind the other
abbrev pub all_integers : ℕ → List (List ℕ) → List ℤ
all_integers width numbers = flat_map integers (cut_rows width numbers)

-- no denominator is 0
abbrev pub AllDivide : List (List ℕ) → Type 0
AllDivide numbers = All (λ t. 0 < denominator t) numbers

-- the integer and the digits behind `/` are in the range
pub record IsSmall (t : List ℕ) : Type 0 where
  pub numerator : numerator t < 2 ^ 127
  pub denominator : denominator t < 2 ^ 127

-- so are those of all numbers, the least common multiple of each row and the numbers times it
pub record FitRange (width : ℕ) (numbers : List (List ℕ)) : Type 0 where
  pub each : All IsSmall numbers
  pub common : All (λ row. common row < 2 ^ 127) (cut_rows width numbers)
  pub integers : AllInRange (all_integers width numbers)
