use Rattle.std.specs.Prelude.{ℕ, ◌+◌, ◌^◌, ◌<◌, ◌≤◌, List, length, take, ℤ, ◌+ℤ◌, All, unsigned_abs}
use Rattle.std.proofs.Math.IntN.{◌*ℤ◌}
use Rattle.row_core.specs.Vectors.{cell, dot}
use Rattle.row_core.specs.Range.{DotStays, AllStay}
use Rattle.row_core.specs.declared.linear.Summing.{Summing}
use Rattle.row_core.specs.declared.linear.Summing.TheVariants.{Words, Exact, Checked}

-- the number is at most n in size
pub record IsWithin (n : ℕ) (z : ℤ) : Type 0 where
  pub size : unsigned_abs z ≤ n

-- each number has at most so many bits beside its sign, or is a power of 2 with one more
abbrev pub HaveBits : ℕ → List ℤ → Type 0
HaveBits bits v = All (IsWithin (2 ^ bits)) v

-- each number is below n in size
abbrev pub AreBelow : ℕ → List ℤ → Type 0
AreBelow n v = All (λ z. unsigned_abs z < n) v

-- the numbers of each row have at most so many bits
abbrev pub AllHaveBits : {M : Type 0} → ℕ → List (List ℤ × M) → Type 0
AllHaveBits bits rows = All (λ row. HaveBits bits row.0) rows

-- the numbers of each row are below n in size
abbrev pub AllAreBelow : {M : Type 0} → ℕ → List (List ℤ × M) → Type 0
AllAreBelow n rows = All (λ row. AreBelow n row.0) rows

-- the number is that of a word of 64 bits
pub record IsWord (z : ℤ) : Type 0 where
  pub size : unsigned_abs z < 2 ^ 63

-- in a dot of two rows, the numbers at column j, their product and the sum of those up to it are
-- words
pub record DotIsOfWords (u v : List ℤ) (j : ℕ) : Type 0 where
  pub left : IsWord (cell u j)
  pub right : IsWord (cell v j)
  pub product : IsWord (cell u j *ℤ cell v j)
  pub sum : IsWord (dot (take (j + 1) u) (take (j + 1) v))

-- a dot of two rows of one width may be summed so
abbrev pub Suffices : Summing → List ℤ → List ℤ → Type 0
Suffices Words u v = AllStay (DotIsOfWords u v) (length u)
Suffices Exact u v = AllStay (DotStays u v) (length u)
Suffices Checked u v = Unit {0}

-- s, x, t and y are words, and so are s times x, t times y and their sum
pub record ColumnIsOfWords (s x t y : ℤ) : Type 0 where
  pub factors : IsWord s × IsWord t
  pub entries : IsWord x × IsWord y
  pub left : IsWord (s *ℤ x)
  pub right : IsWord (t *ℤ y)
  pub sum : IsWord (s *ℤ x +ℤ t *ℤ y)

-- in s times u plus t times v, all numbers of column j are words
abbrev pub CombineIsOfWords : List ℤ → ℤ → List ℤ → ℤ → ℕ → Type 0
CombineIsOfWords u s v t j = ColumnIsOfWords s (cell u j) t (cell v j)
