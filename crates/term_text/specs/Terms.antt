use Rattle.std.specs.Prelude.{◌≡◌, ℕ, ◌+◌, ◌^◌, ◌<◌, ◌≤◌, ◌==◌, if◌then◌else◌, List, [], ◌∷◌, length, take, ℤ, pos, ◌+ℤ◌, All, MatchOption, unwrap_or}
use Rattle.std.proofs.Math.IntN.{neg_ℤ}
use Rattle.row_core.specs.Vectors.{cell}
use Rattle.row_core.specs.Range.{InRange, AllInRange}
use Rattle.term_text.specs.declared.terms.Term.{Term}

-- the variable is below the dimension
abbrev pub IsWithin : ℕ → Term → Type 0
IsWithin dim t = MatchOption t.variable (Unit {0}) (λ j. j < dim)

-- every variable is below the dimension
abbrev pub AreWithin : ℕ → List Term → Type 0
AreWithin dim ts = All (IsWithin dim) ts

-- the column of a variable, and the last for a term without one
abbrev pub column_of : ℕ → Term → ℕ
column_of dim t = unwrap_or t.variable dim

-- the number of a term, with its sign
abbrev pub value_of : Term → ℤ
value_of t = if t.negative then neg_ℤ (pos t.size) else pos t.size

-- what a term adds to column j
abbrev pub part : ℕ → Term → ℕ → ℤ
part dim t j = if column_of dim t == j then value_of t else pos 0

-- the sum of the terms of column j
abbrev pub total : ℕ → List Term → ℕ → ℤ
total dim [] j = pos 0
total dim (t ∷ ts) j = part dim t j +ℤ total dim ts j

-- no number is too large, and no sum of the first terms leaves the range
pub record Stay (dim : ℕ) (ts : List Term) : Type 0 where
  pub numbers : All (λ (t : Term). t.size < 2 ^ 127) ts
  pub sums : (i : ℕ) → i ≤ length ts → (j : ℕ) → j ≤ dim → InRange (total dim (take i ts) j)

-- the row has in each column the sum of its terms
pub record IsRow (dim : ℕ) (ts : List Term) (row : List ℤ) : Type 0 where
  pub wide : length row ≡ dim + 1
  pub cells : (j : ℕ) → j ≤ dim → cell row j ≡ total dim ts j

-- the row of terms, where each sum on the way is of the range
pub record IsSafeRow (dim : ℕ) (ts : List Term) (row : List ℤ) : Type 0 where
  pub sums : IsRow dim ts row
  pub stay : Stay dim ts
  pub in_range : AllInRange row

-- the number of the term, and the sum with it, are of the range
pub record FitsBehind (t : Term) (sum : ℤ) : Type 0 where
  pub number : t.size < 2 ^ 127
  pub next : InRange (sum +ℤ value_of t)
