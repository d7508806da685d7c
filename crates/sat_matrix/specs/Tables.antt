use Rattle.std.specs.Prelude.{◌≡◌, ◌≢◌, ℕ, ◌<◌, Bool, false, ◌&&◌, List, [], ◌∷◌, length, map}
use Rattle.std.specs.Prelude.{IsTrue, slice_index_or}
use Rattle.std.specs.List.{range_with_len}

-- rows with a truth value for each column, and how many rows can be appended without memory
pub record Table : Type 0 where
  pub columns : ℕ
  pub rows : List (List Bool)
  pub spare : ℕ

-- the truth values of row i
abbrev pub bits_of : List (List Bool) → ℕ → List Bool
bits_of rows i = slice_index_or rows i []

-- the truth value at row i and column j, and false outside of the rows
abbrev pub bit_at : List (List Bool) → ℕ → ℕ → Bool
bit_at rows i j = slice_index_or (bits_of rows i) j false

-- where both rows are true, place by place
abbrev pub conjunction : List Bool → List Bool → List Bool
conjunction [] ys = []
conjunction (x ∷ xs) [] = []
conjunction (x ∷ xs) (y ∷ ys) = (x && y) ∷ conjunction xs ys

-- the columns of a table as rows
abbrev pub transposed : ℕ → List (List Bool) → List (List Bool)
transposed columns rows =
    map (λ j. map (λ row. slice_index_or row j false) rows) (range_with_len 0 columns)

-- the third list is true wherever the first and the second both are
abbrev pub Covers : List Bool → List Bool → List Bool → Type 0
Covers first second third = (c : ℕ) → c < length first →
    IsTrue (slice_index_or first c false) →
    IsTrue (slice_index_or second c false) →
    IsTrue (slice_index_or third c false)

-- the second row is true wherever the first is
abbrev pub IsWithin : List Bool → List Bool → Type 0
IsWithin first second = Covers first first second

-- row k is another row than i and j, and is true at each column at which both are true
pub record IsThird (table : Table) (i j k : ℕ) : Type 0 where
  pub row : k < length table.rows
  pub not_first : k ≢ i
  pub not_second : k ≢ j
  pub covers : Covers (bits_of table.rows i) (bits_of table.rows j) (bits_of table.rows k)

-- some row other than i and j is true at each column at which both are true
abbrev pub HasThird : Table → ℕ → ℕ → Type 0
HasThird table i j = (k : ℕ) × IsThird table i j k

-- a row other than i at a place of the list is true wherever row i is
abbrev pub IsCoveredAmong : List (List Bool) → ℕ → List ℕ → Type 0
IsCoveredAmong rows i among = (q : ℕ) × (q < length among) × (slice_index_or among q 0 ≢ i) ×
    IsWithin (bits_of rows i) (bits_of rows (slice_index_or among q 0))

-- row i is true only where a row at a place of the list is
abbrev pub IsWithinSome : List (List Bool) → ℕ → List ℕ → Type 0
IsWithinSome rows i among = (q : ℕ) × (q < length among) ×
    IsWithin (bits_of rows i) (bits_of rows (slice_index_or among q 0))

-- each row has a place for each column
abbrev pub IsRectangular : Table → Type 0
IsRectangular table = (i : ℕ) → i < length table.rows →
    length (bits_of table.rows i) ≡ table.columns
