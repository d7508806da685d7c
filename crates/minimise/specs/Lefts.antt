use Rattle.std.specs.Prelude.{◌≡◌, ◌≢◌, ℕ, ◌-◌, ◌<◌, ◌≤◌, ◌⊎◌, Bool, List, length, take, ℤ, Contains}
use Rattle.row_core.specs.Vectors.{cell}
use Rattle.flat_rows.specs.Flat.{marked}
use Rattle.row_core.specs.Lists.{Row, row_at, vectors, vector_at}
use Rattle.cone_laws.specs.Canon.{IsPivot}
use Rattle.row_core.specs.Combinations.{CombinationLeaves}
use Rattle.minimise.specs.FlatRows.{TellsFlat}
use Rattle.minimise.specs.Bases.{IsBasis, IsReduced}

-- a line of the basis before
pub record IsLineBefore (flat : List (List ℤ)) (j : ℕ) (right : List ℤ) : Type 0 where
  pub lines : List (List ℤ)
  pub basis : IsBasis (take j flat) lines
  pub line : Contains lines right

-- a row of the list, reduced by some lines
pub record IsRowReduced (rows : List Row) (lines : List (List ℤ)) (right : List ℤ) : Type 0 where
  pub row : ℕ
  pub below : row < length rows
  pub reduced : IsReduced lines (row_at rows row) right

-- the combination leaves the range: of the line with the index in the basis of the first j
-- of the flat vectors, with a line of the basis before, or with a row that is reduced by
-- the lines before it
pub record IsLeftAmong (rows : List Row) (flat : List (List ℤ)) (left right : List ℤ)
    (column : ℕ) : Type 0 where
  pub j : ℕ
  pub within : j ≤ length flat
  pub lines : List (List ℤ)
  pub basis : IsBasis (take j flat) lines
  pub index : ℕ
  pub below : index < length lines
  pub left_is : vector_at lines index ≡ left
  pub pivot : ℕ
  pub at : IsPivot left pivot
  pub right_is : ((j ≢ 0) × IsLineBefore flat (j - 1) right)
      ⊎ IsRowReduced rows (take index lines) right
  pub leaves : CombinationLeaves (cell left pivot) (cell right pivot) left right column

-- the combination that leaves the range is one of a basis of the rows that are 0 on the whole
-- cone, in their order
pub record IsLeft (width : ℕ) (rows : List Row) (left right : List ℤ) (column : ℕ) : Type 0 where
  pub marks : List Bool
  pub tells : TellsFlat width rows marks
  pub among : IsLeftAmong rows (marked marks (vectors rows)) left right column
