use Rattle.std.specs.Prelude.{◌≡◌, ℕ, ◌<◌, ◌⊎◌, ⊤, List, length, take, ℤ, All, Contains}
use Rattle.row_core.specs.Vectors.{cell}
use Rattle.row_core.specs.Lists.{Row, row_at, vector_at}
use Rattle.cone_laws.specs.Canon.{IsPivot}
use Rattle.row_core.specs.Combinations.{CombinationLeaves}
use Rattle.minimise.specs.Bases.{IsReduced, IsLeading, IsPlace, turned_up}
use Rattle.minimise.specs.Lefts.{IsLeftAmong, IsLeft}
use Rattle.minimise.specs.declared.fault.Fault.{Fault}
use Rattle.minimise.specs.declared.fault.Fault.TheVariants.{Memory, Left}

-- the combination of a line and a row that is 0 at the pivot leaves the range
pub record IsCombinationLeft (c : ℕ) (line row left right : List ℤ) (column : ℕ) : Type 0 where
  pub left_is : left ≡ line
  pub right_is : right ≡ row
  pub leaves : CombinationLeaves (cell left c) (cell right c) left right column

-- a row, reduced by the lines before one, leaves the range where it is combined with that line
pub record IsReductionLeft (lines : List (List ℤ)) (a left right : List ℤ)
    (column : ℕ) : Type 0 where
  pub index : ℕ
  pub below : index < length lines
  pub left_is : vector_at lines index ≡ left
  pub pivot : ℕ
  pub at : IsPivot left pivot
  pub reduced : IsReduced (take index lines) a right
  pub leaves : CombinationLeaves (cell left pivot) (cell right pivot) left right column

-- one of the lines leaves the range where it is cleared at the pivot of a further line
pub record IsClearingLeft (c : ℕ) (line : List ℤ) (lines : List (List ℤ)) (left right : List ℤ)
    (column : ℕ) : Type 0 where
  pub left_is : left ≡ line
  pub right_in : Contains lines right
  pub leaves : CombinationLeaves (cell left c) (cell right c) left right column

-- the same, with the place at which the further line would stand
pub record IsTakingLeft (c : ℕ) (lines : List (List ℤ)) (line left right : List ℤ)
    (column : ℕ) : Type 0 where
  pub k : ℕ
  pub place : IsPlace lines c k
  pub clearing : IsClearingLeft c line lines left right column

-- the same, where the further line is a row that the lines reduced
pub record IsGrowingLeft (lines : List (List ℤ)) (a left right : List ℤ) (column : ℕ) : Type 0 where
  pub reduced : List ℤ
  pub is_reduced : IsReduced lines a reduced
  pub pivot : ℕ
  pub leading : IsLeading reduced pivot
  pub wide : All (λ (l : List ℤ). length l ≡ length a) lines
  pub taking : IsTakingLeft pivot lines (turned_up reduced pivot) left right column

-- the fault where a row is combined with a line
abbrev pub IsCombineFault : ℕ → List ℤ → List ℤ → Fault → Type 0
IsCombineFault c line row Memory = ⊤
IsCombineFault c line row (Left left right column) = IsCombinationLeft c line row left right column

-- the fault of a reduction
abbrev pub IsReduceFault : List (List ℤ) → List ℤ → Fault → Type 0
IsReduceFault lines a Memory = ⊤
IsReduceFault lines a (Left left right column) = IsReductionLeft lines a left right column

-- the fault where lines are cleared
abbrev pub IsClearFault : ℕ → List ℤ → List (List ℤ) → Fault → Type 0
IsClearFault c line lines Memory = ⊤
IsClearFault c line lines (Left left right column) = IsClearingLeft c line lines left right column

-- the fault where a line is taken in
abbrev pub IsTakeFault : ℕ → List (List ℤ) → List ℤ → Fault → Type 0
IsTakeFault c lines line Memory = ⊤
IsTakeFault c lines line (Left left right column) = IsTakingLeft c lines line left right column

-- the fault where a row is taken in
abbrev pub IsGrowFault : List (List ℤ) → List ℤ → Fault → Type 0
IsGrowFault lines a Memory = ⊤
IsGrowFault lines a (Left left right column) = IsReductionLeft lines a left right column
    ⊎ IsGrowingLeft lines a left right column

-- the fault of a list of rows with these flat ones
abbrev pub IsListFault : List Row → List (List ℤ) → Fault → Type 0
IsListFault rows flat Memory = ⊤
IsListFault rows flat (Left left right column) = IsLeftAmong rows flat left right column

-- a row of the list, reduced by the lines before one, leaves the range where it is
-- combined with that line
pub record IsRowLeft (rows : List Row) (lines : List (List ℤ)) (left right : List ℤ)
    (column : ℕ) : Type 0 where
  pub row : ℕ
  pub row_below : row < length rows
  pub reduction : IsReductionLeft lines (row_at rows row) left right column

-- the fault where rows of the list are reduced
abbrev pub IsRowFault : List Row → List (List ℤ) → Fault → Type 0
IsRowFault rows lines Memory = ⊤
IsRowFault rows lines (Left left right column) = IsRowLeft rows lines left right column

-- the fault of a list
abbrev pub IsLeftFault : ℕ → List Row → Fault → Type 0
IsLeftFault width rows Memory = ⊤
IsLeftFault width rows (Left left right column) = IsLeft width rows left right column
