use Rattle.std.specs.Prelude.{◌≡◌, ℕ, ◌*◌, ◌^◌, ◌<◌, List, [], ◌∷◌, ◌++◌, length, take, drop, ℤ, All}
use Rattle.row_core.specs.Range.{AllInRange}
use Rattle.row_core.specs.Content.{IsPrimitiveOf}

-- the rows of a width that stand in cells one after another, each with its mark
abbrev pub marked_rows : {M : Type 0} → ℕ → List ℤ → List M → List (List ℤ × M)
marked_rows width cells [] = []
marked_rows width cells (mark ∷ marks) =
    (take width cells, mark) ∷ marked_rows width (drop width cells) marks

-- the cells of rows, one row after another
abbrev pub cells_of : {M : Type 0} → List (List ℤ × M) → List ℤ
cells_of [] = []
cells_of (row ∷ rows) = row.0 ++ cells_of rows

-- the rows, each with another mark
abbrev pub remarked : {M N : Type 0} → List (List ℤ × M) → List N → List (List ℤ × N)
remarked [] marks = []
remarked (row ∷ rows) [] = []
remarked (row ∷ rows) (mark ∷ marks) = (row.0, mark) ∷ remarked rows marks

-- each row has the width
abbrev pub AreWide : {M : Type 0} → ℕ → List (List ℤ × M) → Type 0
AreWide width rows = All (λ row. length row.0 ≡ width) rows

-- all rows of both lists have one width
pub record HaveOneWidth {M N : Type 0} (first : List (List ℤ × M)) (second : List (List ℤ × N))
    : Type 0 where
  pub width : ℕ
  pub of_first : AreWide width first
  pub of_second : AreWide width second

-- the cells are those of so many rows of the width, and a u32 names each column
pub record IsLaid (width count : ℕ) (cells : List ℤ) : Type 0 where
  pub taken : length cells ≡ count * width
  pub narrow : width < 2 ^ 32
  pub in_range : AllInRange cells

-- the row is appended to the cells, made primitive
pub record IsPrimitiveAppended (old new row : List ℤ) : Type 0 where
  pub stored : List ℤ
  pub primitive : IsPrimitiveOf row stored
  pub in_range : AllInRange stored
  pub wide : length stored ≡ length row
  pub cells : new ≡ old ++ stored
