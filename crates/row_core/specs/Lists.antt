use Rattle.std.specs.Prelude.{◌≡◌, ℕ, ◌^◌, ◌<◌, List, [], ◌∷◌, ◌++◌, length, map, ℤ, Bool, true, false, slice_index_or, All}
use Rattle.row_core.specs.Range.{AllInRange}
use Rattle.row_core.specs.Content.{IsPrimitiveOf}

-- a row, and whether it is an equality
abbrev pub Row : Type 0
Row = List ℤ × Bool

-- rows of one width, in order
pub record Rows : Type 0 where
  pub width : ℕ
  pub rows : List Row

-- the entries of row i
abbrev pub row_at : List Row → ℕ → List ℤ
row_at rows i = (slice_index_or rows i ([], false)).0

-- whether row i is an equality
abbrev pub is_eq_at : List Row → ℕ → Bool
is_eq_at rows i = (slice_index_or rows i ([], false)).1

-- the vectors of a list, without their marks
abbrev pub vectors : List Row → List (List ℤ)
vectors rows = map (λ (row : Row). row.0) rows

-- vector i of the list
abbrev pub vector_at : List (List ℤ) → ℕ → List ℤ
vector_at vectors i = slice_index_or vectors i []

-- each row is marked as an equality, or each as an inequality
abbrev pub AreMarked : Bool → List Row → Type 0
AreMarked eq rows = All (λ (row : Row). row.1 ≡ eq) rows

-- a system as one list of rows: its lines as equalities, and then its rays as inequalities
abbrev pub system_rows : List (List ℤ) → List (List ℤ) → List Row
system_rows lines rays = map (λ l. (l, true)) lines ++ map (λ r. (r, false)) rays

-- the lists are equally long, and elements at one index are related
pub record Pointwise {A B : Type 0} (R : A → B → Type 0) (xs : List A) (ys : List B) : Type 0 where
  pub as_many : length ys ≡ length xs
  pub each : (i : ℕ) (d : A) (e : B) → i < length xs →
      R (slice_index_or xs i d) (slice_index_or ys i e)

-- the row has the width, and its numbers are of the range
pub record IsRow (width : ℕ) (row : Row) : Type 0 where
  pub wide : length row.0 ≡ width
  pub in_range : AllInRange row.0

-- each row has the width, and a u32 names each column
pub record FitWidth (list : Rows) : Type 0 where
  pub each : All (IsRow list.width) list.rows
  pub narrow : list.width < 2 ^ 32

-- the list gained the row, made primitive, with its mark
pub record GainsPrimitive {M : Type 0} (old new : List (List ℤ × M)) (row : List ℤ) (mark : M)
    : Type 0 where
  pub stored : List ℤ
  pub primitive : IsPrimitiveOf row stored
  pub in_range : AllInRange stored
  pub wide : length stored ≡ length row
  pub list : new ≡ old ++ (stored, mark) ∷ []
