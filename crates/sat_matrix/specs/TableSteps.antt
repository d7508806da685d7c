use Rattle.std.specs.Prelude.{◌≡◌, ℕ, ◌+◌, ◌-◌, ◌<◌, Bool, true, false, List, [], ◌∷◌, ◌++◌, length}
use Rattle.std.specs.Prelude.{map, replicate, ℤ, pos, slice_index_or, slice_set}
use Rattle.std.specs.Ordering.{int_eq}
use Rattle.sat_matrix.specs.Tables.{Table, bits_of, conjunction}
use Rattle.flat_rows.specs.Flat.{marked}
use Rattle.row_core.specs.Pairs.{pair_at}

-- the table has one column more, which is false
pub record HasFalseColumn (old new : Table) : Type 0 where
  pub columns : new.columns ≡ old.columns + 1
  pub rows : new.rows ≡ map (λ row. row ++ false ∷ []) old.rows

-- the table has as many rows and columns, and as much room
pub record IsAsLarge (old new : Table) : Type 0 where
  pub columns : new.columns ≡ old.columns
  pub as_many : length new.rows ≡ length old.rows
  pub spare : new.spare ≡ old.spare

-- the rows have one column more, with these truth values
pub record HasColumn (column : List Bool) (old new : Table) : Type 0 where
  pub columns : new.columns ≡ old.columns + 1
  pub as_many : length new.rows ≡ length old.rows
  pub each : (i : ℕ) → i < length old.rows →
      bits_of new.rows i ≡ bits_of old.rows i ++ slice_index_or column i false ∷ []

-- each pair is of indices below the bound
abbrev pub AreWithin : ℕ → List (ℕ × ℕ) → Type 0
AreWithin bound pairs = (i : ℕ) → i < length pairs →
    ((pair_at pairs i).0 < bound) × ((pair_at pairs i).1 < bound)

-- a row was appended for each pair: the conjunction of the two, and true at the last column
pub record HasPairs (pairs : List (ℕ × ℕ)) (old new : Table) : Type 0 where
  pub columns : new.columns ≡ old.columns
  pub as_many : length new.rows ≡ length old.rows + length pairs
  pub before : (i : ℕ) → i < length old.rows → bits_of new.rows i ≡ bits_of old.rows i
  pub each : (i : ℕ) → i < length pairs →
      bits_of new.rows (length old.rows + i) ≡
      slice_set
      (conjunction (bits_of old.rows (pair_at pairs i).0) (bits_of old.rows (pair_at pairs i).1))
      (old.columns - 1) true

-- the table after a line step: a column of true, and after an inequality a row, true before it
pub record HasLineStep (eq : Bool) (old new : Table) : Type 0 where
  pub middle : Table
  pub column : HasColumn (replicate (length old.rows) true) old middle
  pub columns : new.columns ≡ middle.columns
  pub equality : eq ≡ true → new.rows ≡ middle.rows
  pub inequality : eq ≡ false →
      new.rows ≡
      middle.rows ++
      slice_set (replicate middle.columns true) (middle.columns - 1) false ∷ []

-- after a ray step: a column for the values, and the marked rows with one for each pair
pub record HasRayStep (values : List ℤ) (marks : List Bool) (pairs : List (ℕ × ℕ))
    (old new : Table) : Type 0 where
  pub first : Table
  pub second : Table
  pub column : HasColumn (map (λ value. int_eq value (pos 0)) values) old first
  pub has_pairs : HasPairs pairs first second
  pub columns : new.columns ≡ second.columns
  pub kept : new.rows ≡ marked (marks ++ replicate (length pairs) true) second.rows
