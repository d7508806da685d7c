use Rattle.std.specs.Prelude.{◌≡◌, ◌≢◌, ℕ, ◌*◌, ◌^◌, ◌<◌, ◌≤◌, Bool, false, List, All, map}
use Rattle.std.specs.Prelude.{length}
use Rattle.std.specs.List.{range_with_len}
use Rattle.sat_bits.specs.Places.{place}
use Rattle.sat_matrix.specs.Tables.{Table}
use Rattle.flat_rows.specs.Flat.{Flat, HasOneWidth}

-- the second row differs from the first at one place alone
pub record IsPlaceSet (i : ℕ) (bit : Bool) (old new : List ℕ) : Type 0 where
  pub width : length new ≡ length old
  pub same : place new i ≡ bit
  pub others : (k : ℕ) → k ≢ i → place new k ≡ place old k

-- the first places of a row
abbrev pub bits_in : ℕ → List ℕ → List Bool
bits_in columns words = map (place words) (range_with_len 0 columns)

-- no place from the columns on is true
abbrev pub IsPadded : ℕ → List ℕ → Type 0
IsPadded columns words = (c : ℕ) → columns ≤ c → place words c ≡ false

-- the rows have a place for each column, and nothing is true past the columns
pub record IsTable (columns : ℕ) (words : Flat ℕ) : Type 0 where
  pub within : columns ≤ words.width * 64
  pub padded : All (IsPadded columns) words.rows

-- the table is what is seen in the rows of words
pub record AreWordsOf (table : Table) (words : Flat ℕ) : Type 0 where
  pub fits : table.columns < 2 ^ 64
  pub laid : IsTable table.columns words
  pub wide : HasOneWidth words
  pub seen : record {
    columns = table.columns;
    rows = map (bits_in table.columns) words.rows;
    spare = words.spare;
  } ≡ table
