use Rattle.std.specs.Prelude.{◌≡◌, ℕ, ◌^◌, ◌<◌, List, length}
use Rattle.flat_rows.specs.Flat.{Flat, entries_at}
use Rattle.sat_bits.specs.Searches.{shared_places}
use Rattle.sat_matrix.specs.Pairs.{index_at}

-- a row is as wide as the rows are, a list names rows, and the numbers of shared places fit
pub record FitsRows (words : Flat ℕ) (row list : List ℕ) : Type 0 where
  pub union : length row ≡ words.width
  pub among : (q : ℕ) → q < length list → index_at list q < length words.rows
  pub few : (q : ℕ) → q < length list →
      shared_places (entries_at words.rows (index_at list q)) row < 2 ^ 64
