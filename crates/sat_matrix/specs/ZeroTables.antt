use Rattle.std.specs.Prelude.{◌≡◌, ℕ, ◌<◌, ◌↔◌, Bool, false, List, length, ℤ, pos, IsTrue}
use Rattle.std.specs.Prelude.{slice_index_or}
use Rattle.row_core.specs.Vectors.{dot}
use Rattle.row_core.specs.Lists.{Row, row_at, Pointwise}
use Rattle.sat_matrix.specs.Tables.{Table}

-- the truth values are true exactly at those of the first k rows on which the vector is 0
pub record TellsZeros (rows : List Row) (k : ℕ) (v : List ℤ) (bits : List Bool) : Type 0 where
  pub wide : length bits ≡ k
  pub zeros : (j : ℕ) → j < k →
      IsTrue (slice_index_or bits j false) ↔ (dot (row_at rows j) v ≡ pos 0)

-- the table has a row for each ray, true exactly at those of the first k rows on which the ray is 0
pub record IsZeroTable (rows : List Row) (k : ℕ) (rays : List (List ℤ))
    (table : Table) : Type 0 where
  pub columns : table.columns ≡ k
  pub each : Pointwise (TellsZeros rows k) rays table.rows
