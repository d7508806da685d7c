use Rattle.std.specs.Prelude.{◌≡◌, ◌≢◌, ◌↔◌, ◌⊎◌, ℕ, ◌-◌, ◌<◌, List, length, IsTrue, ℤ, pos}
use Rattle.std.specs.Prelude.{slice_index_or, slice_set}
use Rattle.std.specs.Ordering.{int_eq}
use Rattle.sat_matrix.specs.Tables.{Table, bits_of, bit_at}
use Rattle.sat_matrix.specs.TableSteps.{IsAsLarge}

-- places of one column became true, at the rows that are named, and no place else changed
pub record IsColumnMarked (column : ℕ) (IsNamed : ℕ → Type 0) (old new : Table) : Type 0 where
  pub columns : new.columns ≡ old.columns
  pub spare : new.spare ≡ old.spare
  pub count : length new.rows ≡ length old.rows
  pub wide : (i : ℕ) → length (bits_of new.rows i) ≡ length (bits_of old.rows i)
  pub marked : (i : ℕ) →
      IsTrue (bit_at new.rows i column) ↔ (IsTrue (bit_at old.rows i column) ⊎ IsNamed i)
  pub others : (i j : ℕ) → j ≢ column → bit_at new.rows i j ≡ bit_at old.rows i j

-- the last column tells which of the values are 0, and no place else changed
pub record HasLastZeros (values : List ℤ) (old new : Table) : Type 0 where
  pub large : IsAsLarge old new
  pub each : (i : ℕ) → i < length old.rows → bits_of new.rows i ≡
      slice_set (bits_of old.rows i) (old.columns - 1)
      (int_eq (slice_index_or values i (pos 0)) (pos 0))
