use Rattle.std.specs.Prelude.{◌≡◌, ℕ, ◌+◌, ◌<◌, length}
use Rattle.sat_matrix.specs.Tables.{Table, bits_of, conjunction, HasThird}
use Rattle.sat_matrix.specs.Counts.{ones}

-- where one of two rows has one true place more than they share, no third is true wherever both are
pub record OneMoreDecides (table : Table) : Type 0 where
  pub first_more : (i j : ℕ) → i < length table.rows → j < length table.rows →
      ones (bits_of table.rows i) ≡
      ones (conjunction (bits_of table.rows i) (bits_of table.rows j)) + 1 →
      ¬ (HasThird table i j)
  pub second_more : (i j : ℕ) → i < length table.rows → j < length table.rows →
      ones (bits_of table.rows j) ≡
      ones (conjunction (bits_of table.rows i) (bits_of table.rows j)) + 1 →
      ¬ (HasThird table i j)

-- where two rows share too few places there is a third; where one has one more, there is none
pub record CountsDecide (least : ℕ) (table : Table) : Type 0 where
  pub too_few : (i j : ℕ) → i < length table.rows → j < length table.rows →
      ones (conjunction (bits_of table.rows i) (bits_of table.rows j)) < least →
      ¬ (¬ (HasThird table i j))
  pub one_more : OneMoreDecides table
