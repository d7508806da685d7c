use Rattle.std.specs.Prelude.{◌≡◌, ◌⊎◌, ◌+◌, ℕ, false, ◌∷◌, drop}
use Rattle.row_core.specs.Lists.{Rows}
use Rattle.sat_matrix.specs.Tables.{Table, HasThird}
use Rattle.stored_systems.specs.WorkLists.{divisor_row}

-- the rays with the row of the divisor in front, where no other row of the table is true wherever
-- its first is
pub record IsWhole (dim : ℕ) (rays : Rows) (table : Table) (new_rays : Rows)
    (new_table : Table) : Type 0 where
  pub needed : ¬ (HasThird table 0 0)
  pub width : new_rays.width ≡ dim + 1
  pub rows : new_rays.rows ≡ (divisor_row dim, false) ∷ rays.rows
  pub same_table : new_table ≡ table

-- the rays without it, and the table without its first row, where some other row of that is true
-- wherever the first is
pub record IsWithoutFirst (rays : Rows) (table : Table) (new_rays : Rows)
    (new_table : Table) : Type 0 where
  pub third : HasThird table 0 0
  pub same_rays : new_rays ≡ rays
  pub columns : new_table.columns ≡ table.columns
  pub rows : new_table.rows ≡ drop 1 table.rows

-- the rays behind the row of the divisor and the table of both, with that row or without it
abbrev pub IsTrimmed : ℕ → Rows → Table → Rows → Table → Type 0
IsTrimmed dim rays table new_rays new_table =
    IsWhole dim rays table new_rays new_table ⊎ IsWithoutFirst rays table new_rays new_table
