use Rattle.std.specs.Prelude.{◌≡◌, ℕ, ◌+◌, List, length, filter, not, drop, ℤ, pos, All}
use Rattle.row_core.specs.Vectors.{dot}
use Rattle.row_core.specs.Lists.{Row, Pointwise, vectors}
use Rattle.sat_matrix.specs.Tables.{Table}
use Rattle.sat_matrix.specs.ZeroTables.{TellsZeros, IsZeroTable}
use Rattle.cons_sys.specs.Constraints.{Constraints}
use Rattle.gens_sys.specs.Generators.{Generators}
use Rattle.stored_systems.specs.WorkLists.{constraint_list, generator_list}
use Rattle.stored_systems.specs.StoredForms.{is_divisor_row}

-- a row for each row of the constraint list and a column for each row of the generator list, true
-- exactly where the one is 0 on the other
abbrev pub ArePairZeros : Constraints → Generators → Table → Type 0
ArePairZeros cs gs table = IsZeroTable (generator_list gs) (length (generator_list gs))
    (vectors (constraint_list cs)) table

-- the rows of the table from one on tell on which rows of the list the rays are 0
pub record TellsFrom (from : ℕ) (list : List Row) (rays : List (List ℤ))
    (table : Table) : Type 0 where
  pub columns : table.columns ≡ length list
  pub many : length table.rows ≡ from + length rays
  pub each : Pointwise (TellsZeros list (length list)) rays (drop from table.rows)

-- each of the vectors is 0 on each row of the list
abbrev pub AreZeroOn : List Row → List (List ℤ) → Type 0
AreZeroOn list vs = All (λ (v : List ℤ). All (λ (row : Row). dot row.0 v ≡ pos 0) list) vs

-- the inequalities that are stored: all but the row of the divisor
abbrev pub kept_inequalities : ℕ → List (List ℤ) → List (List ℤ)
kept_inequalities dim inequalities = filter (λ r. not (is_divisor_row dim r)) inequalities
