use Rattle.std.specs.Prelude.{◌≡◌, ℕ, ◌+◌, true, false, List, map, slice_index_or}
use Rattle.row_core.specs.Lists.{Rows, row_at, vectors, AreMarked, FitWidth}
use Rattle.sat_matrix.specs.Tables.{Table, bits_of}
use Rattle.ray_order.specs.Orders.{IsOrderOf}
use Rattle.minimise.specs.Bases.{IsBasis, AreReduced}
use Rattle.minimise.specs.Facets.{AreGreatest}
use Rattle.minimise.specs.Rays.{rays_from}
use Rattle.minimise.specs.SecondSystems.{behind_lines}
use Rattle.minimise.specs.declared.parts.Parts.{Parts}
use Rattle.minimise.specs.declared.second_system.Simplified.{Simplified}
use Rattle.minimise.specs.declared.second_system.Simplified.TheVariants.{Done, Left}

-- the rays of the parts as a list
abbrev pub rays_of : Rows → Parts → Rows
rays_of rows parts = rays_from rows parts.facets.items parts.rays

-- the basis of the rows at some places, and of the others one reduced row for each greatest row
-- of the table
pub record AreParts (rows : Rows) (table : Table) (flat : List ℕ) (parts : Parts) : Type 0 where
  pub rows_fit : FitWidth rows
  pub basis : IsBasis (map (row_at rows.rows) flat) (vectors parts.equalities.rows)
  pub equalities_fit : FitWidth parts.equalities
  pub equalities_width : parts.equalities.width ≡ rows.width
  pub equalities_marked : AreMarked true parts.equalities.rows
  pub greatest : AreGreatest table.rows parts.facets.items
  pub made : AreReduced (vectors parts.equalities.rows) rows.rows parts.facets.items
      (vectors (rays_of rows parts).rows)
  pub rays_width : (rays_of rows parts).width ≡ rows.width

-- the rays in order, and the table of their zeros, the rows of a table at the facets, behind
-- one true place for each line
pub record AreArranged (count : ℕ) (table : Table) (facets : List ℕ) (unsorted rays : Rows)
    (sat : Table) : Type 0 where
  pub order : List ℕ
  pub is_order : IsOrderOf unsorted.rows order
  pub picked : vectors rays.rows ≡ map (row_at unsorted.rows) order
  pub width : rays.width ≡ unsorted.width
  pub marks : AreMarked false rays.rows
  pub columns : sat.columns ≡ count + table.columns
  pub rows : sat.rows ≡ map
      (λ i. behind_lines count (bits_of table.rows (slice_index_or facets i 0))) order

-- the answer is the lines and the rays of the parts, these in order
abbrev pub IsArranged : ℕ → Rows → Table → Parts → Simplified → Type 0
IsArranged count rows table parts (Done lines rays sat) = (lines ≡ parts.equalities)
    × AreArranged count table parts.facets.items (rays_of rows parts) rays sat
IsArranged count rows table parts (Left left right column) = ⊥
