use Rattle.std.specs.Prelude.{◌≡◌, ℕ, ⊤, List, length, ℤ, pos, ◌≤ℤ◌}
use Rattle.row_core.specs.Vectors.{dot}
use Rattle.row_core.specs.Lists.{Row, Rows, vectors}
use Rattle.cone_laws.specs.Canon.{Canon}
use Rattle.cone_laws.specs.Members.{ConeOf}
use Rattle.row_core.specs.MarkedLists.{AreLists}
use Rattle.sat_matrix.specs.Tables.{Table}
use Rattle.sat_matrix.specs.ZeroTables.{IsZeroTable}
use Rattle.minimise.specs.Lefts.{IsLeft}
use Rattle.minimise.specs.declared.second_system.Simplified.{Simplified}
use Rattle.minimise.specs.declared.second_system.Simplified.TheVariants.{Done, Left}

-- the lines and rays are the canonical system of the list, and the table tells the rows of the list
-- on which each ray is 0
pub record IsSystemOf (width : ℕ) (list : List Row) (lines rays : Rows) (sat : Table) : Type 0 where
  pub canon : Canon (ConeOf width list) (vectors lines.rows) (vectors rays.rows)
  pub lists : AreLists width lines rays
  pub zeros : IsZeroTable list (length list) (vectors rays.rows) sat

-- the row is at least 0 on each vector of the set
pub record IsValidOn (width : ℕ) (C : List ℤ → Type 0) (a : List ℤ) : Type 0 where
  pub wide : length a ≡ width
  pub least : (v : List ℤ) → C v → pos 0 ≤ℤ dot a v

-- where it was found, it is the canonical system of all rows that are valid on the set
abbrev pub IsSystemOfValid : ℕ → (List ℤ → Type 0) → Simplified → Type 0
IsSystemOfValid width C (Done lines rays sat) =
    Canon (IsValidOn width C) (vectors lines.rows) (vectors rays.rows)
IsSystemOfValid width C (Left left right column) = ⊤

-- the canonical system of the second list was found
abbrev pub IsDone : ℕ → List Row → Simplified → Type 0
IsDone width second (Done lines rays sat) = IsSystemOf width second lines rays sat
IsDone width second (Left left right column) = ⊥

-- the canonical system of the second list was found, or a combination left the range
abbrev pub IsSimplified : ℕ → List Row → List Row → Simplified → Type 0
IsSimplified width rows second (Done lines rays sat) = IsSystemOf width second lines rays sat
IsSimplified width rows second (Left left right column) = IsLeft width rows left right column
