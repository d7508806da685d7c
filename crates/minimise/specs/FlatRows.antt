use Rattle.std.specs.Prelude.{◌≡◌, ℕ, ◌<◌, ◌↔◌, Bool, false, List, length, ℤ, pos, All, IsTrue, slice_index_or}
use Rattle.row_core.specs.Vectors.{dot}
use Rattle.row_core.specs.Lists.{Row, row_at}
use Rattle.cone_laws.specs.Canon.{IsSystem}
use Rattle.cone_laws.specs.Members.{ConeOf}

-- the row is 0 on the whole cone of the list
abbrev pub IsFlat : ℕ → List Row → List ℤ → Type 0
IsFlat width rows a = (v : List ℤ) → ConeOf width rows v → dot a v ≡ pos 0

-- the marks tell which rows are 0 on the whole cone
pub record TellsFlat (width : ℕ) (rows : List Row) (marks : List Bool) : Type 0 where
  pub as_many : length marks ≡ length rows
  pub tells : (i : ℕ) → i < length rows
      → IsTrue (slice_index_or marks i false) ↔ IsFlat width rows (row_at rows i)

-- the row is 0 on each ray
abbrev pub IsZeroOnAll : List (List ℤ) → List ℤ → Type 0
IsZeroOnAll rays a = All (λ y. dot a y ≡ pos 0) rays

-- a row is 0 on the whole cone exactly where it is 0 on each ray
abbrev pub FlatIsZeroOnRays : Type 0
FlatIsZeroOnRays = (width : ℕ) (rows : List Row) (lines rays : List (List ℤ)) (i : ℕ)
    → IsSystem (ConeOf width rows) lines rays → i < length rows
    → IsFlat width rows (row_at rows i) ↔ IsZeroOnAll rays (row_at rows i)
