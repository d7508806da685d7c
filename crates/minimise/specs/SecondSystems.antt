use Rattle.std.specs.Prelude.{◌≡◌, ℕ, ◌<◌, Bool, true, List, ◌++◌, length, replicate, ℤ, All}
use Rattle.row_core.specs.Lists.{Row, row_at, system_rows, vector_at}
use Rattle.cone_laws.specs.Canon.{IsSystem}
use Rattle.cone_laws.specs.Members.{ConeOf}
use Rattle.minimise.specs.FlatRows.{IsZeroOnAll}
use Rattle.minimise.specs.Bases.{IsBasis, AreReduced}
use Rattle.minimise.specs.Facets.{AreFacets}

-- the basis of the rows that are 0 on all rays, and one reduced row for each greatest set of zeros
-- of the others, are the system of the valid rows
abbrev pub SimplifiedIsSystem : Type 0
SimplifiedIsSystem = (width : ℕ) (rows : List Row)
    (lines rays flat new_lines new_rays : List (List ℤ)) (kept : List ℕ)
    → All (λ (row : Row). length row.0 ≡ width) rows → IsSystem (ConeOf width rows) lines rays
    → ((i : ℕ) → i < length rows → IsZeroOnAll rays (row_at rows i)
    → (k : ℕ) × (k < length flat) × (vector_at flat k ≡ row_at rows i))
    → ((k : ℕ) → k < length flat → (i : ℕ) × (i < length rows) × (row_at rows i ≡ vector_at flat k)
    × IsZeroOnAll rays (row_at rows i))
    → All (λ (l : List ℤ). length l ≡ width) new_lines → IsBasis flat new_lines
    → AreFacets rows rays kept → AreReduced new_lines rows kept new_rays
    → IsSystem (ConeOf width (system_rows lines rays)) new_lines new_rays

-- the truth values behind one that is true for each line
abbrev pub behind_lines : ℕ → List Bool → List Bool
behind_lines lines bits = replicate lines true ++ bits
