use Rattle.std.specs.Prelude.{◌≡◌, ℕ, ⊤, ◌<◌, List, [], ◌++◌, length, remove, ℤ, All}
use Rattle.row_core.specs.Lists.{Row, Rows, Pointwise, vectors, vector_at}
use Rattle.row_core.specs.MarkedLists.{AreLists}
use Rattle.cone_laws.specs.Cones.{Spans, Generates, HasLineality}
use Rattle.cone_laws.specs.Canon.{IsIrredundant, IsSystem}
use Rattle.cone_laws.specs.Members.{ConeOf}
use Rattle.minimise.specs.Bases.{IsBasis, IsReduced}
use Rattle.minimise.specs.Lefts.{IsLeftAmong}
use Rattle.minimise.specs.declared.fault.Fault.{Fault}
use Rattle.minimise.specs.declared.fault.Fault.TheVariants.{Memory, Left}

-- no vector of the list is spanned by the others
abbrev pub AreIndependent : List (List ℤ) → Type 0
AreIndependent lines = (i : ℕ) → i < length lines
    → ¬ (Spans (remove lines i) [] (vector_at lines i))

-- the lines and rays are a system of the set, but for its reduced echelon form
pub record IsMinimalForm (C : List ℤ → Type 0) (lines rays : List (List ℤ)) : Type 0 where
  pub generates : Generates C lines rays
  pub lineality : HasLineality C lines
  pub independent : AreIndependent lines
  pub irredundant : IsIrredundant lines rays

-- the system of a cone is in minimal form
abbrev pub SystemIsMinimal : Type 0
SystemIsMinimal = (width : ℕ) (rows : List Row) (lines rays : List (List ℤ))
    → IsSystem (ConeOf width rows) lines rays → IsMinimalForm (ConeOf width rows) lines rays

-- the reduced echelon basis of the lines, and each ray reduced by it
pub record AreFormed (width : ℕ) (lines rays new_lines new_rays : Rows) : Type 0 where
  pub basis : IsBasis (vectors lines.rows) (vectors new_lines.rows)
  pub reduced : Pointwise (IsReduced (vectors new_lines.rows)) (vectors rays.rows)
      (vectors new_rays.rows)
  pub lists : AreLists width new_lines new_rays
  pub wide : All (λ l. length l ≡ width) (vectors new_lines.rows)
  -- independent lines are as many as those of their basis
  pub as_many : AreIndependent (vectors lines.rows) → length new_lines.rows ≡ length lines.rows

-- of lines and rays in minimal form these are the system
abbrev pub FormedIsSystem : Type 0
FormedIsSystem = (width : ℕ) (rows : List Row) (lines rays new_lines new_rays : List (List ℤ))
    → IsMinimalForm (ConeOf width rows) lines rays
    → All (λ (l : List ℤ). length l ≡ width) new_lines → IsBasis lines new_lines
    → Pointwise (IsReduced new_lines) rays new_rays → IsSystem (ConeOf width rows) new_lines new_rays

-- a combination of these leaves the range: of the basis of the first lines with a further one, or
-- with a ray
pub record LeavesInForm (lines rays : List Row) : Type 0 where
  pub left : List ℤ
  pub right : List ℤ
  pub column : ℕ
  pub among : IsLeftAmong (lines ++ rays) (vectors lines) left right column

-- the fault of bringing them to that form
abbrev pub IsFormFault : List Row → List Row → Fault → Type 0
IsFormFault lines rays Memory = ⊤
IsFormFault lines rays (Left left right column) =
    IsLeftAmong (lines ++ rays) (vectors lines) left right column
