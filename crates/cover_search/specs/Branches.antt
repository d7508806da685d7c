use Rattle.std.specs.Prelude.{◌≡◌, ℕ, ◌+◌, ◌<◌, List, [], ◌∷◌, ◌++◌, length, take, slice_get, Some, ℤ, All, Contains}
use Rattle.row_core.specs.Points.{IsPoint}
use Rattle.row_core.specs.Content.{IsPrimitive}
use Rattle.cons_sys.specs.Constraints.{Constraint, Constraints, constraint_at, In}
use Rattle.row_core.specs.declared.errors.Overflow.{Overflow}
use Rattle.cover_search.specs.Inequalities.{complement}
use Rattle.cover_search.specs.Regions.{LeavesOnList}

-- choice j of a system of inequalities: those before number j, and then the complement of number j
abbrev pub choice : List Constraint → ℕ → List Constraint
choice rows j = take j rows ++ complement (constraint_at rows j) ∷ []

-- the list begins with the first one, and goes on with one choice for each of the first k systems
-- of inequalities, in order
pub data IsBranch (first : List Constraint) (systems : List Constraints)
    : ℕ → List Constraint → Type 0 where
  begins : IsBranch first systems 0 first
  chooses : {k : ℕ} {list : List Constraint} (rows : Constraints) (j : ℕ)
      → IsBranch first systems k list → slice_get systems k ≡ Some rows → j < length rows.list
      → IsBranch first systems (k + 1) (list ++ choice rows.list j)

-- the conversion of the list of a branch leaves the range
pub record LeavesOnBranch (first : Constraints) (systems : List Constraints)
    (over : Overflow) : Type 0 where
  pub passed : ℕ
  pub list : List Constraint
  pub branch : IsBranch first.list systems passed list
  pub leaves : LeavesOnList (record { dim = first.dim; list = list }) over

-- ---- points
-- some system holds at the point
pub record HoldsInSome (systems : List Constraints) (v : List ℤ) : Type 0 where
  pub system : Constraints
  pub listed : Contains systems system
  pub holds : In system v

-- none does
abbrev pub HoldsInNone : List Constraints → List ℤ → Type 0
HoldsInNone systems v = All (λ system. ¬ (In system v)) systems

-- at each point at which the first constraints hold, some system does
abbrev pub AreCovered : Constraints → List Constraints → Type 0
AreCovered first systems = (v : List ℤ) → IsPoint first.dim v → In first v → HoldsInSome systems v

-- a point at which the first constraints hold, and no system does
pub record IsUncovered (first : Constraints) (systems : List Constraints)
    (v : List ℤ) : Type 0 where
  pub point : IsPoint first.dim v
  pub primitive : IsPrimitive v
  pub holds : In first v
  pub outside : HoldsInNone systems v
