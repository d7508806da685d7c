use Rattle.std.specs.Prelude.{◌≡◌, ◌≢◌, ℕ, ◌<◌, List, length, remove, ℤ, pos, ◌<ℤ◌, All}
use Rattle.row_core.specs.Vectors.{cell}
use Rattle.row_core.specs.Content.{IsPrimitive}
use Rattle.row_core.specs.Orders.{AreSorted}
pub use Rattle.row_core.specs.Lists.{vector_at}
use Rattle.cone_laws.specs.Cones.{Spans, Generates, HasLineality}

-- the vector is positive at column j, and 0 at each column before it
pub record IsPivot (v : List ℤ) (j : ℕ) : Type 0 where
  pub positive : pos 0 <ℤ cell v j
  pub before : (i : ℕ) → i < j → cell v i ≡ pos 0

-- the lines are ordered by pivot; at the pivot of a line each other line and each ray is 0
pub record IsEchelon (lines rays : List (List ℤ)) : Type 0 where
  pub pivot : ℕ → ℕ
  pub pivots : (i : ℕ) → i < length lines → IsPivot (vector_at lines i) (pivot i)
  pub ordered : (i k : ℕ) → i < k → k < length lines → pivot i < pivot k
  pub lines_zero : (i k : ℕ) → i < length lines → k < length lines → i ≢ k →
      cell (vector_at lines k) (pivot i) ≡ pos 0
  pub rays_zero : (i k : ℕ) → i < length lines → k < length rays →
      cell (vector_at rays k) (pivot i) ≡ pos 0

-- no ray is spanned by the lines and the other rays
abbrev pub IsIrredundant : (lines rays : List (List ℤ)) → Type 0
IsIrredundant lines rays = (i : ℕ) → i < length rays →
    ¬ (Spans lines (remove rays i) (vector_at rays i))

-- the lines and rays are the canonical system of the set, but for the order of the rays
pub record IsSystem (C : List ℤ → Type 0) (lines rays : List (List ℤ)) : Type 0 where
  pub generates : Generates C lines rays
  pub lineality : HasLineality C lines
  pub echelon : IsEchelon lines rays
  pub primitive_lines : All IsPrimitive lines
  pub primitive_rays : All IsPrimitive rays
  pub irredundant : IsIrredundant lines rays

-- the lines and rays are the canonical system of the set
pub record Canon (C : List ℤ → Type 0) (lines rays : List (List ℤ)) : Type 0 where
  pub system : IsSystem C lines rays
  pub sorted : AreSorted rays
