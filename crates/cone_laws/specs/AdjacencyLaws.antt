use Rattle.std.specs.Prelude.{◌≡◌, ◌≢◌, ℕ, ◌+◌, ◌<◌, ◌≤◌, ◌↔◌, List, [], ◌∷◌, length, ℤ, pos, All, Contains}
use Rattle.row_core.specs.Vectors.{cell, dot}
use Rattle.row_core.specs.Lists.{Row, row_at, vector_at}
use Rattle.cone_laws.specs.Cones.{Upto, Spans, Generates, HasLineality}
use Rattle.cone_laws.specs.Canon.{IsIrredundant}
use Rattle.cone_laws.specs.Steps.{IsRowAt, NoThird, IsRayStep, IsLineStep}

-- the vector is 0 on each of the first k rows on which both rays are 0
abbrev pub IsOnFace : List Row → ℕ → List ℤ → List ℤ → List ℤ → Type 0
IsOnFace rows k p n v = (m : ℕ) → m < k →
    dot (row_at rows m) p ≡ pos 0 →
    dot (row_at rows m) n ≡ pos 0 →
    dot (row_at rows m) v ≡ pos 0

-- two rays are adjacent: the lines and these two span each vector of the cone that is 0
-- on each of the first k rows on which both are 0
abbrev pub AreAdjacent : ℕ → List Row → ℕ → List (List ℤ) → List ℤ → List ℤ → Type 0
AreAdjacent width rows k lines p n = (v : List ℤ) →
    Upto width rows k v →
    IsOnFace rows k p n v →
    Spans lines (p ∷ n ∷ []) v

-- in a system without a ray to spare, two rays are adjacent exactly where no third ray
-- is 0 on all rows on which both are
abbrev pub FaceLaw : Type 0
FaceLaw = (width : ℕ) (rows : List Row) (k : ℕ) (lines rays : List (List ℤ)) (p n : ℕ) →
    Generates (Upto width rows k) lines rays →
    IsIrredundant lines rays →
    p < length rays →
    n < length rays →
    AreAdjacent width rows k lines (vector_at rays p) (vector_at rays n) ↔ NoThird rows k rays p n

-- the lines and rays generate the set, the lines span its lineality, and no ray is to spare
pub record IsMinimal (C : List ℤ → Type 0) (lines rays : List (List ℤ)) : Type 0 where
  pub generates : Generates C lines rays
  pub lineality : HasLineality C lines
  pub irredundant : IsIrredundant lines rays

-- a step that combines adjacent rays alone makes a minimal system of the cone of one row
-- more from one of the cone before
abbrev pub RayStepIsMinimal : Type 0
RayStepIsMinimal = (width : ℕ) (rows : List Row) (k : ℕ) (row : Row)
    (lines rays new : List (List ℤ)) →
    IsRowAt rows k row →
    IsMinimal (Upto width rows k) lines rays →
    All (λ l. dot row.0 l ≡ pos 0) lines →
    IsRayStep rows k row rays new →
    IsMinimal (Upto width rows (k + 1)) lines new

-- a step with a line that crosses the row leaves no ray to spare where none was
abbrev pub LineStepIsIrredundant : Type 0
LineStepIsIrredundant = (row : Row) (lines rays new_lines new_rays : List (List ℤ)) →
    IsIrredundant lines rays →
    IsLineStep row lines rays new_lines new_rays →
    IsIrredundant new_lines new_rays

-- where there is no ray, none is to spare
abbrev pub NoRayIsIrredundant : Type 0
NoRayIsIrredundant = (lines : List (List ℤ)) → IsIrredundant lines []

-- where no ray is to spare, no ray is 0
abbrev pub RaysAreNotZero : Type 0
RaysAreNotZero = (lines rays : List (List ℤ)) (i : ℕ) →
    IsIrredundant lines rays →
    i < length rays →
    ¬ ((j : ℕ) → cell (vector_at rays i) j ≡ pos 0)

-- row m is 0 on the first vector and not on the second,
-- and each other of the first k rows that is 0 on the first is 0 on the second
pub record IsOneMore (rows : List Row) (k : ℕ) (p n : List ℤ) (m : ℕ) : Type 0 where
  pub below : m < k
  pub is_zero : dot (row_at rows m) p ≡ pos 0
  pub not_zero : dot (row_at rows m) n ≢ pos 0
  pub others : (i : ℕ) → i < k → i ≢ m →
      dot (row_at rows i) p ≡ pos 0 →
      dot (row_at rows i) n ≡ pos 0

-- where one of two rays is 0 on just one row more than on those on which both are,
-- no third ray stands between them
abbrev pub OneMoreLaw : Type 0
OneMoreLaw = (width : ℕ) (rows : List Row) (k : ℕ) (lines rays : List (List ℤ)) (p n m : ℕ) →
    k ≤ length rows →
    IsMinimal (Upto width rows k) lines rays →
    p < length rays →
    n < length rays →
    IsOneMore rows k (vector_at rays p) (vector_at rays n) m →
    NoThird rows k rays p n

-- the list holds each of the first k rows on which both vectors are 0
abbrev pub HoldsCommonRows : List Row → ℕ → List ℤ → List ℤ → List (List ℤ) → Type 0
HoldsCommonRows rows k first second common = (m : ℕ) → m < k →
    dot (row_at rows m) first ≡ pos 0 →
    dot (row_at rows m) second ≡ pos 0 →
    Contains common (row_at rows m)

-- where a list holds each of the first k rows on which two rays both are 0, and the list,
-- the lines and the two are fewer than the columns, a third ray stands between the two
abbrev pub TooFewLaw : Type 0
TooFewLaw = (width : ℕ) (rows : List Row) (k : ℕ) (lines rays : List (List ℤ)) (p n : ℕ)
    (common : List (List ℤ)) →
    k ≤ length rows →
    IsMinimal (Upto width rows k) lines rays →
    p < length rays →
    n < length rays →
    HoldsCommonRows rows k (vector_at rays p) (vector_at rays n) common →
    length common + length lines + 2 < width →
    ¬ (NoThird rows k rays p n)
