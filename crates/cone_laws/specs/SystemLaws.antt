use Rattle.std.specs.Prelude.{◌≡◌, ◌≢◌, ℕ, ◌+◌, ◌<◌, ◌≤◌, List, [], length, count_by, ℤ, pos, Contains}
use Rattle.row_core.specs.Vectors.{dot}
use Rattle.row_core.specs.Lists.{Row, vector_at}
use Rattle.cone_laws.specs.Cones.{Upto}
use Rattle.cone_laws.specs.Canon.{IsSystem}
use Rattle.cone_laws.specs.Steps.{IsRowAt, AreUnits, IsCrossing, IsLineStep, IsRayStep}
use Rattle.row_core.specs.Pairs.{pair_at}
use Rattle.row_core.specs.Signs.{stays}

-- the unit vectors as lines, without a ray, are the system of no row
abbrev pub StartIsSystem : Type 0
StartIsSystem = (width : ℕ) (rows : List Row) (lines : List (List ℤ)) →
    AreUnits width lines →
    IsSystem (Upto width rows 0) lines []

-- a step with a line that crosses the row leads to the system of one row more
abbrev pub LineStepKeepsSystem : Type 0
LineStepKeepsSystem = (width : ℕ) (rows : List Row) (k : ℕ) (row : Row)
    (lines rays new_lines new_rays : List (List ℤ)) →
    IsRowAt rows k row →
    IsSystem (Upto width rows k) lines rays →
    IsLineStep row lines rays new_lines new_rays →
    IsSystem (Upto width rows (k + 1)) new_lines new_rays

-- where the row is 0 on all lines, a step with the adjacent rays on its two sides
-- leads to the system of one row more
abbrev pub RayStepKeepsSystem : Type 0
RayStepKeepsSystem = (width : ℕ) (rows : List Row) (k : ℕ) (row : Row)
    (lines rays new : List (List ℤ)) →
    IsRowAt rows k row →
    ((i : ℕ) → i < length lines → dot row.0 (vector_at lines i) ≡ pos 0) →
    IsSystem (Upto width rows k) lines rays →
    IsRayStep rows k row rays new →
    IsSystem (Upto width rows (k + 1)) lines new

-- the first k rows have a system
pub record HasSystem (width : ℕ) (rows : List Row) (k : ℕ) : Type 0 where
  pub lines : List (List ℤ)
  pub rays : List (List ℤ)
  pub system : IsSystem (Upto width rows k) lines rays

-- the first rows of each list, however many, have a system
abbrev pub EveryPrefixHasASystem : Type 0
EveryPrefixHasASystem = (width : ℕ) (rows : List Row) (k : ℕ) →
    k ≤ length rows →
    HasSystem width rows k

-- the first k rows have a system with at least as many lines and rays as the number
pub record HasSystemOf (width : ℕ) (rows : List Row) (k : ℕ) (number : ℕ) : Type 0 where
  pub lines : List (List ℤ)
  pub rays : List (List ℤ)
  pub system : IsSystem (Upto width rows k) lines rays
  pub bound : number ≤ length lines + length rays

-- the pairs are those that cross at the step with row k, each once
pub record AreAllCrossings (rows : List Row) (k : ℕ) (a : List ℤ) (rays : List (List ℤ))
    (pairs : List (ℕ × ℕ)) : Type 0 where
  pub cross : (i : ℕ) → i < length pairs →
      IsCrossing rows k a rays (pair_at pairs i).0 (pair_at pairs i).1
  pub all : (p n : ℕ) → IsCrossing rows k a rays p n → Contains pairs (p, n)
  pub distinct : (i j : ℕ) → i < length pairs → j < length pairs → i ≢ j →
      pair_at pairs i ≢ pair_at pairs j

-- where the row isn't 0 on some line, the system of one row more has at least as many lines
-- and rays as there were, but for one
abbrev pub LineStepCount : Type 0
LineStepCount = (width : ℕ) (rows : List Row) (k : ℕ) (row : Row) (lines rays : List (List ℤ))
    (index number : ℕ) →
    IsRowAt rows k row →
    IsSystem (Upto width rows k) lines rays →
    index < length lines →
    dot row.0 (vector_at lines index) ≢ pos 0 →
    number + 1 ≤ length lines + length rays →
    HasSystemOf width rows (k + 1) number

-- where the row is 0 on all lines,
-- the system of one row more has at least as many lines and rays as there are lines,
-- rays on which the row stays at its side, and pairs of adjacent rays on its two sides
abbrev pub RayStepCount : Type 0
RayStepCount = (width : ℕ) (rows : List Row) (k : ℕ) (row : Row) (lines rays : List (List ℤ))
    (pairs : List (ℕ × ℕ)) (number : ℕ) →
    IsRowAt rows k row →
    IsSystem (Upto width rows k) lines rays →
    ((i : ℕ) → i < length lines → dot row.0 (vector_at lines i) ≡ pos 0) →
    AreAllCrossings rows k row.0 rays pairs →
    number ≤ length lines + count_by (λ r. stays row.1 (dot row.0 r)) rays + length pairs →
    HasSystemOf width rows (k + 1) number
