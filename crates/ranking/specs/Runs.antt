use Rattle.std.specs.Prelude.{◌≡◌, ℕ, ◌+◌, ◌<◌, ◌≤◌, List, length, ℤ, pos, ◌+ℤ◌, ◌≤ℤ◌, ◌<ℤ◌}
use Rattle.std.proofs.Math.IntN.{◌*ℤ◌}
use Rattle.row_core.specs.Vectors.{cell}
use Rattle.row_core.specs.Points.{IsPoint, IsSamePoint}
use Rattle.cone_laws.specs.Canon.{vector_at}
use Rattle.cons_sys.specs.Constraints.{Constraints}
use Rattle.stored_systems.specs.PointSets.{IsWithin}
use Rattle.ranking.specs.Functions.{state_of, successor_of, value_at, IsRanking}

-- the relation leads from the one state to the other: they are the state and the successor
-- of some pair of it
pub record LeadsTo (n : ℕ) (relation : Constraints) (x y : List ℤ) : Type 0 where
  pub pair : List ℤ
  pub related : IsWithin relation pair
  pub source : IsSamePoint x (state_of n pair)
  pub target : IsSamePoint y (successor_of n pair)

-- a run that keeps to the relation: it leads from each of the states to the next one
abbrev pub IsRunOf : ℕ → Constraints → List (List ℤ) → Type 0
IsRunOf n relation states = (i : ℕ) → i + 1 < length states
    → LeadsTo n relation (vector_at states i) (vector_at states (i + 1))

-- the number is the fraction rounded down
pub record IsFloor (num den floor : ℤ) : Type 0 where
  pub least : (floor *ℤ den) ≤ℤ num
  pub next : num <ℤ ((floor +ℤ pos 1) *ℤ den)

-- the number is the value of the function at the state, rounded down
abbrev pub IsFloorOfValue : ℕ → List ℤ → List ℤ → ℤ → Type 0
IsFloorOfValue n f x floor = IsFloor (value_at n f x) (cell f (n + 1) *ℤ cell x n) floor

-- a run that takes a step takes at most as many as the first value of a ranking function, rounded
-- down, and one more
abbrev pub RankedRunsAreBounded : Type 0
RankedRunsAreBounded = (n : ℕ) (relation : Constraints) (f : List ℤ) (states : List (List ℤ))
    (steps : ℕ) (floor : ℤ) → relation.dim ≡ n + n → IsPoint (n + 1) f → IsRanking n relation f
    → IsRunOf n relation states → length states ≡ steps + 1 → 1 ≤ steps
    → IsFloorOfValue n f (vector_at states 0) floor → pos steps ≤ℤ (floor +ℤ pos 1)

-- a relation that has a ranking function has no infinite run
abbrev pub RankedRunsEnd : Type 0
RankedRunsEnd = (n : ℕ) (relation : Constraints) (f : List ℤ) (states : ℕ → List ℤ)
    → relation.dim ≡ n + n → IsPoint (n + 1) f → IsRanking n relation f
    → ¬ ((i : ℕ) → LeadsTo n relation (states i) (states (i + 1)))
