use Rattle.std.specs.Prelude.{◌≡◌, ℕ, ◌<◌, List, length, slice_get, Option, Some, None, All}
use Rattle.poly_pair.specs.Polyhedra.{Polyhedron, IsIncluded}
use Rattle.poly_pair.specs.ClosedPolyhedra.{IsClosedOver}
use Rattle.widening.specs.WideningLaws.{IsEnlarged}
use Rattle.widening.specs.Runs.{RunTable, TurnList, IsNoMove}

-- a closed polyhedron of so many variables for each place
pub record AreSetsOf (dim places : ℕ) (sets : List Polyhedron) : Type 0 where
  pub as_many : length sets ≡ places
  pub each : All (IsClosedOver dim) sets

-- and a remaining delay
pub record IsTableOf (turns : TurnList) (t : RunTable) : Type 0 where
  pub sets : AreSetsOf turns.dim turns.places t.sets
  pub left : length t.left ≡ turns.places

-- a closed polyhedron of so many variables that includes the other
pub record IsAbove (dim : ℕ) (old joined : Polyhedron) : Type 0 where
  pub closed : IsClosedOver dim joined
  pub includes : IsIncluded old joined

-- each turn has one of the places, and joins a closed set that includes that of its place; that may
-- be found without a combination
pub record AreProper (turns : TurnList) : Type 0 where
  pub place : (k : ℕ) → k < turns.count → turns.place k < turns.places
  pub above : (k : ℕ) (sets : List Polyhedron) (old joined : Polyhedron) → k < turns.count
      → AreSetsOf turns.dim turns.places sets → slice_get sets (turns.place k) ≡ Some old
      → turns.Joins k sets joined → IsAbove turns.dim old joined
  pub free : (k : ℕ) (sets : List Polyhedron) (n : ℕ) → k < turns.count
      → AreSetsOf turns.dim turns.places sets → turns.Counts k sets n n None

-- beside the set of its place a turn reads that of its source alone: where the source has the same
-- set, and the set of the place has all of what the turn joined, that set is what it joins
abbrev pub ReadsFrom : TurnList → ℕ → ℕ → Type 0
ReadsFrom turns k source = (sets others : List Polyhedron) (joined set : Polyhedron)
    → AreSetsOf turns.dim turns.places sets → AreSetsOf turns.dim turns.places others
    → slice_get others source ≡ slice_get sets source → turns.Joins k sets joined
    → slice_get others (turns.place k) ≡ Some set → IsIncluded joined set
    → turns.Joins k others set

-- ---- what a turn finds
-- a larger set is joined
pub record IsLarger (Joins : Polyhedron → Type 0) (old joined : Polyhedron) : Type 0 where
  pub is_joined : Joins joined
  pub enlarged : IsEnlarged old joined

-- the larger set that a turn joins, or none where it has the same points
abbrev pub IsFound : (Polyhedron → Type 0) → Polyhedron → Option Polyhedron → Type 0
IsFound Joins old None = IsNoMove Joins old
IsFound Joins old (Some joined) = IsLarger Joins old joined

-- ---- what a limit includes
-- the set of each place includes the one that it began with
abbrev pub IncludeEach : List Polyhedron → List Polyhedron → Type 0
IncludeEach initial sets = (i : ℕ) (p q : Polyhedron) → slice_get initial i ≡ Some p
    → slice_get sets i ≡ Some q → IsIncluded p q

-- what the turn joins is in the set of its place
pub record IsTaken (turns : TurnList) (k : ℕ) (sets : List Polyhedron) : Type 0 where
  pub set : Polyhedron
  pub has_set : slice_get sets (turns.place k) ≡ Some set
  pub joined : Polyhedron
  pub is_joined : turns.Joins k sets joined
  pub within : IsIncluded joined set

abbrev pub AreTaken : TurnList → List Polyhedron → Type 0
AreTaken turns sets = (k : ℕ) → k < turns.count → IsTaken turns k sets

-- ---- one limit
-- each turn joins one set where these are the sets
abbrev pub JoinOne : TurnList → Type 0
JoinOne turns = (k : ℕ) (sets : List Polyhedron) (one other : Polyhedron) → k < turns.count
    → AreSetsOf turns.dim turns.places sets → turns.Joins k sets one → turns.Joins k sets other
    → one ≡ other
