use Rattle.std.specs.Prelude.{◌≡◌, ◌≢◌, ◌⊎◌, ◌↔◌, ℕ, List, ℤ, slice_get, Some, All}
use Rattle.row_core.specs.Points.{IsPoint}
use Rattle.poly_pair.specs.Polyhedra.{Polyhedron, HasNoPoint, IsIncluded}
use Rattle.powerset.specs.Powersets.{FinitePowerset, IsKeptPowerset, IsInPowerset, IsPowersetOfOne}
use Rattle.powerset.specs.Covers.{Covers}
use Rattle.powerset.specs.Reductions.{IsReduced}
use Rattle.powerset.specs.Joins.{IsJoin, IsPairMeet}

-- ---- covers
-- both powersets have the same points
abbrev pub HaveSamePowersetPoints : FinitePowerset → FinitePowerset → Type 0
HaveSamePowersetPoints s t = (v : List ℤ) → IsPoint s.dim v
    → IsInPowerset s.members v ↔ IsInPowerset t.members v

-- each of two powersets covers the other exactly where both have the same points
abbrev pub CoveredBothWays : Type 0
CoveredBothWays = (s t : FinitePowerset) → s.dim ≡ t.dim
    → (Covers s t × Covers t s) ↔ HaveSamePowersetPoints s t

-- the powerset of one polyhedron covers that of another exactly where the one includes the other
abbrev pub CoversWhereIncluded : Type 0
CoversWhereIncluded = (p q : Polyhedron) (s t : FinitePowerset) → p.cons.dim ≡ q.cons.dim
    → IsPowersetOfOne p s → IsPowersetOfOne q t → Covers s t ↔ IsIncluded q p

-- ---- reductions
-- all members have the dimension
abbrev pub AreOfDimension : ℕ → List Polyhedron → Type 0
AreOfDimension dim members = All (λ (p : Polyhedron). p.cons.dim ≡ dim) members

-- what is left of a list has all its points
abbrev pub ReductionKeepsPoints : Type 0
ReductionKeepsPoints = (dim : ℕ) (members part : List Polyhedron) → AreOfDimension dim members
    → IsReduced members part → (v : List ℤ) → IsPoint dim v
    → IsInPowerset part v ↔ IsInPowerset members v

-- no member is empty, and none is included in another
pub record IsIrredundant (members : List Polyhedron) : Type 0 where
  pub inhabited : All (λ (p : Polyhedron). ¬ (HasNoPoint p)) members
  pub apart : (i k : ℕ) (p q : Polyhedron) → i ≢ k → slice_get members i ≡ Some p
      → slice_get members k ≡ Some q → ¬ (IsIncluded p q)

-- of what is left, nothing more can be left out
abbrev pub ReductionIsIrredundant : Type 0
ReductionIsIrredundant = (dim : ℕ) (members part : List Polyhedron) → AreOfDimension dim members
    → IsReduced members part → IsIrredundant part

-- ---- joins and meets
-- a join has exactly the points that are in the one or in the other
abbrev pub JoinIsUnion : Type 0
JoinIsUnion = (s t u : FinitePowerset) → IsKeptPowerset s → IsKeptPowerset t → s.dim ≡ t.dim
    → IsJoin s t u → (v : List ℤ) → IsPoint s.dim v
    → IsInPowerset u.members v ↔ (IsInPowerset s.members v ⊎ IsInPowerset t.members v)

-- a meet has exactly the points that are in both
abbrev pub PairMeetIsIntersection : Type 0
PairMeetIsIntersection = (s t u : FinitePowerset) → IsKeptPowerset s → IsKeptPowerset t
    → s.dim ≡ t.dim → IsPairMeet s t u → (v : List ℤ) → IsPoint s.dim v
    → IsInPowerset u.members v ↔ (IsInPowerset s.members v × IsInPowerset t.members v)
