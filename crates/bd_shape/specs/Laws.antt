-- Laws of shapes.
use Rattle.std.specs.Prelude.{◌≡◌, ◌↔◌, ℕ, ◌+◌, ◌<◌, List, ℤ, ◌-ℤ◌, ◌≤ℤ◌, Some, None}
use Rattle.std.proofs.Math.IntN.{◌*ℤ◌}
use Rattle.row_core.specs.Vectors.{cell}
use Rattle.stored_systems.specs.PointSets.{IsWithin as IsWithinAll}
use Rattle.poly_pair.specs.Polyhedra.{Polyhedron}
use Rattle.difference_bounds.specs.declared.fraction.Fraction.{Fraction}
use Rattle.difference_bounds.specs.Walks.{Bound}
use Rattle.difference_bounds.specs.Values.{IsWithin}
use Rattle.difference_bounds.specs.Tables.{Table, bounds_of}
use Rattle.bd_shape.specs.Shapes.{DifferenceShape, IsIn, IsShape, place_value, values_at}
use Rattle.bd_shape.specs.Suprema.{IsSmallest}

-- the value of place i less that of place j is at most the fraction at each point, and
-- equals it at one
pub record IsGreatest (s : DifferenceShape) (i j : ℕ) (f : Fraction) : Type 0 where
  pub bound : (p : List ℤ) → IsIn s p → IsWithin (values_at s.dim p) i j f
  pub point : List ℤ
  pub inside : IsIn s point
  pub reached : f.den *ℤ (place_value point i -ℤ place_value point j) ≡ f.num *ℤ cell point s.dim

-- a point at which it is at least the number
pub record IsReachedBy (s : DifferenceShape) (i j : ℕ) (x : ℤ) : Type 0 where
  pub point : List ℤ
  pub inside : IsIn s point
  pub more : (x *ℤ cell point s.dim) ≤ℤ (place_value point i -ℤ place_value point j)

-- the bound is the greatest difference of two places on the set, or none where the
-- differences have no bound
abbrev pub IsGreatestAt : DifferenceShape → ℕ → ℕ → Bound → Type 0
IsGreatestAt s i j None = (x : ℤ) → IsReachedBy s i j x
IsGreatestAt s i j (Some f) = IsGreatest s i j f

-- so is each bound of a shape that has points
abbrev pub BoundsAreGreatest : Type 0
BoundsAreGreatest = (s : DifferenceShape) (t : Table) → IsShape s → s.bounds ≡ Some t
    → (i j : ℕ) → i < s.dim + 1 → j < s.dim + 1 → IsGreatestAt s i j (bounds_of t i j)

-- a shape has no bounds exactly where it has no point
abbrev pub EmptyWithoutPoints : Type 0
EmptyWithoutPoints = (s : DifferenceShape) → IsShape s
    → (s.bounds ≡ None) ↔ ((p : List ℤ) → ¬ (IsIn s p))

-- two shapes of one dimension with the same points are the same
abbrev pub HasOneShape : Type 0
HasOneShape = (s r : DifferenceShape) → IsShape s → IsShape r → r.dim ≡ s.dim
    → ((p : List ℤ) → IsIn r p ↔ IsIn s p) → r ≡ s

-- the polyhedron has the shape's points
abbrev pub HasPointsOf : Polyhedron → DifferenceShape → Type 0
HasPointsOf p s = (q : List ℤ) → IsWithinAll p.cons q ↔ IsIn s q

-- the smallest shape that includes the polyhedron of a shape is that shape
abbrev pub ReturnsShape : Type 0
ReturnsShape = (s r : DifferenceShape) (p : Polyhedron) → IsShape s → IsShape r → p.cons.dim ≡ s.dim
    → r.dim ≡ p.cons.dim → HasPointsOf p s → IsSmallest p r → r ≡ s

-- the polyhedron of the smallest shape that includes a polyhedron includes it
abbrev pub IncludesPolyhedron : Type 0
IncludesPolyhedron = (p q : Polyhedron) (s : DifferenceShape) → IsSmallest p s → HasPointsOf q s
    → (v : List ℤ) → IsWithinAll p.cons v → IsWithinAll q.cons v
