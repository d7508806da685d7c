-- Shapes: sets of the points at which variables, and differences of two, have bounds.
use Rattle.std.specs.Prelude.{◌≡◌, ◌≤◌, ℕ, List, ℤ, pos, ◌*ℤ◌, ◌-ℤ◌, ◌≤ℤ◌, ◌<ℤ◌, ◌⊎◌, false}
use Rattle.row_core.specs.Vectors.{cell}
use Rattle.stored_systems.specs.PointSets.{IsWithin}
use Rattle.bd_shape.specs.Shapes.{place_value}
use Rattle.script_text.specs.declared.command.Operator.TheVariants as operator
use Rattle.script_text.specs.declared.command.ShapeOperator.{ShapeOperator}
use Rattle.script_text.specs.declared.command.ShapeOperator.TheVariants.{Meet, Hull}
use Rattle.soundness.specs.Points.{PointSet, IsSetOf, AreAlike}
use Rattle.soundness.specs.Sets.{IsOfConstraints, IsOfTwo}

-- at the point the value of one place, less that of another, is at most num / den
abbrev pub HasBound : ℕ → ℕ → ℕ → ℤ → ℤ → List ℤ → Type 0
HasBound dim i j num den v = (den *ℤ (place_value v i -ℤ place_value v j)) ≤ℤ (num *ℤ cell v dim)

-- the point is in each shape that includes all points with the property: each bound that holds at
-- all of these holds at it. One bound alone makes a shape too
abbrev pub IsInSmallestShape : ℕ → (List ℤ → Type 0) → List ℤ → Type 0
IsInSmallestShape dim Has v = (i j : ℕ) (num den : ℤ) → i ≤ dim → j ≤ dim → pos 0 <ℤ den →
    ((u : List ℤ) → Has u → HasBound dim i j num den u) → HasBound dim i j num den v

-- the shape of the bounds of the text: its points are those at which these hold
abbrev pub IsOfBounds : ℕ → List ℕ → PointSet → Type 0
IsOfBounds dim text s = IsOfConstraints false dim text s
    × IsSetOf false dim (IsInSmallestShape dim (IsWithin s.cons)) s

-- the smallest shape that includes the closed set
pub record IsSmallestShape (p s : PointSet) : Type 0 where
  pub closed : p.nnc ≡ false
  pub set : IsSetOf false p.cons.dim (IsInSmallestShape p.cons.dim (IsWithin p.cons)) s

-- the points of both, or the smallest shape that includes both
abbrev pub IsOfTwoShapes : ShapeOperator → PointSet → PointSet → PointSet → Type 0
IsOfTwoShapes Meet s t r = IsOfTwo operator.Meet s t r
IsOfTwoShapes Hull s t r = AreAlike s t × IsSetOf false s.cons.dim
    (IsInSmallestShape s.cons.dim (λ v. IsWithin s.cons v ⊎ IsWithin t.cons v)) r
