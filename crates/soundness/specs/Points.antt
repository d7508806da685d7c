-- Sets of points. A point of n variables is a vector of n + 1 integers `(x1, .., xn, d)` with a
-- positive d, and stands for `(x1/d, .., xn/d)`.
use Rattle.std.specs.Prelude.{◌≡◌, ◌≢◌, ◌↔◌, ◌+◌, ◌^◌, ◌≤◌, ℕ, List, length, ℤ, Bool, false, All}
use Rattle.row_core.specs.Points.{IsPoint}
use Rattle.cons_sys.specs.declared.kind.ConKind.TheVariants.{Gt}
use Rattle.cons_sys.specs.Constraints.{Constraint, Constraints, In, Satisfies}
use Rattle.stored_systems.specs.PointSets.{IsWithin}

-- a set of points: whether it needn't be closed (`nnc`), and constraints, over its variables, that
-- hold at its points and at no others
pub record PointSet : Type 0 where
  pub nnc : Bool
  pub cons : Constraints

-- ---- constraints of a kind
-- a constraint over so many variables, which isn't strict if it is to be one of a closed set
pub record IsConstraintFor (nnc : Bool) (dim : ℕ) (c : Constraint) : Type 0 where
  pub wide : length c.0 ≡ dim + 1
  pub kind : nnc ≡ false → c.1 ≢ Gt

-- none of the constraints is strict if they are to be those of a closed set
abbrev pub LackStrict : Bool → List Constraint → Type 0
LackStrict nnc list = nnc ≡ false → All (λ (c : Constraint). c.1 ≢ Gt) list

-- the set is of the kind, has that many variables, at most 2^32, and only constraints that such a
-- set may have
pub record IsOver (nnc : Bool) (dim : ℕ) (s : PointSet) : Type 0 where
  pub kind : s.nnc ≡ nnc
  pub variables : s.cons.dim ≡ dim
  pub narrow : dim ≤ 2 ^ 32
  pub rows : All (IsConstraintFor nnc dim) s.cons.list

-- it is such a set, and its points are those that have the property
pub record IsSetOf (nnc : Bool) (dim : ℕ) (Has : List ℤ → Type 0) (s : PointSet) : Type 0 where
  pub over : IsOver nnc dim s
  pub points : (v : List ℤ) → IsPoint dim v → In s.cons v ↔ Has v

-- ---- how two sets lie
-- both are closed, or neither need be, and both have the same variables
pub record AreAlike (s t : PointSet) : Type 0 where
  pub kind : s.nnc ≡ t.nnc
  pub variables : s.cons.dim ≡ t.cons.dim

-- no point is in the set
abbrev pub HasNoPoint : PointSet → Type 0
HasNoPoint s = (v : List ℤ) → ¬ (IsWithin s.cons v)

-- each point of the second is in the first
abbrev pub Includes : PointSet → PointSet → Type 0
Includes s t = (v : List ℤ) → IsPoint s.cons.dim v → In t.cons v → In s.cons v

-- both have the same points
abbrev pub HaveSamePoints : PointSet → PointSet → Type 0
HaveSamePoints s t = (v : List ℤ) → IsPoint s.cons.dim v → In s.cons v ↔ In t.cons v

-- no point is in both
abbrev pub AreDisjoint : PointSet → PointSet → Type 0
AreDisjoint s t = (v : List ℤ) → IsPoint s.cons.dim v → ¬ (In s.cons v × In t.cons v)

-- ---- the smallest set
-- the point is in each polyhedron of the kind that includes all points with the property: each
-- constraint that holds at all of these holds at it. That is the same, for a polyhedron is the set
-- of the points at which some constraints hold, and one constraint alone makes such a set too
abbrev pub IsInSmallest : Bool → ℕ → (List ℤ → Type 0) → List ℤ → Type 0
IsInSmallest nnc dim Has v = (c : Constraint) → IsConstraintFor nnc dim c →
    ((u : List ℤ) → Has u → Satisfies u c) → Satisfies v c
