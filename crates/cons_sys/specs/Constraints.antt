use Rattle.std.specs.Prelude.{◌≡◌, ℕ, ◌+◌, ◌-◌, ◌^◌, ◌<◌, true, false, List, [], ◌∷◌, ◌++◌, length, ℤ, All, slice_index_or}
use Rattle.row_core.specs.Vectors.{dot}
use Rattle.row_core.specs.Range.{AllInRange}
use Rattle.row_core.specs.Content.{IsPrimitive, IsPrimitiveOf}
use Rattle.row_core.specs.Lists.{Row}
use Rattle.row_core.specs.Points.{IsSamePoint}
use Rattle.cons_sys.specs.Kinds.{Allows}
use Rattle.cons_sys.specs.declared.kind.ConKind.{ConKind}
use Rattle.cons_sys.specs.declared.kind.ConKind.TheVariants.{Eq, Ge}

-- the row `(a1, .., an, b)` and what is asked of `a1*x1 + .. + an*xn + b*d`
abbrev pub Constraint : Type 0
Constraint = List ℤ × ConKind

-- constraints over one dimension, in order
pub record Constraints : Type 0 where
  pub dim : ℕ
  pub list : List Constraint

-- constraint i
abbrev pub constraint_at : List Constraint → ℕ → Constraint
constraint_at list i = slice_index_or list i ([], Eq)

-- the row of constraint i
abbrev pub row_at : List Constraint → ℕ → List ℤ
row_at list i = (constraint_at list i).0

-- the kind of constraint i
abbrev pub kind_at : List Constraint → ℕ → ConKind
kind_at list i = (constraint_at list i).1

-- the row has a column for each variable and one more, its numbers are of the range, and it is
-- primitive
pub record IsConstraint (dim : ℕ) (c : Constraint) : Type 0 where
  pub wide : length c.0 ≡ dim + 1
  pub in_range : AllInRange c.0
  pub primitive : IsPrimitive c.0

-- each row fits the dimension, and a u32 names each column
pub record FitDimension (cs : Constraints) : Type 0 where
  pub each : All (IsConstraint cs.dim) cs.list
  pub narrow : cs.dim < 2 ^ 32 - 2

-- the list gained the row, made primitive, with its kind
pub record Gains (old new : List Constraint) (row : List ℤ) (kind : ConKind) : Type 0 where
  pub stored : List ℤ
  pub primitive : IsPrimitiveOf row stored
  pub list : new ≡ old ++ (stored, kind) ∷ []

-- the constraint of a row: that its value is 0 where it is marked as an equality, and else that it
-- is at least 0
abbrev pub constraint_of : Row → Constraint
constraint_of (row, true) = (row, Eq)
constraint_of (row, false) = (row, Ge)

-- the constraint holds at the vector
abbrev pub Satisfies : List ℤ → Constraint → Type 0
Satisfies v c = Allows c.1 (dot c.0 v)

-- each constraint holds at the vector
abbrev pub In : Constraints → List ℤ → Type 0
In cs v = All (Satisfies v) cs.list

-- constraints hold at both or at neither of two vectors of one point
abbrev pub HoldsOfPoints : Type 0
HoldsOfPoints = (cs : Constraints) (u v : List ℤ) → IsSamePoint u v → In cs u → In cs v
