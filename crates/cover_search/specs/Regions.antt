use Rattle.std.specs.Prelude.{◌≡◌, ◌⊎◌, ◌+◌, List, [], ◌∷◌, ◌++◌, map, length, Bool, true, ℤ, pos, ◌≤ℤ◌, ◌<ℤ◌, ◌+ℤ◌}
use Rattle.row_core.specs.Content.{IsPrimitive}
use Rattle.row_core.specs.Points.{IsPoint}
use Rattle.row_core.specs.Lists.{Rows, vectors}
use Rattle.row_core.specs.declared.errors.Overflow.{Overflow}
use Rattle.sat_matrix.specs.ZeroTables.{IsZeroTable}
use Rattle.cone_laws.specs.Members.{ConeOf}
use Rattle.cone_laws.specs.Canon.{Canon}
use Rattle.cone_laws.specs.Leaves.{Leaves}
use Rattle.row_core.specs.MarkedLists.{AreLists}
use Rattle.chernikova.specs.declared.cone.Cone.{Cone}
use Rattle.cons_sys.specs.Constraints.{Constraint, Constraints, Satisfies, In}
use Rattle.nnc_enc.specs.Encoding.{encoded_constraint, encoded_constraints}

-- ---- lists
-- the conversion of the encoded list of the constraints leaves the range
abbrev pub LeavesOnList : Constraints → Overflow → Type 0
LeavesOnList cs over = Leaves (cs.dim + 2) (encoded_constraints cs) over

-- the constraints and then one more
abbrev pub with_one : Constraints → Constraint → Constraints
with_one cs c = record { dim = cs.dim; list = cs.list ++ c ∷ [] }

-- ---- points
-- a primitive point at which the constraints hold
pub record IsPointIn (cs : Constraints) (v : List ℤ) : Type 0 where
  pub point : IsPoint cs.dim v
  pub primitive : IsPrimitive v
  pub holds : In cs v

-- ---- systems
-- the canonical system of the encoded list of the constraints, with its table
pub record HasCone (cs : Constraints) (cone : Cone) : Type 0 where
  pub canon : Canon (ConeOf (cs.dim + 2) (encoded_constraints cs)) (vectors cone.lines.rows)
      (vectors cone.rays.rows)
  pub lists : AreLists (cs.dim + 2) cone.lines cone.rays
  pub zeros : IsZeroTable (encoded_constraints cs) (length (encoded_constraints cs))
      (vectors cone.rays.rows) cone.sat

-- the rows encode the constraints
pub record HasRows (cs : Constraints) (encoded : Rows) : Type 0 where
  pub width : encoded.width ≡ cs.dim + 2
  pub rows : encoded.rows ≡ map (encoded_constraint cs.dim) cs.list

-- the encoded list of the constraints, and its canonical system
pub record HasListAndCone (cs : Constraints) (list : Rows) (cone : Cone) : Type 0 where
  pub width : list.width ≡ cs.dim + 2
  pub rows : list.rows ≡ encoded_constraints cs
  pub canonical : HasCone cs cone

-- ---- inclusion
-- each point at which the first constraints hold is one at which the others do
abbrev pub LiesIn : Constraints → Constraints → Type 0
LiesIn cs ds = (v : List ℤ) → IsPoint cs.dim v → In cs v → In ds v

-- the constraint holds at each point at which the system does
abbrev pub HoldsOn : Constraints → Constraint → Type 0
HoldsOn cs c = (v : List ℤ) → IsPoint cs.dim v → In cs v → Satisfies v c

-- the value of the row of an inequality on a vector of this height is at least 0 or, of a strict
-- one, above 0 without the height
abbrev pub IsKept : Bool → ℤ → ℤ → Type 0
IsKept strict value height = (pos 0 ≤ℤ value) ⊎ ((strict ≡ true) × (pos 0 <ℤ (value +ℤ height)))
