use Rattle.std.specs.Prelude.{◌≡◌, ℕ, zero, suc, ◌+◌, ◌<◌, ◌⊎◌, List, [], ◌∷◌, length, map, false, ℤ, pos, ◌<ℤ◌, All}
use Rattle.row_core.specs.Vectors.{cell}
use Rattle.row_core.specs.Lists.{Row, system_rows}
use Rattle.row_core.specs.declared.errors.Overflow.{Overflow}
use Rattle.cone_laws.specs.Canon.{vector_at, Canon}
use Rattle.cone_laws.specs.Leaves.{Leaves}
use Rattle.cons_sys.specs.Kinds.{is_equality}
use Rattle.cons_sys.specs.Constraints.{Constraint, Constraints}
use Rattle.gens_sys.specs.Kinds.{is_line}
use Rattle.gens_sys.specs.Generators.{Generator, Generators}
use Rattle.cone_laws.specs.Members.{ConeOf}

-- ---- first lists
-- the row `(0, .., 0, 1)`: the divisor is at least 0
abbrev pub divisor_row : ℕ → List ℤ
divisor_row zero = pos 1 ∷ []
divisor_row (suc dim) = pos 0 ∷ divisor_row dim

abbrev pub constraint_row : Constraint → Row
constraint_row c = (c.0, is_equality c.1)

abbrev pub generator_row : Generator → Row
generator_row g = (g.0, is_line g.1)

-- the constraint list of a closed system: the row of the divisor, and then the constraints
abbrev pub constraint_list : Constraints → List Row
constraint_list cs = (divisor_row cs.dim, false) ∷ map constraint_row cs.list

-- the generator list of a closed system
abbrev pub generator_list : Generators → List Row
generator_list gs = map generator_row gs.list

-- ---- second lists
-- some ray is positive at the column
pub record HasPoint (column : ℕ) (rays : List (List ℤ)) : Type 0 where
  pub index : ℕ
  pub below : index < length rays
  pub positive : pos 0 <ℤ cell (vector_at rays index) column

-- no ray is positive at the column
abbrev pub HaveNoPoint : ℕ → List (List ℤ) → Type 0
HaveNoPoint column rays = All (λ r. ¬ (pos 0 <ℤ cell r column)) rays

-- the second list of a list is its canonical system as rows, where some ray of this is positive at
-- the column: that of the empty set isn't converted again
pub record IsSecondList (width column : ℕ) (list second : List Row) : Type 0 where
  pub lines : List (List ℤ)
  pub rays : List (List ℤ)
  pub canon : Canon (ConeOf width list) lines rays
  pub point : HasPoint column rays
  pub rows : second ≡ system_rows lines rays

-- the overflow shows a number outside the range in the conversion of the second list
pub record LeavesOnSecond (width column : ℕ) (list : List Row) (over : Overflow) : Type 0 where
  pub second : List Row
  pub is_second : IsSecondList width column list second
  pub leaves : Leaves width second over

-- in that of a list, or of its second list
abbrev pub LeavesOn : ℕ → ℕ → List Row → Overflow → Type 0
LeavesOn width column list over = Leaves width list over ⊎ LeavesOnSecond width column list over

-- of a list of a closed system
abbrev pub LeavesOnClosed : ℕ → List Row → Overflow → Type 0
LeavesOnClosed dim list over = LeavesOn (dim + 1) dim list over
