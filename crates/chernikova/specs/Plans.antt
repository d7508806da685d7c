use Rattle.std.specs.Prelude.{◌≡◌, ℕ, ◌+◌, ◌-◌, ◌<◌, ⊤, Bool, true, false, List, ◌++◌, length, map, replicate, count_by, All, ℤ, pos}
use Rattle.row_core.specs.Vectors.{dot}
use Rattle.row_core.specs.Range.{InRange}
use Rattle.row_core.specs.Lists.{Row, row_at, is_eq_at, vectors, vector_at}
use Rattle.cone_laws.specs.Steps.{IsLastCrossing}
use Rattle.row_core.specs.Signs.{stays}
use Rattle.row_store.specs.Values.{values_on, AllStay, SomeGoes}
use Rattle.sat_matrix.specs.Pairs.{AreAllCrosses}
use Rattle.chernikova.specs.declared.system.System.{System}
use Rattle.chernikova.specs.declared.scratch.Scratch.{Scratch}
use Rattle.chernikova.specs.declared.plan.Position.{Position}
use Rattle.chernikova.specs.declared.plan.Position.TheVariants as position
use Rattle.chernikova.specs.declared.plan.Plan.{Plan}
use Rattle.chernikova.specs.declared.plan.Plan.TheVariants as plan

-- what a step lists: the values of the lines and of the rays on its row, the marks and the pairs
pub record StepLists : Type 0 where
  pub line_values : List ℤ
  pub ray_values : List ℤ
  pub marks : List Bool
  pub pairs : List (ℕ × ℕ)

-- those that a scratch keeps
abbrev pub lists_of : Scratch → StepLists
lists_of scratch = record {
  line_values = scratch.line_values.items;
  ray_values = scratch.ray_values.items;
  marks = scratch.marks.items;
  pairs = scratch.pair_lists.pairs.items;
}

-- the last line on which a row isn't 0, and the values of the lines and of the rays
pub record IsLinePlan (row : Row) (cone : System) (lists : StepLists) (index : ℕ)
    : Type 0 where
  pub crossing : IsLastCrossing row.0 (vectors cone.lines.rows) index
  pub are_line_values : lists.line_values ≡ values_on row.0 (vectors cone.lines.rows)
  pub are_ray_values : lists.ray_values ≡ values_on row.0 (vectors cone.rays.rows)
  pub lines_in_range : All InRange lists.line_values
  pub rays_in_range : All InRange lists.ray_values

-- a row is 0 on all lines
abbrev pub IsZeroOnAll : Row → List (List ℤ) → Type 0
IsZeroOnAll row lines = (i : ℕ) → i < length lines → dot row.0 (vector_at lines i) ≡ pos 0

-- a row that is 0 on all lines, and the values of the rays
pub record IsFlat (row : Row) (cone : System) (values : List ℤ) : Type 0 where
  pub flat : IsZeroOnAll row (vectors cone.lines.rows)
  pub are_values : values ≡ values_on row.0 (vectors cone.rays.rows)
  pub in_range : All InRange values

-- such a row that each ray meets
abbrev pub IsMet : Row → System → List ℤ → Type 0
IsMet row cone values = IsFlat row cone values × AllStay row.1 values

-- such a row that some ray doesn't meet
abbrev pub IsCutting : Row → System → List ℤ → Type 0
IsCutting row cone values = IsFlat row cone values × SomeGoes row.1 values

-- how row k lies to a system
abbrev pub IsPosition : List Row → ℕ → System → StepLists → Position → Type 0
IsPosition rows k cone lists (position.Crossing index) =
    IsLinePlan (row_at rows k, is_eq_at rows k) cone lists index
IsPosition rows k cone lists position.Met =
    IsMet (row_at rows k, is_eq_at rows k) cone lists.ray_values
IsPosition rows k cone lists position.Cutting =
    IsCutting (row_at rows k, is_eq_at rows k) cone lists.ray_values

-- how many lines and rays stay where the row is 0 on all lines: the lines and the rays that meet it
abbrev pub kept_on : Bool → System → List ℤ → ℕ
kept_on eq cone values = length cone.lines.rows + count_by (λ value. stays eq value) values

-- how many lines and rays stay whatever pairs cross
abbrev pub kept_of : Bool → System → StepLists → Position → ℕ
kept_of eq cone lists (position.Crossing index) = 0
kept_of eq cone lists position.Met = kept_on eq cone lists.ray_values
kept_of eq cone lists position.Cutting = kept_on eq cone lists.ray_values

-- the marks of the values that stay, with a true mark more for each pair
abbrev pub marks_of : Bool → List ℤ → ℕ → List Bool
marks_of eq values pairs = map (λ value. stays eq value) values ++ replicate pairs true

-- a row that some ray doesn't meet: the values of the rays, their marks, and the pairs that cross
pub record IsRayPlan (row : Row) (cone : System) (lists : StepLists) : Type 0 where
  pub cutting : IsCutting row cone lists.ray_values
  pub are_marks : lists.marks ≡ marks_of row.1 lists.ray_values (length lists.pairs)
  pub crosses : AreAllCrosses lists.ray_values cone.sat lists.pairs

-- what the step with row k is to do with a system
abbrev pub IsPlan : List Row → ℕ → System → StepLists → Plan → Type 0
IsPlan rows k cone lists (plan.Line index) =
    IsLinePlan (row_at rows k, is_eq_at rows k) cone lists index
IsPlan rows k cone lists plan.Same = IsMet (row_at rows k, is_eq_at rows k) cone lists.ray_values
IsPlan rows k cone lists plan.Ray = IsRayPlan (row_at rows k, is_eq_at rows k) cone lists

-- how many combinations the step makes at most
abbrev pub combinations_of : System → StepLists → Plan → ℕ
combinations_of cone lists (plan.Line index) = length cone.lines.rows + length cone.rays.rows - 1
combinations_of cone lists plan.Same = 0
combinations_of cone lists plan.Ray = length lists.pairs

-- whether the step changes the lines or the rays
abbrev pub changes_system : Plan → Bool
changes_system (plan.Line index) = true
changes_system plan.Same = false
changes_system plan.Ray = true

-- the values of a row that some ray doesn't meet are so many
abbrev pub HasValues : ℕ → StepLists → Position → Type 0
HasValues count lists (position.Crossing index) = ⊤
HasValues count lists position.Met = ⊤
HasValues count lists position.Cutting = length lists.ray_values ≡ count
