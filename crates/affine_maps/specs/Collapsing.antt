use Rattle.std.specs.Prelude.{◌≡◌, ◌≢◌, ◌⊎◌, ℕ, ◌+◌, ◌*◌, ◌≤◌, List, [], ◌∷◌, ◌++◌, length, replicate, true, ℤ, pos, neg_ℤ, All, Option, Some, None, Result, Ok, IsErr}
use Rattle.row_core.specs.Vectors.{cell}
use Rattle.row_core.specs.Content.{IsPrimitive}
use Rattle.row_core.specs.Lists.{Row, Rows, vectors}
use Rattle.row_core.specs.MarkedLists.{AreLists}
use Rattle.row_core.specs.declared.errors.Overflow.{Overflow}
use Rattle.row_core.specs.declared.errors.Memory.{Memory}
use Rattle.cone_laws.specs.Canon.{Canon}
use Rattle.cone_laws.specs.Members.{ConeOf}
use Rattle.cone_laws.specs.DualSystems.{AreSystemsOf}
use Rattle.sat_matrix.specs.ZeroTables.{IsZeroTable}
use Rattle.chernikova.specs.declared.cone.Cone.{Cone}
use Rattle.minimise.specs.Lefts.{IsLeft}
use Rattle.minimise.specs.MinimalForms.{IsMinimalForm, LeavesInForm}
use Rattle.gens_sys.specs.Generators.{Generators}
use Rattle.stored_systems.specs.Axes.{axis}
use Rattle.stored_systems.specs.StoredForms.{AreClosedSystems}
use Rattle.stored_systems.specs.WorkLists.{generator_list}
use Rattle.poly_pair.specs.declared.topology.Topology.TheVariants.{Closed}
use Rattle.poly_pair.specs.Parts.{AreAllOf}
use Rattle.poly_pair.specs.Polyhedra.{Polyhedron, IsKept, IsOver}
use Rattle.poly_pair.specs.Starts.{CanStart}
use Rattle.poly_pair.specs.Work.{Work, rows_work, IsFirstConversion}

-- a closed set with a point, and its mapped generators, of which none became 0
pub record CanCollapse (p : Polyhedron) (gs : Generators) : Type 0 where
  pub start : CanStart p
  pub as_many : length gs.list ≡ length p.gens.list

-- ---- lists
-- the generators of a set and the axis of a variable, as a line: they generate the set freed of the
-- variable
abbrev pub freed_list : ℕ → Polyhedron → List Row
freed_list var p = generator_list p.gens ++ (axis p.cons.dim var, true) ∷ []

-- what the map makes of these: the mapped generators, and a row of zeros for the axis
abbrev pub collapsed_list : Generators → List Row
collapsed_list gs = generator_list gs ++ (replicate (gs.dim + 1) (pos 0), true) ∷ []

-- the row that is 0 where the variable has the value of the expression over the divisor
pub record IsPlane (var : ℕ) (expr : List ℤ) (den : ℤ) (plane : List ℤ) : Type 0 where
  pub wide : length plane ≡ length expr
  pub own : cell plane var ≡ den
  pub others : (j : ℕ) → j ≢ var → cell plane j ≡ neg_ℤ (cell expr j)

-- ---- systems
-- lines and rays in minimal form for the cone of a list, with the table of their zeros
pub record IsFormOf (list : Rows) (form : Cone) : Type 0 where
  pub minimal : IsMinimalForm (ConeOf list.width list.rows) (vectors form.lines.rows)
      (vectors form.rays.rows)
  pub lists : AreLists list.width form.lines form.rays
  pub primitive : All IsPrimitive (vectors form.rays.rows)
  pub zeros : IsZeroTable list.rows (length list.rows) (vectors form.rays.rows) form.sat

-- the lines, and the row of a plane behind them
pub record GainsPlane (var : ℕ) (expr : List ℤ) (den : ℤ) (old new : Cone) : Type 0 where
  pub plane : List ℤ
  pub is_plane : IsPlane var expr den plane
  pub lines : new.lines.rows ≡ old.lines.rows ++ (plane, true) ∷ []
  pub width : new.lines.width ≡ old.lines.width
  pub rays : new.rays ≡ old.rays
  pub sat : new.sat ≡ old.sat

-- the two systems of the list are those of a closed set with a point
abbrev pub IsListOfClosed : ℕ → List Row → Type 0
IsListOfClosed dim rows = (equalities inequalities lines rays : List (List ℤ))
    → AreSystemsOf (dim + 1) rows equalities inequalities lines rays
    → AreClosedSystems dim lines rays equalities inequalities

-- the closed polyhedron that stores the two systems of the list
pub record IsStoredOfList (dim : ℕ) (rows : List Row) (p : Polyhedron) : Type 0 where
  pub over : IsOver Closed dim p
  pub kept : IsKept p
  pub equalities : List (List ℤ)
  pub inequalities : List (List ℤ)
  pub lines : List (List ℤ)
  pub rays : List (List ℤ)
  pub systems : AreSystemsOf (dim + 1) rows equalities inequalities lines rays
  pub stored : AreAllOf dim lines rays equalities inequalities p.cons p.gens

-- ---- what is counted and shown
-- a combination of the list leaves the range on the way to its second system
pub record LeavesInSecond (width : ℕ) (list : List Row) : Type 0 where
  pub left : List ℤ
  pub right : List ℤ
  pub column : ℕ
  pub is_left : IsLeft width list left right column

-- a combination of lines and rays leaves the range on the way to canonical form, or one of the list
-- on the way to its second system
abbrev pub LeavesInCollapse : ℕ → List Row → List Row → List Row → Type 0
LeavesInCollapse width list lines rays = LeavesInForm lines rays ⊎ LeavesInSecond width list

-- both systems were made, by at most two combinations for each row and column of the form and of
-- the list
pub record IsCollapse {T : Type 0} (width : ℕ) (list lines rays : List Row) (old new : ℕ)
    (result : Result (Option T) Memory) : Type 0 where
  pub no_fewer : old ≤ new
  pub counted : new ≤ old + 2 * ((length lines + length rays + length list) * width)
  pub leaves : result ≡ Ok None → LeavesInCollapse width list lines rays

-- the list of the freed set, whose first rows are those of the stored pair
abbrev pub freed_work : ℕ → Polyhedron → Work
freed_work var p =
    rows_work (p.cons.dim + 1) p.cons.dim (freed_list var p) (length p.gens.list)

-- the system of the freed set was brought to canonical form with the plane
pub record IsPlaneCollapse (var : ℕ) (expr : List ℤ) (den : ℤ) (p : Polyhedron) (gs : Generators)
    (old new : ℕ) (result : Result (Option Polyhedron) Memory) : Type 0 where
  pub lines : List Row
  pub rays : List Row
  pub canon : Canon (ConeOf (p.cons.dim + 1) (freed_list var p)) (vectors lines) (vectors rays)
  pub plane : List ℤ
  pub is_plane : IsPlane var expr den plane
  pub collapse : IsCollapse (p.cons.dim + 1) (collapsed_list gs) (lines ++ (plane, true) ∷ []) rays
      old new result

-- what follows the conversion of the freed set's list: nothing at an overflow, or where memory runs
-- out
abbrev pub AfterFreed : ℕ → List ℤ → ℤ → Polyhedron → Generators → Option Overflow → ℕ → ℕ
    → Result (Option Polyhedron) Memory → Type 0
AfterFreed var expr den p gs (Some over) old new result = (new ≡ old) × (result ≡ Ok None)
AfterFreed var expr den p gs None old new result = ((new ≡ old) × IsErr result)
    ⊎ IsPlaneCollapse var expr den p gs old new result

-- of a set whose variable gives its value up
pub record IsCollapsedImage (var : ℕ) (expr : List ℤ) (den : ℤ) (p : Polyhedron) (gs : Generators)
    (old new : ℕ) (result : Result (Option Polyhedron) Memory) : Type 0 where
  pub can : CanCollapse p gs
  pub between : ℕ
  pub over : Option Overflow
  pub freed : IsFirstConversion (freed_work var p) old between over
  pub after : AfterFreed var expr den p gs over between new result

-- nothing of another set
abbrev pub CollapsesImage : ℕ → List ℤ → ℤ → Polyhedron → Generators → ℕ → ℕ
    → Result (Option Polyhedron) Memory → Type 0
CollapsesImage var expr den p gs old new result =
    IsCollapsedImage var expr den p gs old new result
    ⊎ ((¬ (CanCollapse p gs)) × (new ≡ old) × (result ≡ Ok None))
