use Rattle.std.specs.Prelude.{◌≡◌, ℕ, ◌+◌, Bool, true, List, ◌++◌, map, replicate, ℤ}
use Rattle.std.specs.List.{range_with_len}
use Rattle.cons_sys.specs.declared.kind.ConKind.TheVariants.{Eq}
use Rattle.cons_sys.specs.Constraints.{Constraint, Constraints}
use Rattle.gens_sys.specs.declared.kind.GenKind.TheVariants.{Line}
use Rattle.gens_sys.specs.Generators.{Generator, Generators}
use Rattle.sat_matrix.specs.Tables.{Table}
use Rattle.stored_systems.specs.Axes.{axis}
use Rattle.poly_pair.specs.DoubleDescriptions.{HasPairOverflow}
use Rattle.poly_pair.specs.Polyhedra.{Polyhedron}
use Rattle.mapped_systems.specs.Maps.{with_zeros}
use Rattle.mapped_systems.specs.MappedLists.{AreMapped, ArePulled}

-- ---- the axes of new variables
-- of n + k variables, those behind the first n
abbrev pub new_axes : ℕ → ℕ → List (List ℤ)
new_axes n k = map (axis (n + k)) (range_with_len n k)

-- that these variables are 0
abbrev pub zero_equalities : ℕ → ℕ → List Constraint
zero_equalities n k = map (λ j. (axis (n + k) j, Eq)) (range_with_len n k)

-- the axes as lines
abbrev pub axis_lines : ℕ → ℕ → List Generator
axis_lines n k = map (λ j. (axis (n + k) j, Line)) (range_with_len n k)

-- ---- systems
-- the constraints with more variables behind, and then that these are 0
pub record AreZeroBehind (count : ℕ) (old new : Constraints) : Type 0 where
  pub same_dim : new.dim ≡ old.dim + count
  pub front : List Constraint
  pub pulled : ArePulled (with_zeros old.dim count) old.list front
  pub joined : new.list ≡ front ++ zero_equalities old.dim count

-- the generators with more variables behind, and then the axes of these
pub record AreFreeBehind (count : ℕ) (old new : Generators) : Type 0 where
  pub same_dim : new.dim ≡ old.dim + count
  pub front : List Generator
  pub mapped : AreMapped (with_zeros old.dim count) old.list front
  pub joined : new.list ≡ front ++ axis_lines old.dim count

-- the constraint list of a polyhedron with more variables, all 0, leaves the range
pub record LeavesWithZeros (count : ℕ) (p : Polyhedron) : Type 0 where
  pub system : Constraints
  pub zero : AreZeroBehind count p.cons system
  pub leaves : HasPairOverflow system

-- ---- tables
-- the table with more rows, all true
pub record HasTrueRows (count : ℕ) (old new : Table) : Type 0 where
  pub columns : new.columns ≡ old.columns
  pub rows : new.rows ≡ old.rows ++ replicate count (replicate old.columns true)

-- the table with more columns, all true
pub record HasTrueColumns (count : ℕ) (old new : Table) : Type 0 where
  pub columns : new.columns ≡ old.columns + count
  pub rows : new.rows ≡ map (λ (row : List Bool). row ++ replicate count true) old.rows
