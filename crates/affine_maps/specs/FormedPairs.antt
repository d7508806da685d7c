use Rattle.std.specs.Prelude.{◌≡◌, ℕ, ◌+◌, ◌∷◌, ◌++◌, true, false, List, length, filter, map, ℤ, IsPermutation}
use Rattle.row_core.specs.Lists.{Rows, vectors, system_rows}
use Rattle.row_core.specs.MarkedLists.{AreLists}
use Rattle.cone_laws.specs.Canon.{IsSystem}
use Rattle.cone_laws.specs.Members.{ConeOf}
use Rattle.sat_matrix.specs.Tables.{Table}
use Rattle.sat_matrix.specs.ZeroTables.{IsZeroTable}
use Rattle.minimise.specs.MinimalForms.{AreFormed, LeavesInForm}
use Rattle.cons_sys.specs.Constraints.{Constraints}
use Rattle.gens_sys.specs.Generators.{Generators}
use Rattle.stored_systems.specs.Marks.{has_mark}
use Rattle.stored_systems.specs.StoredForms.{AreClosedSystems}
use Rattle.stored_systems.specs.WorkLists.{HasPoint, divisor_row, constraint_row, generator_list}
use Rattle.stored_systems.specs.Zeros.{kept_inequalities}
use Rattle.poly_pair.specs.declared.topology.Topology.TheVariants.{Closed}
use Rattle.poly_pair.specs.Parts.{AreAllOf}
use Rattle.poly_pair.specs.Polyhedra.{Polyhedron, IsOver}

-- ---- one list
-- the equalities of constraints in reduced echelon form, and the others reduced by them
pub record AreFormedConstraints (cs : Constraints) (forms : Rows × Rows) : Type 0 where
  pub lines : Rows
  pub rays : Rows
  pub lines_are : lines.rows ≡ filter (has_mark true) (map constraint_row cs.list)
  pub rays_are : rays.rows ≡ filter (has_mark false) (map constraint_row cs.list)
  pub formed : AreFormed (cs.dim + 1) lines rays forms.0 forms.1

-- the lines of generators, and the others reduced by them
pub record AreFormedGenerators (gs : Generators) (forms : Rows × Rows) : Type 0 where
  pub lines : Rows
  pub rays : Rows
  pub lines_are : lines.rows ≡ filter (has_mark true) (generator_list gs)
  pub rays_are : rays.rows ≡ filter (has_mark false) (generator_list gs)
  pub formed : AreFormed (gs.dim + 1) lines rays forms.0 forms.1

-- a combination of the constraints leaves the range
abbrev pub ConstraintsLeave : Constraints → Type 0
ConstraintsLeave cs = LeavesInForm (filter (has_mark true) (map constraint_row cs.list))
    (filter (has_mark false) (map constraint_row cs.list))

-- of the generators
abbrev pub GeneratorsLeave : Generators → Type 0
GeneratorsLeave gs = LeavesInForm (filter (has_mark true) (generator_list gs))
    (filter (has_mark false) (generator_list gs))

-- ---- both
-- two systems of a set with a point that are canonical but for order, the inequalities without the
-- row of the divisor, and the table of the zeros of the one on the other
pub record IsFormedPair (dim : ℕ) (equalities inequalities lines rays : Rows)
    (table : Table) : Type 0 where
  pub bounds_lists : AreLists (dim + 1) equalities inequalities
  pub spans_lists : AreLists (dim + 1) lines rays
  pub all : List (List ℤ)
  pub kept : kept_inequalities dim all ≡ vectors inequalities.rows
  pub bounds : IsSystem
      (ConeOf (dim + 1) (system_rows (vectors lines.rows) (vectors rays.rows)))
      (vectors equalities.rows) all
  pub spans : IsSystem (ConeOf (dim + 1) (system_rows (vectors equalities.rows) all))
      (vectors lines.rows) (vectors rays.rows)
  pub divisor : ConeOf (dim + 1) (system_rows (vectors lines.rows) (vectors rays.rows))
      (divisor_row dim)
  pub point : HasPoint dim (vectors rays.rows)
  pub zeros : IsZeroTable (system_rows (vectors lines.rows) (vectors rays.rows))
      (length (system_rows (vectors lines.rows) (vectors rays.rows)))
      (divisor_row dim ∷ vectors equalities.rows ++ vectors inequalities.rows) table

-- the closed polyhedron of these: the two canonical systems are stored
pub record IsOfForms (dim : ℕ) (equalities inequalities lines rays : Rows)
    (p : Polyhedron) : Type 0 where
  pub over : IsOver Closed dim p
  pub ordered : List (List ℤ)
  pub permutation : IsPermutation (vectors rays.rows) ordered
  pub bounds : List (List ℤ)
  pub systems : AreClosedSystems dim (vectors lines.rows) ordered (vectors equalities.rows) bounds
  pub stored : AreAllOf dim (vectors lines.rows) ordered (vectors equalities.rows) bounds
      p.cons p.gens
