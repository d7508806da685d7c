-- The zeros of dual systems on one another.
use Rattle.std.specs.Prelude.{◌≡◌, ℕ, ◌+◌, List, length, map, ℤ}
use Rattle.std.proofs.Common.{sym, ap, ◌∙◌, subst}
use Rattle.row_core.specs.Lists.{Row, vectors}
use Rattle.row_core.proofs.RowListLemmas.{length-vectors}
use Rattle.sat_matrix.specs.Tables.{Table}
use Rattle.sat_matrix.specs.ZeroTables.{IsZeroTable}
use Rattle.chernikova.specs.declared.cone.Cone.{Cone}
use Rattle.gens_sys.specs.Generators.{Generator, Generators}
use Rattle.stored_systems.specs.WorkLists.{generator_row, generator_list}
use Rattle.stored_systems.specs.StoredForms.{stored_generators}
use Rattle.stored_systems.specs.Zeros.{TellsFrom, AreZeroOn}
use Rattle.stored_systems.proofs.StoredPair.{gen_list_stored}
use Rattle.stored_systems.proofs.ZeroTables.{lines_zero, tells_behind, vectors-system_rows}
use Rattle.poly_pair.specs.Conversions.{cone_rows, AreClosedCones}

module _ (dim : ℕ) (spanning bounding : Cone) (pair : AreClosedCones dim spanning bounding) where
  pub generators_listed : (gs : Generators) → gs.list ≡ stored_generators dim (vectors spanning.lines.rows) (vectors spanning.rays.rows) → generator_list gs ≡ cone_rows spanning
  generators_listed gs e = ap (λ (list : List Generator). map generator_row list) e ∙ gen_list_stored dim (vectors spanning.lines.rows) (vectors spanning.rays.rows)

  -- the equalities are 0 on the generators
  pub equalities_zero : (gs : Generators) → gs.list ≡ stored_generators dim (vectors spanning.lines.rows) (vectors spanning.rays.rows) → AreZeroOn (generator_list gs) (vectors bounding.lines.rows)
  equalities_zero gs e =
      subst (λ (list : List Row). AreZeroOn list (vectors bounding.lines.rows)) (sym (generators_listed gs e))
      (lines_zero (dim + 1) (vectors bounding.lines.rows) (vectors bounding.rays.rows) (vectors spanning.lines.rows) (vectors spanning.rays.rows) pair.dual.vectors.system.generates)

  -- the lines are 0 on the rows
  pub spanning_zero : AreZeroOn (cone_rows bounding) (vectors spanning.lines.rows)
  spanning_zero = lines_zero (dim + 1) (vectors spanning.lines.rows) (vectors spanning.rays.rows) (vectors bounding.lines.rows) (vectors bounding.rays.rows) pair.dual.rows.system.generates

  pub told_turned : (turned : Table) → IsZeroTable (cone_rows spanning) (length (cone_rows spanning)) (vectors (cone_rows bounding)) turned → (from : ℕ) → from ≡ length bounding.lines.rows → TellsFrom from (cone_rows spanning) (vectors bounding.rays.rows) turned
  told_turned turned h from e =
      tells_behind (cone_rows spanning) (vectors bounding.lines.rows) (vectors bounding.rays.rows) turned from (e ∙ sym (length-vectors bounding.lines.rows))
      (subst (λ (vs : List (List ℤ)). IsZeroTable (cone_rows spanning) (length (cone_rows spanning)) vs turned) (vectors-system_rows (vectors bounding.lines.rows) (vectors bounding.rays.rows)) h)
