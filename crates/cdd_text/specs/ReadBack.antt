-- What is written is read back.
use Rattle.std.specs.Prelude.{◌≡◌, ◌^◌, ◌<◌, ◌≤◌, [], ◌⊎◌, length, true}
use Rattle.std.specs.List.{list_any, filter}
use Rattle.cons_sys.specs.Constraints.{Constraints}
use Rattle.cons_sys.specs.Constraints as cons
use Rattle.gens_sys.specs.Generators.{Generators}
use Rattle.gens_sys.specs.Generators as gens
use Rattle.cdd_reading.specs.Files.{IsIneFile, IsExtFile, is_point}
use Rattle.cdd_reading.specs.Refusals.{tests, NoneOf}
use Rattle.cdd_text.specs.Written.{ine_text, ext_text, is_equality_constraint, is_line_generator, HasNoStrict, HasNoClosurePoint}
use Rattle.cdd_reading.specs.declared.format.Format.TheVariants.{Ine, Ext}
use Rattle.cdd_reading.specs.declared.table.TheConstants.{MAX_WIDTH}

-- what is written of constraints without a strict one, of a dimension within the limit and fewer
-- than 2^64, holds them; where at most as many as a file may have columns are equalities, as in a
-- stored polyhedron, it passes all tests
abbrev pub ConstraintsAreReadBack : Type 0
ConstraintsAreReadBack =
    (cs : Constraints) → cons.FitDimension cs → cs.dim < MAX_WIDTH → length cs.list < 2 ^ 64
    → HasNoStrict cs
    → IsIneFile (ine_text cs) cs
    × (length (filter is_equality_constraint cs.list) ≤ MAX_WIDTH
    → NoneOf (tests Ine (ine_text cs)))

-- likewise of generators without a closure point, where there is a point or no generator at all
abbrev pub GeneratorsAreReadBack : Type 0
GeneratorsAreReadBack =
    (gs : Generators) → gens.FitDimension gs → gs.dim < MAX_WIDTH → length gs.list < 2 ^ 64
    → HasNoClosurePoint gs → (gs.list ≡ []) ⊎ (list_any is_point gs.list ≡ true)
    → IsExtFile (ext_text gs) gs
    × (length (filter is_line_generator gs.list) ≤ MAX_WIDTH → NoneOf (tests Ext (ext_text gs)))
