use Rattle.std.specs.Prelude.{◌≡◌, ℕ, ◌+◌, ◌<◌, List, length, remove, ℤ}
use Rattle.row_core.specs.Lists.{Row}
use Rattle.gens_sys.specs.Generators.{Generators}
use Rattle.gens_sys.specs.Spans.{Span}
use Rattle.nnc_enc.specs.Sorting.{AreStrongVectors}
use Rattle.nnc_enc.specs.Results.{AreVectorsOf}

-- without generator i the others don't span all points
abbrev pub IsNeededGenerator : ℕ → Generators → ℕ → Type 0
IsNeededGenerator dim gs i = ¬ ((v : List ℤ) → length v ≡ dim + 1 → Span gs v
    → Span (record { dim = gs.dim; list = remove gs.list i }) v)

-- no strong generator can be left out
abbrev pub StrongVectorsAreNeeded : Type 0
StrongVectorsAreNeeded = (dim : ℕ) (rows lines rays : List Row) (gs : Generators)
    → AreVectorsOf dim rows lines rays → AreStrongVectors dim rows lines rays gs.list
    → (i : ℕ) → i < length gs.list → IsNeededGenerator dim gs i
