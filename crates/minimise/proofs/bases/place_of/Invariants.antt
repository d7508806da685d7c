use Rattle.std.proofs.Common.{ℕ, ◌<◌}
use Rattle.row_core.specs.Lists.{vectors, vector_at}
use Rattle.cone_laws.specs.Canon.{IsPivot}
use Rattle.minimise.proofs.bases.place_of.Given as goal

abbrev pub invariant-loop-index : goal.invariant-loop-index
invariant-loop-index l = (i p : ℕ) → i < l.index → IsPivot (vector_at (vectors l.lines.rows) i) p → p < l.column
