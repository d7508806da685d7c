use Rattle.std.specs.Prelude.{ℕ, ◌<◌}
use Rattle.row_core.specs.Vectors.{dot}
use Rattle.gens_sys.specs.Generators.{row_at, kind_at}
use Rattle.widening.specs.Inequalities.{side_of}
use Rattle.widening.specs.Values.{Fits}
use Rattle.widening.proofs.least.is_least_on.Given as goal

abbrev pub invariant-loop-index : goal.invariant-loop-index
invariant-loop-index l = (i : ℕ) → i < l.index → Fits (kind_at l.gens.list i) (dot (side_of l.row l.other) (row_at l.gens.list i))
