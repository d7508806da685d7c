use Rattle.std.proofs.Common.{ℕ, ◌<◌, pos, ◌<ℤ◌}
use Rattle.row_core.specs.Vectors.{cell}
use Rattle.row_core.specs.Lists.{row_at}
use Rattle.stored_systems.proofs.lists.has_point.Given as goal

abbrev pub invariant-loop-index : goal.invariant-loop-index
invariant-loop-index l = (i : ℕ) → i < l.index → ¬ (pos 0 <ℤ cell (row_at l.rays.rows i) l.column)
