use Rattle.std.proofs.Common.{ℕ, ◌<◌, slice_index_or}
use Rattle.row_core.specs.Content.{IsPrimitive}
use Rattle.row_core.specs.Lists.{row_at}
use Rattle.minimise.proofs.parts.are_primitive.Given as goal

abbrev pub invariant-loop-index : goal.invariant-loop-index
invariant-loop-index l = (k : ℕ) → k < l.index → IsPrimitive (row_at l.rows.rows (slice_index_or l.kept k 0))
