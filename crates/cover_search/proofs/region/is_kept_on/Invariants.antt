use Rattle.std.proofs.Common.{ℕ, ◌<◌}
use Rattle.row_core.specs.Vectors.{cell, dot}
use Rattle.row_core.specs.Lists.{row_at}
use Rattle.cover_search.specs.Regions.{IsKept}
use Rattle.cover_search.proofs.region.is_kept_on.Given as goal

abbrev pub invariant-loop-index : goal.invariant-loop-index
invariant-loop-index l = (i : ℕ) → i < l.index → IsKept l.strict (dot l.row (row_at l.list.rows i)) (cell (row_at l.list.rows i) l.column)
