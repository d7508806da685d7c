use Rattle.std.proofs.Common.{◌≡◌, ◌+◌, ◌≤◌, length, not}
use Rattle.row_core.specs.Lists.{Row}
use Rattle.stored_systems.specs.StoredForms.{is_divisor_row}
use Rattle.stored_systems.proofs.TakenRows.{from_place}
use Rattle.stored_systems.proofs.storing.without_divisor.Given as goal

abbrev pub invariant-loop-index : goal.invariant-loop-index
invariant-loop-index l = record {
  below : l.index ≤ length l.fn.rays.rows;
  width : l.rows.width ≡ l.dim + 1;
  rows : l.rows.rows ≡ from_place (λ (row : Row). not (is_divisor_row l.dim row.0)) l.fn.rays.rows l.index;
}

abbrev pub decreases-loop-index : goal.decreases-loop-index
decreases-loop-index l = l.index
