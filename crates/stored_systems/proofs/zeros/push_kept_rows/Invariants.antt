use Rattle.std.proofs.Common.{◌≡◌, ◌+◌, ◌≤◌, ◌++◌, length, map, not, take, drop}
use Rattle.flat_rows.specs.Flat.{marked}
use Rattle.row_core.specs.Lists.{vectors}
use Rattle.stored_systems.specs.StoredForms.{is_divisor_row}
use Rattle.stored_systems.proofs.zeros.push_kept_rows.Given as goal

abbrev pub invariant-loop-index : goal.invariant-loop-index
invariant-loop-index l = record {
  columns : l.table.columns ≡ l.initial.table.columns;
  rows : l.table.rows ≡ l.initial.table.rows ++ marked (take l.index (map (λ r. not (is_divisor_row l.dim r)) (vectors l.rays.rows))) (take l.index (drop l.from l.zeros.rows));
  spare : length l.rays.rows ≤ l.index + l.table.spare;
}
