use Rattle.std.proofs.Common.{◌≡◌, ◌≤◌, ◌+◌, ◌++◌, vec_len, vec_capacity}
use Rattle.flat_rows.specs.Flat.{fitted}
use Rattle.flat_rows.proofs.rows.append_fitted.Given as goal

abbrev pub invariant-loop-place : goal.invariant-loop-place
invariant-loop-place g l = record {
  items : l.cells.items ≡ l.initial.cells.items ++ fitted l.place l.rest l.row;
  len : vec_len l.cells ≡ vec_len l.initial.cells + l.place;
  capacity : vec_capacity l.initial.cells ≤ vec_capacity l.cells;
}
