use Rattle.std.proofs.Common.{◌≡◌, ◌≤◌, take, drop, length}
use Rattle.flat_rows.specs.Flat.{marked}
use Rattle.flat_rows.proofs.rows.FlatRows.keep_rows.Given as goal

abbrev pub invariant-loop-row : goal.invariant-loop-row
invariant-loop-row g l = record {
  width : l.self.width ≡ l.initial.self.width;
  spare : l.self.spare ≡ l.initial.self.spare;
  length : length l.self.rows ≡ length l.initial.self.rows;
  within : l.kept ≤ l.row;
  kept : take l.kept l.self.rows ≡ marked (take l.row l.keep) (take l.row l.initial.self.rows);
  rest : drop l.row l.self.rows ≡ drop l.row l.initial.self.rows;
}
