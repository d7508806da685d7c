use Rattle.std.proofs.Common.{◌≡◌, ◌+◌, take, map, filter}
use Rattle.stored_systems.specs.WorkLists.{constraint_row}
use Rattle.stored_systems.specs.Marks.{has_mark}
use Rattle.stored_systems.proofs.parts.constraint_rows.Given as goal

abbrev pub invariant-loop-index : goal.invariant-loop-index
invariant-loop-index l = record {
  width : l.part.width ≡ l.cons.dim + 1;
  rows : l.part.rows ≡ filter (has_mark l.equalities) (map constraint_row (take l.index l.cons.list));
}
