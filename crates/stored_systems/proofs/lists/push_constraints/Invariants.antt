use Rattle.std.proofs.Common.{◌≡◌, ◌++◌, take, map}
use Rattle.stored_systems.specs.WorkLists.{constraint_row}
use Rattle.stored_systems.proofs.lists.push_constraints.Given as goal

abbrev pub invariant-loop-index : goal.invariant-loop-index
invariant-loop-index l = record {
  width : l.list.width ≡ l.initial.list.width;
  rows : l.list.rows ≡ l.initial.list.rows ++ map constraint_row (take l.index l.cons.list);
}
