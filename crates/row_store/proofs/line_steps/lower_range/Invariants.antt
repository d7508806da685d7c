use Rattle.std.proofs.Common.{◌≡◌, ◌≤◌, ◌+◌}
use Rattle.row_core.specs.Lists.{AreMarked}
use Rattle.row_store.specs.Faults.{is_lines}
use Rattle.row_store.specs.Changes.{AreLowered}
use Rattle.row_store.proofs.line_steps.lower_range.Given as goal

abbrev pub invariant-loop-index : goal.invariant-loop-index
invariant-loop-index g l = record {
  above : l.from ≤ l.index;
  width : l.into.width ≡ l.initial.into.width;
  spare : l.into.spare + l.index ≡ l.initial.into.spare + l.from;
  no_fewer : l.initial.steps ≤ l.steps;
  no_more : l.steps + l.from ≤ l.initial.steps + l.index;
  lowered : AreLowered l.lowering.crossing.value l.lowering.crossing.line.now l.lowering.values.now l.lowering.list.now.rows l.from l.index l.initial.into.rows l.into.rows;
  marked : AreMarked (is_lines l.lowering.part) l.into.rows;
}
