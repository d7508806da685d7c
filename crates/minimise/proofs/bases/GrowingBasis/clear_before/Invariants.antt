use Rattle.std.proofs.Common.{◌≡◌, ◌≤◌, ◌+◌, true}
use Rattle.row_core.specs.Lists.{vectors, AreMarked}
use Rattle.minimise.specs.Bases.{AreCleared}
use Rattle.minimise.specs.Buffers.{HasBuffers}
use Rattle.minimise.proofs.bases.GrowingBasis.clear_before.Given as goal

abbrev pub invariant-loop-index : goal.invariant-loop-index
invariant-loop-index g l = record {
  buffers : HasBuffers l.self;
  width : l.self.lines.width ≡ l.initial.self.lines.width;
  same : l.self.reduced.items ≡ l.initial.self.reduced.items;
  no_fewer : l.initial.steps ≤ l.steps;
  no_more : l.steps ≤ l.initial.steps + l.index;
  cleared : AreCleared l.pivot l.initial.self.reduced.items (vectors l.initial.self.lines.rows) l.index (vectors l.self.lines.rows);
  marked : AreMarked true l.initial.self.lines.rows → AreMarked true l.self.lines.rows;
}
