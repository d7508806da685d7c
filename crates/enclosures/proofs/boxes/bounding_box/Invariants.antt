use Rattle.std.proofs.Common.{◌≡◌}
use Rattle.enclosures.specs.Boxes.{AreBounds}
use Rattle.enclosures.proofs.boxes.bounding_box.Given as goal

abbrev pub invariant-loop-variable : goal.invariant-loop-variable
invariant-loop-variable l = record {
  dim : l.bounds.dim ≡ l.p.cons.dim;
  list : AreBounds l.p l.variable l.bounds.list;
}
