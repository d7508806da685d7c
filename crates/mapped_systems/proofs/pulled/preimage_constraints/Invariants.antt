use Rattle.std.proofs.Common.{◌≡◌, ℕ, ◌+◌, ◌<◌, ◌≤◌, take}
use Rattle.cons_sys.specs.Constraints.{row_at}
use Rattle.mapped_systems.specs.Maps.{pulled_back}
use Rattle.mapped_systems.specs.MappedLists.{ArePulled}
use Rattle.mapped_systems.specs.Refusals.{StaysInPullback}
use Rattle.mapped_systems.proofs.pulled.preimage_constraints.Given as goal

abbrev pub invariant-loop-index : goal.invariant-loop-index
invariant-loop-index g l = record {
  dim : l.pulled.dim ≡ l.cons.dim;
  pulled : ArePulled (pulled_back l.fn.var l.expr l.fn.den) (take l.index l.cons.list) l.pulled.list;
  no_fewer : l.fn.steps ≤ l.steps;
  counted : l.steps ≤ l.fn.steps + l.index;
  earlier : (i : ℕ) → i < l.index → StaysInPullback l.fn.var l.expr l.fn.den (row_at l.cons.list i);
}
