use Rattle.std.proofs.Common.{◌≡◌, ◌≤◌, ◌+◌, length, take}
use Rattle.row_core.specs.Range.{AllInRange}
use Rattle.row_core.specs.Lists.{vectors}
use Rattle.minimise.specs.Bases.{IsReduced}
use Rattle.minimise.proofs.reduction.reduce.Given as goal

abbrev pub invariant-loop-index : goal.invariant-loop-index
invariant-loop-index g l = record {
  width : length l.reduced ≡ l.lines.width;
  scratch : length l.scratch ≡ l.lines.width;
  no_fewer : l.initial.steps ≤ l.steps;
  no_more : l.steps ≤ l.initial.steps + l.index;
  reduced : IsReduced (take l.index (vectors l.lines.rows)) l.row l.reduced;
  in_range : AllInRange l.reduced;
}
