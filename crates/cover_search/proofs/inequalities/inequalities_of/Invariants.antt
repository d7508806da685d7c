use Rattle.std.proofs.Common.{◌≡◌, take, flat_map}
use Rattle.cover_search.specs.Inequalities.{halves}
use Rattle.cover_search.proofs.inequalities.inequalities_of.Given as goal

abbrev pub invariant-loop-index : goal.invariant-loop-index
invariant-loop-index l = record {
  dim : l.system.dim ≡ l.cons.dim;
  list : l.system.list ≡ flat_map halves (take l.index l.cons.list);
}
