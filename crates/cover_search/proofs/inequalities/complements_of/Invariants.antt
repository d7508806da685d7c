use Rattle.std.proofs.Common.{◌≡◌, map, take}
use Rattle.cover_search.specs.Inequalities.{complement}
use Rattle.cover_search.proofs.inequalities.complements_of.Given as goal

abbrev pub invariant-loop-index : goal.invariant-loop-index
invariant-loop-index l = record {
  dim : l.system.dim ≡ l.rows.dim;
  list : l.system.list ≡ map complement (take l.index l.rows.list);
}
