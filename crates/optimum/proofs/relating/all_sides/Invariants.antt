use Rattle.optimum.specs.Values.{RowReaches}
use Rattle.optimum.specs.Relations.{AreSides}
use Rattle.optimum.proofs.relating.all_sides.Given as goal

abbrev pub invariant-loop-i : goal.invariant-loop-i
invariant-loop-i l = record {
  reached : RowReaches l.row l.gens.list l.i;
  sides : AreSides l.row l.gens.list l.i l.so_far;
}
