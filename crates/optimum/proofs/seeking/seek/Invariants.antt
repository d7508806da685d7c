use Rattle.optimum.specs.Search.{SeeksTo, Keeps}
use Rattle.optimum.proofs.seeking.seek.Given as goal

abbrev pub invariant-loop-i : goal.invariant-loop-i
invariant-loop-i l = record {
  reached : SeeksTo l.up l.row l.gens.dim l.gens.list l.i;
  keeps : Keeps l.up l.row l.gens.dim l.gens.list l.i l.best;
}
