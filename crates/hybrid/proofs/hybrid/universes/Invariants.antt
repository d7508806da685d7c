use Rattle.std.proofs.Common.{◌≡◌, length, All}
use Rattle.poly_pair.specs.declared.topology.Topology.TheVariants.{Closed}
use Rattle.poly_pair.specs.Polyhedra.{IsUniverse}
use Rattle.poly_pair.specs.ClosedPolyhedra.{IsClosedOver}
use Rattle.hybrid.proofs.hybrid.universes.Given as goal

abbrev pub invariant-loop : goal.invariant-loop
invariant-loop l = record {
  count : length l.sets.items ≡ l.counter;
  universe : All (IsUniverse Closed l.fn.dim) l.sets.items;
  closed : All (IsClosedOver l.fn.dim) l.sets.items;
}
