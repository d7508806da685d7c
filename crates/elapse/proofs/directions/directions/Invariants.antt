use Rattle.std.proofs.Common.{◌≡◌, take}
use Rattle.elapse.specs.Directions.{AreDirections}
use Rattle.elapse.proofs.directions.directions.Given as goal

abbrev pub invariant-loop-index : goal.invariant-loop-index
invariant-loop-index l = record {
  dim : l.directions.dim ≡ l.gens.dim;
  list : AreDirections l.gens.dim (take l.index l.gens.list) l.directions.list;
}
