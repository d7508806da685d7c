use Rattle.std.proofs.Common.{◌≡◌, length, take}
use Rattle.mapped_systems.specs.Maps.{picked}
use Rattle.mapped_systems.specs.MappedLists.{AreMapped}
use Rattle.mapped_systems.proofs.mapped.picked_generators.Given as goal

abbrev pub invariant-loop-index : goal.invariant-loop-index
invariant-loop-index l = record {
  dim : l.mapped.dim ≡ length l.columns;
  mapped : AreMapped (picked l.columns l.gens.dim) (take l.index l.gens.list) l.mapped.list;
}
