use Rattle.std.proofs.Common.{◌≡◌, ◌+◌, take}
use Rattle.mapped_systems.specs.Maps.{with_zeros}
use Rattle.mapped_systems.specs.MappedLists.{AreMapped}
use Rattle.mapped_systems.proofs.mapped.padded_generators.Given as goal

abbrev pub invariant-loop-index : goal.invariant-loop-index
invariant-loop-index l = record {
  dim : l.mapped.dim ≡ l.gens.dim + l.fn.count;
  mapped : AreMapped (with_zeros l.gens.dim l.fn.count) (take l.index l.gens.list) l.mapped.list;
}
