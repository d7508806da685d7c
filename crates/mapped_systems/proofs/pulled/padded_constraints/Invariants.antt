use Rattle.std.proofs.Common.{◌≡◌, ◌+◌, take}
use Rattle.mapped_systems.specs.Maps.{with_zeros}
use Rattle.mapped_systems.specs.MappedLists.{ArePulled}
use Rattle.mapped_systems.proofs.pulled.padded_constraints.Given as goal

abbrev pub invariant-loop-index : goal.invariant-loop-index
invariant-loop-index l = record {
  dim : l.padded.dim ≡ l.cons.dim + l.fn.count;
  pulled : ArePulled (with_zeros l.fn.column l.fn.count) (take l.index l.cons.list) l.padded.list;
}
