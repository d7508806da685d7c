use Rattle.std.proofs.Common.{◌≡◌, ◌+◌, take}
use Rattle.affine_maps.specs.Relations.{moved}
use Rattle.mapped_systems.specs.MappedLists.{ArePulled}
use Rattle.affine_maps.proofs.related.moved_constraints.Given as goal

abbrev pub invariant-loop-index : goal.invariant-loop-index
invariant-loop-index l = record {
  dim : l.all.dim ≡ l.cons.dim + 1;
  pulled : ArePulled (moved l.cons.dim l.var) (take l.index l.cons.list) l.all.list;
}
