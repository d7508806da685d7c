use Rattle.std.proofs.Common.{◌≡◌, ℕ, ◌<◌, take}
use Rattle.gens_sys.specs.Generators.{row_at}
use Rattle.mapped_systems.specs.Maps.{substituted}
use Rattle.mapped_systems.specs.MappedLists.{AreMapped}
use Rattle.mapped_systems.specs.Refusals.{StaysInImage}
use Rattle.mapped_systems.proofs.mapped.image_generators.Given as goal

abbrev pub invariant-loop-index : goal.invariant-loop-index
invariant-loop-index l = record {
  dim : l.mapped.dim ≡ l.gens.dim;
  mapped : AreMapped (substituted l.fn.var l.expr l.fn.den) (take l.index l.gens.list) l.mapped.list;
  earlier : (i : ℕ) → i < l.index → StaysInImage l.fn.var l.expr l.fn.den (row_at l.gens.list i);
}
