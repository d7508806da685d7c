use Rattle.std.proofs.Common.{ℕ, ◌<◌, ◌≢◌}
use Rattle.gens_sys.specs.Generators.{kind_at}
use Rattle.gens_sys.specs.declared.kind.GenKind.TheVariants.{Line}
use Rattle.affine_maps.proofs.carrying.has_line.Given as goal

abbrev pub invariant-loop-index : goal.invariant-loop-index
invariant-loop-index l = (i : ℕ) → i < l.index → kind_at l.gens.list i ≢ Line
