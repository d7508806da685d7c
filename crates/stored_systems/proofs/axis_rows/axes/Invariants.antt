use Rattle.std.proofs.Common.{◌≡◌, map}
use Rattle.gens_sys.specs.declared.kind.GenKind.TheVariants.{Line}
use Rattle.stored_systems.specs.Axes.{axes_upto}
use Rattle.stored_systems.proofs.axis_rows.axes.Given as goal

abbrev pub invariant-loop-index : goal.invariant-loop-index
invariant-loop-index l = record {
  dim : l.gens.dim ≡ l.dim;
  list : l.gens.list ≡ map (λ v. (v, Line)) (axes_upto l.dim l.index);
}
