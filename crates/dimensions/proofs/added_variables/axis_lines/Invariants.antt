use Rattle.std.proofs.Common.{◌≡◌, ◌+◌, map}
use Rattle.std.specs.List.{range_with_len}
use Rattle.gens_sys.specs.declared.kind.GenKind.TheVariants.{Line}
use Rattle.stored_systems.specs.Axes.{axis}
use Rattle.dimensions.proofs.added_variables.axis_lines.Given as goal

abbrev pub invariant-loop-place : goal.invariant-loop-place
invariant-loop-place l = record {
  dim : l.gens.dim ≡ l.fn.dim + l.fn.count;
  list : l.gens.list ≡ map (λ j. (axis (l.fn.dim + l.fn.count) j, Line)) (range_with_len l.fn.dim l.place);
}
