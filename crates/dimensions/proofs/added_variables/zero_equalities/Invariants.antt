use Rattle.std.proofs.Common.{◌≡◌, ◌+◌, map}
use Rattle.std.specs.List.{range_with_len}
use Rattle.cons_sys.specs.declared.kind.ConKind.TheVariants.{Eq}
use Rattle.stored_systems.specs.Axes.{axis}
use Rattle.dimensions.proofs.added_variables.zero_equalities.Given as goal

abbrev pub invariant-loop-place : goal.invariant-loop-place
invariant-loop-place l = record {
  dim : l.cons.dim ≡ l.fn.dim + l.fn.count;
  list : l.cons.list ≡ map (λ j. (axis (l.fn.dim + l.fn.count) j, Eq)) (range_with_len l.fn.dim l.place);
}
