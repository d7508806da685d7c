use Rattle.std.proofs.Common.{◌+◌, ◌∙◌, sym, subst, arith}
use Rattle.row_core.specs.Content.{IsPrimitive}
use Rattle.cons_sys.specs.declared.kind.ConKind.TheVariants.{Eq}
use Rattle.stored_systems.specs.Axes.{axis}
use Rattle.stored_systems.proofs.UniverseLemmas.{axis_primitive}
use Rattle.dimensions.proofs.AxisLists.{one_axis_more}
use Rattle.dimensions.proofs.added_variables.zero_equalities.Goals as goal

pub push_primitive-requires-clause-primitive : goal.push_primitive-requires-clause-primitive
push_primitive-requires-clause-primitive c = subst IsPrimitive (sym (c.deref.ensures.value ∙ c.in_ok-axis.ensures.row)) (axis_primitive (c.args.dim + c.args.count) (c.args.dim + c.loop-place.place) (omega arith))

pub loop-place-preserved : goal.loop-place-preserved
loop-place-preserved c = record {
  dim = c.in_ok-push_primitive.ensures.dim ∙ c.loop-place.invariant.dim;
  list = one_axis_more (axis (c.args.dim + c.args.count)) Eq c.args.dim c.loop-place.place c.loop-place.cons.list c.push_primitive.new.self.list c.deref.result.now c.loop-place.invariant.list (c.deref.ensures.value ∙ c.in_ok-axis.ensures.row) c.in_ok-push_primitive.ensures.list;
}
