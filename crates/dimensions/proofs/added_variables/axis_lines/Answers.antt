use Rattle.std.proofs.Common.{◌+◌, ◌∙◌, arith}
use Rattle.gens_sys.specs.declared.kind.GenKind.TheVariants.{Line}
use Rattle.stored_systems.specs.Axes.{axis}
use Rattle.dimensions.proofs.AxisLists.{one_axis_more, axis_generator}
use Rattle.dimensions.proofs.added_variables.axis_lines.Goals as goal

pub push_primitive-requires : goal.push_primitive-requires
push_primitive-requires c = axis_generator c.loop-place.gens.dim (c.args.dim + c.args.count) (c.args.dim + c.loop-place.place) c.deref.result.now c.loop-place.invariant.dim (c.deref.ensures.value ∙ c.in_ok-axis.ensures.row) (omega arith)

pub loop-place-preserved : goal.loop-place-preserved
loop-place-preserved c = record {
  dim = c.in_ok-push_primitive.ensures.dim ∙ c.loop-place.invariant.dim;
  list = one_axis_more (axis (c.args.dim + c.args.count)) Line c.args.dim c.loop-place.place c.loop-place.gens.list c.push_primitive.new.self.list c.deref.result.now c.loop-place.invariant.list (c.deref.ensures.value ∙ c.in_ok-axis.ensures.row) c.in_ok-push_primitive.ensures.list;
}
