use Rattle.std.proofs.Common.{◌∙◌, sym, subst, arith}
use Rattle.row_core.specs.Content.{IsPrimitive}
use Rattle.stored_systems.proofs.UniverseLemmas.{axis_primitive, line_fits_at, axes_more}
use Rattle.stored_systems.proofs.axis_rows.axes.Goals as goal

pub push_generator-requires-clause-primitive : goal.push_generator-requires-clause-primitive
push_generator-requires-clause-primitive c = subst IsPrimitive (sym (c.deref.ensures.value ∙ c.in_ok-axis.ensures.row)) (axis_primitive c.args.dim c.loop-index.index (omega arith))

pub push_generator-requires-clause-fits : goal.push_generator-requires-clause-fits
push_generator-requires-clause-fits c = line_fits_at c.loop-index.gens.dim c.args.dim c.loop-index.index c.deref.result.now c.loop-index.invariant.dim (c.deref.ensures.value ∙ c.in_ok-axis.ensures.row) (omega arith)

pub loop-index-preserved : goal.loop-index-preserved
loop-index-preserved c = record {
  dim = c.in_ok-push_generator.ensures.dim ∙ c.loop-index.invariant.dim;
  list = axes_more c.args.dim c.loop-index.index c.loop-index.gens.list c.push_generator.new.gens.list c.deref.result.now c.loop-index.invariant.list (c.deref.ensures.value ∙ c.in_ok-axis.ensures.row) c.in_ok-push_generator.ensures.list;
}
