use Rattle.std.proofs.Common.{[], sym, subst, ◌∙◌, arith}
use Rattle.elapse.specs.Directions.{AreDirections, no_direction}
use Rattle.elapse.proofs.DirectionLists.{directions_more}
use Rattle.elapse.proofs.directions.directions.Goals as goal

pub loop-index-init : goal.loop-index-init
loop-index-init c = record {
  dim = c.new-directions.ensures.dim ∙ c.dim.ensures.value;
  list = subst (AreDirections c.args.gens.now.dim []) (sym c.new-directions.ensures.empty) no_direction;
}

pub loop-index-preserved : goal.loop-index-preserved
loop-index-preserved c = record {
  dim = c.in_ok-push_direction.ensures.dim ∙ c.loop-index.invariant.dim;
  list = directions_more c.args.gens.now.dim c.loop-index.directions.dim c.args.gens.now.list c.loop-index.directions.list c.push_direction.new.directions.list c.loop-index.index c.row.result.now c.kind.result (omega arith) c.loop-index.invariant.dim c.row.ensures.value c.kind.ensures c.loop-index.invariant.list c.in_ok-push_direction.ensures.list;
}
