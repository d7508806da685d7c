use Rattle.std.proofs.Common.{rules}
use Rattle.cdd_reading.proofs.StoreLaws.{constraint_kept}
use Rattle.cdd_reading.proofs.store.store_constraints.Goals as goal

pub loop-marked-preserved : goal.loop-marked-preserved
loop-marked-preserved c =
    let i = c.loop-marked.invariant.done in
    let table = c.args.table.now in
    record {
      done = constraint_kept table.width c.loop-marked.marked-index table.marks.items table.values.items c.loop-marked.rest.now c.split_at.result.1.now c.split_at.result.0.now i.0 c.loop-marked.system.list c.push_constraint.new.system.list _ i.1 (search rules) (search rules) (search rules) (search rules) i.2 c.in_ok-push_constraint.ensures.list;
      dim = search rules;
    }
