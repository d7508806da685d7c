use Rattle.std.proofs.Common.{◌<◌, length, arith}
use Rattle.grammar.specs.Rows.{rows_of, shapes_of}
use Rattle.grammar.proofs.RowSteps.{after_rows_more}
use Rattle.grammar.proofs.derivative.push_after_rows.Goals as goal

pub loop-index-preserved : goal.loop-index-preserved
loop-index-preserved c =
    let within : c.loop-index.index < length (rows_of c.args.rows.now) = omega arith in
    after_rows_more c.args.byte (rows_of c.args.rows.now) c.loop-index.index c.row.result.now (shapes_of c.args.out.now) (shapes_of c.loop-index.out) (shapes_of c.push_after_row.new.out)
    within c.row.ensures c.loop-index.invariant c.in_ok-push_after_row.ensures
