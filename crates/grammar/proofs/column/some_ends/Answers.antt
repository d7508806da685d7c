use Rattle.std.proofs.Common.{◌<◌, length, arith, sym, ◌∙◌}
use Rattle.grammar.specs.Rows.{rows_of}
use Rattle.grammar.proofs.RowSteps.{some_ends_more, some_ends_found}
use Rattle.grammar.proofs.column.some_ends.Goals as goal

pub returns-then-row_ends : goal.returns-then-row_ends
returns-then-row_ends c =
    let within : c.loop-index.index < length (rows_of c.args.rows.now) = omega arith in
    sym (some_ends_found (rows_of c.args.rows.now) c.loop-index.index c.row.result.now within c.row.ensures (sym c.row_ends.ensures ∙ c.if-row_ends.true))

pub loop-index-preserved : goal.loop-index-preserved
loop-index-preserved c =
    let within : c.loop-index.index < length (rows_of c.args.rows.now) = omega arith in
    some_ends_more (rows_of c.args.rows.now) c.loop-index.index c.row.result.now within c.row.ensures c.loop-index.invariant (sym c.row_ends.ensures ∙ c.if-row_ends.false)
