use Rattle.std.proofs.Common.{ℕ, List, subst}
use Rattle.term_text.specs.Texts.{IsExpr, IsExprFault}
use Rattle.line_values.proofs.TextFaults.{expression_said, expression_refused}
use Rattle.line_values.proofs.texts.expression_of.Goals as goal

pub returns-in-Ok : goal.returns-in-Ok
returns-in-Ok c =
    let read = subst (λ (w : List ℕ). IsExpr c.args.dim w c.in-Ok.row) c.bytes.ensures c.in-Ok.ensures in
    expression_said c.args.dim c.args.part.now c.in-Ok.row c.one_answer.ensures.expr read

pub returns-in-Err : goal.returns-in-Err
returns-in-Err c =
    let fault = subst (λ (w : List ℕ). IsExprFault c.args.dim w c.in-Err.cause) c.bytes.ensures c.in-Err.ensures in
    rw c.from.ensures (expression_refused c.args.dim c.args.part.now c.in-Err.cause c.one_answer.ensures.expr fault)
