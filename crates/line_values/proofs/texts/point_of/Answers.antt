use Rattle.std.proofs.Common.{ℕ, List, subst}
use Rattle.term_text.specs.Texts.{IsPoint, IsPointFault}
use Rattle.line_values.proofs.TextFaults.{point_said, point_refused}
use Rattle.line_values.proofs.texts.point_of.Goals as goal

pub returns-in-Ok : goal.returns-in-Ok
returns-in-Ok c =
    let read = subst (λ (w : List ℕ). IsPoint c.args.dim w c.in-Ok.point) c.bytes.ensures c.in-Ok.ensures in
    point_said c.args.dim c.args.part.now c.in-Ok.point c.one_answer.ensures.point read

pub returns-in-Err : goal.returns-in-Err
returns-in-Err c =
    let fault = subst (λ (w : List ℕ). IsPointFault c.args.dim w c.in-Err.cause) c.bytes.ensures c.in-Err.ensures in
    rw c.from.ensures (point_refused c.args.dim c.args.part.now c.in-Err.cause c.one_answer.ensures.point fault)
