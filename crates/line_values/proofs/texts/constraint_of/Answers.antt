use Rattle.std.proofs.Common.{ℕ, List, subst}
use Rattle.term_text.specs.Systems.{IsCon, IsConFault}
use Rattle.line_values.proofs.TextFaults.{constraint_said, constraint_refused}
use Rattle.line_values.proofs.texts.constraint_of.Goals as goal

pub returns-in-Ok : goal.returns-in-Ok
returns-in-Ok c =
    let read = subst (λ (w : List ℕ). IsCon c.args.dim w c.in-Ok.con.row c.in-Ok.con.kind) c.bytes.ensures c.in-Ok.ensures in
    constraint_said c.args.dim c.args.part.now c.in-Ok.con.row c.in-Ok.con.kind c.one_answer.ensures.con read

pub returns-in-Err : goal.returns-in-Err
returns-in-Err c =
    let fault = subst (λ (w : List ℕ). IsConFault c.args.dim w c.in-Err.cause) c.bytes.ensures c.in-Err.ensures in
    rw c.from.ensures (constraint_refused c.args.dim c.args.part.now c.in-Err.cause c.one_answer.ensures.con fault)
