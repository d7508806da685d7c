use Rattle.std.proofs.Common.{ℕ, List, subst}
use Rattle.term_text.specs.Systems.{IsCons, IsConsFault}
use Rattle.line_values.proofs.TextFaults.{constraints_strict, constraints_said, constraints_refused}
use Rattle.line_values.proofs.texts.constraints_of.Goals as goal

pub returns-in-Ok : goal.returns-in-Ok
returns-in-Ok c =
    let read = subst (λ (w : List ℕ). IsCons c.args.dim w c.in-Ok.field-0) c.bytes.ensures c.in-Ok.ensures in
    constraints_strict c.args.topology c.args.dim c.args.part.now c.in-Ok.field-0 c.one_answer.ensures.cons read c.if-strict.ensures

pub returns-in-Ok-2 : goal.returns-in-Ok-2
returns-in-Ok-2 c =
    let read = subst (λ (w : List ℕ). IsCons c.args.dim w c.in-Ok.field-0) c.bytes.ensures c.in-Ok.ensures in
    constraints_said c.args.topology c.args.dim c.args.part.now c.in-Ok.field-0 c.one_answer.ensures.cons read c.requires.told c.if-strict.ensures

pub returns-in-Err : goal.returns-in-Err
returns-in-Err c =
    let fault = subst (λ (w : List ℕ). IsConsFault c.args.dim w c.in-Err.cause) c.bytes.ensures c.in-Err.ensures in
    rw c.from.ensures (constraints_refused c.args.topology c.args.dim c.args.part.now c.in-Err.cause c.one_answer.ensures.cons fault)
