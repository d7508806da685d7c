use Rattle.std.proofs.Common.{ℕ, List, subst}
use Rattle.grammar.specs.Cases.{gens_cases}
use Rattle.expr_text.specs.GeneratorSystems.{IsGens, IsGensFault}
use Rattle.expr_text.specs.Refusals.{IsRefused}
use Rattle.line_values.proofs.TextFaults.{generators_strict, generators_said, generators_refused}
use Rattle.line_values.proofs.texts.generators_of.Goals as goal

pub returns-in-Ok : goal.returns-in-Ok
returns-in-Ok c =
    let read = subst (λ (w : List ℕ). IsGens c.args.dim w c.in-Ok.field-0) c.bytes.ensures c.in-Ok.ensures in
    generators_strict c.args.topology c.args.dim c.args.part.now c.in-Ok.field-0 c.one_answer.ensures.gens read c.if-strict.ensures

pub returns-in-Ok-2 : goal.returns-in-Ok-2
returns-in-Ok-2 c =
    let read = subst (λ (w : List ℕ). IsGens c.args.dim w c.in-Ok.field-0) c.bytes.ensures c.in-Ok.ensures in
    generators_said c.args.topology c.args.dim c.args.part.now c.in-Ok.field-0 c.one_answer.ensures.gens read c.requires.told c.if-strict.ensures

pub returns-in-Err : goal.returns-in-Err
returns-in-Err c =
    let fault = subst (λ (w : List ℕ). IsRefused gens_cases w (IsGensFault c.args.dim w) c.in-Err.cause) c.bytes.ensures c.in-Err.ensures in
    rw c.unread_refusal.ensures (generators_refused c.args.topology c.args.dim c.args.part.now c.in-Err.cause c.is_strict_in-strict.result c.is_strict_in-strict.ensures c.one_answer.ensures.gens c.requires.form fault)
