use Rattle.std.proofs.Common.{ℕ, ◌<◌, List, subst, arith}
use Rattle.term_text.specs.Texts.{IsFrac, IsFracFault}
use Rattle.poly_pair.specs.declared.topology.Topology.{Topology}
use Rattle.line_values.specs.Texts.{IsStrictFor}
use Rattle.line_values.proofs.FractionTexts.{fraction_strict, fraction_said, fraction_refused}
use Rattle.line_values.proofs.texts.fraction_of.Goals as goal

pub returns-in-Ok : goal.returns-in-Ok
returns-in-Ok c =
    let below : c.args.v < c.args.p.now.cons.dim = omega (arith, c.dim-dim.ensures.value, c.if-v-dim.false) in
    let at = subst (λ (d : ℕ). IsFrac d c.bytes.result.now c.in-Ok.field-0.expr c.in-Ok.field-0.den) c.dim-dim.ensures.value c.in-Ok.ensures in
    let read = subst (λ (w : List ℕ). IsFrac c.args.p.now.cons.dim w c.in-Ok.field-0.expr c.in-Ok.field-0.den) c.bytes.ensures at in
    fraction_strict c.args.p.now.topology c.args.p.now.cons.dim c.args.v c.args.rel c.args.part.now c.in-Ok.field-0.expr c.in-Ok.field-0.den c.one_answer.ensures.frac below read (subst (λ (t : Topology). IsStrictFor t c.args.rel) c.topology.ensures.value c.if-strict.ensures)

pub returns-in-Ok-2 : goal.returns-in-Ok-2
returns-in-Ok-2 c =
    let below : c.args.v < c.args.p.now.cons.dim = omega (arith, c.dim-dim.ensures.value, c.if-v-dim.false) in
    let at = subst (λ (d : ℕ). IsFrac d c.bytes.result.now c.in-Ok.field-0.expr c.in-Ok.field-0.den) c.dim-dim.ensures.value c.in-Ok.ensures in
    let read = subst (λ (w : List ℕ). IsFrac c.args.p.now.cons.dim w c.in-Ok.field-0.expr c.in-Ok.field-0.den) c.bytes.ensures at in
    fraction_said c.args.p.now.topology c.args.p.now.cons.dim c.args.v c.args.rel c.args.part.now c.in-Ok.field-0.expr c.in-Ok.field-0.den c.one_answer.ensures.frac below read (subst (λ (t : Topology). ¬ (IsStrictFor t c.args.rel)) c.topology.ensures.value c.if-strict.ensures)

pub returns-in-Err : goal.returns-in-Err
returns-in-Err c =
    let below : c.args.v < c.args.p.now.cons.dim = omega (arith, c.dim-dim.ensures.value, c.if-v-dim.false) in
    let at = subst (λ (d : ℕ). IsFracFault d c.bytes.result.now c.in-Err.cause) c.dim-dim.ensures.value c.in-Err.ensures in
    let fault = subst (λ (w : List ℕ). IsFracFault c.args.p.now.cons.dim w c.in-Err.cause) c.bytes.ensures at in
    rw c.from.ensures (fraction_refused c.args.p.now.topology c.args.p.now.cons.dim c.args.v c.args.rel c.args.part.now c.in-Err.cause c.one_answer.ensures.frac below fault)
