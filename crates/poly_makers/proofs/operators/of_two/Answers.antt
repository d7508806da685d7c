use Rattle.std.proofs.Common.{rules}
use Rattle.poly_makers.specs.Operators.{Fits}
use Rattle.poly_makers.proofs.OperatorLemmas.{operands_pass}
use Rattle.std.specs.Prelude.{IfOk, IfErr, Result}
use Rattle.row_core.specs.declared.errors.ConvErr.{ConvErr}
use Rattle.row_core.specs.Refusals.{IsOverflowIn}
use Rattle.poly_pair.specs.Polyhedra.{Polyhedron}
use Rattle.line_values.specs.Refusals.{refusal_of_conversion}
use Rattle.line_values.proofs.PerformedLemmas.{leaves}
use Rattle.poly_makers.specs.Operators.{operated, IsSetBy, IsStoredBy, LeavesBy}
use Rattle.poly_makers.proofs.MakerLemmas.{turned}
use Rattle.poly_makers.proofs.operators.of_two.Goals as goal

pub returns-in-Some : goal.returns-in-Some
returns-in-Some g c = c.in-Some.ensures c.args.full

pub returns : goal.returns
returns g c =
    let op = c.args.op in
    let p = c.args.p.now in
    let q = c.args.q.now in
    let fits : Fits op p q = search rules in
    let passes = operands_pass op p q c.args.full fits c.if-full.false in
    turned (operated op c.args.full p q) refusal_of_conversion
    (λ (r : Result Polyhedron ConvErr). IfOk r (IsSetBy op p q) × (IfOk r (IsStoredBy op p q) × IfErr r (IsOverflowIn (LeavesBy op p q))))
    c.operate.result c.map_err.result c.map_err.ensures.cases (c.operate.ensures.points, (c.operate.ensures.stored, c.operate.ensures.overflow))
    (λ made is. (passes, record { set = is.0; stored = is.1.0 }))
    (λ cause is. leaves (operated op c.args.full p q) cause passes is.1.1)
