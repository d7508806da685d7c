use Rattle.std.proofs.Common.{◌≤◌, arith}
use Rattle.poly_pair.specs.declared.topology.Topology.TheVariants.{Closed}
use Rattle.poly_pair.specs.declared.topology.TheConstants.{MAX_DIM}
use Rattle.line_values.specs.Texts.{ReadsConstraints}
use Rattle.line_values.proofs.PerformedLemmas.{not_full}
use Rattle.bd_shape.proofs.CommandLemmas.{bounds_full, bounds_made, none_other_made, bounds_not_made}
use Rattle.bd_shape.proofs.commands.bounds.Goals as goal

pub returns-in-Ok-shape_from : goal.returns-in-Ok-shape_from
returns-in-Ok-shape_from c =
    let small : c.args.n ≤ MAX_DIM = omega (arith, c.if-n.false) in
    let read : ReadsConstraints Closed c.args.n c.args.part.now c.in-Ok.system = c.in-Ok.ensures in
    let lacks = none_other_made c.in-Ok.system c.in-Ok-shape_from.field-0 c.in-Ok-shape_from.ensures.not_difference in
    bounds_full c.args.full c.args.n c.args.part.now small c.in-Ok.system read c.one_answer.ensures.cons lacks c.if-full.true

pub returns-in-Ok-2 : goal.returns-in-Ok-2
returns-in-Ok-2 c =
    let small : c.args.n ≤ MAX_DIM = omega (arith, c.if-n.false) in
    let read : ReadsConstraints Closed c.args.n c.args.part.now c.in-Ok.system = c.in-Ok.ensures in
    let lacks = none_other_made c.in-Ok.system c.in-Ok-shape_from.field-0 c.in-Ok-shape_from.ensures.not_difference in
    bounds_made c.args.full c.args.n c.args.part.now small c.in-Ok.system read c.in-Ok-shape_from.field-0 c.one_answer.ensures.cons lacks (not_full c.args.full c.if-full.false) (record { dim = c.in-Ok-shape_from.ensures.dim; points = c.in-Ok-shape_from.ensures.points })

pub returns : goal.returns
returns c =
    let small : c.args.n ≤ MAX_DIM = omega (arith, c.if-n.false) in
    let read : ReadsConstraints Closed c.args.n c.args.part.now c.in-Ok.system = c.in-Ok.ensures in
    rw c.refusal_of_shape.ensures (bounds_not_made c.in-Err-shape_from.cause c.args.full c.args.n c.args.part.now small c.in-Ok.system read c.one_answer.ensures.cons c.in-Err-shape_from.ensures.not_difference c.in-Err-shape_from.ensures.refusal)
