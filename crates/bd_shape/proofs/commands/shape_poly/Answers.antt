use Rattle.std.proofs.Common.{Option, Some, Err, ap, subst, sym, ◌≡◌}
use Rattle.std.specs.Option.{option_copied}
use Rattle.poly_pair.proofs.WorkLemmas.{refused_overflow}
use Rattle.bd_shape.specs.Shapes.{DifferenceShape}
use Rattle.line_values.specs.declared.refusal.StepErr.{StepErr}
use Rattle.line_values.specs.Refusals.{refusal_of_conversion}
use Rattle.line_values.specs.Meaning.{on_one}
use Rattle.line_values.specs.Performed.{IsPerformed}
use Rattle.line_values.proofs.PerformedLemmas.{room_passes, leaves}
use Rattle.bd_shape.specs.Commands.{shape_poly}
use Rattle.bd_shape.proofs.commands.shape_poly.Goals as goal

pub returns-in-Ok : goal.returns-in-Ok
returns-in-Ok g c = rw c.in-Some.is (room_passes c.args.full c.if-full.false, record { topology = c.in-Ok.ensures.topology; dim = c.in-Ok.ensures.dim; points = c.in-Ok.ensures.points })

pub returns-in-Err : goal.returns-in-Err
returns-in-Err g c =
    let found : option_copied c.args.s ≡ Some c.in-Some.s.now = ap option_copied c.in-Some.is in
    let fits = room_passes c.args.full c.if-full.false in
    subst (λ (e : StepErr). IsPerformed (on_one (option_copied c.args.s) (shape_poly c.args.full)) (Err e)) (sym c.from.ensures)
    (subst (λ (o : Option DifferenceShape). IsPerformed (on_one o (shape_poly c.args.full)) (Err (refusal_of_conversion c.in-Err.cause))) (sym found)
    (leaves (shape_poly c.args.full c.in-Some.s.now) c.in-Err.cause fits (refused_overflow _ _ _ c.in-Err.cause c.in-Err.ensures.conversion)))
