use Rattle.std.proofs.Common.{◌≡◌, rules, Ok, ap}
use Rattle.std.specs.Option.{option_copied}
use Rattle.bd_shape.specs.Shapes.{DifferenceShape}
use Rattle.line_values.proofs.PerformedLemmas.{found_two, not_full}
use Rattle.bd_shape.specs.Commands.{of_two_shapes}
use Rattle.bd_shape.proofs.CommandLemmas.{shapes_pass}
use Rattle.bd_shape.proofs.commands.of_two_shapes.Goals as goal

pub returns-in-Ok : goal.returns-in-Ok
returns-in-Ok c =
    let s : DifferenceShape = c.in-Some.s.now in
    let t : DifferenceShape = c.in-Some-t.t.now in
    let dims : s.dim ≡ t.dim = search rules in
    found_two (option_copied c.args.s) (option_copied c.args.t) s t (of_two_shapes c.args.op c.args.full) (Ok c.in-Ok.made) (ap option_copied c.in-Some.is) (ap option_copied c.in-Some-t.is)
    (shapes_pass s t c.args.full dims (not_full c.args.full c.if-full.false), record { dim = c.in-Ok.ensures.dim; set = c.in-Ok.ensures.set })
