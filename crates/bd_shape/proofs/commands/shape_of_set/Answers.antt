use Rattle.std.proofs.Common.{rules, ◌≡◌, Option, Some, Err, sym, ap, subst}
use Rattle.std.specs.Option.{option_copied}
use Rattle.poly_pair.specs.Polyhedra.{Polyhedron}
use Rattle.line_values.specs.Order.{Passes}
use Rattle.line_values.specs.Meaning.{on_one}
use Rattle.bd_shape.specs.Commands.{shape}
use Rattle.line_values.specs.Performed.{IsPerformed}
use Rattle.line_values.proofs.PerformedLemmas.{leaves}
use Rattle.bd_shape.proofs.commands.shape_of_set.Goals as goal

pub returns-in-Err : goal.returns-in-Err
returns-in-Err c =
    let passes : Passes (shape c.args.full c.in-Some.p.now).conditions = search rules in
    let found : option_copied c.args.p ≡ Some c.in-Some.p.now = ap option_copied c.in-Some.is in
    subst (λ (o : Option Polyhedron). IsPerformed (on_one o (shape c.args.full)) (Err c.from.result)) (sym found)
    (rw c.from.ensures (leaves (shape c.args.full c.in-Some.p.now) c.in-Err.cause passes c.in-Err.ensures.overflow))

pub returns-in-Ok : goal.returns-in-Ok
returns-in-Ok c =
    let passes : Passes (shape c.args.full c.in-Some.p.now).conditions = search rules in
    rw c.in-Some.is (passes, record { dim = c.in-Ok.ensures.dim; empty = c.in-Ok.ensures.empty; suprema = c.in-Ok.ensures.suprema; smallest = c.in-Ok.ensures.smallest; found = c.in-Ok.ensures.found })
