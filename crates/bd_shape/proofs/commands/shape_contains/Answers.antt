use Rattle.std.proofs.Common.{◌≡◌, ℕ, List, rules, Err, ap}
use Rattle.std.specs.Option.{option_copied}
use Rattle.line_values.specs.Order.{Passes}
use Rattle.line_values.specs.Meaning.{no_fault, answer_line}
use Rattle.bd_shape.specs.Commands.{of_one_dim, shape_contains}
use Rattle.bd_shape.proofs.CommandLemmas.{contains_told}
use Rattle.line_values.proofs.PerformedLemmas.{leaves, found_two, answered}
use Rattle.bd_shape.proofs.commands.shape_contains.Goals as goal

pub returns-in-Ok : goal.returns-in-Ok
returns-in-Ok c =
    let passes : Passes (of_one_dim c.in-Some.s.now c.in-Some-t.t.now no_fault) = search rules in
    rw c.in-Some.is (rw c.in-Some-t.is (answered (shape_contains c.in-Some.s.now c.in-Some-t.t.now) (λ (text : List ℕ). text ≡ answer_line c.in-Ok.holds) c.answer.result (λ text said. contains_told c.in-Some.s.now c.in-Some-t.t.now c.in-Ok.holds text passes c.in-Ok.ensures.contains said) c.answer.ensures))

pub returns-in-Err : goal.returns-in-Err
returns-in-Err c =
    let passes : Passes (of_one_dim c.in-Some.s.now c.in-Some-t.t.now no_fault) = search rules in
    found_two (option_copied c.args.s) (option_copied c.args.t) c.in-Some.s.now c.in-Some-t.t.now shape_contains (Err c.from.result) (ap option_copied c.in-Some.is) (ap option_copied c.in-Some-t.is)
    (rw c.from.ensures (leaves (shape_contains c.in-Some.s.now c.in-Some-t.t.now) c.in-Err.cause passes c.in-Err.ensures.overflow))
