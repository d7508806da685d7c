use Rattle.std.proofs.Common.{◌∙◌, List, ◌++◌, ℕ, inl, refl, sym, ap, subst, arith}
use Rattle.loop_bounds.specs.Reading.{HasPart}
use Rattle.loop_bounds.proofs.ReadingLemmas.{none_begins, assignment_read}
use Rattle.loop_bounds.proofs.reading.read_assignment.Goals as goal

pub returns-in-Ok : goal.returns-in-Ok
returns-in-Ok c =
    let line = c.in-Ok.ensures ∙ ap (λ (word : List ℕ). word ++ c.in-Ok.part.now) (c.bytes.ensures ∙ sym c.bytes-in-Ok.ensures) in
    assignment_read c.args.dim c.loop-variable.variable c.bytes-in-Ok.result.now c.args.line.now c.in-Ok.part.now (omega (arith, c.loop-variable-test.true)) (c.bytes-in-Ok.ensures ∙ c.in_ok-word.ensures) line c.assignment_of.result c.read_behind.result c.assignment_of.ensures c.read_behind.ensures

pub returns : goal.returns
returns c = inl ((λ j l. c.loop-variable.invariant j (omega (arith, l, c.loop-variable-test.false))), refl)

pub loop-variable-preserved : goal.loop-variable-preserved
loop-variable-preserved c = none_begins c.args.line.now c.loop-variable.variable c.loop-variable.invariant (subst (λ (word : List ℕ). ¬ (HasPart word c.args.line.now)) (c.bytes.ensures ∙ c.in_ok-word.ensures) c.in_default.ensures.0)
