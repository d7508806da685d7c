use Rattle.std.proofs.Common.{ℕ, ◌<◌}
use Rattle.loop_bounds.specs.Reading.{HasPart, assignment_word}
use Rattle.loop_bounds.proofs.reading.read_assignment.Given as goal

abbrev pub invariant-loop-variable : goal.invariant-loop-variable
invariant-loop-variable l = (j : ℕ) → j < l.variable → ¬ (HasPart (assignment_word j) l.line)
