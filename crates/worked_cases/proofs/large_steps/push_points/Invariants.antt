use Rattle.std.proofs.Common.{◌≡◌}
use Rattle.worked_cases.proofs.large_steps.push_points.Given as goal

abbrev pub invariant-loop-point : goal.invariant-loop-point
invariant-loop-point l = l.rows.width ≡ 5
