use Rattle.std.proofs.Common.{◌≡◌}
use Rattle.worked_cases.proofs.large_steps.check_curve.Given as goal

abbrev pub invariant-loop-times : goal.invariant-loop-times
invariant-loop-times g l = l.rows.width ≡ 5
