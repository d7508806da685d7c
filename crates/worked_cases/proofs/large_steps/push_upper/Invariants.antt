use Rattle.std.proofs.Common.{◌≡◌}
use Rattle.worked_cases.proofs.large_steps.push_upper.Given as goal

abbrev pub invariant-loop-index : goal.invariant-loop-index
invariant-loop-index l = l.rows.width ≡ 3
