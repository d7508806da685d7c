use Rattle.std.proofs.Common.{◌≡◌}
use Rattle.worked_cases.proofs.large_steps.push_cuts.Given as goal

abbrev pub invariant-loop-other : goal.invariant-loop-other
invariant-loop-other l = l.rows.width ≡ 15
