use Rattle.std.proofs.Common.{◌≡◌}
use Rattle.worked_cases.proofs.large_steps.check_cuts.Given as goal

abbrev pub invariant-loop-cut : goal.invariant-loop-cut
invariant-loop-cut g l = l.rows.width ≡ 15
