use Rattle.std.proofs.Common.{◌≡◌, length}
use Rattle.worked_cases.proofs.large_steps.last_entries.Given as goal

abbrev pub invariant-loop-ray : goal.invariant-loop-ray
invariant-loop-ray l = length l.values.items ≡ l.ray
