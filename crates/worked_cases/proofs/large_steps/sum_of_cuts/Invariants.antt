use Rattle.std.proofs.Common.{◌≡◌, length}
use Rattle.row_core.specs.Range.{AllInRange}
use Rattle.worked_cases.proofs.large_steps.sum_of_cuts.Given as goal

abbrev pub invariant-loop-index : goal.invariant-loop-index
invariant-loop-index l = (length l.row.items ≡ l.index) × AllInRange l.row.items
