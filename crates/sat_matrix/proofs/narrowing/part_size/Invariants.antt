use Rattle.std.proofs.Common.{◌<◌, ◌-◌}
use Rattle.sat_matrix.proofs.narrowing.part_size.Given as goal

abbrev pub invariant-loop-size : goal.invariant-loop-size
invariant-loop-size l = (0 < l.size) × (l.size < l.rays)

abbrev pub decreases-loop-size : goal.decreases-loop-size
decreases-loop-size l = l.rays - l.size
