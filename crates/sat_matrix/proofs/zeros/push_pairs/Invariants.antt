use Rattle.std.proofs.Common.{◌≤◌, ◌+◌, length, take}
use Rattle.sat_matrix.specs.TableSteps.{HasPairs}
use Rattle.sat_matrix.proofs.zeros.push_pairs.Given as goal

abbrev pub invariant-loop-above : goal.invariant-loop-above
invariant-loop-above l = record {
  spare : length l.pairs ≤ l.zeros.spare + l.above-index;
  pairs : HasPairs (take l.above-index l.pairs) l.fn.zeros l.zeros;
}
