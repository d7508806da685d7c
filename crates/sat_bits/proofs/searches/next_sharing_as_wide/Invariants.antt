use Rattle.std.proofs.Common.{ℕ, ◌<◌, ◌≤◌}
use Rattle.sat_bits.specs.Searches.{SharesPlaces}
use Rattle.sat_bits.proofs.searches.next_sharing_as_wide.Given as goal

abbrev pub invariant-loop-q : goal.invariant-loop-q
invariant-loop-q l = (q : ℕ) → l.from ≤ q → q < l.q → ¬ (SharesPlaces l.cells l.width l.i l.among l.least q)
