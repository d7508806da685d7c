use Rattle.std.proofs.Common.{ℕ, ◌<◌}
use Rattle.sat_bits.specs.Searches.{IsThirdRow}
use Rattle.sat_bits.proofs.searches.has_third_as_wide.Given as goal

abbrev pub invariant-loop-k : goal.invariant-loop-k
invariant-loop-k l = (k : ℕ) → k < l.k → ¬ (IsThirdRow l.cells l.width l.rows l.i l.j k)
