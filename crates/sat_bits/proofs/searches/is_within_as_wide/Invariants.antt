use Rattle.std.proofs.Common.{ℕ, ◌<◌}
use Rattle.sat_bits.specs.Searches.{IsWithinNamed}
use Rattle.sat_bits.proofs.searches.is_within_as_wide.Given as goal

abbrev pub invariant-loop-q : goal.invariant-loop-q
invariant-loop-q l = (q : ℕ) → q < l.q → ¬ (IsWithinNamed l.cells l.width l.i l.among q)
