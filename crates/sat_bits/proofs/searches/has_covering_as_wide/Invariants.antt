use Rattle.std.proofs.Common.{ℕ, ◌<◌}
use Rattle.sat_bits.specs.Searches.{IsCoveringRow}
use Rattle.sat_bits.proofs.searches.has_covering_as_wide.Given as goal

abbrev pub invariant-loop-q : goal.invariant-loop-q
invariant-loop-q l = (q : ℕ) → q < l.q → ¬ (IsCoveringRow l.cells l.width l.i l.among q)
