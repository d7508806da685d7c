use Rattle.std.proofs.Common.{ℕ, ◌<◌}
use Rattle.sat_bits.specs.Places.{IsThirdWord}
use Rattle.sat_bits.proofs.kernels.some_other_covers.Given as goal

abbrev pub invariant-loop-k : goal.invariant-loop-k
invariant-loop-k l = (k : ℕ) → k < l.k → ¬ (IsThirdWord l.words l.i l.j k)
