use Rattle.std.specs.Prelude.{ℕ, ◌^◌, ◌<◌}
use Rattle.row_core.specs.Vectors.{cell}
use Rattle.row_core.specs.Sizes.{IsWithin, AreBelow}
use Rattle.row_core.proofs.sizes.bits.Given as goal

abbrev pub invariant-loop-j : goal.invariant-loop-j
invariant-loop-j l = record {
  within : (k : ℕ) → k < l.j → IsWithin l.sizes (cell l.row k);
  below : (n : ℕ) → AreBelow (2 ^ n) l.row → l.sizes < 2 ^ n;
}
