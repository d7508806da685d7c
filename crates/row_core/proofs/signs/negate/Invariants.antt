use Rattle.std.proofs.Common.{◌≡◌, ℕ, ◌<◌, ◌≤◌}
use Rattle.std.proofs.Math.IntN.{neg_ℤ}
use Rattle.row_core.specs.Vectors.{cell}
use Rattle.row_core.specs.Range.{AllInRange}
use Rattle.row_core.proofs.signs.negate.Given as goal

abbrev pub invariant-loop-cell : goal.invariant-loop-cell
invariant-loop-cell l = record {
  in_range : AllInRange l.row;
  done : (j : ℕ) → j < l.cell-index → cell l.row j ≡ neg_ℤ (cell l.initial.row j);
  left : (j : ℕ) → l.cell-index ≤ j → cell l.row j ≡ cell l.initial.row j;
}
